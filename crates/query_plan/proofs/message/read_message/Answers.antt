use Rattle.std.proofs.Common.{◌≡◌, ℕ, ◌+◌, ◌-◌, List, length, take, drop, ap, ◌∙◌, arith, length-drop}
use Rattle.std.proofs.lemmas.List.{take_all}
use Rattle.prg_chacha.specs.declared.seed.Seed.{Seed}
use Rattle.query_plan.specs.declared.key.KeyPair.{KeyPair}
use Rattle.query_plan.specs.KeyMessages.{KeysRead, pairs_read, parts_of}
use Rattle.query_plan.proofs.Parts.{all_there}
use Rattle.query_plan.proofs.message.read_message.Goals as goal

same_keys : (own next own' next' : Seed) (run0 run1 run0' run1' : List KeyPair) → own ≡ own' → next ≡ next' → run0 ≡ run0' → run1 ≡ run1'
    → ◌≡◌ {A = KeysRead} (record { own = own; next = next; run0 = run0; run1 = run1 }) (record { own = own'; next = next'; run0 = run0'; run1 = run1' })
same_keys own next own' next' run0 run1 run0' run1' a b c d = cc

-- a slice to the end
to_end : (ws : List ℕ) (n : ℕ) → take (length ws - n) (drop n ws) ≡ drop n ws
to_end ws n = take_all (length ws - n) (drop n ws) (omega (arith, length-drop n ws))

pub run_length-run-requires-clause-there : goal.run_length-run-requires-clause-there
run_length-run-requires-clause-there c = all_there c.args.widths.now.columns c.args.shape.now c.requires.there

pub read_run-requires-clause-there : goal.read_run-requires-clause-there
read_run-requires-clause-there c = all_there c.args.widths.now.columns c.args.shape.now c.requires.there

pub read_run-requires-2-clause-there : goal.read_run-requires-2-clause-there
read_run-requires-2-clause-there c = all_there c.args.widths.now.columns c.args.shape.now c.requires.there

pub returns-clause-keys : goal.returns-clause-keys
returns-clause-keys c =
    let ws = c.args.words.now in
    let bits = c.args.widths.now.bits in
    let parts = parts_of c.args.shape.now in
    let run = c.run_length-run in
    c.new.ensures
    ∙ same_keys _ _ _ _ _ _ _ _
    c.from_halves-own.ensures.seed
    c.from_halves-next.ensures.seed
    (c.in_ok-run0.ensures.pairs ∙ ap (pairs_read bits parts) (to_end ws 4))
    (c.in_ok-run1.ensures.pairs ∙ ap (pairs_read bits parts) (to_end ws (4 + run.result))
    ∙ ap (λ (n : ℕ). pairs_read bits parts (drop (4 + n) ws)) run.ensures.length)
