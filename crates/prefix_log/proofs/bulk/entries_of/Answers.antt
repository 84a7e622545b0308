use Rattle.std.proofs.Common.{◌≡◌, ◌∙◌, ap, ℕ, ◌-◌, ◌*◌, List, length, take, drop, min, arith}
use Rattle.std.proofs.lemmas.List.{length-drop, take_min}
use Rattle.prefix_log.specs.declared.bulk.Entry.{Entry}
use Rattle.prefix_log.proofs.bulk.entries_of.Goals as goal

pub returns-clause-value : goal.returns-clause-value
returns-clause-value c =
    let rest : List Entry = drop (64 * c.args.chunk) c.args.entries.now in
    let count : c.min.result - 64 * c.args.chunk ≡ min 64 (length rest) = omega (arith, c.min.ensures, length-drop (64 * c.args.chunk) c.args.entries.now) in
    ap (λ (n : ℕ). take n rest) count ∙ take_min 64 rest
