-- What a server sends rests on what it holds after earlier steps.
use Rattle.std.proofs.Common.{◌≡◌, ◌∙◌, ap, ℕ, List, ◌+◌, ◌*◌, ◌-◌, ◌<◌, ◌≤◌, arith}
use Rattle.scan_chunks.specs.Pieces.{Pieces}
use Rattle.query_plan.specs.Views.{View}
use Rattle.transcript.specs.Setup.{Sizes, Ending, count_of}
use Rattle.transcript.specs.Steps.{Step, bits, product, further, opening, step_before, IsStep, group_of, chain_step}
use Rattle.transcript.specs.Formulas.{Seat, words_of}
use Rattle.transcript.proofs.Places.{IsStep-chain, group-chain, IsStep-before, group-before}

-- two seats are the same up to a group
pub record SameUpTo (count more group : ℕ) (a b : Seat) : Type 0 where
  pub view : a.view ≡ b.view
  pub pieces : a.pieces ≡ b.pieces
  pub first : (t : Step) → IsStep count more t → group_of count more t < group → a.first t ≡ b.first t
  pub second : (t : Step) → IsStep count more t → group_of count more t < group → a.second t ≡ b.second t

-- words at the end of a run, from what is the same
pub same_end : (f : View → Pieces → List ℕ → List ℕ → List ℕ) (v w : View) (p q : Pieces) (x y x' y' : List ℕ) → v ≡ w → p ≡ q → x ≡ y → x' ≡ y'
    → f v p x x' ≡ f w q y y'
same_end f v w p q x y x' y' d e g h =
    ap (λ (u : View). f u p x x') d ∙ ap (λ (u : Pieces). f w u x x') e ∙ ap (λ (u : List ℕ). f w q u x') g ∙ ap (λ (u : List ℕ). f w q y u) h

pub words_same : (z : Sizes) (ending : Ending) (run : ℕ) (a b : Seat) (step : Step) → IsStep (count_of z) ending.further step
    → SameUpTo (count_of z) ending.further (group_of (count_of z) ending.further step) a b → words_of z ending run a step ≡ words_of z ending run b step
words_same z ending run a b (bits j) h e = rw (e.view, e.pieces)
words_same z ending run a b (product j) h e =
    let count = count_of z in
    let more = ending.further in
    let chain = chain_step (j - 1) in
    let is_chain : IsStep count more chain = IsStep-chain count more (j - 1) (omega (arith, h.1)) in
    let early : group_of count more chain < 2 * j = omega (arith, group-chain count more (j - 1), h.0) in
    let bits_early : group_of count more (bits j) < 2 * j = omega (arith, h.0) in
    rw (e.view, e.first chain is_chain early, e.second chain is_chain early, e.first (bits j) h.1 bits_early, e.second (bits j) h.1 bits_early)
words_same z ending run a b (further i) h e =
    let count = count_of z in
    let more = ending.further in
    let held = step_before count i in
    let is_held : IsStep count more held = IsStep-before count more i h.0 (omega (arith, h.1)) in
    let early : group_of count more held < 2 * count - 1 + i = omega (arith, group-before count more i h.0) in
    same_end (ending.words run i) _ _ _ _ _ _ _ _ e.view e.pieces (e.first held is_held early) (e.second held is_held early)
words_same z ending run a b opening h e =
    let count = count_of z in
    let more = ending.further in
    let held = step_before count more in
    let is_held : IsStep count more held = IsStep-before count more more h (omega arith) in
    let early : group_of count more held < 2 * count - 1 + more = omega (arith, group-before count more more h) in
    same_end (ending.last run) _ _ _ _ _ _ _ _ e.view e.pieces (e.first held is_held early) (e.second held is_held early)
