-- The tables of the upper key and of the lower one.
use Rattle.std.proofs.Common.{◌≡◌, ℕ, ◌<◌, List, ◌++◌, length, get_or, take, drop, ap, ◌∙◌, arith}
use Rattle.std.proofs.lemmas.List.{append-nil, take_all, drop_all}
use Rattle.list_facts.specs.Listed.{listed}
use Rattle.list_facts.proofs.Listed.{length-listed, get_or-listed, listed_same}
use Rattle.ring128.specs.Ring.{minus}

-- one table minus another, place by place
pub listed_minus : (n : ℕ) (f g : ℕ → ℕ) (xs ys : List ℕ) → xs ≡ listed n f → ys ≡ listed n g
    → listed (length xs) (λ i. minus (get_or xs i 0) (get_or ys i 0)) ≡ listed n (λ i. minus (f i) (g i))
listed_minus n f g xs ys e h =
    ap (λ m. listed m (λ i. minus (get_or xs i 0) (get_or ys i 0))) (ap length e ∙ length-listed n f)
    ∙ listed_same n _ _
    (λ i b.
    ap (λ v. minus v (get_or ys i 0)) (ap (λ zs. get_or zs i 0) e ∙ get_or-listed n i f 0 b)
    ∙ ap (minus (f i)) (ap (λ zs. get_or zs i 0) h ∙ get_or-listed n i g 0 b))

-- a list written over a whole vector of its length
pub written_over : (len : ℕ) (new old : List ℕ) → length new ≡ length old → length old ≡ len → take len (new ++ drop (length new) old) ≡ new
written_over len new old e h =
    ap (λ xs. take len (new ++ xs)) (drop_all (length new) old (omega arith)) ∙ ap (take len) (append-nil new) ∙ take_all len new (omega arith)
