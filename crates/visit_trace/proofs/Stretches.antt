-- Runs of chunks, and the visits that they stand for.
use Rattle.std.proofs.Common.{◌≡◌, ◌∙◌, refl, sym, ap, ℕ, ◌+◌, ◌-◌, ◌<◌, List, [], ◌∷◌, ◌++◌, get_or, arith, append-nil}
use Rattle.std.proofs.lemmas.Grind.{flat_map-append}
use Rattle.std.proofs.lemmas.List.{append_cancel_left}
use Rattle.list_facts.specs.Listed.{listed}
use Rattle.list_facts.proofs.Listed.{listed-append, listed_same}
use Rattle.scan_chunks.specs.declared.visit.Visit.{Visit}
use Rattle.visit_trace.specs.Runs.{run_visits, visits_of}
use Rattle.visit_trace.specs.declared.run.Run.{Run}

-- chunks of a column
abbrev visit_at : ℕ → ℕ → Visit
visit_at column chunk = record { column = column; chunk = chunk }

abbrev stretch : ℕ → ℕ → ℕ → List Visit
stretch column first n = listed n (λ k. visit_at column (first + k))

stretch_then : (c a m n : ℕ) → stretch c a m ++ stretch c (a + m) n ≡ stretch c a (m + n)
stretch_then c a m n =
    ap (λ (l : List Visit). stretch c a m ++ l)
    (listed_same n (λ k. visit_at c (a + m + k)) (λ k. visit_at c (a + (m + k))) (λ i h. let e : a + m + i ≡ a + (m + i) = omega arith in ap (visit_at c) e))
    ∙ sym (listed-append m n (λ k. visit_at c (a + k)))

stretch_one : (c a n : ℕ) → n ≡ 1 → stretch c a n ≡ visit_at c a ∷ []
stretch_one c a n e =
    ap (λ (k : ℕ). stretch c a k) e ∙ (let z : a + 0 ≡ a = omega arith in ap (λ (k : ℕ). visit_at c k ∷ []) z)

-- a run of one visit
pub one_visit : (r : Run) → r.first ≡ r.last → run_visits r ≡ visit_at r.column r.first ∷ []
one_visit r e = stretch_one r.column r.first (r.last - r.first + 1) (omega (arith, e))

-- a run and one that goes on where it ends
pub joined : (run next : Run) → next.column ≡ run.column → next.first ≡ run.last + 1
    → stretch run.column run.first (next.last - run.first + 1) ≡ run_visits run ++ run_visits next
joined run next d g =
    let m = run.last - run.first + 1 in
    let n = next.last - next.first + 1 in
    let long : next.last - run.first + 1 ≡ m + n = omega (arith, g, run.rising, next.rising) in
    let at : next.first ≡ run.first + m = omega (arith, g, run.rising) in
    let behind : stretch run.column (run.first + m) n ≡ run_visits next
    = ap (λ (x : ℕ). stretch run.column x n) (sym at) ∙ ap (λ (x : ℕ). stretch x next.first n) (sym d) in
    ap (λ (k : ℕ). stretch run.column run.first k) long ∙ sym (stretch_then run.column run.first m n)
    ∙ ap (λ (v : List Visit). run_visits run ++ v) behind

-- the first visit of a run and the others
pub without_first : (run : Run) → run.first < run.last
    → run_visits run ≡ visit_at run.column run.first ∷ stretch run.column (run.first + 1) (run.last - (run.first + 1) + 1)
without_first run more =
    let n = run.last - (run.first + 1) + 1 in
    let long : run.last - run.first + 1 ≡ 1 + n = omega (arith, more) in
    ap (λ (k : ℕ). stretch run.column run.first k) long ∙ sym (stretch_then run.column run.first 1 n)
    ∙ ap (λ (v : List Visit). v ++ stretch run.column (run.first + 1) n) (stretch_one run.column run.first 1 refl)

-- all chunks from the first one on
pub from_zero : (column n : ℕ) → 0 < n → stretch column 0 (n - 1 - 0 + 1) ≡ listed n (λ k. visit_at column k)
from_zero column n some =
    let long : n - 1 - 0 + 1 ≡ n = omega (arith, some) in
    ap (λ (k : ℕ). stretch column 0 k) long
    ∙ listed_same n (λ k. visit_at column (0 + k)) (λ k. visit_at column k) (λ i h. let same : 0 + i ≡ i = omega arith in ap (visit_at column) same)

-- runs
pub visits_push : (runs : List Run) (r : Run) → visits_of (runs ++ r ∷ []) ≡ visits_of runs ++ run_visits r
visits_push runs r = flat_map-append run_visits runs (r ∷ []) ∙ ap (λ (v : List Visit). visits_of runs ++ v) (append-nil (run_visits r))

pub visits_join : (runs more : List Run) → visits_of (runs ++ more) ≡ visits_of runs ++ visits_of more
visits_join runs more = flat_map-append run_visits runs more

-- lists that go on with different visits behind the same ones
pub same_next : (a b seen more others r s : List Visit) (x y : Visit) → a ≡ seen ++ more → b ≡ seen ++ others → more ≡ x ∷ r → others ≡ y ∷ s
    → a ≡ b
    → x ≡ y
same_next a b seen more others r s x y ea eb em eo same =
    ap (λ (l : List Visit). get_or l 0 x)
    (append_cancel_left seen (x ∷ r) (y ∷ s) (ap (λ (l : List Visit). seen ++ l) (sym em) ∙ sym ea ∙ same ∙ eb ∙ ap (λ (l : List Visit). seen ++ l) eo))
