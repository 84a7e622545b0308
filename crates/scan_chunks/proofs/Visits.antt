-- Visits, one by one.
use Rattle.std.proofs.Common.{◌≡◌, ◌∙◌, sym, ap, ℕ, ◌+◌, ◌≤◌, List, [], ◌∷◌, ◌++◌, take, map, arith, append_assoc}
use Rattle.std.specs.List.{range_with_len}
use Rattle.std.specs.Prelude.{Result, Ok, Err, OnErr}
use Rattle.std.proofs.lemmas.List.FromFn.{map-range_with_len_more, take-map-range_with_len}
use Rattle.scan_chunks.specs.Pieces.{chunks_of}
use Rattle.scan_chunks.specs.Shelf.{Held}
use Rattle.scan_chunks.specs.Scan.{visits_of, VisitsPart}
use Rattle.scan_chunks.specs.declared.visit.Visit.{Visit}

abbrev pub visit_at : Held → ℕ → ℕ → Visit
visit_at h column c = record { column = column; chunk = h.start + c }

-- the first visits
abbrev pub visits_to : Held → ℕ → ℕ → List Visit
visits_to h column n = map (visit_at h column) (range_with_len 0 n)

pub visits_more : (h : Held) (column n : ℕ) → visits_to h column (n + 1) ≡ visits_to h column n ++ visit_at h column n ∷ []
visits_more h column n = map-range_with_len_more (visit_at h column) 0 n n (omega arith)

pub visits_part : (h : Held) (column n : ℕ) → n ≤ chunks_of h.rows → visits_to h column n ≡ take n (visits_of h column)
visits_part h column n le = sym (take-map-range_with_len (visit_at h column) 0 (chunks_of h.rows) n le)

on_err_of : {T E P : Type 0} (r : Result T E) → P → OnErr r P
on_err_of (Ok x) p = tt
on_err_of (Err e) p = p

-- out of memory after the first visits
pub stopped : {T E : Type 0} (r : Result T E) (h : Held) (column n : ℕ) (old new : List Visit) → n ≤ chunks_of h.rows
    → new ≡ old ++ visits_to h column n → OnErr r (VisitsPart old new (visits_of h column))
stopped r h column n old new le e = on_err_of r (n, e ∙ ap (λ (vs : List Visit). old ++ vs) (visits_part h column n le))

-- one visit more
pub visited_more : (h : Held) (column n : ℕ) (old so_far new : List Visit) → so_far ≡ old ++ visits_to h column n
    → new ≡ so_far ++ visit_at h column n ∷ [] → new ≡ old ++ visits_to h column (n + 1)
visited_more h column n old so_far new e f =
    f ∙ ap (λ (vs : List Visit). vs ++ visit_at h column n ∷ []) e ∙ append_assoc old (visits_to h column n) (visit_at h column n ∷ [])
    ∙ ap (λ (vs : List Visit). old ++ vs) (sym (visits_more h column n))
