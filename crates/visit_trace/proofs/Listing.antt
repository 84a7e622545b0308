-- Lists that are made place by place behind others.
use Rattle.std.proofs.Common.{◌≡◌, ◌∙◌, ap, sym, ℕ, ◌+◌, List, [], ◌∷◌, ◌++◌, append_assoc, append-nil}
use Rattle.std.proofs.lemmas.Grind.{flat_map-append}
use Rattle.list_facts.specs.Listed.{listed}
use Rattle.list_facts.proofs.Listed.{listed_more}
use Rattle.scan_chunks.specs.declared.visit.Visit.{Visit}
use Rattle.visit_trace.specs.Expected.{chunk_visits, visits_over}

pub next_place : {A : Type 0} (old now new : List A) (n : ℕ) (f : ℕ → A) → now ≡ old ++ listed n f → new ≡ now ++ f n ∷ [] → new ≡ old ++ listed (n + 1) f
next_place old now new n f e h =
    h ∙ ap (λ (l : List _). l ++ f n ∷ []) e ∙ append_assoc old (listed n f) (f n ∷ []) ∙ ap (λ (l : List _). old ++ l) (listed_more n f)

pub columns_join : (rows : ℕ) (xs : List ℕ) (y : ℕ) → visits_over rows xs ++ chunk_visits rows y ≡ visits_over rows (xs ++ y ∷ [])
columns_join rows xs y =
    ap (λ (l : List Visit). visits_over rows xs ++ l) (sym (append-nil (chunk_visits rows y))) ∙ sym (flat_map-append (chunk_visits rows) xs (y ∷ []))

pub next_column : (rows : ℕ) (old now new : List Visit) (n : ℕ) (f : ℕ → ℕ) → now ≡ old ++ visits_over rows (listed n f) → new ≡ now ++ chunk_visits rows (f n)
    → new ≡ old ++ visits_over rows (listed (n + 1) f)
next_column rows old now new n f e h =
    h ∙ ap (λ (l : List Visit). l ++ chunk_visits rows (f n)) e ∙ append_assoc old (visits_over rows (listed n f)) (chunk_visits rows (f n))
    ∙ ap (λ (l : List Visit). old ++ l) (columns_join rows (listed n f) (f n) ∙ ap (visits_over rows) (listed_more n f))
