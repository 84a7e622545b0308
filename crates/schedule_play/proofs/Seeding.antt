-- Rows that got their seeds, and what the machine needs of them.
use Rattle.std.proofs.Common.{◌≡◌, ◌∙◌, refl, sym, ap, subst, ℕ, suc, ◌+◌, ◌<◌, List, [], ◌∷◌, All, length, map, get_or, arith}
use Rattle.std.specs.Prelude.{pos}
use Rattle.std.proofs.lemmas.List.{get_or-map, length-map}
use Rattle.prefix_log.specs.declared.bulk.Entry.{Entry}
use Rattle.prg_chacha.specs.Prg.{derive_of}
use Rattle.prg_chacha.specs.declared.seed.Seed.{Seed}
use Rattle.table_schema.specs.Widths.{Holds}
use Rattle.table_schema.specs.declared.rows.Row.{Row}
use Rattle.table_schema.specs.declared.widths.Widths.{Widths}
use Rattle.waldo_core.specs.InBulk.{pair_of}
use Rattle.schedule_play.specs.Appended.{seeded_rows, unseeded}

-- an entry with the seed of row i
abbrev with_seed : Seed → ℕ → Entry → Entry
with_seed master i e = record e { seed = derive_of master 1 0 i }

module _ (master : Seed) where
  no_entry : Entry
  no_entry = record { row = record { columns = 0; buckets = []; value = pos 0 }; seed = master }

  -- entries whose seeds were replaced, the first of which has this number
  pub rows_and_pairs : (i : ℕ) (rows : List Row) (es : List Entry) → length es ≡ length rows
      → ((k : ℕ) (d : Entry) → k < length es → get_or es k d ≡ with_seed master (i + k) (get_or (map (unseeded master) rows) k d))
      → (map pair_of es ≡ seeded_rows master i rows) × (map (λ (e : Entry). e.row) es ≡ rows)
  rows_and_pairs i [] [] long each = (refl, refl)
  rows_and_pairs i [] (e ∷ es) long each = absurd (omega arith)
  rows_and_pairs i (row ∷ rows) [] long each = absurd (omega arith)
  rows_and_pairs i (row ∷ rows) (e ∷ es) long each =
      let none : i + 0 ≡ i = omega arith in
      let first : e ≡ record { row = row; seed = derive_of master 1 0 i } = each 0 e (omega arith) ∙ ap (λ (n : ℕ). with_seed master n (unseeded master row)) none in
      let behind = rows_and_pairs (i + 1) rows es (omega arith)
      (λ k d lt. let on : i + suc k ≡ i + 1 + k = omega arith in
      each (suc k) d (omega arith) ∙ ap (λ (n : ℕ). with_seed master n (get_or (map (unseeded master) rows) k d)) on) in (
        ap (λ (x : Entry). pair_of x ∷ map pair_of es) first ∙ ap (λ (l : List (Row × Seed)). (row, derive_of master 1 0 i) ∷ l) behind.0,
        ap (λ (x : Entry). x.row ∷ map (λ (y : Entry). y.row) es) first ∙ ap (λ (l : List Row). row ∷ l) behind.1,
      )

-- the same for all of them
pub seeded_are : (master : Seed) (rows : List Row) (old new : List Entry) → old ≡ map (unseeded master) rows → length new ≡ length old
    → ((i : ℕ) (d : Entry) → i < length old → get_or new i d ≡ with_seed master i (get_or old i d))
    → (map pair_of new ≡ seeded_rows master 0 rows) × (map (λ (e : Entry). e.row) new ≡ rows)
seeded_are master rows old new were count each =
    let long : length old ≡ length rows = ap length were ∙ length-map rows (unseeded master) in
    rows_and_pairs master 0 rows new (count ∙ long)
    (λ k d lt. let same : k ≡ 0 + k = omega arith in
    each k d (omega (arith, count)) ∙ ap (λ (l : List Entry). with_seed master k (get_or l k d)) were
    ∙ ap (λ (n : ℕ). with_seed master n (get_or (map (unseeded master) rows) k d)) same)

-- entries of rows that the widths hold
pub held_entries : (w : Widths) (rows : List Row) (es : List Entry) → map (λ (e : Entry). e.row) es ≡ rows → All (Holds w) rows → All (λ (e : Entry). Holds w e.row) es
held_entries w rows es are held k d lt =
    let count : length es ≡ length rows = sym (length-map es (λ (e : Entry). e.row)) ∙ ap length are in
    let here : get_or rows k d.row ≡ (get_or es k d).row = ap (λ (l : List Row). get_or l k d.row) (sym are) ∙ get_or-map (λ (e : Entry). e.row) es k d d.row lt in
    subst (Holds w) here (held k d.row (omega (arith, count)))
