-- The chunks of a server among those of all three.
use Rattle.std.proofs.Common.{◌≡◌, ◌∙◌, sym, ap, subst, ℕ, ◌+◌, ◌-◌, ◌*◌, ◌/◌, ◌%◌, ◌<◌, min, false, List, [], length, map, get_or, drop, arith}
use Rattle.std.proofs.lemmas.List.{get_or-map, get_or-take, get_or-drop, length-map, length-take, length-drop}
use Rattle.table_schema.specs.declared.widths.Widths.{Widths}
use Rattle.scan_chunks.specs.Pieces.{chunks_of}
use Rattle.prefix_log.specs.Bulk.{AreFilled, HasPieces, rows_here}
use Rattle.prefix_log.specs.Chunks.{Halves, HasRoom, HavePlaces, chunk_at}
use Rattle.prefix_log.specs.declared.bulk.Entry.{Entry}
use Rattle.prefix_log.specs.declared.bulk.Trio.{Trio}

no_trio : Trio
no_trio = record { zero = []; one = []; two = []; done = false }

pub long_here : (entries : List Entry) (j : ℕ) → length (rows_here entries j) ≡ min 64 (length entries - 64 * j)
long_here entries j = omega (arith, length-take 64 (drop (64 * j) entries), length-drop (64 * j) entries)

pub entry_here : (entries : List Entry) (place : ℕ) (d : Entry) → get_or (rows_here entries (place / 64)) (place % 64) d ≡ get_or entries place d
entry_here entries place d =
    let less : place % 64 < 64 = omega arith in
    let sum : 64 * (place / 64) + place % 64 ≡ place = omega arith in
    get_or-take 64 (drop (64 * (place / 64)) entries) (place % 64) d less ∙ get_or-drop (64 * (place / 64)) entries (place % 64) d ∙ ap (λ (i : ℕ). get_or entries i d) sum

module _ (w : Widths) (entries : List Entry) (f : Trio → List Halves) (trios : List Trio) (chunks : List (List Halves)) (are : map f trios ≡ chunks) where
  here : (j : ℕ) (d : Trio) → j < length trios → chunk_at chunks j ≡ f (get_or trios j d)
  here j d lt = ap (λ (l : List (List Halves)). chunk_at l j) (sym are) ∙ get_or-map f trios j d [] lt

  pub count : length chunks ≡ length trios
  count = ap length (sym are) ∙ length-map trios f

  pub room_at : HavePlaces w (length entries) chunks → (j : ℕ) (d : Trio) → j < length trios → HasRoom w (length (rows_here entries j)) (f (get_or trios j d))
  room_at have j d lt = rw (long_here entries j) (subst (HasRoom w (min 64 (length entries - 64 * j))) (here j d lt) (have.room j (omega (arith, count))))

  pub places_at : length trios ≡ chunks_of (length entries) → ((j : ℕ) (d : Trio) → j < length trios → HasRoom w (length (rows_here entries j)) (f (get_or trios j d))) → HavePlaces w (length entries) chunks
  places_at all room = record {
    count = count ∙ all;
    room = λ j lt. let less : j < length trios = omega (arith, count) in
        subst (HasRoom w (min 64 (length entries - 64 * j))) (sym (here j no_trio less)) (rw (long_here entries j) at (room j no_trio less));
  }

  pub pieces_at : (k : ℕ) → length trios ≡ chunks_of (length entries)
      → ((j : ℕ) (d : Trio) → j < length trios → AreFilled w k (rows_here entries j) (length (rows_here entries j)) (f (get_or trios j d))) → HasPieces w k entries chunks
  pieces_at k all filled place d lt =
      let there : place / 64 < length trios = omega arith in
      let row : place % 64 < length (rows_here entries (place / 64)) = omega (arith, long_here entries (place / 64)) in
      rw (here (place / 64) no_trio there) (rw (entry_here entries place d) at (filled (place / 64) no_trio there (place % 64) d row))
