-- The pieces that chunks store.
use Rattle.std.proofs.Common.{◌≡◌, ◌≢◌, ◌∙◌, refl, sym, ap, subst, ℕ, ◌+◌, ◌-◌, ◌*◌, ◌/◌, ◌%◌, ◌<◌, ◌≤◌, ◌⊎◌, ⊎_elim, Bool, true, false, cond, List, [], length, drop, get_or, set, arith}
use Rattle.std.specs.Prelude.{Some, None, is_some}
use Rattle.std.proofs.lemmas.Bool.{cases_lt, cases_order}
use Rattle.std.proofs.lemmas.List.{ext_get_or, get_or-drop, get_or-set_same, get_or-set_other, get_or_past, length-drop, length-set}
use Rattle.std.proofs.lemmas.Nat.{mul-le}
use native.Mathlib.Nat.{ℕ_set}
use Rattle.list_facts.specs.Listed.{listed}
use Rattle.list_facts.proofs.Listed.{get_or-listed, length-listed, listed_is, listed_same}
use Rattle.replicated_share.specs.declared.pair_list.PairList.{PairList}
use Rattle.table_schema.specs.Widths.{code_length, column_bits}
use Rattle.table_schema.specs.declared.widths.Widths.{Widths}
use Rattle.onehot_column.specs.Code.{width_of, cells_at}
use Rattle.onehot_column.specs.Piece.{HasWidths}
use Rattle.onehot_column.specs.declared.piece.Piece.{Piece}
use Rattle.prefix_log.specs.Chunks.{Halves, IsWritten, PlaceWritten, chunk_at, half_at, halves_at, part_at, stored_piece, stored_slots}
use Rattle.prefix_log.specs.Logs.{piece_at}
use Rattle.prefix_log.specs.RowLists.{row_cells}
use Rattle.prefix_log.proofs.Columns.{cells_wide, columns_join, columns_long, columns_part}
use Rattle.prefix_log.proofs.Ranges.{rows_same}

-- two lists of pairs with the same firsts and the same seconds are one
same_pairs : (f s g t : List ℕ) (l : length f ≡ length s) (m : length g ≡ length t) → f ≡ g → s ≡ t
    → ◌≡◌ {A = PairList} (record { first = f; second = s; lengths = l }) (record { first = g; second = t; lengths = m })
same_pairs f s g t l m e d =
    subst (λ (x : List ℕ). (n : length x ≡ length t) → ◌≡◌ {A = PairList} (record { first = f; second = s; lengths = l }) (record { first = x; second = t; lengths = n })) e
    (subst (λ (y : List ℕ). (n : length f ≡ length y) → ◌≡◌ {A = PairList} (record { first = f; second = s; lengths = l }) (record { first = f; second = y; lengths = n })) d
    (λ n. ap (λ (k : length f ≡ length s). record { first = f; second = s; lengths = k }) (ℕ_set (length f) (length s) l n))) m

same_piece : (p q : Piece) → p.server ≡ q.server → p.cells.first ≡ q.cells.first → p.cells.second ≡ q.cells.second → p ≡ q
same_piece p q server first second =
    ap (λ (k : ℕ). record { server = k; cells = p.cells }) server
    ∙ ap (λ (c : PairList). record { server = q.server; cells = c }) (same_pairs p.cells.first p.cells.second q.cells.first q.cells.second p.cells.lengths q.cells.lengths first second)

-- ---- what a piece has

part_wide : (half : Halves → List ℕ) (w : Widths) (chunks : List (List Halves)) (place c : ℕ) → length (part_at half w chunks place c) ≡ width_of w c
part_wide half w chunks place c = length-listed (width_of w c) _

pub half_wide : (half : Halves → List ℕ) (w : Widths) (chunks : List (List Halves)) (place : ℕ) → length (half_at half w chunks place) ≡ code_length (column_bits w)
half_wide half w chunks place = columns_long w (part_at half w chunks place) (part_wide half w chunks place)

pub half_part : (half : Halves → List ℕ) (w : Widths) (chunks : List (List Halves)) (place c : ℕ) → c ≤ w.columns → cells_at w c (half_at half w chunks place) ≡ part_at half w chunks place c
half_part half w chunks place c le = columns_part w (part_at half w chunks place) (part_wide half w chunks place) c le

pub stored_server : (k : ℕ) (w : Widths) (chunks : List (List Halves)) (place : ℕ) → (stored_piece k w chunks place).server ≡ k
unfolding stored_piece
stored_server k w chunks place = refl

pub stored_first : (k : ℕ) (w : Widths) (chunks : List (List Halves)) (place : ℕ) → (stored_piece k w chunks place).cells.first ≡ half_at (λ h. h.first) w chunks place
unfolding stored_piece
stored_first k w chunks place = refl

pub stored_second : (k : ℕ) (w : Widths) (chunks : List (List Halves)) (place : ℕ) → (stored_piece k w chunks place).cells.second ≡ half_at (λ h. h.second) w chunks place
unfolding stored_piece
stored_second k w chunks place = refl

pub stored_widths : (k : ℕ) (w : Widths) (chunks : List (List Halves)) (place : ℕ) → HasWidths w (stored_piece k w chunks place)
stored_widths k w chunks place = ap length (stored_first k w chunks place) ∙ half_wide (λ h. h.first) w chunks place

-- ---- slots

pub stored_length : (k : ℕ) (w : Widths) (capacity : ℕ) (filled : List Bool) (chunks : List (List Halves)) → length (stored_slots k w capacity filled chunks) ≡ capacity
unfolding stored_slots
stored_length k w capacity filled chunks = length-listed capacity _

pub stored_at : (k : ℕ) (w : Widths) (capacity : ℕ) (filled : List Bool) (chunks : List (List Halves)) (place : ℕ) → place < capacity
    → piece_at (stored_slots k w capacity filled chunks) place ≡ cond (get_or filled place false) (Some (stored_piece k w chunks place)) None
unfolding stored_slots
stored_at k w capacity filled chunks place lt = get_or-listed capacity place _ None lt

is_marked : (b : Bool) (p : Piece) → is_some (cond b (Some p) None) ≡ b
is_marked true p = refl
is_marked false p = refl

-- a slot has a piece where it is marked as filled
pub stored_marks : (k : ℕ) (w : Widths) (capacity : ℕ) (filled : List Bool) (chunks : List (List Halves)) → length filled ≡ capacity
    → (place : ℕ) → is_some (piece_at (stored_slots k w capacity filled chunks) place) ≡ get_or filled place false
stored_marks k w capacity filled chunks marks place = ⊎_elim
    (λ (lt : place < capacity). ap is_some (stored_at k w capacity filled chunks place lt) ∙ is_marked (get_or filled place false) (stored_piece k w chunks place))
    (λ (past : capacity ≤ place).
    ap is_some (get_or_past (stored_slots k w capacity filled chunks) place None (omega (arith, stored_length k w capacity filled chunks)))
    ∙ sym (get_or_past filled place false (omega arith))) (cases_lt place capacity)

-- no slot has a piece where none is marked
pub stored_none : (k : ℕ) (w : Widths) (capacity : ℕ) (filled : List Bool) (chunks : List (List Halves)) → ((place : ℕ) → place < capacity → get_or filled place false ≡ false)
    → stored_slots k w capacity filled chunks ≡ listed capacity (λ (place : ℕ). None)
unfolding stored_slots
stored_none k w capacity filled chunks none = listed_same capacity _ (λ (place : ℕ). None) (λ place lt. ap (λ (b : Bool). cond b (Some (stored_piece k w chunks place)) None) (none place lt))

-- ---- chunks without the first ones

module _ (w : Widths) (d : ℕ) (chunks : List (List Halves)) (whole : d % 64 ≡ 0) where
  part_dropped : (half : Halves → List ℕ) (x c : ℕ) → part_at half w chunks (d + x) c ≡ part_at half w (drop (d / 64) chunks) x c
  part_dropped half x c =
      let quotient : (d + x) / 64 ≡ d / 64 + x / 64 = omega arith in
      let rest : (d + x) % 64 ≡ x % 64 = omega arith in
      ap (λ (j : ℕ). row_cells (width_of w c) (half (halves_at (chunk_at chunks j) c)) ((d + x) % 64)) quotient
      ∙ ap (λ (r : ℕ). row_cells (width_of w c) (half (halves_at (chunk_at chunks (d / 64 + x / 64)) c)) r) rest
      ∙ ap (λ (chunk : List Halves). row_cells (width_of w c) (half (halves_at chunk c)) (x % 64)) (sym (get_or-drop (d / 64) chunks (x / 64) []))

  half_dropped : (half : Halves → List ℕ) (x : ℕ) → half_at half w chunks (d + x) ≡ half_at half w (drop (d / 64) chunks) x
  half_dropped half x = rows_same (part_at half w chunks (d + x)) (part_at half w (drop (d / 64) chunks) x) 0 0 (w.columns + 1) (λ c lt. part_dropped half x (0 + c))

  piece_dropped : (k x : ℕ) → stored_piece k w chunks (d + x) ≡ stored_piece k w (drop (d / 64) chunks) x
  piece_dropped k x = same_piece (stored_piece k w chunks (d + x)) (stored_piece k w (drop (d / 64) chunks) x) (stored_server k w chunks (d + x) ∙ sym (stored_server k w (drop (d / 64) chunks) x))
      (stored_first k w chunks (d + x) ∙ half_dropped (λ h. h.first) x ∙ sym (stored_first k w (drop (d / 64) chunks) x))
      (stored_second k w chunks (d + x) ∙ half_dropped (λ h. h.second) x ∙ sym (stored_second k w (drop (d / 64) chunks) x))

  pub slots_dropped : (k capacity : ℕ) (filled : List Bool) → d ≤ capacity → drop d (stored_slots k w capacity filled chunks) ≡ stored_slots k w (capacity - d) (drop d filled) (drop (d / 64) chunks)
  slots_dropped k capacity filled le =
      let long : length (drop d (stored_slots k w capacity filled chunks)) ≡ capacity - d = omega (arith, length-drop d (stored_slots k w capacity filled chunks), stored_length k w capacity filled chunks) in
      ext_get_or None (drop d (stored_slots k w capacity filled chunks)) (stored_slots k w (capacity - d) (drop d filled) (drop (d / 64) chunks)) (long ∙ sym (stored_length k w (capacity - d) (drop d filled) (drop (d / 64) chunks)))
      (λ x below.
      let less : x < capacity - d = omega (arith, long, below) in
      get_or-drop d (stored_slots k w capacity filled chunks) x None ∙ stored_at k w capacity filled chunks (d + x) (omega arith)
      ∙ ap (λ (b : Bool). cond b (Some (stored_piece k w chunks (d + x))) None) (sym (get_or-drop d filled x false))
      ∙ ap (λ (p : Piece). cond (get_or (drop d filled) x false) (Some p) None) (piece_dropped k x)
      ∙ sym (stored_at k w (capacity - d) (drop d filled) (drop (d / 64) chunks) x less))

-- ---- a piece that was written

module _ (half : Halves → List ℕ) (w : Widths) (place : ℕ) (part : List ℕ) (old new : List (List Halves)) (count : length new ≡ length old)
    (here : (c : ℕ) → c ≤ w.columns → IsWritten (place % 64 * width_of w c) (cells_at w c part) (half (halves_at (chunk_at old (place / 64)) c)) (half (halves_at (chunk_at new (place / 64)) c)))
    (others : (j : ℕ) → j ≢ place / 64 → chunk_at new j ≡ chunk_at old j) (long : length part ≡ code_length (column_bits w)) where
  -- it is at its place
  part_here : (c : ℕ) → c ≤ w.columns → part_at half w new place c ≡ cells_at w c part
  part_here c le =
      let wide = cells_wide w c part le long in
      sym (listed_is (width_of w c) _ 0 (cells_at w c part) wide (λ i lt. sym ((here c le).inside i (omega (arith, wide)))))

  -- other rows of the chunk stay
  row_stays : (r c : ℕ) → c ≤ w.columns → r ≢ place % 64 → row_cells (width_of w c) (half (halves_at (chunk_at new (place / 64)) c)) r ≡ row_cells (width_of w c) (half (halves_at (chunk_at old (place / 64)) c)) r
  row_stays r c le ne = listed_same (width_of w c) _ _ (λ i lt. ⊎_elim (λ (e : r ≡ place % 64). absurd (ne e))
      (λ (o : (r < place % 64) ⊎ (place % 64 < r)). ⊎_elim
      (λ (less : r < place % 64).
      let up : (r + 1) * width_of w c ≤ place % 64 * width_of w c = mul-le (r + 1) (width_of w c) (place % 64) (width_of w c) (omega arith) (omega arith) in
      (here c le).before (r * width_of w c + i) (omega arith))
      (λ (more : place % 64 < r).
      let up : (place % 64 + 1) * width_of w c ≤ r * width_of w c = mul-le (place % 64 + 1) (width_of w c) r (width_of w c) (omega arith) (omega arith) in
      let wide = cells_wide w c part le long in
      (here c le).after (r * width_of w c + i) (omega (arith, wide))) o) (cases_order r (place % 64)))

  -- and so do other chunks
  part_stays : (x c : ℕ) → c ≤ w.columns → x ≢ place → part_at half w new x c ≡ part_at half w old x c
  part_stays x c le ne = ⊎_elim
      (λ (e : x / 64 ≡ place / 64).
      let other : x % 64 ≢ place % 64 = λ (f : x % 64 ≡ place % 64). ne (omega arith) in
      ap (λ (j : ℕ). row_cells (width_of w c) (half (halves_at (chunk_at new j) c)) (x % 64)) e ∙ row_stays (x % 64) c le other
      ∙ ap (λ (j : ℕ). row_cells (width_of w c) (half (halves_at (chunk_at old j) c)) (x % 64)) (sym e))
      (λ (o : (x / 64 < place / 64) ⊎ (place / 64 < x / 64)).
      let away : x / 64 ≢ place / 64 = ⊎_elim (λ (less : x / 64 < place / 64). λ (e : x / 64 ≡ place / 64). absurd (omega arith)) (λ (more : place / 64 < x / 64). λ (e : x / 64 ≡ place / 64). absurd (omega arith)) o in
      ap (λ (chunk : List Halves). row_cells (width_of w c) (half (halves_at chunk c)) (x % 64)) (others (x / 64) away)) (cases_order (x / 64) (place / 64))

  pub half_here : half_at half w new place ≡ part
  half_here =
      rows_same (part_at half w new place) (λ (c : ℕ). cells_at w c part) 0 0 (w.columns + 1) (λ c lt. part_here (0 + c) (omega arith)) ∙ columns_join w part long

  pub half_stays : (x : ℕ) → x ≢ place → half_at half w new x ≡ half_at half w old x
  half_stays x ne = rows_same (part_at half w new x) (part_at half w old x) 0 0 (w.columns + 1) (λ c lt. part_stays x (0 + c) (omega arith) ne)

module _ (k : ℕ) (w : Widths) (place : ℕ) (p : Piece) (old new : List (List Halves)) (is : PlaceWritten w place p.cells.first p.cells.second old new) (own : p.server ≡ k) (widths : HasWidths w p) where
  piece_here : stored_piece k w new place ≡ p
  piece_here = same_piece (stored_piece k w new place) p (stored_server k w new place ∙ sym own)
      (stored_first k w new place ∙ half_here (λ h. h.first) w place p.cells.first old new is.count (λ c le. (is.here.each c le).first) is.others widths)
      (stored_second k w new place ∙ half_here (λ h. h.second) w place p.cells.second old new is.count (λ c le. (is.here.each c le).second) is.others (sym p.cells.lengths ∙ widths))

  piece_stays : (x : ℕ) → x ≢ place → stored_piece k w new x ≡ stored_piece k w old x
  piece_stays x ne = same_piece (stored_piece k w new x) (stored_piece k w old x) (stored_server k w new x ∙ sym (stored_server k w old x))
      (stored_first k w new x ∙ half_stays (λ h. h.first) w place p.cells.first old new is.count (λ c le. (is.here.each c le).first) is.others widths x ne ∙ sym (stored_first k w old x))
      (stored_second k w new x ∙ half_stays (λ h. h.second) w place p.cells.second old new is.count (λ c le. (is.here.each c le).second) is.others (sym p.cells.lengths ∙ widths) x ne ∙ sym (stored_second k w old x))

  -- the slots after a piece came to a free place
  pub slots_written : (capacity : ℕ) (filled : List Bool) → length filled ≡ capacity → place < capacity
      → stored_slots k w capacity (set filled place true) new ≡ set (stored_slots k w capacity filled old) place (Some p)
  slots_written capacity filled marks lt =
      let long = stored_length k w capacity filled old in
      let size = length-set (stored_slots k w capacity filled old) place (Some p) in
      let all = stored_length k w capacity (set filled place true) new in
      ext_get_or None (stored_slots k w capacity (set filled place true) new) (set (stored_slots k w capacity filled old) place (Some p)) (omega (arith, long, size, all))
      (λ x below. by x (omega (arith, all)))
    where
      there : place < length filled
      there = omega arith

      here : (x : ℕ) → x < capacity → x ≡ place → piece_at (stored_slots k w capacity (set filled place true) new) x ≡ piece_at (set (stored_slots k w capacity filled old) place (Some p)) x
      here x below e =
          let within : place < length (stored_slots k w capacity filled old) = omega (arith, stored_length k w capacity filled old) in
          rw e (stored_at k w capacity (set filled place true) new place lt
          ∙ ap (λ (b : Bool). cond b (Some (stored_piece k w new place)) None) (get_or-set_same filled place true false there) ∙ ap Some piece_here
          ∙ sym (get_or-set_same (stored_slots k w capacity filled old) place (Some p) None within))

      elsewhere : (x : ℕ) → x < capacity → x ≢ place → piece_at (stored_slots k w capacity (set filled place true) new) x ≡ piece_at (set (stored_slots k w capacity filled old) place (Some p)) x
      elsewhere x below ne =
          stored_at k w capacity (set filled place true) new x below
          ∙ ap (λ (b : Bool). cond b (Some (stored_piece k w new x)) None) (get_or-set_other filled place x true false ne)
          ∙ ap (λ (q : Piece). cond (get_or filled x false) (Some q) None) (piece_stays x ne)
          ∙ sym (stored_at k w capacity filled old x below)
          ∙ sym (get_or-set_other (stored_slots k w capacity filled old) place x (Some p) None ne)

      by : (x : ℕ) → x < capacity → piece_at (stored_slots k w capacity (set filled place true) new) x ≡ piece_at (set (stored_slots k w capacity filled old) place (Some p)) x
      by x below = ⊎_elim (λ (e : x ≡ place). here x below e)
          (λ (o : (x < place) ⊎ (place < x)). ⊎_elim (λ (less : x < place). elsewhere x below (omega arith)) (λ (more : place < x). elsewhere x below (omega arith)) o) (cases_order x place)
