-- Stores that stay stores where pieces are written.
use Rattle.std.proofs.Common.{◌≡◌, ◌≢◌, ◌∙◌, sym, ap, subst, ℕ, ◌+◌, ◌-◌, ◌*◌, ◌/◌, ◌%◌, ◌<◌, ◌≤◌, ◌⊎◌, ⊎_elim, min, Bool, true, false, List, [], length, drop, get_or, set, replicate, arith}
use Rattle.std.proofs.lemmas.Bool.{cases_lt, cases_order}
use Rattle.std.proofs.lemmas.List.{length-drop, length-set, length-replicate, get_or-drop, get_or_past, get_or-replicate, get_or-set_other}
use Rattle.std.proofs.lemmas.Nat.{mul-le}
use Rattle.table_schema.specs.Widths.{code_length, column_bits}
use Rattle.table_schema.specs.declared.widths.Widths.{Widths}
use Rattle.onehot_column.specs.Code.{width_of}
use Rattle.prefix_log.specs.Chunks.{Halves, HasRoom, HasRows, HavePlaces, IsStored, PlaceWritten, RowWritten, Store, chunk_at}
use Rattle.prefix_log.proofs.Columns.{cells_wide}

-- a chunk in which a row was written has room and rows as before
pub row_room : (w : Widths) (n row : ℕ) (first second : List ℕ) (old new : List Halves) → RowWritten w row first second old new → HasRoom w n old → HasRoom w n new
row_room w n row first second old new is has = record {
  columns = is.columns ∙ has.columns;
  room = λ column le. omega (arith, has.room column le, (is.each column le).room);
}

pub row_rows : (w : Widths) (n row : ℕ) (first second : List ℕ) (old new : List Halves) → RowWritten w row first second old new → HasRows w n old → HasRows w n new
row_rows w n row first second old new is has = record {
  columns = is.columns ∙ has.columns;
  first = λ column le. omega (arith, has.first column le, (is.each column le).first.longer);
  second = λ column le. omega (arith, has.second column le, (is.each column le).second.longer);
}

-- and the row that was written
pub row_there : (w : Widths) (row : ℕ) (first second : List ℕ) (old new : List Halves) → RowWritten w row first second old new → length old ≡ w.columns + 1
    → length first ≡ code_length (column_bits w) → length second ≡ code_length (column_bits w) → HasRows w (row + 1) new
row_there w row first second old new is count long also = record {
  columns = is.columns ∙ count;
  first = λ column le. let more : (row + 1) * width_of w column ≡ row * width_of w column + width_of w column = omega arith in omega (arith, more, (is.each column le).first.reach, cells_wide w column first le long);
  second = λ column le. let more : (row + 1) * width_of w column ≡ row * width_of w column + width_of w column = omega arith in omega (arith, more, (is.each column le).second.reach, cells_wide w column second le also);
}

module _ (w : Widths) (place : ℕ) (first second : List ℕ) (old new : List (List Halves)) (is : PlaceWritten w place first second old new) where
  -- what a written row keeps of a chunk holds of each chunk
  each_chunk : (P : List Halves → Type 0) (j : ℕ) → (RowWritten w (place % 64) first second (chunk_at old (place / 64)) (chunk_at new (place / 64)) → P (chunk_at old (place / 64)) → P (chunk_at new (place / 64)))
      → P (chunk_at old j) → P (chunk_at new j)
  each_chunk P j kept was = ⊎_elim
      (λ (e : j ≡ place / 64). subst (λ (i : ℕ). P (chunk_at new i)) (sym e) (kept is.here (subst (λ (i : ℕ). P (chunk_at old i)) e was)))
      (λ (o : (j < place / 64) ⊎ (place / 64 < j)).
      let away : j ≢ place / 64 = ⊎_elim (λ (less : j < place / 64). λ (e : j ≡ place / 64). absurd (omega arith)) (λ (more : place / 64 < j). λ (e : j ≡ place / 64). absurd (omega arith)) o in
      subst P (sym (is.others j away)) was) (cases_order j (place / 64))

  pub written_places : (capacity : ℕ) → HavePlaces w capacity old → HavePlaces w capacity new
  written_places capacity have = record {
    count = is.count ∙ have.count;
    room = λ j lt. each_chunk (HasRoom w (min 64 (capacity - 64 * j))) j (row_room w (min 64 (capacity - 64 * j)) (place % 64) first second (chunk_at old (place / 64)) (chunk_at new (place / 64)))
        (have.room j (omega (arith, is.count)));
  }

  pub written_rows : (n j : ℕ) → HasRows w n (chunk_at old j) → HasRows w n (chunk_at new j)
  written_rows n j = each_chunk (HasRows w n) j (row_rows w n (place % 64) first second (chunk_at old (place / 64)) (chunk_at new (place / 64)))

-- a place that is there has room for its row
pub place_room : (w : Widths) (capacity place : ℕ) (chunks : List (List Halves)) → HavePlaces w capacity chunks → place < capacity → HasRoom w (place % 64 + 1) (chunk_at chunks (place / 64))
place_room w capacity place chunks have lt =
    let there : place / 64 < length chunks = (let n = have.count in omega arith) in
    let room = have.room (place / 64) there in
    record {
      columns = room.columns;
      room = λ column le.
          let less : (place % 64 + 1) * width_of w column ≤ min 64 (capacity - 64 * (place / 64)) * width_of w column = mul-le (place % 64 + 1) (width_of w column) (min 64 (capacity - 64 * (place / 64))) (width_of w column) (omega arith) (omega arith) in
          omega (arith, less, room.room column le);
    }

pub place_there : (w : Widths) (capacity place : ℕ) (chunks : List (List Halves)) → HavePlaces w capacity chunks → place < capacity → place / 64 < length chunks
place_there w capacity place chunks have lt = let n = have.count in omega arith

-- a placing keeps a store
pub written_stored : (w : Widths) (capacity prefix next place : ℕ) (filled : List Bool) (first second : List ℕ) (old new : Store) → IsStored w capacity prefix filled old
    → PlaceWritten w place first second old.chunks new.chunks → new.sealed ≡ old.sealed → prefix ≤ next → place < capacity
    → length first ≡ code_length (column_bits w) → length second ≡ code_length (column_bits w) → IsStored w capacity next (set filled place true) new
written_stored w capacity prefix next place filled first second old new stored is sealed later lt long also = record {
  marks = length-set filled place true ∙ stored.marks;
  places = written_places w place first second old.chunks new.chunks is capacity stored.places;
  rows = λ x marked. ⊎_elim (λ (e : x ≡ place). here x e) (λ (o : (x < place) ⊎ (place < x)). other x marked (⊎_elim (λ (less : x < place). λ (e : x ≡ place). absurd (omega arith)) (λ (more : place < x). λ (e : x ≡ place). absurd (omega arith)) o)) (cases_order x place);
  shared = (let s = stored.shared in omega arith);
}
  where
    here : (x : ℕ) → x ≡ place → HasRows w (x % 64 + 1) (chunk_at new.chunks (x / 64))
    here x e = subst (λ (y : ℕ). HasRows w (y % 64 + 1) (chunk_at new.chunks (y / 64))) (sym e)
        (row_there w (place % 64) first second (chunk_at old.chunks (place / 64)) (chunk_at new.chunks (place / 64)) is.here
        (stored.places.room (place / 64) (place_there w capacity place old.chunks stored.places lt)).columns long also)

    other : (x : ℕ) → get_or (set filled place true) x false ≡ true → x ≢ place → HasRows w (x % 64 + 1) (chunk_at new.chunks (x / 64))
    other x marked ne = written_rows w place first second old.chunks new.chunks is (x % 64 + 1) (x / 64) (stored.rows x (sym (get_or-set_other filled place x true false ne) ∙ marked))

-- a store without the first chunks
pub stored_dropped : (w : Widths) (capacity upto d : ℕ) (filled : List Bool) (old new : Store) → IsStored w capacity upto filled old → d % 64 ≡ 0 → d ≤ upto → upto ≤ capacity
    → new.chunks ≡ drop (d / 64) old.chunks → new.sealed ≡ old.sealed - d / 64 → IsStored w (capacity - d) (upto - d) (drop d filled) new
stored_dropped w capacity upto d filled old new stored whole le fits chunks sealed = record {
  marks = omega (arith, length-drop d filled, stored.marks);
  places = subst (HavePlaces w (capacity - d)) (sym chunks) (record {
    count = (let n = stored.places.count in omega (arith, length-drop (d / 64) old.chunks));
    room = λ j lt.
        let there : d / 64 + j < length old.chunks = omega (arith, length-drop (d / 64) old.chunks) in
        let left : min 64 (capacity - 64 * (d / 64 + j)) ≡ min 64 (capacity - d - 64 * j) = omega arith in
        subst (λ (n : ℕ). HasRoom w n (chunk_at (drop (d / 64) old.chunks) j)) left
        (subst (HasRoom w (min 64 (capacity - 64 * (d / 64 + j)))) (sym (get_or-drop (d / 64) old.chunks j [])) (stored.places.room (d / 64 + j) there));
  });
  rows = λ place marked.
      let quotient : (d + place) / 64 ≡ d / 64 + place / 64 = omega arith in
      let rest : (d + place) % 64 ≡ place % 64 = omega arith in
      subst (λ (all : List (List Halves)). HasRows w (place % 64 + 1) (chunk_at all (place / 64))) (sym chunks)
      (subst (HasRows w (place % 64 + 1)) (ap (chunk_at old.chunks) quotient ∙ sym (get_or-drop (d / 64) old.chunks (place / 64) []))
      (subst (λ (n : ℕ). HasRows w (n + 1) (chunk_at old.chunks ((d + place) / 64))) rest (stored.rows (d + place) (sym (get_or-drop d filled place false) ∙ marked))));
  shared = (let s = stored.shared in omega arith);
}

-- no marks
pub none_marked : (n : ℕ) (filled : List Bool) → filled ≡ replicate n false → (place : ℕ) → get_or filled place false ≡ false
none_marked n filled is place = ap (λ (l : List Bool). get_or l place false) is
    ∙ ⊎_elim (λ (lt : place < n). get_or-replicate n place false false lt) (λ (le : n ≤ place). get_or_past (replicate n false) place false (omega (arith, length-replicate {A = Bool} n false))) (cases_lt place n)

pub new_stored : (w : Widths) (capacity : ℕ) (filled : List Bool) (store : Store) → filled ≡ replicate capacity false → store.sealed ≡ 0 → HavePlaces w capacity store.chunks → IsStored w capacity 0 filled store
new_stored w capacity filled store is none places = record {
  marks = ap length is ∙ length-replicate capacity false;
  places = places;
  rows = λ place marked. let no : get_or filled place false ≡ false = none_marked capacity filled is place in absurd cc;
  shared = omega arith;
}
