-- A tree over the rows of several shelves.
use Rattle.std.proofs.Common.{◌≡◌, ◌∙◌, refl, sym, ap, ℕ, ◌+◌, ◌<◌, ◌≤◌, List, ◌++◌, length, map, take, get_or, arith, append_assoc}
use Rattle.std.proofs.lemmas.List.{get_or-map, length-map, take_all}
use Rattle.scan_chunks.specs.Shelf.{Held}
use Rattle.server_rounds.specs.Shelves.{pieces_of, rows_of}
use Rattle.server_rounds.proofs.Together.{lists_more, total_below, total_more}
use Rattle.row_tree.specs.Column.{Tree}

-- the tree once the rows of these shelves were appended
abbrev pub grown : Tree → List Held → Tree
grown t hs = record t {
  rows = t.rows + rows_of hs;
  first = t.first ++ (pieces_of hs).first t.column;
  second = t.second ++ (pieces_of hs).second t.column;
}

-- one shelf more
pub grown_more : {S : Type 0} (held : S → Held) (old : List S) (i : ℕ) (d : S) (t now new : Tree) → i < length old → held d ≡ held (get_or old i d)
    → now ≡ grown t (take i (map held old))
    → new ≡ record now { rows = now.rows + (held d).rows; first = now.first ++ (held d).pieces.first now.column; second = now.second ++ (held d).pieces.second now.column }
    → new ≡ grown t (take (i + 1) (map held old))
grown_more held old i d t now new h is before after =
    let c = t.column in
    let firsts = lists_more held (λ (k : Held). k.pieces.first c) old i d h is in
    let seconds = lists_more held (λ (k : Held). k.pieces.second c) old i d h is in
    let long : i < length (map held old) = omega (arith, length-map old held) in
    let here : get_or (map held old) i (held d) ≡ held d = get_or-map held old i d (held d) h ∙ sym is in
    let rows : rows_of (take i (map held old)) + (held d).rows ≡ rows_of (take (i + 1) (map held old)) =
    ap (λ (k : Held). rows_of (take i (map held old)) + k.rows) (sym here) ∙ total_more (λ (k : Held). k.rows) (map held old) i (held d) long in
    let count : t.rows + rows_of (take i (map held old)) + (held d).rows ≡ t.rows + rows_of (take (i + 1) (map held old)) = omega (arith, rows) in
    after ∙ rw (
      before,
      count,
      append_assoc t.first ((pieces_of (take i (map held old))).first c) ((held d).pieces.first c),
      firsts,
      append_assoc t.second ((pieces_of (take i (map held old))).second c) ((held d).pieces.second c),
      seconds,
    ) refl

-- all shelves
pub grown_all : {S : Type 0} (held : S → Held) (old : List S) (i : ℕ) (t now : Tree) → length old ≤ i → now ≡ grown t (take i (map held old)) → now ≡ grown t (map held old)
grown_all held old i t now h e = e ∙ ap (grown t) (take_all i (map held old) (omega (arith, length-map old held, h)))

-- there is room for one shelf more
pub room_more : {S : Type 0} (held : S → Held) (old : List S) (i : ℕ) (d : S) (n : ℕ) → i < length old → held d ≡ held (get_or old i d)
    → n + rows_of (map held old) ≤ 65536 → n + rows_of (take i (map held old)) + (held d).rows ≤ 65536
room_more held old i d n h is few =
    let long : i < length (map held old) = omega (arith, length-map old held) in
    let here : get_or (map held old) i (held d) ≡ held d = get_or-map held old i d (held d) h ∙ sym is in
    let rows = ap (λ (k : Held). rows_of (take i (map held old)) + k.rows) (sym here) ∙ total_more (λ (k : Held). k.rows) (map held old) i (held d) long in
    omega (arith, rows, total_below (λ (k : Held). k.rows) (map held old) (i + 1), few)
