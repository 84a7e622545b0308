-- Pieces and rows of the order: they stay as the order grows, as a log takes a piece, and in a snapshot.
use Rattle.std.proofs.Common.{◌≡◌, ◌∙◌, refl, sym, ap, subst, ℕ, zero, suc, ◌+◌, ◌-◌, ◌<◌, ◌≤◌, ⊎_elim, Bool, true, false, cond, ltb, Option, Some, None, List, [], ◌∷◌, ◌++◌, length, get_or, set, take, drop, arith}
use Rattle.std.specs.Prelude.{is_some, All, min}
use Rattle.std.proofs.lemmas.Bool.{le-ltb}
use Rattle.std.proofs.lemmas.Bool.Decides.{nat_tests}
use Rattle.std.proofs.lemmas.List.{length-append, length-take, take-append-le, take-take}
use Rattle.std.proofs.lemmas.List.Elements.{All-take}
use Rattle.std.proofs.lemmas.Option.{same_Some, slice_get_within}
use mathlib.Core.List.{IsPrefix}
use Rattle.list_facts.specs.Count.{has}
use Rattle.onehot_column.specs.Piece.{IsPiece}
use Rattle.onehot_column.specs.declared.piece.Piece.{Piece}
use Rattle.prefix_log.specs.Journal.{HasNoMark, IsPrefixOf, prefix, start}
use Rattle.prefix_log.specs.Laws.{AreSharings}
use Rattle.prefix_log.specs.Logs.{Log, IsLog, piece_at, placed as log_placed}
use Rattle.prefix_log.specs.Rows.{IsCut}
use Rattle.prefix_log.specs.Snapshots.{HoldsPieces, KeepsRows, pieces_in}
use Rattle.prefix_log.proofs.Keeping.{cut_keeps_rows, snapshots_keep_rows}
use Rattle.prefix_log.proofs.Marked.{has_either, no_mark_no_start}
use Rattle.prefix_log.proofs.Prefixes.{prefix_is, prefix_is_largest}
use Rattle.prg_chacha.specs.declared.seed.Seed.{Seed}
use Rattle.scan_chunks.specs.Shelf.{Held}
use Rattle.table_schema.specs.Widths.{Holds}
use Rattle.table_schema.specs.declared.rows.Row.{Row}
use Rattle.table_schema.specs.declared.widths.Widths.{Widths}
use Rattle.agreed_rows.specs.Agreed.{IsAgreed}
use Rattle.agreed_rows.specs.Shelves.{AreCuts}
use Rattle.agreed_rows.specs.Servers.{IsFixOf, IsServer, IsShareAt, KeepsFirst}
use Rattle.agreed_rows.proofs.Elements.{get_or-set, prefix_get, all_below}

-- ---- the order grows

pub share_grows : (w : Widths) (k : ℕ) (order more : List (Row × Seed)) (place : ℕ) (piece : Piece) → IsPrefix order more
    → IsShareAt w k order place piece → IsShareAt w k more place piece
share_grows w k order more place piece begins s = record {
  entry = s.entry;
  there = prefix_get order more place s.entry begins s.there;
  held = s.held;
  share = s.share;
  wide = s.wide;
}

pub server_grows : (k : ℕ) (w : Widths) (most : ℕ) (order more : List (Row × Seed)) (log : Log) → IsPrefix order more
    → IsServer k w most order log → IsServer k w most more log
server_grows k w most order more log begins s = record {
  number = s.number;
  widths = s.widths;
  capacity = s.capacity;
  places = s.places;
  shares = λ place piece is. share_grows w k order more place piece begins (s.shares place piece is);
}

keeps_by : (w : Widths) (k : ℕ) (order rest more : List (Row × Seed)) (n : ℕ) (h : Held) → order ++ rest ≡ more → KeepsFirst w k order n h → KeepsFirst w k more n h
keeps_by w k order rest more n h is keeps = subst (λ (m : List (Row × Seed)). KeepsFirst w k m n h) is (record {
  few = omega (arith, keeps.few, length-append order rest);
  rows = subst (λ (rows : List (Row × Seed)). All (λ (entry : Row × Seed). Holds w entry.0) rows) (sym (take-append-le n order rest keeps.few)) keeps.rows;
  keeps = subst (λ (rows : List (Row × Seed)). KeepsRows w k rows h) (sym (take-append-le n order rest keeps.few)) keeps.keeps;
})

pub keeps_grows : (w : Widths) (k : ℕ) (order more : List (Row × Seed)) (n : ℕ) (h : Held) → IsPrefix order more → KeepsFirst w k order n h → KeepsFirst w k more n h
keeps_grows w k order more n h begins keeps = keeps_by w k order begins.0 more n h begins.1 keeps

-- ---- a log takes a piece

-- a log without marks has its start at 0
no_start : (log : Log) → IsLog log → HasNoMark log.capacity log.journal → start log.journal ≡ 0
no_start log legal places = no_mark_no_start log.capacity log.journal legal.fits.1 places

-- and a place is in its journal just where it has a piece
pub in_journal : (log : Log) (place : ℕ) → IsLog log → HasNoMark log.capacity log.journal → place < log.capacity → has place log.journal ≡ is_some (piece_at log.slots place)
in_journal log place legal places lt =
    sym (legal.kept place lt ∙ ap (λ (n : ℕ). cond (ltb place n) false (has place log.journal)) (no_start log legal places)
    ∙ ap (λ (b : Bool). cond b false (has place log.journal)) (le-ltb place 0 (omega arith)))

pub server_placed : (k : ℕ) (w : Widths) (most : ℕ) (order : List (Row × Seed)) (log : Log) (place : ℕ) (piece : Piece)
    → IsServer k w most order log → place < log.capacity → IsShareAt w k order place piece → IsServer k w most order (log_placed log place piece)
server_placed k w most order log place piece s lt share = by (has place log.journal) refl
  where
    shares : (x : ℕ) (p : Piece) → piece_at (set log.slots place (Some piece)) x ≡ Some p → IsShareAt w k order x p
    shares x p is = ⊎_elim
        (λ (h : (x ≡ place) × (Some piece ≡ Some p)). subst (λ (y : ℕ). IsShareAt w k order y p) (sym h.0) (subst (λ (q : Piece). IsShareAt w k order place q) (same_Some piece p h.1) share))
        (λ (old : get_or log.slots x None ≡ Some p). s.shares x p old)
        (get_or-set log.slots place (Some piece) x None (Some p) is)

    places : HasNoMark log.capacity (log.journal ++ place ∷ [])
    places x there = ⊎_elim (λ (was : has x log.journal ≡ true). s.places x was) (λ (is : x ≡ place). omega arith) (has_either x place log.journal there)

    by : (b : Bool) → has place log.journal ≡ b → IsServer k w most order (log_placed log place piece)
    by true e = rw e s
    by false e = rw e (record { number = s.number; widths = s.widths; capacity = s.capacity; places = places; shares = shares })

-- ---- a snapshot of a log

some_of : {A : Type 0} (o : Option A) → is_some o ≡ true → (x : A) × (o ≡ Some x)
some_of None e = absurd cc
some_of (Some x) e = (x, refl)

-- a place below the prefix has a piece
filled : (log : Log) (place : ℕ) → IsLog log → HasNoMark log.capacity log.journal → place < prefix log.journal → (piece : Piece) × (piece_at log.slots place ≡ Some piece)
filled log place legal places lt =
    let there : has place log.journal ≡ true = (prefix_is_largest log.journal).below place lt in
    some_of (piece_at log.slots place) (sym (in_journal log place legal places (places place there)) ∙ there)

few_rows : (k : ℕ) (w : Widths) (most : ℕ) (order : List (Row × Seed)) (log : Log) (n : ℕ) → IsServer k w most order log → IsLog log → n ≤ prefix log.journal → n ≤ length order
few_rows k w most order log zero s legal le = omega arith
few_rows k w most order log (suc n) s legal le =
    let p = filled log n legal s.places (omega arith) in
    let share = s.shares n p.0 p.1 in
    omega (arith, slice_get_within order n share.entry share.there)

-- and the entry there is held by the widths
held_below : (k : ℕ) (w : Widths) (most : ℕ) (order : List (Row × Seed)) (log : Log) (n : ℕ) → IsServer k w most order log → IsLog log → n ≤ prefix log.journal
    → All (λ (entry : Row × Seed). Holds w entry.0) (take n order)
held_below k w most order log n s legal le = all_below (λ (entry : Row × Seed). Holds w entry.0) order n (λ place entry lt there.
    let p = filled log place legal s.places (omega arith) in
    let share = s.shares place p.0 p.1 in subst (λ (e : Row × Seed). Holds w e.0) (same_Some share.entry entry (sym share.there ∙ there)) share.held)

pub fix_of : (place : ℕ) (h : Held) (log : Log) → IsLog log → HasNoMark log.capacity log.journal → place ≡ start log.journal → IsPrefixOf log.journal (place + h.rows)
    → HoldsPieces log.widths (pieces_in (take h.rows (drop place log.slots))) h → IsFixOf h log
fix_of place h log legal places at reach pieces =
    let none : place ≡ 0 = at ∙ no_start log legal places in
    let all : place + h.rows ≡ h.rows = omega (arith, none) in
    record {
      rows = sym (prefix_is log.journal h.rows (subst (IsPrefixOf log.journal) all reach));
      pieces = subst (λ (n : ℕ). HoldsPieces log.widths (pieces_in (take h.rows (drop n log.slots))) h) none pieces;
    }

pub fix_keeps : (k : ℕ) (w : Widths) (most : ℕ) (order : List (Row × Seed)) (log : Log) (h : Held) → IsServer k w most order log → IsLog log → IsFixOf h log → KeepsFirst w k order h.rows h
fix_keeps k w most order log h s legal fix = record { few = few; rows = held_below k w most order log h.rows s legal (omega (arith, fix.rows)); keeps = snapshots_keep_rows w k h.rows order log.slots h shares few (subst (λ (v : Widths). HoldsPieces v (pieces_in (take h.rows log.slots)) h) s.widths fix.pieces) }
  where
    few : h.rows ≤ length order
    few = few_rows k w most order log h.rows s legal (omega (arith, fix.rows))

    shares : AreSharings w k h.rows order log.slots
    shares place entry lt there =
        let p = filled log place legal s.places (omega (arith, fix.rows)) in
        let share = s.shares place p.0 p.1 in
        (p.0, p.1, subst (λ (e : Row × Seed). IsPiece w e.0 e.1 k p.0) (same_Some share.entry entry (sym share.there ∙ there)) share.share)

-- cut, it keeps the first of its rows
pub cut_keeps : (w : Widths) (k : ℕ) (order : List (Row × Seed)) (n : ℕ) (h new : Held) → KeepsFirst w k order h.rows h → n ≤ h.rows → IsCut 0 n h new → KeepsFirst w k order n new
cut_keeps w k order n h new keeps le cut = record {
  few = omega (arith, keeps.few);
  rows = subst (λ (rows : List (Row × Seed)). All (λ (entry : Row × Seed). Holds w entry.0) rows) (take-take n h.rows order le) (All-take (λ (entry : Row × Seed). Holds w entry.0) n (take h.rows order) keeps.rows);
  keeps = subst (λ (rows : List (Row × Seed)). KeepsRows w k rows new) (take-take n h.rows order le)
      (subst (λ (m : ℕ). KeepsRows w k (take m (take h.rows order)) new) all (cut_keeps_rows w k 0 n (take h.rows order) h new keeps.keeps (omega (arith, length-take h.rows order, keeps.few)) cut));
}
  where
    all : n - 0 ≡ n
    all = omega arith

-- the rows from a place on, as many as there are below another
pub first_cut : (from to place rows : ℕ) (old new : Held) → from ≡ place → to ≡ from + rows → IsCut (from - place) (to - place) old new → IsCut 0 rows old new
first_cut from to place rows old new same sum cut =
    let low : from - place ≡ 0 = omega arith in
    let high : to - place ≡ rows = omega arith in
    subst (λ (a : ℕ). IsCut a rows old new) low (subst (λ (b : ℕ). IsCut (from - place) b old new) high cut)

-- the three snapshots, each cut to the rows of the least, agree
pub agreed_of : (w : Widths) (order : List (Row × Seed)) (h0 h1 h2 g0 g1 g2 : Held) → length order ≤ 65536 → KeepsFirst w 0 order h0.rows h0 → KeepsFirst w 1 order h1.rows h1 → KeepsFirst w 2 order h2.rows h2
    → AreCuts h0 h1 h2 g0 g1 g2 → IsAgreed w order g0.rows g0 g1 g2
agreed_of w order h0 h1 h2 g0 g1 g2 few k0 k1 k2 cuts =
    let n = min (min h0.rows h1.rows) h2.rows in
    let all : n - 0 ≡ n = omega arith in
    let le0 : n ≤ h0.rows = grind (arith, nat_tests) in
    let le1 : n ≤ h1.rows = grind (arith, nat_tests) in
    let le2 : n ≤ h2.rows = grind (arith, nat_tests) in
    let zero : KeepsFirst w 0 order n g0 = cut_keeps w 0 order n h0 g0 k0 le0 cuts.zero in
    let one : KeepsFirst w 1 order n g1 = cut_keeps w 1 order n h1 g1 k1 le1 cuts.one in
    let two : KeepsFirst w 2 order n g2 = cut_keeps w 2 order n h2 g2 k2 le2 cuts.two in
    subst (λ (m : ℕ). IsAgreed w order m g0 g1 g2) (sym (cuts.zero.rows ∙ all)) (record { few = omega (arith, zero.few); zero = zero; one = one; two = two })

-- the same for an order that is kept
pub agreed_as : (w : Widths) (kept order : List (Row × Seed)) (h0 h1 h2 g0 g1 g2 : Held) → kept ≡ order → length order ≤ 65536 → KeepsFirst w 0 order h0.rows h0 → KeepsFirst w 1 order h1.rows h1 → KeepsFirst w 2 order h2.rows h2
    → AreCuts h0 h1 h2 g0 g1 g2 → IsAgreed w kept g0.rows g0 g1 g2
agreed_as w kept order h0 h1 h2 g0 g1 g2 same few k0 k1 k2 cuts = subst (λ (o : List (Row × Seed)). IsAgreed w o g0.rows g0 g1 g2) (sym same) (agreed_of w order h0 h1 h2 g0 g1 g2 few k0 k1 k2 cuts)
