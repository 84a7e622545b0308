-- The messages over the shelves of an agreement are those over the rows of the order.
use Rattle.std.proofs.Common.{◌≡◌, ◌∙◌, sym, subst, ℕ, zero, suc, ◌+◌, ◌%◌, ◌<◌, ◌≤◌, List, [], take, arith}
use Rattle.std.proofs.lemmas.List.{length-take-le}
use Rattle.std.proofs.lemmas.List.Elements.{All-weaker}
use Rattle.onehot_column.specs.Code.{width_of}
use Rattle.prg_chacha.specs.declared.seed.Seed.{Seed}
use Rattle.query_plan.specs.Query.{shaped}
use Rattle.query_plan.specs.declared.query.Query.{Query}
use Rattle.scan_chunks.specs.Laws.{GoOn}
use Rattle.scan_chunks.specs.Pieces.{Pieces}
use Rattle.scan_chunks.specs.Shelf.{Held}
use Rattle.server_rounds.specs.Groups.{by_server}
use Rattle.server_rounds.specs.Shelves.{AreShelves, pieces_of, rows_of}
use Rattle.table_schema.specs.declared.rows.Row.{Row}
use Rattle.table_schema.specs.declared.widths.Widths.{Widths}
use Rattle.transcript.specs.Laws.{HasColumns, SamePieces}
use Rattle.transcript.specs.Rows.{cells_over, pieces_over}
use Rattle.transcript.specs.Setup.{Setup}
use Rattle.transcript.specs.Formulas.{setup_for}
use Rattle.transcript.specs.Transcript.{IsPart, IsTranscript}
use Rattle.transcript.proofs.Agree.{columns_suffice, total_sees_columns}
use Rattle.wire_line.specs.declared.message.Message.{Message}
use Rattle.agreed_rows.specs.Agreed.{IsAgreed}
use Rattle.agreed_rows.specs.Servers.{KeepsFirst}
use Rattle.agreed_rows.specs.Shelves.{ArePartsOf, AreRowsOf}

-- ---- one server's shelves

-- the parts of a whole shelf of n rows are shelves of these rows
pub are_shelves : (w : Widths) (n : ℕ) (whole : Held) (parts : List Held) → AreRowsOf w n whole → ArePartsOf whole parts → AreShelves w n parts
are_shelves w n whole parts rows of = record {
  count = sym ((of.rows 0 (omega arith)).count) ∙ rows.rows;
  columns = All-weaker (λ (h : Held). h.columns ≡ whole.columns) (λ (h : Held). h.columns ≡ w.columns) (λ h e. e ∙ rows.columns) parts of.columns;
  wide = λ column le. All-weaker (λ (h : Held). h.width column ≡ whole.width column) (λ (h : Held). h.width column ≡ width_of w column) (λ h e. e ∙ rows.width column le) parts
      (of.rows column (omega (arith, rows.columns))).wide;
  order = subst (λ (s : ℕ). GoOn s parts) rows.start of.order;
}

-- the parts have as many rows as the whole shelf
pub are_shelves_of : (w : Widths) (n m : ℕ) (whole : Held) (parts : List Held) → AreRowsOf w n whole → ArePartsOf whole parts → m ≡ n → AreShelves w m parts
are_shelves_of w n m whole parts rows of same = subst (λ (k : ℕ). AreShelves w k parts) (sym same) (are_shelves w n whole parts rows of)

pub rows_are : (w : Widths) (n : ℕ) (whole : Held) (parts : List Held) → AreRowsOf w n whole → ArePartsOf whole parts → rows_of parts ≡ n
rows_are w n whole parts rows of = (are_shelves w n whole parts rows of).count

-- the parts have the pieces of the wholes
pub same_parts : (w : Widths) (n : ℕ) (h0 h1 h2 : Held) (s0 s1 s2 : List Held) → AreRowsOf w n h0 → AreRowsOf w n h1 → AreRowsOf w n h2
    → ArePartsOf h0 s0 → ArePartsOf h1 s1 → ArePartsOf h2 s2
    → SamePieces w.columns (by_server (pieces_of s0) (pieces_of s1) (pieces_of s2)) (by_server h0.pieces h1.pieces h2.pieces)
same_parts w n h0 h1 h2 s0 s1 s2 r0 r1 r2 p0 p1 p2 = record { first = first; second = second }
  where
    first : (k column : ℕ) → k < 3 → column ≤ w.columns → (by_server (pieces_of s0) (pieces_of s1) (pieces_of s2) k).first column ≡ (by_server h0.pieces h1.pieces h2.pieces k).first column
    first zero column lt le = sym (p0.rows column (omega (arith, r0.columns))).firsts
    first (suc zero) column lt le = sym (p1.rows column (omega (arith, r1.columns))).firsts
    first (suc (suc k)) column lt le = sym (p2.rows column (omega (arith, r2.columns))).firsts

    second : (k column : ℕ) → k < 3 → column ≤ w.columns → (by_server (pieces_of s0) (pieces_of s1) (pieces_of s2) k).second column ≡ (by_server h0.pieces h1.pieces h2.pieces k).second column
    second zero column lt le = sym (p0.rows column (omega (arith, r0.columns))).seconds
    second (suc zero) column lt le = sym (p1.rows column (omega (arith, r1.columns))).seconds
    second (suc (suc k)) column lt le = sym (p2.rows column (omega (arith, r2.columns))).seconds

-- messages over other pieces that are the same at the columns
pub over_same : (query : Query) (w : Widths) (seed : Seed) (m n : ℕ) (pieces other : ℕ → Pieces) (ms : List Message) → m ≡ n
    → HasColumns (record { rows = n; widths = w; shape = shaped query }) → SamePieces w.columns pieces other
    → IsPart (setup_for query w seed m pieces) ms → IsPart (setup_for query w seed n other) ms
over_same query w seed m n pieces other ms many columns same part =
    let here : IsPart (setup_for query w seed n pieces) ms = subst (λ (k : ℕ). IsPart (setup_for query w seed k pieces) ms) many part in
    columns_suffice (setup_for query w seed n pieces) other ms columns (total_sees_columns (record { rows = n; widths = w; shape = shaped query })) same here

pub all_over_same : (query : Query) (w : Widths) (seed : Seed) (m n : ℕ) (pieces other : ℕ → Pieces) (ms : List Message) → m ≡ n
    → HasColumns (record { rows = n; widths = w; shape = shaped query }) → SamePieces w.columns pieces other
    → IsTranscript (setup_for query w seed m pieces) ms → IsTranscript (setup_for query w seed n other) ms
all_over_same query w seed m n pieces other ms many columns same all = record {
  part = over_same query w seed m n pieces other ms many columns same all.part;
  full = all.full;
}

-- ---- the rows of the order

-- a shelf that keeps the first n rows has n rows
pub are_rows : (w : Widths) (k : ℕ) (order : List (Row × Seed)) (n : ℕ) (h : Held) → KeepsFirst w k order n h → AreRowsOf w n h
are_rows w k order n h keeps = record {
  rows = keeps.keeps.rows ∙ length-take-le n order keeps.few;
  start = keeps.keeps.start;
  columns = keeps.keeps.columns;
  width = keeps.keeps.width;
}

-- the pieces of an agreement are those of the first rows
pub same_rows : (w : Widths) (order : List (Row × Seed)) (n : ℕ) (h0 h1 h2 : Held) → IsAgreed w order n h0 h1 h2
    → SamePieces w.columns (by_server h0.pieces h1.pieces h2.pieces) (pieces_over w (take n order))
same_rows w order n h0 h1 h2 on = record { first = first; second = second }
  where
    first : (k column : ℕ) → k < 3 → column ≤ w.columns → (by_server h0.pieces h1.pieces h2.pieces k).first column ≡ cells_over w k (take n order) column
    first zero column lt le = on.zero.keeps.first column le
    first (suc zero) column lt le = on.one.keeps.first column le
    first (suc (suc zero)) column lt le = on.two.keeps.first column le
    first (suc (suc (suc k))) column lt le = absurd (omega arith)

    second : (k column : ℕ) → k < 3 → column ≤ w.columns → (by_server h0.pieces h1.pieces h2.pieces k).second column ≡ cells_over w ((k + 1) % 3) (take n order) column
    second zero column lt le = on.zero.keeps.second column le
    second (suc zero) column lt le = on.one.keeps.second column le
    second (suc (suc zero)) column lt le = on.two.keeps.second column le
    second (suc (suc (suc k))) column lt le = absurd (omega arith)

-- no message is part of any query's
pub no_part : (s : Setup) → IsPart s []
no_part s = record { few = omega arith; keys = λ k h b. absurd (omega (arith, b)); steps = λ run step k two h b carried. absurd (omega (arith, carried)) }
