use Rattle.std.proofs.Common.{inr, ◌≡◌, ◌∙◌, ◌<◌, ◌≤◌, ◌+◌, sym, ap, true, false, [], None, Some, length, arith, rules}
use Rattle.csv.specs.Records.{fields_of}
use Rattle.row_source.specs.Left.{Took, left}
use Rattle.row_source.specs.Progress.{rest_of}
use Rattle.row_source.specs.Rows.{input_records, is_header}
use Rattle.row_source.proofs.ReadLaws.{no_records, no_header, rows_are, rows_done, too_many}
use Rattle.row_source.proofs.read.all_rows.Goals as goal

pub returns-then-not-branch : goal.returns-then-not-branch
returns-then-not-branch c =
    let t : Took false c.open-reader.result (fields_of c.next_record.new.line) c.next_record.new.reader = rw c.if-not-branch.true at c.in_ok-next_record.ensures in
    inr (no_records c.args.schema.now c.args.capacity (input_records c.args.bytes.now) (sym c.open-reader.ensures.left ∙ t))

pub returns-then-not-is_header_row : goal.returns-then-not-is_header_row
returns-then-not-is_header_row c =
    let t : Took true c.open-reader.result (fields_of c.next_record.new.line) c.next_record.new.reader = rw c.if-not-branch.false at c.in_ok-next_record.ensures in
    let h : is_header c.args.schema.now (fields_of c.next_record.new.line) ≡ false = search rules in
    inr (no_header c.args.schema.now c.args.capacity (input_records c.args.bytes.now) (fields_of c.next_record.new.line) (left c.next_record.new.reader) (sym c.open-reader.ensures.left ∙ t.1) h)

pub returns-then-count-capacity : goal.returns-then-count-capacity
returns-then-count-capacity c =
    let t : Took true c.open-reader.result (fields_of c.next_record.new.line) c.next_record.new.reader = rw c.if-not-branch.false at c.in_ok-next_record.ensures in
    let h : is_header c.args.schema.now (fields_of c.next_record.new.line) ≡ true = search rules in
    let u : Took true c.records.reader (fields_of c.next_record-in-records.new.line) c.next_record-in-records.new.reader = rw c.if-branch.true at c.in_ok-next_record-2.ensures in
    let size : length (left c.records.reader) ≡ length (left c.next_record-in-records.new.reader) + 1 = ap length u.1 ∙ omega arith in
    let many : c.args.capacity < length (rest_of (input_records c.args.bytes.now)) = omega (arith, size, c.records.invariant.counted, c.if-count-capacity.true) in
    inr (too_many c.args.schema.now c.args.capacity (input_records c.args.bytes.now) (fields_of c.next_record.new.line) (left c.next_record.new.reader) (sym c.open-reader.ensures.left ∙ t.1) h many)

pub returns-in-None : goal.returns-in-None
returns-in-None c =
    let t : Took true c.open-reader.result (fields_of c.next_record.new.line) c.next_record.new.reader = rw c.if-not-branch.false at c.in_ok-next_record.ensures in
    let h : is_header c.args.schema.now (fields_of c.next_record.new.line) ≡ true = search rules in
    let none : left c.records.reader ≡ [] = rw c.if-branch.false at c.in_ok-next_record-2.ensures in
    let few : length (rest_of (input_records c.args.bytes.now)) ≤ c.args.capacity = omega (arith, ap length none, c.records.invariant.counted, c.records.invariant.few) in
    let all = rows_are c.args.schema.now c.args.capacity (input_records c.args.bytes.now) (fields_of c.next_record.new.line) (left c.next_record.new.reader) (sym c.open-reader.ensures.left ∙ t.1) h few in
    let bad : c.records.bad ≡ None = c.in-None.is in
    all ∙ sym (rw (none, bad) at c.records.invariant.reads) ∙ rows_done c.args.schema.now c.records.rows.items

pub returns : goal.returns
returns c =
    let t : Took true c.open-reader.result (fields_of c.next_record.new.line) c.next_record.new.reader = rw c.if-not-branch.false at c.in_ok-next_record.ensures in
    let h : is_header c.args.schema.now (fields_of c.next_record.new.line) ≡ true = search rules in
    let none : left c.records.reader ≡ [] = rw c.if-branch.false at c.in_ok-next_record-2.ensures in
    let few : length (rest_of (input_records c.args.bytes.now)) ≤ c.args.capacity = omega (arith, ap length none, c.records.invariant.counted, c.records.invariant.few) in
    let all = rows_are c.args.schema.now c.args.capacity (input_records c.args.bytes.now) (fields_of c.next_record.new.line) (left c.next_record.new.reader) (sym c.open-reader.ensures.left ∙ t.1) h few in
    let bad : c.records.bad ≡ Some c.in-Some.why = c.in-Some.is in
    let size : c.len.result ≡ length c.records.rows.items = search rules in
    rw size (inr (all ∙ sym (rw bad at c.records.invariant.reads)))
