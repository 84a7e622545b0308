use Rattle.std.proofs.Common.{◌≡◌, ◌∙◌, sym, refl, true, false, rules}
use Rattle.std.specs.Str.{bytes_eq}
use Rattle.csv.specs.Records.{fields_of}
use Rattle.row_source.proofs.HeaderLaws.{header_next}
use Rattle.row_source.proofs.record.is_header_row.Goals as goal

pub returns-then-ne : goal.returns-then-ne
returns-then-ne c =
    let same : bytes_eq c.field.result.now c.column.result.now.name ≡ false = search rules in
    let e = header_next c.args.schema.now (fields_of c.args.line.now) c.loop-c.c c.column.result.now c.field.result.now c.column.ensures c.field.ensures in
    sym (sym c.loop-c.invariant ∙ e ∙ rw same refl)

pub loop-c-preserved : goal.loop-c-preserved
loop-c-preserved c =
    let same : bytes_eq c.field.result.now c.column.result.now.name ≡ true = search rules in
    let e = header_next c.args.schema.now (fields_of c.args.line.now) c.loop-c.c c.column.result.now c.field.result.now c.column.ensures c.field.ensures in
    sym (rw same at e) ∙ c.loop-c.invariant
