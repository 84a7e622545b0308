use Rattle.std.proofs.Common.{◌≡◌, ◌∙◌, ◌<◌, length, length-set, Some, Ok, rules}
use Rattle.csv.specs.Records.{fields_of}
use Rattle.table_schema.specs.Column.{bucket_at}
use Rattle.row_source.specs.Rows.{number_field}
use Rattle.row_source.proofs.RowLaws.{next_bucket}
use Rattle.row_source.proofs.record.row_in.Goals as goal

pub loop-c-preserved : goal.loop-c-preserved
loop-c-preserved c =
    let lt : c.loop-c.c < length c.args.schema.now = search rules in
    let number : number_field c.field.result.now ≡ Ok c.in-Ok.raw = search rules in
    let bucket : bucket_at c.args.schema.now c.loop-c.c c.in-Ok.raw ≡ Some c.in-Some.bucket = search rules in
    record {
      size = length-set c.loop-c.buckets c.loop-c.c c.in-Some.bucket ∙ c.loop-c.invariant.size;
      reads = next_bucket c.args.schema.now (fields_of c.args.line.now) c.loop-c.c c.loop-c.buckets c.field.result.now c.in-Ok.raw c.in-Some.bucket lt c.field.ensures number bucket ∙ c.loop-c.invariant.reads;
    }
