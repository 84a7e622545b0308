use Rattle.std.proofs.Common.{rules, inr, ◌≡◌, ◌∙◌, sym, ◌<◌, ◌≤◌, ◌+◌, ◌∷◌, ◌++◌, [], true, false, Ok, length, arith}
use Rattle.std.specs.Option.{option_copied}
use Rattle.std.specs.Result.{is_ok}
use Rattle.text_reading.specs.Cut.{cut_at, pieces}
use Rattle.table_schema.specs.Limits.{most_columns}
use Rattle.table_schema.specs.Schema.{column_of, has_name, columns_from, schema_of}
use Rattle.table_schema.specs.declared.schema.Column.{Column}
use Rattle.table_schema.proofs.SchemaLaws.{repeated_piece, step_on, step_fewer, step_fits}
use Rattle.table_schema.proofs.read.read_schema.Goals as goal

pub returns-then-is_taken : goal.returns-then-is_taken
returns-then-is_taken c =
    let k : Column = record { name = c.in-Ok.parts.0.now; bits = c.in-Ok.parts.1; start = c.in-Ok.parts.2; step = c.in-Ok.parts.3 } in
    let read : column_of (cut_at 44 c.in-Some.bytes.now).0 ≡ Ok k = search rules in
    let taken : has_name k.name c.loop-rest.columns.items ≡ true = search rules in
    let so_far : columns_from c.loop-rest.columns.items (pieces 44 c.in-Some.bytes.now) ≡ schema_of c.args.text.now = rw c.in-Some.is at c.loop-rest.invariant.reads in
    let e = repeated_piece c.loop-rest.columns.items c.in-Some.bytes.now k read taken in
    let index : c.len-index.result ≡ length c.loop-rest.columns.items = search rules in
    rw index (inr (sym so_far ∙ e))

pub loop-rest-preserved : goal.loop-rest-preserved
loop-rest-preserved c =
    let good : is_ok c.push.result ≡ true = search rules in
    let k : Column = record { name = c.in_ok-name.name; bits = c.in-Ok.parts.1; start = c.in-Ok.parts.2; step = c.in-Ok.parts.3 } in
    let items : c.push.new.self.items ≡ c.loop-rest.columns.items ++ k ∷ [] = rw good at c.push.ensures.items in
    let name : c.in_ok-name.name ≡ c.in-Ok.parts.0.now = search rules in
    let read : column_of c.cut.result.0.now ≡ Ok k = rw name (search rules) in
    let fresh : has_name k.name c.loop-rest.columns.items ≡ false = rw name (search rules) in
    let so_far : columns_from c.loop-rest.columns.items (pieces 44 c.in-Some.bytes.now) ≡ schema_of c.args.text.now = rw c.in-Some.is at c.loop-rest.invariant.reads in
    let fewer = step_fewer c.loop-rest.columns.items c.push.new.self.items c.in-Some.bytes.now (option_copied c.cut.result.1) k c.cut.ensures.after items in
    let few : length c.loop-rest.columns.items + length (pieces 44 c.in-Some.bytes.now) ≤ most_columns = rw c.in-Some.is at c.loop-rest.invariant.few in
    let some : 0 < length c.loop-rest.columns.items + length (pieces 44 c.in-Some.bytes.now) = rw c.in-Some.is at c.loop-rest.invariant.some in
    record {
      reads = step_on c.loop-rest.columns.items c.push.new.self.items c.in-Some.bytes.now c.cut.result.0.now (option_copied c.cut.result.1) k (schema_of c.args.text.now) c.cut.ensures.front c.cut.ensures.after read fresh items so_far;
      some = omega (arith, fewer, some);
      few = omega (arith, fewer, few);
      fit = step_fits c.loop-rest.columns.items c.push.new.self.items c.cut.result.0.now k read items c.loop-rest.invariant.fit;
    }
