use Rattle.table_schema.specs.declared.schema.Column.{Column}
use Rattle.query_plan.proofs.Legal.{one_more}
use Rattle.std.proofs.Common.{◌≡◌, ◌∙◌, ◌<◌, ◌≤◌, ◌+◌, map, length, length-set, take, Some, Ok, arith, rules}
use Rattle.std.specs.Option.{option_copied}
use Rattle.text_reading.specs.Cut.{cut_at, pieces, pieces_left}
use Rattle.query_plan.specs.Reading.{aggregate_of, predicate_of, predicates_from, query_of}
use Rattle.query_plan.proofs.QueryLaws.{too_few, too_many, good_predicate, fewer_left}
use Rattle.query_plan.proofs.read.read_bytes.Goals as goal
use Rattle.query_plan.proofs.read.read_bytes.Goals.{then-had-lt1-via-then-had-lt1, then-had-lt1-via-else-had-lt1+then-had-gt-MOST_PREDICATES}

pub returns-then-had-lt1-clause-exact : goal.returns-then-had-lt1-clause-exact
returns-then-had-lt1-clause-exact c =
    let text = c.args.text.now in
    let word : aggregate_of (cut_at 32 text).0 ≡ Some c.in-Some.aggregate = search rules in
    let had : c.count_left-had.result ≡ length (pieces_left 32 (cut_at 32 text).1) = search rules in
    rw had (elim c.then-had-lt1.branch [
      | then-had-lt1-via-then-had-lt1 w ↦
          let h : length (pieces_left 32 (cut_at 32 text).1) < 1 = omega (arith, had, w.if-had-lt1.true) in
          too_few c.args.schema.now text c.in-Some.aggregate word h
      | then-had-lt1-via-else-had-lt1+then-had-gt-MOST_PREDICATES w ↦
          let h : 4 < length (pieces_left 32 (cut_at 32 text).1) = omega (arith, had, w.if-had-gt-MOST_PREDICATES.true) in
          too_many c.args.schema.now text c.in-Some.aggregate word h
    ])

pub loop-rest-preserved : goal.loop-rest-preserved
loop-rest-preserved c =
    let q = c.loop-rest.query in
    let bytes = c.in-Some-rest.bytes.now in
    let after : option_copied c.cut-in-Some-rest.result.1 ≡ (cut_at 32 bytes).1 = c.cut-in-Some-rest.ensures.after in
    let front : c.cut-in-Some-rest.result.0.now ≡ (cut_at 32 bytes).0 = c.cut-in-Some-rest.ensures.front in
    let read : predicate_of c.args.schema.now (take q.count q.predicates) (cut_at 32 bytes).0 ≡ Ok c.in-Ok.p = rw front at c.in-Ok.ensures.exact in
    let so_far : predicates_from c.args.schema.now q (pieces 32 bytes) ≡ query_of c.args.schema.now c.args.text.now = rw c.in-Some-rest.is at c.loop-rest.invariant.reads in
    let few : q.count + length (pieces 32 bytes) ≤ 4 = rw c.in-Some-rest.is at c.loop-rest.invariant.few in
    record {
      reads = rw after (good_predicate c.args.schema.now q bytes c.in-Ok.p read ∙ so_far);
      few = rw after (omega (arith, fewer_left bytes, few));
      some = rw after (omega (arith, fewer_left bytes, c.loop-rest.invariant.few));
      size = length-set q.predicates q.count c.in-Ok.p ∙ c.loop-rest.invariant.size;
      placed = one_more (length c.args.schema.now) (map (λ (k : Column). k.bits) c.args.schema.now) q c.in-Ok.p c.loop-rest.invariant.size
          (omega (arith, fewer_left bytes, few)) c.loop-rest.invariant.placed c.in-Ok.ensures.next;
    }
