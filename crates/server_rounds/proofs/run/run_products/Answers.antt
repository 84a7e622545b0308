use Rattle.std.proofs.Common.{◌≡◌, ◌∙◌, ◌<◌, ◌≤◌, ◌+◌, ◌++◌, ap, rules, arith}
use Rattle.wire_line.specs.Carried.{went_both}
use Rattle.transcript.specs.Setup.{Sizes, column_of, count_of}
use Rattle.server_rounds.proofs.Runs.{first_part, so_far_first, predicate_part, so_far_more}
use Rattle.server_rounds.proofs.Visiting.{all_first, all_more}
use Rattle.visit_trace.specs.Growing.{by_stopped}
use Rattle.server_rounds.proofs.Noting.{predicates_begun, predicates_first, predicates_more}
use Rattle.server_rounds.proofs.run.run_products.Goals as goal

pub returns-in_err-product-clause-messages : goal.returns-in_err-product-clause-messages
returns-in_err-product-clause-messages g c =
    let b = c.in_err-product.ensures.messages in
    let some : 0 < count_of c.args.ready.now.plan = omega (arith, c.count-count.ensures.some, c.count-count.ensures.value) in
    (b.0, b.1, λ ending. first_part _ ending _ _ _ b.0 c.requires.run some b.2, search rules)

pub loop-j-init : goal.loop-j-init
loop-j-init g c =
    let b = c.in_ok-product.ensures.messages in
    let some : 0 < count_of c.args.ready.now.plan = omega (arith, c.count-count.ensures.some, c.count-count.ensures.value) in
    record {
      zero = c.in_ok-product.ensures.zero;
      one = c.in_ok-product.ensures.one;
      two = c.in_ok-product.ensures.two;
      plan = c.in_ok-product.ensures.plan;
      run = c.in_ok-product.ensures.run;
      j = omega (arith, c.in_ok-product.ensures.j);
      visits = c.in_ok-product.ensures.visits;
      trace = c.in_ok-product.ensures.trace;
      messages = (b.0, b.1, so_far_first _ _ _ _ _ b.0 c.requires.run some b.2 b.3);
    }

pub next_predicate-requires-clause-began : goal.next_predicate-requires-clause-began
next_predicate-requires-clause-began g c κs within = c.loop-j.invariant.plan

pub next_predicate-requires-clause-left : goal.next_predicate-requires-clause-left
next_predicate-requires-clause-left g c κs within =
    omega (arith, c.loop-j.invariant.j, ap (λ (z : Sizes). count_of z) c.loop-j.invariant.plan, c.loop-j-test.true, c.count-count.ensures.value)

pub next_predicate-requires-clause-zero : goal.next_predicate-requires-clause-zero
next_predicate-requires-clause-zero g c κs within = rw (c.loop-j.invariant.plan, c.loop-j.invariant.zero) c.requires.zero

pub next_predicate-requires-clause-one : goal.next_predicate-requires-clause-one
next_predicate-requires-clause-one g c κs within = rw (c.loop-j.invariant.plan, c.loop-j.invariant.one) c.requires.one

pub next_predicate-requires-clause-two : goal.next_predicate-requires-clause-two
next_predicate-requires-clause-two g c κs within = rw (c.loop-j.invariant.plan, c.loop-j.invariant.two) c.requires.two

pub returns-in_err-product-2-clause-zero : goal.returns-in_err-product-2-clause-zero
returns-in_err-product-2-clause-zero g c = c.in_err-product-2.ensures.zero ∙ c.loop-j.invariant.zero

pub returns-in_err-product-2-clause-one : goal.returns-in_err-product-2-clause-one
returns-in_err-product-2-clause-one g c = c.in_err-product-2.ensures.one ∙ c.loop-j.invariant.one

pub returns-in_err-product-2-clause-two : goal.returns-in_err-product-2-clause-two
returns-in_err-product-2-clause-two g c = c.in_err-product-2.ensures.two ∙ c.loop-j.invariant.two

pub returns-in_err-product-2-clause-messages : goal.returns-in_err-product-2-clause-messages
returns-in_err-product-2-clause-messages g c =
    let i = c.loop-j.invariant in
    let m = rw (i.zero, i.one, i.two, i.plan, i.run, i.j) at c.in_err-product-2.ensures.messages in
    let some : c.loop-j._j < count_of c.args.ready.now.plan = omega (arith, c.loop-j-test.true, c.count-count.ensures.value) in
    let went = went_both g.W.Wire.sight g.met.W.Wire.both_pass _ _ _ i.messages.0 m.0 i.messages.1 m.1 in
    (i.messages.0 ++ m.0, went, λ ending. predicate_part _ ending _ _ _ _ _ i.messages.0 m.0 c.requires.run some i.messages.2 m.2.0, search rules)

pub loop-j-preserved : goal.loop-j-preserved
loop-j-preserved g c =
    let i = c.loop-j.invariant in
    let m = rw (i.zero, i.one, i.two, i.plan, i.run, i.j) at c.in_ok-product-2.ensures.messages in
    let some : c.loop-j._j < count_of c.args.ready.now.plan = omega (arith, c.loop-j-test.true, c.count-count.ensures.value) in
    let went = went_both g.W.Wire.sight g.met.W.Wire.both_pass _ _ _ i.messages.0 m.0 i.messages.1 m.1 in
    record {
      zero = c.in_ok-product-2.ensures.zero ∙ i.zero;
      one = c.in_ok-product-2.ensures.one ∙ i.one;
      two = c.in_ok-product-2.ensures.two ∙ i.two;
      plan = c.in_ok-product-2.ensures.plan ∙ i.plan;
      run = c.in_ok-product-2.ensures.run ∙ i.run;
      j = omega (arith, c.in_ok-product-2.ensures.j, i.j);
      visits =
          all_more g.S.Shelf.held g.S.Shelf.visited c.loop-j._j (column_of c.args.ready.now.plan) _ _ _ _ _ i.zero i.one i.two i.visits
          (rw (i.plan, i.j) at c.in_ok-product-2.ensures.visits);
      trace =
          let some : 0 < c.loop-j._j = omega (arith, i.j) in
          predicates_more c.args.ready.now.plan c.loop-j._j _ _ _ some i.trace (rw (i.plan, i.j) at c.in_ok-product-2.ensures.trace);
      messages = (i.messages.0 ++ m.0, went, so_far_more _ _ _ _ _ _ _ i.messages.0 m.0 c.requires.run some i.messages.2 m.2.0 m.2.1);
    }

pub returns-clause-zero : goal.returns-clause-zero
returns-clause-zero g c = c.loop-j.invariant.zero

pub returns-clause-one : goal.returns-clause-one
returns-clause-one g c = c.loop-j.invariant.one

pub returns-clause-two : goal.returns-clause-two
returns-clause-two g c = c.loop-j.invariant.two

pub returns-clause-last : goal.returns-clause-last
returns-clause-last g c =
    omega (arith, c.loop-j.invariant.j, c.loop-j-test.false, c.count-count.ensures.value, c.count-count.ensures.some, c.loop-j.auto._j-end)

pub returns-clause-messages : goal.returns-clause-messages
returns-clause-messages g c =
    let i = c.loop-j.invariant in
    let all : c.loop-j._j ≡ count_of c.args.ready.now.plan = omega (arith, c.loop-j-test.false, c.count-count.ensures.value, c.count-count.ensures.some, c.loop-j.auto._j-end) in
    let so = rw all at i.messages.2 in
    (i.messages.0, i.messages.1, so.part, so)

pub returns-in_err-product-clause-visits : goal.returns-in_err-product-clause-visits
returns-in_err-product-clause-visits g c =
    let some : 1 ≤ count_of c.args.ready.now.plan = omega (arith, c.count-count.ensures.some, c.count-count.ensures.value) in
    all_first g.S.Shelf.held g.S.Shelf.visited 1 (count_of c.args.ready.now.plan) (column_of c.args.ready.now.plan) _ _ _ _ some c.from_residual.ensures.0 c.in_err-product.ensures.visits

pub returns-in_err-product-2-clause-visits : goal.returns-in_err-product-2-clause-visits
returns-in_err-product-2-clause-visits g c =
    let i = c.loop-j.invariant in
    let columns = column_of c.args.ready.now.plan in
    let some : c.loop-j._j + 1 ≤ count_of c.args.ready.now.plan = omega (arith, c.loop-j-test.true, c.count-count.ensures.value) in
    let more = all_more g.S.Shelf.held g.S.Shelf.visited c.loop-j._j columns _ _ _ _ _ i.zero i.one i.two i.visits (rw (i.plan, i.j) at c.in_err-product-2.ensures.visits) in
    all_first g.S.Shelf.held g.S.Shelf.visited (c.loop-j._j + 1) (count_of c.args.ready.now.plan) columns _ _ _ _ some c.from_residual-in_err-product-2.ensures.0 more

pub returns-clause-visits : goal.returns-clause-visits
returns-clause-visits g c =
    let all : c.loop-j._j ≡ count_of c.args.ready.now.plan = omega (arith, c.loop-j-test.false, c.count-count.ensures.value, c.count-count.ensures.some, c.loop-j.auto._j-end) in
    rw all at c.loop-j.invariant.visits

pub returns-in_err-product-clause-trace : goal.returns-in_err-product-clause-trace
returns-in_err-product-clause-trace g c =
    let some : 1 ≤ count_of c.args.ready.now.plan = omega (arith, c.count-count.ensures.some, c.count-count.ensures.value) in
    by_stopped _ _ _ _ c.from_residual.ensures.0 (predicates_first c.args.ready.now.plan 1 (count_of c.args.ready.now.plan) _ _ some c.in_err-product.ensures.trace)

pub returns-in_err-product-2-clause-trace : goal.returns-in_err-product-2-clause-trace
returns-in_err-product-2-clause-trace g c =
    let i = c.loop-j.invariant in
    let z = c.args.ready.now.plan in
    let j = c.loop-j._j in
    let some : 0 < j = omega (arith, i.j) in
    let more : j + 1 ≤ count_of z = omega (arith, c.loop-j-test.true, c.count-count.ensures.value) in
    by_stopped _ _ _ _ c.from_residual-in_err-product-2.ensures.0
    (predicates_first z (j + 1) (count_of z) _ _ more (predicates_begun z j _ _ _ some i.trace (rw (i.plan, i.j) at c.in_err-product-2.ensures.trace)))

pub returns-clause-trace : goal.returns-clause-trace
returns-clause-trace g c =
    let all : c.loop-j._j ≡ count_of c.args.ready.now.plan = omega (arith, c.loop-j-test.false, c.count-count.ensures.value, c.count-count.ensures.some, c.loop-j.auto._j-end) in
    rw all at c.loop-j.invariant.trace
