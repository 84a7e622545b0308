use Rattle.std.proofs.Common.{ℕ, ◌≡◌, ◌∙◌, refl, ap, subst, List, [], ◌∷◌, ◌++◌, length, suc, ◌+◌, arith}
use Rattle.std.proofs.lemmas.Result.{IfOk-from_err}
use Rattle.list_facts.proofs.Prefixes.{prefix_self}
use Rattle.wire_line.specs.Carried.{went_both}
use Rattle.ticket_place.specs.Sights.{Seen}
use Rattle.race_play.specs.Questions.{Question, ends_of}
use Rattle.race_play.proofs.Answering.{SoFar, at_least, covered_first, ends_next, so_far_done, so_far_more, so_far_none}
use Rattle.race_play.proofs.Breaking.{began_whole, end_next, ends_first, so_far_broken, so_far_stopped}
use Rattle.race_play.specs.Seen.{NotesAll}
use Rattle.race_play.proofs.Seeing.{first_broken, first_stopped, notes_failed, notes_more, notes_none}
use Rattle.race_play.proofs.Writing.{grows_trans}
use Rattle.race_play.proofs.ask.ask_ends.Goals as goal

pub loop-q-init : goal.loop-q-init
loop-q-init g c = record {
  of = c.requires.pass;
  grows = record { order = prefix_self _; zero = prefix_self _; one = prefix_self _; two = prefix_self _ };
  own = refl;
  covered = covered_first c.args.rows c.args.pass.now c.requires.all c.requires.floor;
  seen = rw c.new-said.ensures (notes_none c.args.table.now.widths c.args.trace.now);
  asked = rw c.new-said.ensures (so_far_none g.W.Wire.sight (g.met.W.Wire.none_passes) (g.met.W.Wire.both_pass) c.args.table.now.widths c.args.rows c.args.pass.now c.args.wire.now (λ q grows agrees. at_least c.args.table.now.widths c.args.rows c.args.pass.now q c.requires.all grows agrees));
}

pub returns-in_err-line : goal.returns-in_err-line
returns-in_err-line g c =
    let i = c.loop-q.invariant in
    let e = c.ask_line.ensures in
    let h = e.asks in
    record {
      pass = e.pass;
      grows = grows_trans _ _ _ i.grows e.grows;
      own = e.own ∙ ap (λ (s : Seen). record s { order = c.ask_line.new.pass.sight.order }) i.own;
      asked = (
        _,
        went_both g.W.Wire.sight (g.met.W.Wire.both_pass) _ _ _ _ h.0 i.asked.went h.2,
        IfOk-from_err c.from_residual.result _ c.from_residual.ensures.0,
      );
      begun =
          let b = c.in_err-line.ensures.broken in
          let n = end_next c.args.queries.now c.args.master.now c.loop-q.q (length c.args.queries.now) _ c.derive-seed.result (omega arith) c.loop-q-test.true c.derive-seed.ensures in
          (so_far_broken g.W.Wire.sight g.met.W.Wire.both_pass c.args.table.now.widths c.args.rows c.loop-q.pass c.ask_line.new.pass _ _ n.0 _ c.loop-q.said
          c.args.wire.now c.loop-q.wire c.ask_line.new.wire b.0 i.asked e.grows b.2 b.1 n.1);
      seen =
          let n = end_next c.args.queries.now c.args.master.now c.loop-q.q (length c.args.queries.now) _ c.derive-seed.result (omega arith) c.loop-q-test.true c.derive-seed.ensures in
          notes_failed c.args.table.now.widths _ _ _ c.from_residual.result c.from_residual.ensures.0
          (first_broken c.args.table.now.widths _ _ n.0 _ c.loop-q.said _ _ _ _ i.seen c.in_err-line.ensures.trace_first n.1);
    }

pub returns-in_err-push : goal.returns-in_err-push
returns-in_err-push g c =
    let i = c.loop-q.invariant in
    let e = c.ask_line.ensures in
    let h = e.asks in
    record {
      pass = e.pass;
      grows = grows_trans _ _ _ i.grows e.grows;
      own = e.own ∙ ap (λ (s : Seen). record s { order = c.ask_line.new.pass.sight.order }) i.own;
      asked = (
        _,
        went_both g.W.Wire.sight (g.met.W.Wire.both_pass) _ _ _ _ h.0 i.asked.went h.2,
        IfOk-from_err c.from_residual-in_err-push.result _ c.from_residual-in_err-push.ensures.0,
      );
      begun =
          let asks = c.in_ok-line.ensures.asks in
          let next : c.loop-q.q + 1 ≡ suc c.loop-q.q = omega arith in
          let n = ends_first c.args.queries.now c.args.master.now (c.loop-q.q + 1) (length c.args.queries.now) (let lt = c.loop-q-test.true in omega arith) in
          (so_far_stopped g.W.Wire.sight g.met.W.Wire.both_pass c.args.table.now.widths c.args.rows c.ask_line.new.pass _ _ n.0 _ c.args.wire.now c.ask_line.new.wire
          (subst (λ (xs : List Question). SoFar g.W.Wire.sight c.args.table.now.widths c.args.rows c.ask_line.new.pass xs (c.loop-q.said ++ c.in_ok-line.line ∷ []) c.args.wire.now c.ask_line.new.wire)
          (ends_next c.args.queries.now c.args.master.now c.loop-q.q (c.loop-q.q + 1) _ c.derive-seed.result c.loop-q-test.true next c.derive-seed.ensures)
          (so_far_more g.W.Wire.sight (g.met.W.Wire.none_passes) (g.met.W.Wire.both_pass) c.args.table.now.widths c.args.rows c.loop-q.pass c.ask_line.new.pass _ c.loop-q.said _
          c.args.wire.now c.loop-q.wire c.ask_line.new.wire _ _ _ asks.0 asks.1 c.in_ok-line.line i.asked e.grows asks.3 asks.2 refl)) n.1);
      seen =
          let next : c.loop-q.q + 1 ≡ suc c.loop-q.q = omega arith in
          let n = ends_first c.args.queries.now c.args.master.now (c.loop-q.q + 1) (length c.args.queries.now) (let lt = c.loop-q-test.true in omega arith) in
          notes_failed c.args.table.now.widths _ _ _ c.from_residual-in_err-push.result c.from_residual-in_err-push.ensures.0
          (first_stopped c.args.table.now.widths _ _ n.0 (c.loop-q.said ++ c.in_ok-line.line ∷ []) _ _
          (subst (λ (xs : List Question). NotesAll c.args.table.now.widths xs (c.loop-q.said ++ c.in_ok-line.line ∷ []) c.args.trace.now c.ask_line.new.trace)
          (ends_next c.args.queries.now c.args.master.now c.loop-q.q (c.loop-q.q + 1) _ c.derive-seed.result c.loop-q-test.true next c.derive-seed.ensures)
          (notes_more c.args.table.now.widths _ _ c.loop-q.said _ c.in_ok-line.line _ _ _ _ i.seen c.in_ok-line.ensures.trace refl)) n.1);
    }

pub loop-q-preserved : goal.loop-q-preserved
loop-q-preserved g c =
    let i = c.loop-q.invariant in
    let e = c.in_ok-line.ensures in
    let h = e.asks in
    let next : c.loop-q.q + 1 ≡ suc c.loop-q.q = omega arith in
    record {
      of = e.pass;
      grows = grows_trans _ _ _ i.grows e.grows;
      own = e.own ∙ ap (λ (s : Seen). record s { order = c.ask_line.new.pass.sight.order }) i.own;
      covered = e.covered;
      seen = subst (λ (xs : List Question). NotesAll c.args.table.now.widths xs c.push.new.self c.args.trace.now c.ask_line.new.trace)
          (ends_next c.args.queries.now c.args.master.now c.loop-q.q (c.loop-q.q + 1) _ c.derive-seed.result c.loop-q-test.true next c.derive-seed.ensures)
          (notes_more c.args.table.now.widths _ _ c.loop-q.said _ c.in_ok-line.line _ _ _ _ i.seen e.trace c.in_ok-push.ensures);
      asked = subst (λ (xs : List Question). SoFar g.W.Wire.sight c.args.table.now.widths c.args.rows c.ask_line.new.pass xs c.push.new.self c.args.wire.now c.ask_line.new.wire)
          (ends_next c.args.queries.now c.args.master.now c.loop-q.q (c.loop-q.q + 1) _ c.derive-seed.result c.loop-q-test.true next c.derive-seed.ensures)
          (so_far_more g.W.Wire.sight (g.met.W.Wire.none_passes) (g.met.W.Wire.both_pass) c.args.table.now.widths c.args.rows c.loop-q.pass c.ask_line.new.pass _ c.loop-q.said c.push.new.self
          c.args.wire.now c.loop-q.wire c.ask_line.new.wire _ _ _ h.0 h.1 c.in_ok-line.line i.asked e.grows h.3 h.2 c.in_ok-push.ensures);
    }

pub returns : goal.returns
returns g c =
    let i = c.loop-q.invariant in
    let e : c.loop-q.q ≡ length c.args.queries.now = omega (arith, c.loop-q-test.false, c.loop-q.auto.q-end) in
    let d = so_far_done g.W.Wire.sight g.met.W.Wire.none_passes g.met.W.Wire.both_pass c.args.table.now.widths c.args.rows c.loop-q.pass _
    (ends_of c.args.queries.now c.args.master.now (length c.args.queries.now)) c.loop-q.said c.args.wire.now c.loop-q.wire i.asked
    (ap (ends_of c.args.queries.now c.args.master.now) e) in
    record {
      pass = i.of;
      grows = i.grows;
      own = i.own;
      asked = d;
      begun = (d.0, d.1, began_whole _ _ _ _ _ _ d.2);
      seen = subst (λ (n : ℕ). NotesAll c.args.table.now.widths (ends_of c.args.queries.now c.args.master.now n) c.loop-q.said c.args.trace.now c.loop-q.trace) e i.seen;
    }
