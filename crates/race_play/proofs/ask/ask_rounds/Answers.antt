use Rattle.std.proofs.Common.{ℕ, ◌≡◌, ◌∙◌, refl, ap, subst, List, [], ◌∷◌, ◌++◌, suc, ◌+◌, arith}
use Rattle.std.proofs.lemmas.Result.{IfOk-from_err}
use Rattle.list_facts.proofs.Prefixes.{prefix_self}
use Rattle.wire_line.specs.Carried.{went_both}
use Rattle.ticket_place.specs.Sights.{Seen}
use Rattle.race_play.specs.Questions.{Question, rounds_of}
use Rattle.race_play.proofs.Answering.{SoFar, rounds_next, so_far_done, so_far_more, so_far_none}
use Rattle.race_play.proofs.Breaking.{began_whole, round_next, rounds_first, so_far_broken, so_far_stopped}
use Rattle.race_play.specs.Seen.{NotesAll}
use Rattle.race_play.proofs.Seeing.{first_broken, first_stopped, notes_failed, notes_more, notes_none}
use Rattle.race_play.proofs.Writing.{grows_trans}
use Rattle.race_play.proofs.ask.ask_rounds.Goals as goal

pub loop-round-init : goal.loop-round-init
loop-round-init g c = record {
  of = c.requires.of;
  grows = record { order = prefix_self _; zero = prefix_self _; one = prefix_self _; two = prefix_self _ };
  own = refl;
  covered = c.requires.covered;
  seen = rw c.new-said.ensures (notes_none c.args.table.now.widths c.args.trace.now);
  asked = rw c.new-said.ensures (so_far_none g.W.Wire.sight (g.met.W.Wire.none_passes) (g.met.W.Wire.both_pass) c.args.table.now.widths 0 c.args.pass.now c.args.wire.now (λ q grows agrees. omega arith));
}

pub returns-in_err-line : goal.returns-in_err-line
returns-in_err-line g c =
    let i = c.loop-round.invariant in
    let e = c.ask_round.ensures in
    let h = e.asks in
    record {
      of = e.pass;
      grows = grows_trans _ _ _ i.grows e.grows;
      own = e.own ∙ ap (λ (s : Seen). record s { order = c.ask_round.new.pass.sight.order }) i.own;
      asked = (
        _,
        went_both g.W.Wire.sight (g.met.W.Wire.both_pass) _ _ _ _ h.0 i.asked.went h.2,
        IfOk-from_err c.from_residual.result _ c.from_residual.ensures.0,
      );
      begun =
          let b = c.in_err-line.ensures.broken in
          let n = round_next c.args.queries.now c.args.master.now c.args.asker c.loop-round.round c.args.crew.now.rounds _ c.requires.legal.some c.loop-round-test.true in
          so_far_broken g.W.Wire.sight g.met.W.Wire.both_pass c.args.table.now.widths 0 c.loop-round.pass c.ask_round.new.pass _ _ n.0 _ c.loop-round.said
          c.args.wire.now c.loop-round.wire c.ask_round.new.wire b.0 i.asked e.grows b.2 b.1 n.1;
      seen =
          let n = round_next c.args.queries.now c.args.master.now c.args.asker c.loop-round.round c.args.crew.now.rounds _ c.requires.legal.some c.loop-round-test.true in
          notes_failed c.args.table.now.widths _ _ _ c.from_residual.result c.from_residual.ensures.0
          (first_broken c.args.table.now.widths _ _ n.0 _ c.loop-round.said _ _ _ _ i.seen c.in_err-line.ensures.trace_first n.1);
    }

pub returns-in_err-push : goal.returns-in_err-push
returns-in_err-push g c =
    let i = c.loop-round.invariant in
    let e = c.ask_round.ensures in
    let h = e.asks in
    record {
      of = e.pass;
      grows = grows_trans _ _ _ i.grows e.grows;
      own = e.own ∙ ap (λ (s : Seen). record s { order = c.ask_round.new.pass.sight.order }) i.own;
      asked = (
        _,
        went_both g.W.Wire.sight (g.met.W.Wire.both_pass) _ _ _ _ h.0 i.asked.went h.2,
        IfOk-from_err c.from_residual-in_err-push.result _ c.from_residual-in_err-push.ensures.0,
      );
      begun =
          let asks = c.in_ok-line.ensures.asks in
          let next : c.loop-round.round + 1 ≡ suc c.loop-round.round = omega arith in
          let n = rounds_first c.args.queries.now c.args.master.now c.args.asker (c.loop-round.round + 1) c.args.crew.now.rounds (let lt = c.loop-round-test.true in omega arith) in
          so_far_stopped g.W.Wire.sight g.met.W.Wire.both_pass c.args.table.now.widths 0 c.ask_round.new.pass _ _ n.0 _ c.args.wire.now c.ask_round.new.wire
          (subst (λ (xs : List Question). SoFar g.W.Wire.sight c.args.table.now.widths 0 c.ask_round.new.pass xs (c.loop-round.said ++ c.in_ok-line.line ∷ []) c.args.wire.now c.ask_round.new.wire)
          (rounds_next c.args.queries.now c.args.master.now c.args.asker c.loop-round.round (c.loop-round.round + 1) _ c.requires.legal.some next)
          (so_far_more g.W.Wire.sight (g.met.W.Wire.none_passes) (g.met.W.Wire.both_pass) c.args.table.now.widths 0 c.loop-round.pass c.ask_round.new.pass _ c.loop-round.said _
          c.args.wire.now c.loop-round.wire c.ask_round.new.wire _ _ _ asks.0 asks.1 c.in_ok-line.line i.asked e.grows asks.3 asks.2 refl)) n.1;
      seen =
          let next : c.loop-round.round + 1 ≡ suc c.loop-round.round = omega arith in
          let n = rounds_first c.args.queries.now c.args.master.now c.args.asker (c.loop-round.round + 1) c.args.crew.now.rounds (let lt = c.loop-round-test.true in omega arith) in
          notes_failed c.args.table.now.widths _ _ _ c.from_residual-in_err-push.result c.from_residual-in_err-push.ensures.0
          (first_stopped c.args.table.now.widths _ _ n.0 (c.loop-round.said ++ c.in_ok-line.line ∷ []) _ _
          (subst (λ (xs : List Question). NotesAll c.args.table.now.widths xs (c.loop-round.said ++ c.in_ok-line.line ∷ []) c.args.trace.now c.ask_round.new.trace)
          (rounds_next c.args.queries.now c.args.master.now c.args.asker c.loop-round.round (c.loop-round.round + 1) _ c.requires.legal.some next)
          (notes_more c.args.table.now.widths _ _ c.loop-round.said _ c.in_ok-line.line _ _ _ _ i.seen c.in_ok-line.ensures.trace refl)) n.1);
    }

pub loop-round-preserved : goal.loop-round-preserved
loop-round-preserved g c =
    let i = c.loop-round.invariant in
    let e = c.in_ok-line.ensures in
    let h = e.asks in
    let next : c.loop-round.round + 1 ≡ suc c.loop-round.round = omega arith in
    record {
      of = e.pass;
      grows = grows_trans _ _ _ i.grows e.grows;
      own = e.own ∙ ap (λ (s : Seen). record s { order = c.ask_round.new.pass.sight.order }) i.own;
      covered = e.covered;
      seen = subst (λ (xs : List Question). NotesAll c.args.table.now.widths xs c.push.new.self c.args.trace.now c.ask_round.new.trace)
          (rounds_next c.args.queries.now c.args.master.now c.args.asker c.loop-round.round (c.loop-round.round + 1) _ c.requires.legal.some next)
          (notes_more c.args.table.now.widths _ _ c.loop-round.said _ c.in_ok-line.line _ _ _ _ i.seen e.trace c.in_ok-push.ensures);
      asked = subst (λ (xs : List Question). SoFar g.W.Wire.sight c.args.table.now.widths 0 c.ask_round.new.pass xs c.push.new.self c.args.wire.now c.ask_round.new.wire)
          (rounds_next c.args.queries.now c.args.master.now c.args.asker c.loop-round.round (c.loop-round.round + 1) _ c.requires.legal.some next)
          (so_far_more g.W.Wire.sight (g.met.W.Wire.none_passes) (g.met.W.Wire.both_pass) c.args.table.now.widths 0 c.loop-round.pass c.ask_round.new.pass _ c.loop-round.said c.push.new.self
          c.args.wire.now c.loop-round.wire c.ask_round.new.wire _ _ _ h.0 h.1 c.in_ok-line.line i.asked e.grows h.3 h.2 c.in_ok-push.ensures);
    }

pub returns : goal.returns
returns g c =
    let i = c.loop-round.invariant in
    let e : c.loop-round.round ≡ c.args.crew.now.rounds = omega (arith, c.loop-round-test.false, c.loop-round.auto.round-end) in
    let d = so_far_done g.W.Wire.sight g.met.W.Wire.none_passes g.met.W.Wire.both_pass c.args.table.now.widths 0 c.loop-round.pass _
    (rounds_of c.args.queries.now c.args.master.now c.args.asker c.args.crew.now.rounds) c.loop-round.said c.args.wire.now c.loop-round.wire i.asked
    (ap (rounds_of c.args.queries.now c.args.master.now c.args.asker) e) in
    record {
      of = i.of;
      grows = i.grows;
      own = i.own;
      asked = d;
      begun = (d.0, d.1, began_whole _ _ _ _ _ _ d.2);
      seen = subst (λ (n : ℕ). NotesAll c.args.table.now.widths (rounds_of c.args.queries.now c.args.master.now c.args.asker n) c.loop-round.said c.args.trace.now c.loop-round.trace) e i.seen;
    }
