use Rattle.std.proofs.Common.{◌∙◌, ap, arith, length, refl, subst, []}
use Rattle.std.proofs.lemmas.Result.{IfOk-from_err, IfOk-weaker}
use Rattle.query_plan.specs.Laws.{AreKeysOf}
use Rattle.row_tree.specs.Column.{Tree}
use Rattle.row_tree.specs.Rounds.{IsTreePart, IsTreeTranscript, Sides}
use Rattle.schedule_play.proofs.AppendedRows.{length-seeded_rows}
use Rattle.schedule_play.specs.Appended.{seeded_rows}
use Rattle.schedule_play.specs.Plays.{seen}
use Rattle.waldo_run.specs.Trees.{judged_in}
use Rattle.waldo_run.proofs.Ranging.{agreed_all, no_part, opens_plainly, same_pair, sides_are, the_column, the_keys}
use Rattle.wire_line.specs.Carried.{went_none}
use Rattle.waldo_run.proofs.tree.ask_range.Goals as goal

pub returns-in_err-machine : goal.returns-in_err-machine
returns-in_err-machine g c = record {
  messages = ([], went_none g.W.Wire.sight _ _ refl refl (g.met.W.Wire.none_passes _), no_part _, IfOk-from_err c.from_residual.result _ c.from_residual.ensures.0);
}

pub returns-in_err-keys : goal.returns-in_err-keys
returns-in_err-keys g c = record {
  messages = ([], went_none g.W.Wire.sight _ _ refl refl (g.met.W.Wire.none_passes _), no_part _, IfOk-from_err c.from_residual-in_err-keys.result _ c.from_residual-in_err-keys.ensures.0);
}

pub returns-in_err-trees : goal.returns-in_err-trees
returns-in_err-trees g c = record {
  messages = ([], went_none g.W.Wire.sight _ _ refl refl (g.met.W.Wire.none_passes _), no_part _, IfOk-from_err c.from_residual-in_err-trees.result _ c.from_residual-in_err-trees.ensures.0);
}

pub tree_runs-requires-clause-there : goal.tree_runs-requires-clause-there
tree_runs-requires-clause-there g c =
    let s = seen c.args.setting.now in
    let entries = seeded_rows s.master 0 s.rows in
    let all = agreed_all c.in_ok-machine.machine c.in-Some.agreed.now entries c.in_ok-machine.ensures.agreed c.in-Some.ensures.some in
    omega (arith, ap (λ (t : Tree). t.rows) c.in_ok-trees.ensures.zero, ap length all, length-seeded_rows s.master 0 s.rows, c.requires.there)

pub returns : goal.returns
returns g c =
    let s = seen c.args.setting.now in
    let w = c.args.setting.now.widths in
    let legal = c.requires.legal in
    let entries = seeded_rows s.master 0 s.rows in
    let all = agreed_all c.in_ok-machine.machine c.in-Some.agreed.now entries c.in_ok-machine.ensures.agreed c.in-Some.ensures.some in
    let keys = the_keys w s c.in_ok-keys.keys _ c.derive-seed.result legal.single c.in_ok-keys.ensures.made c.derive-seed.ensures in
    let t = c.in_ok-trees.ensures in
    let same = sides_are w s c.args.low c.args.high c.in_ok-keys.keys _ _ _ c.in-Some.agreed.now.all _ keys t.zero t.one t.two all
    (the_column s _ _ legal.single legal.setting.places) in
    let m = c.tree_runs.ensures.messages in
    record {
      messages = (
        m.0,
        m.1,
        subst (λ (x : Sides). IsTreePart x m.0) same m.2,
        IfOk-weaker c.tree_runs.result _ _ (λ pair h.
            let full = subst (λ (x : Sides). IsTreeTranscript x m.0) same h.0 in
            let opened = same_pair pair m.0 h.1 h.2 in (
              full,
              opened,
              λ honest. ap (judged_in s) opened
                  ∙ opens_plainly c.pieces_hold.ensures w s c.args.low c.args.high legal c.trees_open.ensures c.plain_is_small.ensures c.requires.there
                  (subst AreKeysOf keys c.in_ok-keys.ensures.add_up) m.0 full honest,
            )) m.3,
      );
    }
