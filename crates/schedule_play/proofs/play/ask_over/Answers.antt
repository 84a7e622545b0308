use Rattle.std.proofs.Common.{◌≡◌, ◌∙◌, refl, ap, [], ◌∷◌, ◌++◌, length}
use Rattle.visit_trace.specs.Growing.{prefix_none}
use Rattle.schedule_play.specs.Plays.{seen}
use Rattle.schedule_play.specs.Tasks.{asking}
use Rattle.schedule_play.specs.Traces.{asked_sizes, traces_of}
use Rattle.schedule_play.proofs.Outcomes.{nothing_plays}
use Rattle.schedule_play.proofs.play.ask_over.Goals as goal

pub returns-in_default : goal.returns-in_default
returns-in_default g c = record {
  plays = nothing_plays g.W.Wire.sight c.args.setting.now.widths (asking (seen c.args.setting.now)) (c.args.wire ∷ []) (c.args.wire ∷ []) g.met.W.Wire.none_passes refl;
  trace = prefix_none c.args.trace.now (traces_of (asked_sizes c.args.setting.now.widths (length c.args.setting.now.rows.now) c.args.setting.now.queries.now));
}

pub returns : goal.returns
returns g c =
    let p = c.ask-played.ensures.plays in
    let old : c.push_reserved.new.self.items ≡ c.args.wire ∷ [] = c.push_reserved.ensures.items ∙ ap (λ l. l ++ c.args.wire ∷ []) c.in-Ok.ensures.items in
    let now : c.ask-played.new.wires.items ≡ c.only_one.result ∷ [] = c.only_one.ensures in
    record { plays = rw (old, now) at p; trace = c.ask-played.ensures.trace }
