use Rattle.std.proofs.Common.{take}
use Rattle.visit_trace.specs.Seen.{Grew}
use Rattle.schedule_play.specs.Plays.{seen}
use Rattle.schedule_play.specs.Ready.{stage_of}
use Rattle.schedule_play.specs.Traces.{sizes_from, traces_of}
use Rattle.schedule_play.proofs.Kept.{Kept}
use Rattle.schedule_play.proofs.progress.Progress.steps.Given as goal

abbrev pub invariant-loop-step : goal.invariant-loop-step
invariant-loop-step g l = record {
  kept : Kept g.W.Wire.sight l.setting.widths (seen l.setting) l.style
      l.initial.self l.initial.wires.items (take l.step-index l.steps) l.self l.wires.items;
  traced : Grew l.initial.trace l.trace (traces_of (sizes_from l.setting.widths (seen l.setting) (stage_of l.initial.self) (take l.step-index l.steps)));
}
