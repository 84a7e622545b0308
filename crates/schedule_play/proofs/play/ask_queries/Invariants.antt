use Rattle.std.specs.List.{flat_map, range_with_len}
use Rattle.visit_trace.specs.Seen.{Grew}
use Rattle.schedule_play.specs.Plays.{seen}
use Rattle.schedule_play.specs.Ready.{stage_of}
use Rattle.schedule_play.specs.Tasks.{ask_steps}
use Rattle.schedule_play.specs.Traces.{sizes_from, traces_of}
use Rattle.schedule_play.specs.declared.style.Style.TheVariants.{Queries}
use Rattle.schedule_play.proofs.Kept.{Kept}
use Rattle.schedule_play.proofs.play.ask_queries.Given as goal

abbrev pub invariant-loop-query : goal.invariant-loop-query
invariant-loop-query g l = record {
  kept : Kept g.W.Wire.sight l.setting.widths (seen l.setting) Queries
      l.initial.progress l.initial.wires.items (flat_map ask_steps (range_with_len 0 l.query)) l.progress l.wires.items;
  traced : Grew l.initial.trace l.trace
      (traces_of (sizes_from l.setting.widths (seen l.setting) (stage_of l.initial.progress) (flat_map ask_steps (range_with_len 0 l.query))));
}
