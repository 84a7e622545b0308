-- What a loop over steps keeps.
use Rattle.std.proofs.Common.{◌≡◌, ◌+◌, List, length}
use Rattle.table_schema.specs.declared.widths.Widths.{Widths}
use Rattle.waldo_words.specs.declared.schedule.Step.{Step}
use Rattle.schedule_play.specs.Leads.{Leads}
use Rattle.schedule_play.specs.Ready.{IsReady, stage_of}
use Rattle.schedule_play.specs.Tasks.{Setting}
use Rattle.schedule_play.specs.declared.progress.Progress.{Progress}
use Rattle.schedule_play.specs.declared.style.Style.{Style}
use Rattle.wire_line.specs.Sights.{Sight}

-- the first steps were done, and lead to where things stand
pub record Kept {W : Type 0} (sight : Sight W)
    (w : Widths) (s : Setting) (style : Style) (first : Progress) (before : List W) (xs : List Step) (now : Progress) (after : List W) : Type 0 where
  pub ready : IsReady w s now
  pub done : now.done ≡ first.done + length xs
  pub same : length after ≡ length before
  pub leads : Leads sight w s style (stage_of first) before xs (stage_of now) after
