use Rattle.schedule_play.proofs.SchedulesAlike.{schedules_alike, sizes_alike}
use Rattle.schedule_play.proofs.laws.schedules_alike.Goals as goal

pub returns-clause-sizes : goal.returns-clause-sizes
returns-clause-sizes c = sizes_alike

pub returns-clause-seen : goal.returns-clause-seen
returns-clause-seen c = schedules_alike
