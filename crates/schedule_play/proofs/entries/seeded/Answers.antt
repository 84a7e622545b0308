use Rattle.schedule_play.proofs.Seeding.{seeded_are}
use Rattle.schedule_play.proofs.entries.seeded.Goals as goal

pub returns-clause-pairs : goal.returns-clause-pairs
returns-clause-pairs g c =
    (seeded_are c.args.master.now c.args.rows.now c.in_ok-entries.entries.items c.seed_all.new.entries.items c.in_ok-entries.ensures c.seed_all.ensures.count c.seed_all.ensures.each).0

pub returns-clause-rows : goal.returns-clause-rows
returns-clause-rows g c =
    (seeded_are c.args.master.now c.args.rows.now c.in_ok-entries.entries.items c.seed_all.new.entries.items c.in_ok-entries.ensures c.seed_all.ensures.count c.seed_all.ensures.each).1
