use Rattle.std.proofs.Common.{◌≡◌, ◌<◌, ◌≢◌, sym, length, get_or, rules}
use Rattle.prefix_log.proofs.Journals.{absent_more, present}
use Rattle.prefix_log.proofs.journal.holds.Goals as goal

pub returns-then-there-place : goal.returns-then-there-place
returns-then-there-place c =
    let lt : c.loop-there.there-index < length c.args.journal.now = search rules in
    let is : get_or c.args.journal.now c.loop-there.there-index 0 ≡ c.args.place = search rules in
    sym (present c.args.place c.args.journal.now c.loop-there.there-index lt is)

pub loop-there-preserved : goal.loop-there-preserved
loop-there-preserved c =
    let lt : c.loop-there.there-index < length c.args.journal.now = search rules in
    let ne : get_or c.args.journal.now c.loop-there.there-index 0 ≢ c.args.place = search rules in
    absent_more c.args.place c.args.journal.now c.loop-there.there-index lt c.loop-there.invariant ne
