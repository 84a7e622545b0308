use Rattle.std.proofs.Common.{length}
use Rattle.waldo_core.proofs.InRows.{blank_log}
use Rattle.waldo_core.proofs.logs.Logs.append_rows.Goals as goal

pub append_rows-requires-clause-zero : goal.append_rows-requires-clause-zero
append_rows-requires-clause-zero g c κs within =
    let b = c.requires.zero in
    blank_log 0 (length c.args.entries.now) c.args.widths.now c.args.self.now.zero c.prefix.ensures.legal b.number b.wide b.places b.none

pub append_rows-requires-clause-one : goal.append_rows-requires-clause-one
append_rows-requires-clause-one g c κs within =
    let b = c.requires.one in
    blank_log 1 (length c.args.entries.now) c.args.widths.now c.args.self.now.one c.prefix-2.ensures.legal b.number b.wide b.places b.none

pub append_rows-requires-clause-two : goal.append_rows-requires-clause-two
append_rows-requires-clause-two g c κs within =
    let b = c.requires.two in
    blank_log 2 (length c.args.entries.now) c.args.widths.now c.args.self.now.two c.prefix-3.ensures.legal b.number b.wide b.places b.none
