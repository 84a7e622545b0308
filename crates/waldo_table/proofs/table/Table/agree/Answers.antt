use Rattle.std.proofs.Common.{sym, subst}
use Rattle.list_facts.proofs.Prefixes.{prefix_self, prefix_trans}
use Rattle.waldo_table.specs.Tables.{IsCovered}
use Rattle.waldo_table.proofs.Legal.{floor_more, grows_as, keeps_as, legal_one, legal_two, never_by, rows_within}
use Rattle.waldo_table.proofs.table.Table.agree.Goals as goal

pub returns-in-Err-clause-never : goal.returns-in-Err-clause-never
returns-in-Err-clause-never g c covered =
    let cover : IsCovered _ = subst IsCovered (sym c.pass.view_is) covered in
    never_by _ _ _ _ _ _ _ c.at.ensures c.in-Err.ensures.fault c.fix.ensures.seat cover.zero

pub invariant_of-pass-in-Err-fix : goal.invariant_of-pass-in-Err-fix
invariant_of-pass-in-Err-fix g c = legal_one _ c.pass.invariant c.fix.new.sight _ c.fix.ensures.order c.fix.ensures.seat c.fix-2.new.sight c.fix-2.ensures.order _ c.fix-2.ensures.seat

pub returns-in-Err-fix-clause-grows : goal.returns-in-Err-fix-clause-grows
returns-in-Err-fix-clause-grows g c =
    grows_as _ _ _ c.pass.view_is (prefix_trans _ _ _ c.fix.ensures.order c.fix-2.ensures.order) c.fix.ensures.seat.seen c.fix-2.ensures.seat.seen (prefix_self _)

pub returns-in-Err-fix-clause-never : goal.returns-in-Err-fix-clause-never
returns-in-Err-fix-clause-never g c covered =
    let cover : IsCovered _ = subst IsCovered (sym c.pass.view_is) covered in
    never_by _ _ _ _ _ _ _ c.at-in-Err-fix.ensures c.in-Err-fix.ensures.fault c.fix-2.ensures.seat cover.one

pub invariant_of-pass-in-Err-fix-2 : goal.invariant_of-pass-in-Err-fix-2
invariant_of-pass-in-Err-fix-2 g c =
    let more = prefix_trans _ _ _ c.fix.ensures.order (prefix_trans _ _ _ c.fix-2.ensures.order c.fix-3.ensures.order) in
    legal_two _ c.pass.invariant c.fix.new.sight _ c.fix.ensures.order c.fix.ensures.seat c.fix-2.new.sight c.fix-3.new.sight c.fix-2.ensures.order c.fix-3.ensures.order _ _ c.fix-2.ensures.seat c.fix-3.ensures.seat _
    (floor_more _ _ _ more c.pass.invariant.floor)

pub returns-in-Err-fix-2-clause-never : goal.returns-in-Err-fix-2-clause-never
returns-in-Err-fix-2-clause-never g c covered =
    let cover : IsCovered _ = subst IsCovered (sym c.pass.view_is) covered in
    never_by _ _ _ _ _ _ _ c.at-in-Err-fix-2.ensures c.in-Err-fix-2.ensures.fault c.fix-3.ensures.seat cover.two

pub of-agreed-requires-clause-zero : goal.of-agreed-requires-clause-zero
of-agreed-requires-clause-zero g c =
    let tag = c.self.invariant.1 in
    keeps_as _ _ _ _ _ _ _ _ tag (prefix_trans _ _ _ c.fix-2.ensures.order c.fix-3.ensures.order) c.in-Ok.ensures.fixed.2

pub of-agreed-requires-clause-one : goal.of-agreed-requires-clause-one
of-agreed-requires-clause-one g c =
    let tag = c.self.invariant.2 in
    keeps_as _ _ _ _ _ _ _ _ tag c.fix-3.ensures.order c.in-Ok-fix.ensures.fixed.2

pub invariant_of-pass-2 : goal.invariant_of-pass-2
invariant_of-pass-2 g c =
    legal_two _ c.pass.invariant c.fix.new.sight _ c.fix.ensures.order c.fix.ensures.seat c.fix-2.new.sight c.fix-3.new.sight c.fix-2.ensures.order c.fix-3.ensures.order _ _ c.fix-2.ensures.seat c.fix-3.ensures.seat _
    (rw c.rows-pass-inside.ensures.rows (rows_within _ _ _ _ c.of-agreed.ensures))
