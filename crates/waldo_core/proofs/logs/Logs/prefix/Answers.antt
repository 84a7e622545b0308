use Rattle.std.proofs.Common.{◌≤◌, sym, arith}
use Rattle.waldo_core.proofs.Journals.{log_two}
use Rattle.prefix_log.proofs.Prefixes.{prefix_is}
use Rattle.waldo_core.proofs.logs.Logs.prefix.Goals as goal

pub returns-in-0-clause-value : goal.returns-in-0-clause-value
returns-in-0-clause-value c = rw c.in-0.is (sym (prefix_is c.args.self.now.zero.journal c.prefix.result c.prefix.ensures.prefix))

pub returns-in-1-clause-value : goal.returns-in-1-clause-value
returns-in-1-clause-value c = rw c.in-1.is (sym (prefix_is c.args.self.now.one.journal c.prefix-in-1.result c.prefix-in-1.ensures.prefix))

pub returns-in_default-clause-value : goal.returns-in_default-clause-value
returns-in_default-clause-value c =
    let past : 2 ≤ c.args.server = omega arith in
    rw (log_two c.args.self.now c.args.server past) (sym (prefix_is c.args.self.now.two.journal c.prefix-in_default.result c.prefix-in_default.ensures.prefix))
