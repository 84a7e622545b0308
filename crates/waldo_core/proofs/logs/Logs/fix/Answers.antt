use Rattle.std.proofs.Common.{◌≤◌, subst, ℕ, arith}
use Rattle.prefix_log.specs.Journal.{HasNoMark}
use Rattle.prefix_log.specs.Logs.{Log}
use Rattle.agreed_rows.proofs.Shares.{fix_of}
use Rattle.waldo_core.specs.Held.{log_of}
use Rattle.waldo_core.proofs.Journals.{all_ok, log_two}
use Rattle.waldo_core.proofs.logs.Logs.fix.Goals as goal

pub returns-in-0-clause-fixed : goal.returns-in-0-clause-fixed
returns-in-0-clause-fixed c =
    let places = subst (λ (n : ℕ). HasNoMark (log_of c.args.self.now n).capacity (log_of c.args.self.now n).journal) c.in-0.is c.requires.places in
    rw c.in-0.is (all_ok c.fix.result _ _ _ _ (λ s at p q. fix_of _ _ c.args.self.now.zero c.fix.ensures.legal places at p q) c.fix.ensures.start c.fix.ensures.rows c.fix.ensures.pieces)

pub returns-in-1-clause-fixed : goal.returns-in-1-clause-fixed
returns-in-1-clause-fixed c =
    let places = subst (λ (n : ℕ). HasNoMark (log_of c.args.self.now n).capacity (log_of c.args.self.now n).journal) c.in-1.is c.requires.places in
    rw c.in-1.is (all_ok c.fix-in-1.result _ _ _ _ (λ s at p q. fix_of _ _ c.args.self.now.one c.fix-in-1.ensures.legal places at p q) c.fix-in-1.ensures.start c.fix-in-1.ensures.rows c.fix-in-1.ensures.pieces)

pub returns-in_default-clause-fixed : goal.returns-in_default-clause-fixed
returns-in_default-clause-fixed c =
    let past : 2 ≤ c.args.server = omega arith in
    let two = log_two c.args.self.now c.args.server past in
    let places = subst (λ (l : Log). HasNoMark l.capacity l.journal) two c.requires.places in
    rw two (all_ok c.fix-in_default.result _ _ _ _ (λ s at p q. fix_of _ _ c.args.self.now.two c.fix-in_default.ensures.legal places at p q) c.fix-in_default.ensures.start c.fix-in_default.ensures.rows c.fix-in_default.ensures.pieces)
