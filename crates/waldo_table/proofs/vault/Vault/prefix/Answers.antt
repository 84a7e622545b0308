use Rattle.std.proofs.Common.{◌∙◌, sym, ap, subst}
use Rattle.prefix_log.specs.Journal.{prefix}
use Rattle.prefix_log.proofs.Prefixes.{prefix_is}
use Rattle.waldo_table.specs.Vaults.{Behind, IsJournal}
use Rattle.waldo_table.proofs.Legal.{journal_of}
use Rattle.waldo_table.proofs.vault.Vault.prefix.Goals as goal

pub returns-clause-prefix : goal.returns-clause-prefix
returns-clause-prefix c = sym (prefix_is _ _ c.prefix.ensures.prefix) ∙ ap (λ (v : Behind). prefix v.log.journal) c.self.view_is

pub returns-clause-legal : goal.returns-clause-legal
returns-clause-legal c = subst (λ (v : Behind). IsJournal v.log.journal v.order) c.self.view_is (journal_of _ _ c.prefix.ensures.legal c.self.invariant)
