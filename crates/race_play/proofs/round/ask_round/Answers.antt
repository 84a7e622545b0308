use Rattle.std.proofs.Common.{◌∙◌, ap, subst, ℕ}
use Rattle.prg_chacha.specs.Prg.{derive_of}
use Rattle.prg_chacha.specs.declared.seed.Seed.{Seed}
use Rattle.report_lines.specs.declared.lines.Who.TheVariants as who
use Rattle.race_play.specs.Rounds.{Asks}
use Rattle.race_play.proofs.round.ask_round.Goals as goal

pub returns-clause-asks : goal.returns-clause-asks
returns-clause-asks g c =
    let w = c.args.table.now.widths in
    let p = c.args.pass.now in
    let q = c.ask_line.new.pass in
    let query = c.args.query.now in
    let h = c.in_ok-line.ensures.asks in (
      h.0,
      h.1,
      h.2,
      subst (λ (s : Seed). Asks w p q (who.Round c.args.asker c.args.round) query s h.0 h.1 c.in_ok-line.line)
          (c.derive-seed.ensures ∙ ap (λ (a : ℕ). derive_of c.args.master.now 2 a c.from-2.result) c.from.ensures ∙ ap (λ (b : ℕ). derive_of c.args.master.now 2 c.args.asker b) c.from-2.ensures)
          (subst (λ (r : ℕ). Asks w p q (who.Round c.args.asker r) query c.derive-seed.result h.0 h.1 c.in_ok-line.line) c.from-3.ensures h.3),
    )
