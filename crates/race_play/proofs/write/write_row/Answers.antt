use Rattle.std.proofs.Common.{◌∙◌, ap, sym, subst, Some, ℕ}
use Rattle.prg_chacha.specs.Prg.{derive_of}
use Rattle.prg_chacha.specs.declared.seed.Seed.{Seed}
use Rattle.table_schema.specs.declared.rows.Row.{Row}
use Rattle.waldo_table.specs.Tables.{Appends}
use Rattle.waldo_table.specs.Pieces.{Placing, Ready}
use Rattle.waldo_table.proofs.Appending.{appends, entry_after}
use Rattle.race_play.proofs.write.write_row.Goals as goal

pub place-requires-3-clause-entry : goal.place-requires-3-clause-entry
place-requires-3-clause-entry g c =
    let e = c.in-Ok.ensures in
    let drawn = c.in-Ok.drawn in
    entry_after 1 c.place.new.drawn c.place-2.new.drawn _ _ c.place-2.ensures.drawn c.place-2.ensures.grows.order
    (entry_after 0 drawn c.place.new.drawn _ _ c.place.ensures.drawn c.place.ensures.grows.order (e.there ∙ ap (λ (d : Placing). Some d.entry) (sym e.drawn)))

pub returns-clause-appends : goal.returns-clause-appends
returns-clause-appends g c =
    let e = c.in-Ok.ensures in
    subst (λ (x : Row × Seed). Appends x c.args.pass.now c.finish.result c.place-3.new.pass) (ap (λ (r : Ready). r.entry) c.in_ok-prepared.ensures ∙ ap (λ (s : Seed). (c.args.row.now, s)) (c.derive-seed.ensures ∙ ap (λ (a : ℕ). derive_of c.args.master.now 1 a c.args.number) c.from.ensures))
    (appends _ _ _ _ _ _ _ _ _ _ _ _ e.draws e.rest e.drawn c.place.ensures.drawn c.place-2.ensures.drawn c.place-3.ensures.drawn c.finish.ensures
    c.place.ensures.sight c.place-2.ensures.sight c.place-3.ensures.sight c.place.ensures.grows c.place-2.ensures.grows c.place-3.ensures.grows
    c.place.ensures.there c.place-2.ensures.there c.place-3.ensures.there c.place.ensures.floor c.place-2.ensures.floor c.place-3.ensures.floor)
