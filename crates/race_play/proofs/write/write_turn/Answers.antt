use Rattle.std.proofs.Common.{◌+◌, ◌++◌, ◌∷◌, [], refl, sym, subst, arith}
use Rattle.std.proofs.lemmas.Option.{slice_get-get_or}
use Rattle.waldo_table.specs.Tables.{PassView}
use Rattle.race_play.specs.Turns.{turns}
use Rattle.race_play.specs.Writes.{Wrote}
use Rattle.race_play.proofs.Writing.{on_err, wrote_not, wrote_turn}
use Rattle.race_play.proofs.write.write_turn.Goals as goal

pub returns-then-i-writers-clause-wrote : goal.returns-then-i-writers-clause-wrote
returns-then-i-writers-clause-wrote g c p grown wrote = wrote_not _ _ _ _ _ _ _ _ c.if-i-writers.true wrote

pub returns-clause-wrote : goal.returns-clause-wrote
returns-clause-wrote g c p grown wrote =
    let a = c.in_ok-place.ensures in wrote_turn _ _ _ _ _ _ _ _ _ _ _ _ c.if-i-writers.false c.in_ok-push.ensures.items (slice_get-get_or _ _ _ c.requires.row) a.grows a.appends grown wrote

pub returns-in_err-place-clause-broken : goal.returns-in_err-place-clause-broken
returns-in_err-place-clause-broken g c =
    on_err c.from_residual.result _ (λ p grown wrote. (
      c.args.i,
      omega arith,
      c.args.places.now.items,
      subst (λ (q : PassView). Wrote c.args.rows.now c.args.master.now c.args.writer (turns c.args.writer c.args.writers c.args.i) p c.args.places.now.items q) (sym c.in_err-place.ensures.stays) wrote,
    ))

pub returns-in_err-push-clause-broken : goal.returns-in_err-push-clause-broken
returns-in_err-push-clause-broken g c =
    on_err c.from_residual-in_err-push.result _ (λ p grown wrote. let a = c.in_ok-place.ensures in (
      c.args.i + 1,
      omega arith,
      c.args.places.now.items ++ c.in_ok-place.place ∷ [],
      wrote_turn _ _ _ _ _ _ _ _ _ _ _ _ c.if-i-writers.false refl (slice_get-get_or _ _ _ c.requires.row) a.grows a.appends grown wrote,
    ))
