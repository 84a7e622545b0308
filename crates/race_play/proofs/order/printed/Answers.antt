use Rattle.std.proofs.Common.{◌∙◌, ℕ, List, ◌<◌, sym, ap, subst, length, All, arith}
use Rattle.race_play.specs.Filled.{filled}
use Rattle.race_play.proofs.Filling.{filled_long}
use Rattle.race_play.proofs.Orders.{all_at, long_at, one_more, stands_of}
use Rattle.race_play.proofs.order.printed.Goals as goal

pub fill-requires-clause-long : goal.fill-requires-clause-long
fill-requires-clause-long c =
    let own = ap (λ v. v.items) c.index.ensures in
    ap length (c.as_slice-in-loop-w.ensures.value ∙ own)
    ∙ long_at c.args.rows.now c.args.master.now c.args.writers c.args.pass.now.sight.order (λ v. v.items) c.args.gathered.now.places.items c.requires c.loop-w.w c.index.result.now (omega (arith, c.loop-w-test.true, c.len-w-end.ensures, c.args.gathered.now.places.ok.0)) _ (c.as_slice.ensures.value ∙ c.in_ok-turns.ensures)

pub fill-requires-clause-below : goal.fill-requires-clause-below
fill-requires-clause-below c =
    let own = ap (λ v. v.items) c.index.ensures in
    subst (λ (l : List ℕ). All (λ (x : ℕ). x < length c.loop-w.printed.items) l) (sym (c.as_slice-in-loop-w.ensures.value ∙ own))
    (all_at c.args.rows.now c.args.master.now c.args.writers c.args.pass.now.sight.order (λ v. v.items) c.args.gathered.now.places.items c.requires c.loop-w.w c.index.result.now (omega (arith, c.loop-w-test.true, c.len-w-end.ensures, c.args.gathered.now.places.ok.0)) c.loop-w.printed.items c.loop-w.invariant.long)

pub loop-w-preserved : goal.loop-w-preserved
loop-w-preserved c =
    let own = ap (λ v. v.items) c.index.ensures in record {
      done = one_more c.args.rows.now c.args.master.now c.args.writers c.args.pass.now.sight.order (λ v. v.items) c.args.gathered.now.places.items c.requires c.loop-w.w c.index.result.now (omega (arith, c.loop-w-test.true, c.len-w-end.ensures, c.args.gathered.now.places.ok.0)) c.loop-w.printed.items _ _ _
          (c.as_slice.ensures.value ∙ c.in_ok-turns.ensures) c.loop-w.invariant.done (c.fill.ensures ∙ ap (filled c.loop-w.printed.items c.as_slice.result.now) (c.as_slice-in-loop-w.ensures.value ∙ own));
      long = ap length c.fill.ensures ∙ filled_long c.loop-w.printed.items c.as_slice.result.now c.as_slice-in-loop-w.result.now ∙ c.loop-w.invariant.long;
    }

pub returns : goal.returns
returns c =
    stands_of c.args.rows.now c.args.master.now c.args.writers c.args.pass.now.sight.order (λ v. v.items) c.args.gathered.now.places.items c.loop-w.printed.items c.loop-w.w c.requires (omega (arith, c.loop-w-test.false, c.len-w-end.ensures, c.args.gathered.now.places.ok.0)) c.loop-w.invariant.done
