use Rattle.std.proofs.Common.{◌≡◌, ◌∙◌, ap, suc, ◌+◌, ◌++◌, arith}
use Rattle.std.proofs.lemmas.List.{take_all}
use Rattle.race_play.specs.Reports.{place_lines}
use Rattle.race_play.proofs.Reporting.{place_more}
use Rattle.race_play.proofs.report.push_places.Goals as goal

pub loop-place-preserved : goal.loop-place-preserved
loop-place-preserved c =
    let e : c.loop-place.place + 1 ≡ suc c.loop-place.place = omega arith in
    place_more c.args.report.now c.loop-place.report c.push.new.self c.args.order.now c.loop-place.place (c.loop-place.place + 1) c.loop-place-test.true e c.loop-place.invariant c.in_ok-push.ensures.added

pub returns : goal.returns
returns c =
    c.loop-place.invariant ∙ ap (λ xs. c.args.report.now ++ place_lines 0 xs) (take_all c.loop-place.place c.args.order.now (omega (arith, c.loop-place-test.false)))
