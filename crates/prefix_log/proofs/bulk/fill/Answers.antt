use Rattle.std.proofs.Common.{◌∙◌, sym}
use Rattle.prefix_log.proofs.Filled.{when_ok}
use Rattle.prefix_log.proofs.bulk.fill.Goals as goal

pub returns : goal.returns
returns c =
    let r = c.write_rows.result in
    let e = c.write_rows.ensures in
    record {
      room = record { zero = e.zero; one = e.one; two = e.two };
      zero = λ done. when_ok r _ (sym c.is_ok-trio.ensures.value ∙ done) e.zero_rows;
      one = λ done. when_ok r _ (sym c.is_ok-trio.ensures.value ∙ done) e.one_rows;
      two = λ done. when_ok r _ (sym c.is_ok-trio.ensures.value ∙ done) e.two_rows;
    }
