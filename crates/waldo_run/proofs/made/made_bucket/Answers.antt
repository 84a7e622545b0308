use Rattle.std.proofs.Common.{◌<◌, ◌+◌, ◌*◌, ◌%◌, ◌^◌, sym, subst, ℕ, get_or, rules}
use Rattle.waldo_run.proofs.Bits.{narrow, shifted}
use Rattle.waldo_run.proofs.made.made_bucket.Goals as goal

pub overflow_cast-result : goal.overflow_cast-result
overflow_cast-result c =
    let n = c.from.result + c.from-2.result * (c.from-3.result + 1) in
    let few : n % ((1 * 2 ^ get_or c.args.widths.now.bits c.args.c 0) % 2 ^ 64) < 256 =
    subst (λ (m : ℕ). n % m < 256) (sym (shifted c.args.widths.now c.args.c)) (narrow c.args.widths.now c.args.c n) in
    search rules
