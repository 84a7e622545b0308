use Rattle.std.proofs.Common.{◌≡◌, ◌∙◌, ap, ℕ, length, rules, arith}
use Rattle.bucket_groups.proofs.Adding.{added_all, added_none, added_to, row_more}
use Rattle.bucket_groups.proofs.sums.add_chunk.Goals as goal

pub loop-i-init : goal.loop-i-init
loop-i-init c = record { sums = added_none c.args.sums.now c.args.first.now c.args.second.now c.args.near.now c.args.far.now c.requires.small }

pub loop-i-preserved : goal.loop-i-preserved
loop-i-preserved c = record {
  sums = c.add_row.ensures
      ∙ row_more c.loop-i.i c.args.sums.now c.args.first.now c.args.second.now c.args.near.now c.args.far.now c.loop-i.sums _ _ c.row.result.now c.row-in-loop-i.result.now
      c.loop-i.invariant.sums (search rules) (search rules) c.row.ensures.row c.row-in-loop-i.ensures.row;
}

pub returns : goal.returns
returns c =
    let end : c.loop-i.i ≡ length c.args.first.now = omega (arith, c.loop-i-test.false, c.loop-i.auto.i-end) in
    c.loop-i.invariant.sums ∙ ap (λ (n : ℕ). added_to c.args.sums.now c.args.first.now c.args.second.now c.args.near.now c.args.far.now n) end
    ∙ added_all c.args.sums.now c.args.first.now c.args.second.now c.args.near.now c.args.far.now c.requires.second
