use Rattle.std.proofs.Common.{◌≡◌, ◌∙◌, ◌<◌, ◌≤◌, length, get_or, slice_set, refl, ⊎_elim, arith}
use Rattle.std.proofs.lemmas.Bool.{cases_lt}
use Rattle.std.proofs.lemmas.List.{get_or-set_other, get_or-set_same}
use Rattle.ring128.specs.Ring.{plus}
use Rattle.share_product.specs.Product.{local_of}
use Rattle.bucket_groups.proofs.Adding.{local_by_both}
use Rattle.list_facts.proofs.Listed.{listed_is}
use Rattle.bucket_groups.proofs.sums.add_row.Goals as goal

pub loop-b-preserved : goal.loop-b-preserved
loop-b-preserved c =
    let inv = c.loop-b.invariant in
    let i = c.loop-b.b in
    let by = c.args.by in
    let x = get_or c.args.first.now i 0 in
    let y = get_or c.args.second.now i 0 in
    let part : c.add-part.result ≡ local_of by.first by.second x y =
    c.add-part.ensures ∙ rw (c.mul.ensures, c.mul-in-loop-b.ensures, c.add-both.ensures) (local_by_both by.first by.second x y) in
    let here : c.add.result ≡ plus (get_or c.args.to.now i 0) (local_of by.first by.second x y) =
    c.add.ensures ∙ rw (part, inv.left i (omega arith)) refl in
    let at : get_or (slice_set c.loop-b.to i c.add.result) i 0 ≡ plus (get_or c.args.to.now i 0) (local_of by.first by.second x y) =
    get_or-set_same c.loop-b.to i c.add.result 0 (omega arith) ∙ here in
    record {
      added = λ k h.
          ⊎_elim
          (λ (d : k < i). get_or-set_other c.loop-b.to i k c.add.result 0 (λ e. absurd (omega (arith, e))) ∙ inv.added k d)
          (λ (d : i ≤ k). let e : k ≡ i = omega arith in rw e at)
          (cases_lt k i);
      left = λ k h. get_or-set_other c.loop-b.to i k c.add.result 0 (λ e. absurd (omega (arith, e))) ∙ inv.left k (omega arith);
    }

pub returns : goal.returns
returns c =
    listed_is (length c.args.to.now) _ 0 _ (omega arith)
    (λ k h. let b : k < c.loop-b.b = omega arith in c.loop-b.invariant.added k b)
