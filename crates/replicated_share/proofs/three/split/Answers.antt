use Rattle.std.proofs.Common.{◌≡◌, ◌+◌, ◌*◌, length, ap, ◌∙◌, arith}
use Rattle.prg_chacha.specs.Prg.{PadsAt}
use Rattle.list_facts.proofs.Listed.{listed_more}
use Rattle.replicated_share.proofs.Sharing.{shares_add_up}
use Rattle.replicated_share.proofs.three.split.Goals as goal

-- a list in memory is shorter than 2 ^ 63, so no counter passes 2 ^ 64
pub next-a-requires : goal.next-a-requires
next-a-requires c = omega (arith, c.loop-value.x0.small)

pub next-b-requires : goal.next-b-requires
next-b-requires c = omega (arith, c.loop-value.x0.small, ap (λ (p : PadsAt). p.next) c.next-a.ensures.after)

pub loop-value-preserved : goal.loop-value-preserved
loop-value-preserved c =
    let second : c.next-a.new.self.next ≡ 2 * c.loop-value.value-index + 1 = omega (arith, ap (λ (p : PadsAt). p.next) c.next-a.ensures.after) in
    let same : c.next-a.new.self.seed ≡ c.args.seed.now = ap (λ (p : PadsAt). p.seed) c.next-a.ensures.after ∙ c.loop-value.invariant.seed in
    record {
      seed = ap (λ (p : PadsAt). p.seed) c.next-b.ensures.after ∙ same;
      next = omega (arith, ap (λ (p : PadsAt). p.next) c.next-b.ensures.after);
      x0 = rw (c.push_reserved.ensures.items, c.next-a.ensures.value, c.loop-value.invariant.seed, c.loop-value.invariant.next, c.loop-value.invariant.x0) (listed_more _ _);
      x1 = rw (c.push_reserved-in-loop-value.ensures.items, c.next-b.ensures.value, same, second, c.loop-value.invariant.x1) (listed_more _ _);
      x2 = rw (c.push_reserved-in-loop-value-2.ensures.items, c.sub-in-loop-value.ensures, c.sub.ensures, c.next-b.ensures.value, c.next-a.ensures.value, same, second, c.loop-value.invariant.seed, c.loop-value.invariant.next, c.loop-value.invariant.x2)
          (listed_more _ _);
      len0 = omega arith;
      len1 = omega arith;
      len2 = omega arith;
      room0 = omega arith;
      room1 = omega arith;
      room2 = omega arith;
    }

pub returns-clause-whole : goal.returns-clause-whole
returns-clause-whole c =
    let e : c.loop-value.value-index ≡ length c.args.values.now = omega arith in
    rw (c.from_vec.ensures, c.from_vec-2.ensures, c.from_vec-3.ensures, c.loop-value.invariant.x0, c.loop-value.invariant.x1, c.loop-value.invariant.x2, e)
    (shares_add_up c.args.seed.now c.args.values.now (λ i _. omega (arith, c.type_inv.values i)))
