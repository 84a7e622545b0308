use Rattle.std.proofs.Common.{rules, ◌≡◌, ◌<◌, length, ap, ◌∙◌, arith}
use Rattle.ring128.specs.declared.party.Party.TheVariants.{Zero, One}
use Rattle.key_tree.specs.Tree.{start}
use Rattle.point_keys.proofs.Sums.{levels_of_more, last_of_more, levels_of_none, last_of_none, length-levels_of, point_keys_add_up}
use Rattle.point_keys.proofs.key.generate.Goals as goal

pub loop-place-preserved : goal.loop-place-preserved
loop-place-preserved c =
    let some : 0 < c.loop-place.place = omega arith in
    record {
      levels =
          rw (c.in_ok-push.ensures.items, c.step-zero.ensures, c.step-one.ensures, c.between-level.ensures, c.side_of-keep.ensures)
          (levels_of_more c.loop-place.place c.args.a c.loop-place.zero c.loop-place.one c.loop-place.levels.items some ∙ c.loop-place.invariant.levels);
      last =
          rw (c.step-zero.ensures, c.step-one.ensures, c.between-level.ensures, c.side_of-keep.ensures)
          (last_of_more c.args.weight c.loop-place.place c.args.a c.loop-place.zero c.loop-place.one some ∙ c.loop-place.invariant.last);
    }

pub pair-requires : goal.pair-requires
pair-requires c =
    let done : c.loop-place.place ≡ 0 = omega arith in
    let e = levels_of_none _ _ _ _ _ _ done c.loop-place.invariant.levels in
    omega (arith, ap length e, length-levels_of c.args.bits c.args.a (start Zero c.args.root0.now) (start One c.args.root1.now))

pub returns-clause-pair : goal.returns-clause-pair
returns-clause-pair c = λ x h.
    let done : c.loop-place.place ≡ 0 = omega arith in
    let e = levels_of_none _ _ _ _ _ _ done c.loop-place.invariant.levels in
    let last = c.last_word-last.ensures ∙ last_of_none _ _ _ _ _ _ done c.loop-place.invariant.last in
    rw (c.in_ok-keys.ensures.zero, c.in_ok-keys.ensures.one, e, last)
    (point_keys_add_up c.args.bits c.args.a c.args.weight x c.args.root0.now c.args.root1.now c.requires.within h (search rules))

pub returns-clause-bits : goal.returns-clause-bits
returns-clause-bits c =
    let done : c.loop-place.place ≡ 0 = omega arith in
    let e = levels_of_none _ _ _ _ _ _ done c.loop-place.invariant.levels in
    let long : length c.loop-place.levels.items ≡ c.args.bits = ap length e ∙ length-levels_of c.args.bits c.args.a (start Zero c.args.root0.now) (start One c.args.root1.now) in
    rw (c.in_ok-keys.ensures.zero, c.in_ok-keys.ensures.one) (long, long)
