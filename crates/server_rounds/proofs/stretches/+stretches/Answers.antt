use Rattle.std.proofs.Common.{rules, refl, length, ◌+◌}
use Rattle.server_rounds.proofs.Stretched.{cut_within, fill_back, fill_front, fills_both}
use Rattle.server_rounds.proofs.stretches.+stretches.Goals as goal

pub fill_both-returns : goal.fill_both-returns
fill_both-returns g t c =
    let a = c.args in
    fills_both g.S.Shelf.held g.S.Shelf.visited a.column a.tables.now a.keys.now a.start (a.start + length a.at_zero.now)
    a.zero.now c.zero-1.given.0 a.one.now c.one-1.given.0 a.two.now c.two-1.given.0 a.at_zero.now a.at_one.now a.at_two.now
    a.zero_rest.now c.zero_rest-1.given.0 a.one_rest.now c.one_rest-1.given.0 a.two_rest.now c.two_rest-1.given.0
    c.at_zero_rest-1.given.0 c.at_one_rest-1.given.0 c.at_two_rest-1.given.0 c.join_mut-front.result.0 c.join_mut-front.result.1 c.both.result
    refl c.requires.front c.at_zero-1.given.0 c.at_one-1.given.0 c.at_two-1.given.0 (search rules) (search rules) c.both.ensures

pub fill_stretches-split_at_mut-at_zero-requires : goal.fill_stretches-split_at_mut-at_zero-requires
fill_stretches-split_at_mut-at_zero-requires g t c = cut_within g.S.Shelf.held _ _ _ _ _ _ _ _ _ _ _ c.in-Some.ensures c.requires.rows

pub fill_stretches-fill_both-requires-clause-front : goal.fill_stretches-fill_both-requires-clause-front
fill_stretches-fill_both-requires-clause-front g t c κs within =
    rw (
      c.split_at_mut-zero.ensures.front,
      c.split_at_mut-one.ensures.front,
      c.split_at_mut-two.ensures.front,
      c.split_at_mut-at_zero.ensures.front,
      c.split_at_mut-at_one.ensures.front,
      c.split_at_mut-at_two.ensures.front,
    )
    (fill_front g.S.Shelf.held _ _ _ _ _ _ _ _ _ _ _ c.in-Some.ensures c.requires.rows)

pub fill_stretches-fill_both-requires-clause-back : goal.fill_stretches-fill_both-requires-clause-back
fill_stretches-fill_both-requires-clause-back g t c κs within =
    rw (
      c.split_at_mut-zero.ensures.back,
      c.split_at_mut-one.ensures.back,
      c.split_at_mut-two.ensures.back,
      c.split_at_mut-at_zero.ensures.front,
      c.split_at_mut-at_zero.ensures.back,
      c.split_at_mut-at_one.ensures.back,
      c.split_at_mut-at_two.ensures.back,
    )
    (fill_back g.S.Shelf.held _ _ _ _ _ _ _ _ _ _ _ c.in-Some.ensures c.requires.rows)
