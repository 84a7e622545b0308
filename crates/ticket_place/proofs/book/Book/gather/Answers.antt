use Rattle.std.proofs.Common.{ap, arith}
use Rattle.list_facts.specs.Count.{times}
use Rattle.ticket_place.specs.Sights.{Seen}
use Rattle.ticket_place.proofs.Keeps.{apart}
use Rattle.ticket_place.proofs.book.Book.gather.Goals as goal

pub returns-clause-apart : goal.returns-clause-apart
returns-clause-apart c x =
    let mine = ap (λ (s : Seen). times x s.own) c.sight.view_is in
    let theirs = ap (λ (s : Seen). times x s.own) c.other.view_is in
    let none_twice = apart _ c.sight.inside.seat.me.0 c.other.inside.seat.me.0 _ c.join.ensures.joined c.join.ensures.sound.0 x in omega arith
