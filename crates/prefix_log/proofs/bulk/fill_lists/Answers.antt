use Rattle.std.proofs.Common.{◌≡◌, ◌∙◌, sym, ◌<◌, List, length, map, reverse, arith}
use Rattle.scan_chunks.specs.Pieces.{chunks_of}
use Rattle.prefix_log.specs.Chunks.{Halves}
use Rattle.prefix_log.specs.declared.bulk.Trio.{Trio}
use Rattle.prefix_log.proofs.Filled.{on_ok_map}
use Rattle.prefix_log.proofs.Whole.{count, pieces_at, places_at, room_at}
use Rattle.prefix_log.proofs.bulk.fill_lists.Goals as goal

pub fill_vec-done-requires-clause-room : goal.fill_vec-done-requires-clause-room
fill_vec-done-requires-clause-room g c κs within =
    let w = c.args.widths.now in
    let es = c.args.entries.now in
    let ts = c.take_trios.new.trios.items in
    λ j d lt. record {
      zero = room_at w es (λ (t : Trio). t.zero) ts (reverse c.args.zero.now.items) c.take_trios.ensures.zero c.requires.zero j d lt;
      one = room_at w es (λ (t : Trio). t.one) ts (reverse c.args.one.now.items) c.take_trios.ensures.one c.requires.one j d lt;
      two = room_at w es (λ (t : Trio). t.two) ts (reverse c.args.two.now.items) c.take_trios.ensures.two c.requires.two j d lt;
    }

pub returns-clause-zero : goal.returns-clause-zero
returns-clause-zero g c =
    let w = c.args.widths.now in
    let es = c.args.entries.now in
    let f : Trio → List Halves = λ t. t.zero in
    let e = c.fill_vec-done.ensures in
    let ts : List Trio = c.fill_vec-done.new.trios.items in
    let are : map f ts ≡ reverse c.give_back.new.zero.items = sym c.give_back.ensures.zero in
    let all : length ts ≡ chunks_of (length es) = e.count ∙ sym (count w es f c.take_trios.new.trios.items (reverse c.args.zero.now.items) c.take_trios.ensures.zero) ∙ c.requires.zero.count in
    places_at w es f ts (reverse c.give_back.new.zero.items) are all (λ j d lt. let less : j < length c.take_trios.new.trios.items = omega (arith, e.count) in (e.each j d less).room.zero)

pub returns-clause-one : goal.returns-clause-one
returns-clause-one g c =
    let w = c.args.widths.now in
    let es = c.args.entries.now in
    let f : Trio → List Halves = λ t. t.one in
    let e = c.fill_vec-done.ensures in
    let ts : List Trio = c.fill_vec-done.new.trios.items in
    let are : map f ts ≡ reverse c.give_back.new.one.items = sym c.give_back.ensures.one in
    let all : length ts ≡ chunks_of (length es) = e.count ∙ sym (count w es f c.take_trios.new.trios.items (reverse c.args.one.now.items) c.take_trios.ensures.one) ∙ c.requires.one.count in
    places_at w es f ts (reverse c.give_back.new.one.items) are all (λ j d lt. let less : j < length c.take_trios.new.trios.items = omega (arith, e.count) in (e.each j d less).room.one)

pub returns-clause-two : goal.returns-clause-two
returns-clause-two g c =
    let w = c.args.widths.now in
    let es = c.args.entries.now in
    let f : Trio → List Halves = λ t. t.two in
    let e = c.fill_vec-done.ensures in
    let ts : List Trio = c.fill_vec-done.new.trios.items in
    let are : map f ts ≡ reverse c.give_back.new.two.items = sym c.give_back.ensures.two in
    let all : length ts ≡ chunks_of (length es) = e.count ∙ sym (count w es f c.take_trios.new.trios.items (reverse c.args.two.now.items) c.take_trios.ensures.two) ∙ c.requires.two.count in
    places_at w es f ts (reverse c.give_back.new.two.items) are all (λ j d lt. let less : j < length c.take_trios.new.trios.items = omega (arith, e.count) in (e.each j d less).room.two)

pub returns-clause-zero_pieces : goal.returns-clause-zero_pieces
returns-clause-zero_pieces g c =
    let w = c.args.widths.now in
    let es = c.args.entries.now in
    let f : Trio → List Halves = λ t. t.zero in
    let e = c.fill_vec-done.ensures in
    let ts : List Trio = c.fill_vec-done.new.trios.items in
    let are : map f ts ≡ reverse c.give_back.new.zero.items = sym c.give_back.ensures.zero in
    let all : length ts ≡ chunks_of (length es) = e.count ∙ sym (count w es f c.take_trios.new.trios.items (reverse c.args.zero.now.items) c.take_trios.ensures.zero) ∙ c.requires.zero.count in
    on_ok_map c.result_of.result _ _ c.result_of.ensures
    (λ done. pieces_at w es f ts (reverse c.give_back.new.zero.items) are 0 all (λ j d lt.
    let less : j < length c.take_trios.new.trios.items = omega (arith, e.count) in (e.each j d less).zero (e.done done j d lt)))

pub returns-clause-one_pieces : goal.returns-clause-one_pieces
returns-clause-one_pieces g c =
    let w = c.args.widths.now in
    let es = c.args.entries.now in
    let f : Trio → List Halves = λ t. t.one in
    let e = c.fill_vec-done.ensures in
    let ts : List Trio = c.fill_vec-done.new.trios.items in
    let are : map f ts ≡ reverse c.give_back.new.one.items = sym c.give_back.ensures.one in
    let all : length ts ≡ chunks_of (length es) = e.count ∙ sym (count w es f c.take_trios.new.trios.items (reverse c.args.one.now.items) c.take_trios.ensures.one) ∙ c.requires.one.count in
    on_ok_map c.result_of.result _ _ c.result_of.ensures
    (λ done. pieces_at w es f ts (reverse c.give_back.new.one.items) are 1 all (λ j d lt.
    let less : j < length c.take_trios.new.trios.items = omega (arith, e.count) in (e.each j d less).one (e.done done j d lt)))

pub returns-clause-two_pieces : goal.returns-clause-two_pieces
returns-clause-two_pieces g c =
    let w = c.args.widths.now in
    let es = c.args.entries.now in
    let f : Trio → List Halves = λ t. t.two in
    let e = c.fill_vec-done.ensures in
    let ts : List Trio = c.fill_vec-done.new.trios.items in
    let are : map f ts ≡ reverse c.give_back.new.two.items = sym c.give_back.ensures.two in
    let all : length ts ≡ chunks_of (length es) = e.count ∙ sym (count w es f c.take_trios.new.trios.items (reverse c.args.two.now.items) c.take_trios.ensures.two) ∙ c.requires.two.count in
    on_ok_map c.result_of.result _ _ c.result_of.ensures
    (λ done. pieces_at w es f ts (reverse c.give_back.new.two.items) are 2 all (λ j d lt.
    let less : j < length c.take_trios.new.trios.items = omega (arith, e.count) in (e.each j d less).two (e.done done j d lt)))
