use Rattle.std.proofs.Common.{◌≡◌, ◌∙◌, ◌-◌, ◌<◌, ◌≤◌, sym, ap, subst, ℕ, List, Bool, false, true, get_or, length, set, rules, arith}
use Rattle.std.specs.Prelude.{vec_capacity}
use Rattle.std.proofs.lemmas.List.{length-set}
use Rattle.prefix_log.specs.Logs.{IsOwn, Log, log_of, placed}
use Rattle.prefix_log.proofs.Kept.{any_default}
use Rattle.prefix_log.proofs.Logged.{journal_room, log_kept, log_stored, past_sealed, past_start, placed_is, taken_is, upto_fits}
use Rattle.prefix_log.proofs.Written.{place_room, place_there}
use Rattle.prefix_log.proofs.log.ServerLog.place.Goals as goal

pub returns-then-index-clause-placed : goal.returns-then-index-clause-placed
returns-then-index-clause-placed c =
    let s = c.self.inside in
    let lt : c.args.place < s.capacity = search rules in
    let within : c.args.place < length s.filled.items = omega (arith, c.self.invariant.0.marks) in
    let there = any_default s.filled.items c.args.place false c.index.result.now within ∙ sym c.index.ensures ∙ c.if-index.true in
    subst (λ (v : Log). v ≡ placed v c.args.place c.args.piece) c.self.view_is
    (sym (taken_is (vec_capacity s.journal) s.prefix s.start s.server s.widths s.capacity s.journal.items s.filled.items s.chunks c.self.invariant.0 c.self.invariant.1 c.args.place c.args.piece lt there))

pub overflow_sub-place : goal.overflow_sub-place
overflow_sub-place c =
    let s = c.self.inside in
    let lt : c.args.place < s.capacity = search rules in
    let free : get_or s.filled.items c.args.place false ≡ false = search rules in
    past_start (vec_capacity s.journal) s.prefix s.start s.server s.widths s.capacity s.journal.items s.filled.items s.chunks c.self.invariant.0 c.self.invariant.1 c.args.place c.args.piece lt free

pub write-requires-clause-there : goal.write-requires-clause-there
write-requires-clause-there c =
    let s = c.self.inside in
    let lt : c.args.place < s.capacity = search rules in
    let free : get_or s.filled.items c.args.place false ≡ false = search rules in
    let past = past_start (vec_capacity s.journal) s.prefix s.start s.server s.widths s.capacity s.journal.items s.filled.items s.chunks c.self.invariant.0 c.self.invariant.1 c.args.place c.args.piece lt free in
    place_there s.widths (s.capacity - s.start) (c.args.place - s.start) s.chunks.chunks c.self.invariant.1.places (omega (arith, past, lt))

pub write-requires-clause-room : goal.write-requires-clause-room
write-requires-clause-room c =
    let s = c.self.inside in
    let lt : c.args.place < s.capacity = search rules in
    let free : get_or s.filled.items c.args.place false ≡ false = search rules in
    let past = past_start (vec_capacity s.journal) s.prefix s.start s.server s.widths s.capacity s.journal.items s.filled.items s.chunks c.self.invariant.0 c.self.invariant.1 c.args.place c.args.piece lt free in
    place_room s.widths (s.capacity - s.start) (c.args.place - s.start) s.chunks.chunks c.self.invariant.1.places (omega (arith, past, lt))

pub write-requires-clause-unsealed : goal.write-requires-clause-unsealed
write-requires-clause-unsealed c =
    let s = c.self.inside in
    let lt : c.args.place < s.capacity = search rules in
    let free : get_or s.filled.items c.args.place false ≡ false = search rules in
    past_sealed (vec_capacity s.journal) s.prefix s.start s.server s.widths s.capacity s.journal.items s.filled.items s.chunks c.self.invariant.0 c.self.invariant.1 c.args.place c.args.piece lt free

pub push_reserved-requires : goal.push_reserved-requires
push_reserved-requires c =
    let s = c.self.inside in
    let lt : c.args.place < s.capacity = search rules in
    let free : get_or s.filled.items c.args.place false ≡ false = search rules in
    let room = journal_room (vec_capacity s.journal) s.prefix s.start s.server s.widths s.capacity s.journal.items s.filled.items s.chunks c.self.invariant.0 c.self.invariant.1 c.args.place c.args.piece lt free in
    omega (arith, room)

pub first_gap-requires : goal.first_gap-requires
first_gap-requires c =
    let s = c.self.inside in
    let fits = upto_fits (vec_capacity s.journal) s.prefix s.start s.server s.widths s.capacity s.journal.items s.filled.items s.chunks c.self.invariant.0 c.self.invariant.1 in
    omega (arith, fits, c.self.invariant.0.marks, ap length c.as_slice.ensures.value, length-set s.filled.items c.args.place true)

pub invariant_of-self : goal.invariant_of-self
invariant_of-self c =
    let s = c.self.inside in
    let lt : c.args.place < s.capacity = search rules in
    let free : get_or s.filled.items c.args.place false ≡ false = search rules in
    let own : IsOwn s.server s.widths c.args.piece = search rules in
    let below = λ (x : ℕ). λ (a : s.prefix ≤ x). λ (b : x < c.first_gap.result). ap (λ (l : List Bool). get_or l x false) (sym c.as_slice.ensures.value) ∙ c.first_gap.ensures.below x a b in
    let most : c.first_gap.result ≤ length (set s.filled.items c.args.place true) = omega (arith, c.first_gap.ensures.within, ap length c.as_slice.ensures.value) in
    let gap = ap (λ (l : List Bool). get_or l c.first_gap.result false) (sym c.as_slice.ensures.value) ∙ c.first_gap.ensures.gap in (
      rw (c.push_reserved.ensures.capacity, c.push_reserved.ensures.items)
          (log_kept (vec_capacity s.journal) s.prefix s.start s.server s.widths s.capacity s.journal.items s.filled.items s.chunks c.self.invariant.0 c.self.invariant.1 c.args.place c.args.piece lt free c.write.new.self c.write.ensures.written own
          c.first_gap.result c.first_gap.ensures.later most below gap),
      log_stored (vec_capacity s.journal) s.prefix s.start s.server s.widths s.capacity s.journal.items s.filled.items s.chunks c.self.invariant.0 c.self.invariant.1 c.args.place c.args.piece lt free c.write.new.self c.write.ensures.written own
          c.first_gap.result c.first_gap.ensures.later most below gap c.write.ensures.sealed,
    )

pub returns-clause-placed : goal.returns-clause-placed
returns-clause-placed c =
    let s = c.self.inside in
    let lt : c.args.place < s.capacity = search rules in
    let free : get_or s.filled.items c.args.place false ≡ false = search rules in
    let own : IsOwn s.server s.widths c.args.piece = search rules in
    ap (λ (j : List ℕ). log_of s.server s.widths s.capacity j s.start (set s.filled.items c.args.place true) c.write.new.self.chunks) c.push_reserved.ensures.items
    ∙ placed_is (vec_capacity s.journal) s.prefix s.start s.server s.widths s.capacity s.journal.items s.filled.items s.chunks c.self.invariant.0 c.self.invariant.1 c.args.place c.args.piece lt free c.write.new.self c.write.ensures.written own
    ∙ ap (λ (v : Log). placed v c.args.place c.args.piece) c.self.view_is

pub returns-clause-legal : goal.returns-clause-legal
returns-clause-legal c = (invariant_of-self c).0.legal
