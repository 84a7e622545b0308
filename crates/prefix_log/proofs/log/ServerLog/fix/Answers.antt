use Rattle.std.proofs.Common.{sym, ap, subst, List, ◌+◌, ◌-◌, drop, map, take, arith}
use Rattle.std.specs.Prelude.{vec_capacity}
use Rattle.std.specs.Arc.{arc_value}
use Rattle.scan_chunks.specs.Shelf.{Held}
use Rattle.prefix_log.specs.Chunks.{AreFirst, Halves, HaveRows, first_rows}
use Rattle.prefix_log.specs.Journal.{IsPrefixOf}
use Rattle.prefix_log.specs.Logs.{Log}
use Rattle.prefix_log.specs.Snapshots.{HoldsPieces, pieces_in}
use Rattle.prefix_log.proofs.Fixed.{first_have}
use Rattle.prefix_log.proofs.Logged.{first_whole, first_within, fixed_holds, fixed_reach, store_rows, upto_fits}
use Rattle.prefix_log.proofs.log.ServerLog.fix.Goals as goal

pub overflow_sub-rows : goal.overflow_sub-rows
overflow_sub-rows c = let s = c.self.inside in first_within (vec_capacity s.journal) s.prefix s.start s.server s.widths s.capacity s.journal.items s.filled.items s.chunks c.self.invariant.0 c.self.invariant.1

pub seal-requires-clause-there : goal.seal-requires-clause-there
seal-requires-clause-there c =
    let s = c.self.inside in
    let fits = upto_fits (vec_capacity s.journal) s.prefix s.start s.server s.widths s.capacity s.journal.items s.filled.items s.chunks c.self.invariant.0 c.self.invariant.1 in
    omega (arith, fits, c.self.invariant.1.places.count)

pub first-requires-clause-there : goal.first-requires-clause-there
first-requires-clause-there c =
    let s = c.self.inside in
    subst (HaveRows s.widths (s.prefix - s.start)) (sym c.seal.ensures.chunks) (store_rows (vec_capacity s.journal) s.prefix s.start s.server s.widths s.capacity s.journal.items s.filled.items s.chunks c.self.invariant.0 c.self.invariant.1)

pub new-requires-clause-few : goal.new-requires-clause-few
new-requires-clause-few c =
    let s = c.self.inside in
    let fits = upto_fits (vec_capacity s.journal) s.prefix s.start s.server s.widths s.capacity s.journal.items s.filled.items s.chunks c.self.invariant.0 c.self.invariant.1 in
    omega (arith, fits, c.self.invariant.0.legal.fits.1)

pub new-requires-clause-whole : goal.new-requires-clause-whole
new-requires-clause-whole c = let s = c.self.inside in λ some. first_whole (vec_capacity s.journal) s.prefix s.start s.server s.widths s.capacity s.journal.items s.filled.items s.chunks c.self.invariant.0 c.self.invariant.1

pub new-requires-clause-there : goal.new-requires-clause-there
new-requires-clause-there c =
    let s = c.self.inside in
    let have = store_rows (vec_capacity s.journal) s.prefix s.start s.server s.widths s.capacity s.journal.items s.filled.items s.chunks c.self.invariant.0 c.self.invariant.1 in
    first_have s.widths (s.prefix - s.start) c.seal.new.self.chunks (map arc_value c.in_ok-chunks.chunks.items) c.in_ok-chunks.ensures (subst (HaveRows s.widths (s.prefix - s.start)) (sym c.seal.ensures.chunks) have)

pub returns-clause-rows : goal.returns-clause-rows
returns-clause-rows c =
    let s = c.self.inside in
    let r = c.new.result.rows in
    subst (λ (v : Log). IsPrefixOf v.journal (r.place + r.count)) c.self.view_is
    (fixed_reach (vec_capacity s.journal) s.prefix s.start s.server s.widths s.capacity s.journal.items s.filled.items s.chunks c.self.invariant.0 c.self.invariant.1 r.place r.count c.new.ensures.place (ap (λ (h : Held). h.rows) c.new.ensures.held))

pub returns-clause-pieces : goal.returns-clause-pieces
returns-clause-pieces c =
    let s = c.self.inside in
    let r = c.new.result.rows in
    let are = subst (λ (l : List (List Halves)). AreFirst s.widths (s.prefix - s.start) l (map arc_value c.in_ok-chunks.chunks.items)) c.seal.ensures.chunks c.in_ok-chunks.ensures in
    subst (λ (v : Log). HoldsPieces v.widths (pieces_in (take r.count (drop r.place v.slots))) (first_rows r.widths r.count r.start (map arc_value r.chunks.items))) c.self.view_is
    (fixed_holds (vec_capacity s.journal) s.prefix s.start s.server s.widths s.capacity s.journal.items s.filled.items s.chunks c.self.invariant.0 c.self.invariant.1 (map arc_value c.in_ok-chunks.chunks.items) are _ r.place c.new.ensures.held c.new.ensures.place)
