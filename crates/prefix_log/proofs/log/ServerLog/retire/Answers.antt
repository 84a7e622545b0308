use Rattle.std.proofs.Common.{◌≡◌, ◌∙◌, ◌*◌, ◌/◌, ◌≤◌, sym, ap, subst, ℕ, List, min, arith}
use Rattle.std.specs.Prelude.{vec_capacity}
use Rattle.prefix_log.specs.Journal.{start as start_in}
use Rattle.prefix_log.specs.Logs.{Log, log_of, retired}
use Rattle.prefix_log.proofs.Logged.{chunks_there, mark_room, retired_is, retired_kept, retired_stored, stays_is, upto_fits}
use Rattle.prefix_log.proofs.Marked.{start_marked}
use Rattle.prefix_log.proofs.log.ServerLog.retire.Goals as goal

pub returns-then-start-self-clause-retired : goal.returns-then-start-self-clause-retired
returns-then-start-self-clause-retired c =
    let s = c.self.inside in
    let le : 64 * (min c.args.before s.prefix / 64) ≤ s.start = omega (arith, c.min.ensures, c.if-start-self.true) in
    subst (λ (v : Log). v ≡ retired v c.args.before) c.self.view_is (sym (stays_is (vec_capacity s.journal) s.prefix s.start s.server s.widths s.capacity s.journal.items s.filled.items s.chunks c.self.invariant.0 c.self.invariant.1 c.args.before le))

pub let_go-requires : goal.let_go-requires
let_go-requires c =
    let s = c.self.inside in
    let to = ap (λ (n : ℕ). 64 * (n / 64)) c.min.ensures in
    chunks_there (vec_capacity s.journal) s.prefix s.start s.server s.widths s.capacity s.journal.items s.filled.items s.chunks c.self.invariant.0 c.self.invariant.1 c.args.before (64 * (c.min.result / 64)) to c.if-start-self.false

pub overflow_add-start : goal.overflow_add-start
overflow_add-start c =
    let s = c.self.inside in
    let fits = upto_fits (vec_capacity s.journal) s.prefix s.start s.server s.widths s.capacity s.journal.items s.filled.items s.chunks c.self.invariant.0 c.self.invariant.1 in
    omega (arith, c.min.ensures, fits, c.self.invariant.0.legal.fits.1)

pub push_reserved-requires : goal.push_reserved-requires
push_reserved-requires c =
    let s = c.self.inside in
    let to = ap (λ (n : ℕ). 64 * (n / 64)) c.min.ensures in
    let room = mark_room (vec_capacity s.journal) s.prefix s.start s.server s.widths s.capacity s.journal.items s.filled.items s.chunks c.self.invariant.0 c.self.invariant.1 c.args.before (64 * (c.min.result / 64)) to c.if-start-self.false in
    omega (arith, room)

pub invariant_of-self : goal.invariant_of-self
invariant_of-self c =
    let s = c.self.inside in
    let start = 64 * (c.min.result / 64) in
    let to = ap (λ (n : ℕ). 64 * (n / 64)) c.min.ensures in (
      rw (c.push_reserved.ensures.capacity, c.push_reserved.ensures.items)
          (retired_kept (vec_capacity s.journal) s.prefix s.start s.server s.widths s.capacity s.journal.items s.filled.items s.chunks c.self.invariant.0 c.self.invariant.1 c.args.before (64 * (c.min.result / 64)) to c.if-start-self.false c.let_go.new.self c.let_go.ensures.chunks),
      retired_stored (vec_capacity s.journal) s.prefix s.start s.server s.widths s.capacity s.journal.items s.filled.items s.chunks c.self.invariant.0 c.self.invariant.1 c.args.before (64 * (c.min.result / 64)) to c.if-start-self.false c.let_go.new.self c.let_go.ensures.chunks
          c.let_go.ensures.sealed,
    )

pub returns-clause-retired : goal.returns-clause-retired
returns-clause-retired c =
    let s = c.self.inside in
    let to = ap (λ (n : ℕ). 64 * (n / 64)) c.min.ensures in
    ap (λ (j : List ℕ). log_of s.server s.widths s.capacity j (64 * (c.min.result / 64)) s.filled.items c.let_go.new.self.chunks) c.push_reserved.ensures.items
    ∙ retired_is (vec_capacity s.journal) s.prefix s.start s.server s.widths s.capacity s.journal.items s.filled.items s.chunks c.self.invariant.0 c.self.invariant.1 c.args.before (64 * (c.min.result / 64)) to c.if-start-self.false c.let_go.new.self c.let_go.ensures.chunks
    ∙ ap (λ (v : Log). retired v c.args.before) c.self.view_is

pub returns-clause-start : goal.returns-clause-start
returns-clause-start c =
    let s = c.self.inside in
    sym (ap start_in c.push_reserved.ensures.items ∙ start_marked s.journal.items (64 * (c.min.result / 64)))

pub returns-clause-legal : goal.returns-clause-legal
returns-clause-legal c = (invariant_of-self c).0.legal
