use Rattle.prefix_log.specs.contracts.snapshot.SnapshotShelf.TheImpl.{held-value}
use Rattle.waldo_core.proofs.Fixing.{fixed, kept_first, next_keeps, next_places}
use Rattle.waldo_core.proofs.actor.ActorState.fix.Goals as goal

pub fix-requires : goal.fix-requires
fix-requires c = record { places = next_places c.args.widths.now c.args.sight.now.order c.args.logs.now c.args.self.now.snapshots c.next_server-server.result c.requires.servers c.next_server-server.ensures }

pub keep-requires-clause-next : goal.keep-requires-clause-next
keep-requires-clause-next c =
    next_keeps (held-value).it c.args.widths.now c.args.sight.now.order c.args.logs.now c.in_ok-snapshot.snapshot c.args.self.now.snapshots c.next_server-server.result c.requires.servers c.next_server-server.ensures
    c.prefix-had.ensures.legal c.in_ok-snapshot.ensures.fixed

pub returns-clause-first : goal.returns-clause-first
returns-clause-first c =
    kept_first (held-value).it c.args.widths.now c.args.sight.now.order c.args.self.now c.keep.new.self c.in_ok-snapshot.snapshot c.args.self.now.snapshots c.keep.result c.requires.first
    (next_keeps (held-value).it c.args.widths.now c.args.sight.now.order c.args.logs.now c.in_ok-snapshot.snapshot c.args.self.now.snapshots c.next_server-server.result c.requires.servers c.next_server-server.ensures
    c.prefix-had.ensures.legal c.in_ok-snapshot.ensures.fixed) c.keep.ensures

pub returns-clause-fixed : goal.returns-clause-fixed
returns-clause-fixed c =
    fixed (held-value).it c.args.widths.now c.args.sight.now.order c.args.logs.now c.args.self.now c.keep.new.self c.in_ok-snapshot.snapshot c.keep.result c.next_server-server.result c.next_server-server.ensures
    c.in_ok-snapshot.ensures.fixed (rw c.prefix-had.ensures.value at c.if-had-floor.false) c.keep.ensures
