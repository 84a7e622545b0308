use Rattle.std.proofs.Common.{◌≡◌, false, replicate, arith}
use Rattle.std.specs.Prelude.{vec_capacity}
use Rattle.prefix_log.proofs.Logged.{new_is, new_log_kept, new_log_stored}
use Rattle.prefix_log.proofs.Written.{new_stored}
use Rattle.prefix_log.proofs.log.ServerLog.new.Goals as goal

pub invariant_of-result : goal.invariant_of-result
invariant_of-result c =
    let w = c.args.widths.now in
    let journal = c.in_ok-with_capacity.field-0 in
    let filled = c.in_ok-vec.field-0.items in
    let free : c.in_ok-vec.field-0.items ≡ replicate c.args.capacity false = c.in_ok-vec.ensures.items_if_clones_equal (λ y same. same) in
    let store = c.in_ok-new.field-0 in (
      new_log_kept c.args.server c.args.capacity w journal.items filled c.in_ok-with_capacity.ensures.items free (vec_capacity journal) store.chunks c.requires (omega (arith, c.in_ok-with_capacity.ensures.exact)),
      new_log_stored c.args.server c.args.capacity w journal.items filled c.in_ok-with_capacity.ensures.items free store (new_stored w c.args.capacity filled store free c.in_ok-new.ensures.sealed c.in_ok-new.ensures.places),
    )

pub returns : goal.returns
returns c =
    let free : c.in_ok-vec.field-0.items ≡ replicate c.args.capacity false = c.in_ok-vec.ensures.items_if_clones_equal (λ y same. same) in
    new_is c.args.server c.args.capacity c.args.widths.now c.in_ok-with_capacity.field-0.items c.in_ok-vec.field-0.items c.in_ok-with_capacity.ensures.items free c.in_ok-new.field-0.chunks
