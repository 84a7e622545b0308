use Rattle.std.proofs.Common.{◌≡◌, ◌∙◌, ◌-◌, ◌*◌, subst, ℕ, List, min, rules, arith}
use Rattle.prefix_log.specs.Chunks.{Halves, HasRoom}
use Rattle.prefix_log.proofs.Sealed.{free_count, free_more}
use Rattle.prefix_log.proofs.chunks.free_chunks.Goals as goal

pub loop-c-preserved : goal.loop-c-preserved
loop-c-preserved c =
    let w = c.args.widths.now in
    let i = c.loop-c.invariant in
    let x = c.in_ok-new.field-0 in
    let rows : c.min-rows.result ≡ min 64 (c.args.capacity - 64 * c.loop-c.c) = search rules in
    record {
      count = free_count c.loop-c.c c.loop-c.chunks.items c.push.new.self.items x c.in_ok-push.ensures.items i.count;
      room = free_more (λ (k : ℕ) (chunk : List Halves). HasRoom w (min 64 (c.args.capacity - 64 * k)) chunk) c.loop-c.c c.loop-c.chunks.items c.push.new.self.items x c.in_ok-push.ensures.items i.count i.room
          (subst (λ (n : ℕ). HasRoom w n x) rows c.in_ok-new.ensures);
    }

pub returns : goal.returns
returns c =
    let i = c.loop-c.invariant in
    let done : c.loop-c.c ≡ c.args.count = omega (arith, c.loop-c-test.false, c.loop-c.auto.c-end) in
    record { count = i.count ∙ done ∙ c.requires.count; room = λ j lt. i.room j (omega (arith, lt, i.count)) }
