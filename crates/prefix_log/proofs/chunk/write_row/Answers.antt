use Rattle.std.proofs.Common.{◌∙◌, ◌*◌, ◌<◌, ◌≤◌, ap, ℕ, length, arith}
use Rattle.std.proofs.lemmas.List.{length-set}
use Rattle.onehot_column.specs.Code.{cells_at, width_of}
use Rattle.prefix_log.specs.Chunks.{Halves, HalvesWritten, halves_at}
use Rattle.prefix_log.proofs.Kept.{any_default}
use Rattle.prefix_log.proofs.Sealed.{halves_as, set_done, set_rest}
use Rattle.prefix_log.proofs.chunk.write_row.Goals as goal

pub loop-c-preserved : goal.loop-c-preserved
loop-c-preserved c =
    let w = c.args.widths.now in
    let cells = c.args.piece.now.cells in
    let old = c.args.columns.now.items in
    let now = c.loop-c.columns.items in
    let i = c.loop-c.invariant in
    let there : c.loop-c.c < length now = omega (arith, c.requires.room.columns, i.count, c.loop-c-test.true) in
    let le : c.loop-c.c ≤ c.loop-c.c = omega arith in
    record {
      count = length-set now c.loop-c.c c.write.new.self ∙ i.count;
      done = set_done (λ (column : ℕ) (h : Halves). HalvesWritten (c.args.row * width_of w column) (cells_at w column cells.first) (cells_at w column cells.second) (halves_at old column) h)
          c.loop-c.c now c.write.new.self there i.done
          (halves_as _ _ _ _ _ _ _ _ c.write.new.self (ap (λ (n : ℕ). c.args.row * n) c.width.ensures.value) c.part.ensures.first c.part.ensures.second
          (c.index_mut.ensures.value ∙ any_default now c.loop-c.c c.index_mut.result.now _ there ∙ i.rest c.loop-c.c le) c.write.ensures);
      rest = set_rest c.loop-c.c old now c.write.new.self i.rest;
    }
