use Rattle.std.proofs.Common.{◌≡◌, ◌*◌, take, drop, length}
use Rattle.std.specs.List.{flat_map}
use Rattle.list_facts.specs.Count.{total}
use Rattle.list_facts.specs.Listed.{listed}
use Rattle.scan_chunks.proofs.Shelves.{AreScanned}
use Rattle.bucket_groups.proofs.Adding.{cell_sum}
use Rattle.bucket_groups.proofs.sums.bucket_sums.Given as goal

abbrev pub invariant-loop-i : goal.invariant-loop-i
invariant-loop-i g l =
    let held = g.S.Shelf.held in
    let before = take l.i l.fn.shelves in
    record {
      scanned : AreScanned held g.S.Shelf.visited l.column before (take l.i l.shelves);
      rest : drop l.i l.shelves ≡ drop l.i l.fn.shelves;
      from : l.from ≡ total (λ s. (held s).rows) before;
      first : length (flat_map (λ s. (held s).pieces.first l.column) before) ≡ l.from * l.width;
      second : length (flat_map (λ s. (held s).pieces.second l.column) before) ≡ l.from * l.width;
      sums : l.sums.items ≡ listed l.width (λ b. cell_sum l.first l.second
          (flat_map (λ s. (held s).pieces.first l.column) before) (flat_map (λ s. (held s).pieces.second l.column) before) l.width b l.from);
    }
