use Rattle.std.proofs.Common.{◌≡◌, take, drop, length}
use Rattle.std.specs.List.{flat_map}
use Rattle.list_facts.specs.Count.{total}
use Rattle.share_product.specs.Product.{inner_of}
use Rattle.scan_chunks.proofs.Shelves.{AreScanned}
use Rattle.server_rounds.proofs.values.inner_of_values.Given as goal

abbrev pub invariant-loop-i : goal.invariant-loop-i
invariant-loop-i g l =
    let held = g.S.Shelf.held in
    let before = take l.i l.fn.shelves in
    record {
      scanned : AreScanned held g.S.Shelf.visited l.value before (take l.i l.shelves);
      rest : drop l.i l.shelves ≡ drop l.i l.fn.shelves;
      from : l.from ≡ total (λ s. (held s).rows) before;
      first : length (flat_map (λ s. (held s).pieces.first l.value) before) ≡ l.from;
      second : length (flat_map (λ s. (held s).pieces.second l.value) before) ≡ l.from;
      sum : l.sum ≡ inner_of (take l.from l.first) (take l.from l.second)
          (flat_map (λ s. (held s).pieces.first l.value) before) (flat_map (λ s. (held s).pieces.second l.value) before);
    }
