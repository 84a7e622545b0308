use Rattle.std.proofs.Common.{◌∙◌, ◌-◌, sym, ap, drop, map, take, List, Global}
use Rattle.std.proofs.lemmas.List.{drop-map, take-map}
use Rattle.std.proofs.lemmas.Result.{IfOk-weaker}
use Rattle.std.specs.Arc.{arc_value}
use Rattle.std.specs.declared.sync.Arc.{Arc}
use Rattle.prefix_log.specs.declared.chunk.Chunk.{Chunk}
use Rattle.prefix_log.proofs.rows.Rows.between.Goals as goal

pub returns : goal.returns
returns c =
    let items = c.args.self.now.chunks.items in
    let low = c.args.low in
    let n = c.args.high - low in
    IfOk-weaker c.shared.result _ _ (λ again same. same ∙ ap (λ (l : List (Arc Chunk Global)). map arc_value (take n (drop low l))) c.as_slice.ensures.value
    ∙ sym (take-map arc_value n (drop low items)) ∙ ap (take n) (sym (drop-map arc_value low items))) c.shared.ensures
