use Rattle.std.proofs.Common.{◌≡◌, ◌∙◌, ◌+◌, ◌≤◌, ◌++◌, sym, ap, List, drop, length, map, min, reverse, arith}
use Rattle.std.proofs.lemmas.List.{drop-map, length-map}
use Rattle.std.specs.Arc.{arc_value}
use Rattle.prefix_log.specs.Chunks.{Halves, Store}
use Rattle.prefix_log.proofs.Sealed.{all_count, all_dropped}
use Rattle.prefix_log.proofs.chunks.Chunks.let_go.Goals as goal

pub returns-clause-chunks : goal.returns-clause-chunks
returns-clause-chunks c =
    let s = c.self.inside in
    let size = length-map s.sealed.items arc_value in
    let chunks = ap (λ (v : Store). v.chunks) c.self.view_is in
    let fits : c.args.count ≤ length (map arc_value s.sealed.items) + length s.unsealed.items = omega (arith, c.requires, ap length chunks, all_count (map arc_value s.sealed.items) s.unsealed.items) in
    let m : c.min-sealed.result ≡ min c.args.count (length (map arc_value s.sealed.items)) = omega (arith, c.min-sealed.ensures, c.len.ensures, size) in
    ap (λ (l : List _). map arc_value l ++ reverse c.truncate.new.self.items) c.drop_first.ensures.items
    ∙ ap (λ (l : List (List Halves)). l ++ reverse c.truncate.new.self.items) (sym (drop-map arc_value c.min-sealed.result s.sealed.items))
    ∙ ap (λ (l : List (List Halves)). drop c.min-sealed.result (map arc_value s.sealed.items) ++ reverse l) c.truncate.ensures.items
    ∙ all_dropped c.args.count c.min-sealed.result _ (map arc_value s.sealed.items) s.unsealed.items fits m (omega (arith, c.len-2.ensures))
    ∙ ap (drop c.args.count) chunks
