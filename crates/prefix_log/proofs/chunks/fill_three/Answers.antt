use Rattle.std.proofs.Common.{◌≡◌, ◌∙◌, sym, ap, subst, Global, List, ◌++◌, length, map, reverse}
use Rattle.std.specs.Arc.{arc_value}
use Rattle.std.specs.declared.sync.Arc.{Arc}
use Rattle.prefix_log.specs.Bulk.{HasPieces}
use Rattle.prefix_log.specs.Chunks.{Store}
use Rattle.prefix_log.specs.declared.chunk.Chunk.{Chunk}
use Rattle.prefix_log.proofs.Filled.{nil_of, on_ok_map}
use Rattle.prefix_log.proofs.chunks.fill_three.Goals as goal

pub returns-clause-zero_pieces : goal.returns-clause-zero_pieces
returns-clause-zero_pieces g c =
    let none : length c.zero.inside.sealed.items ≡ 0 = ap (λ (v : Store). v.sealed) c.zero.view_is ∙ c.requires.zero.none in
    on_ok_map c.fill_lists.result _ _ c.fill_lists.ensures.zero_pieces
    (subst (λ (xs : List (Arc Chunk Global)). HasPieces c.args.widths.now 0 c.args.entries.now (map arc_value xs ++ reverse c.fill_lists.new.zero.items)) (sym (nil_of c.zero.inside.sealed.items none)))

pub returns-clause-one_pieces : goal.returns-clause-one_pieces
returns-clause-one_pieces g c =
    let none : length c.one.inside.sealed.items ≡ 0 = ap (λ (v : Store). v.sealed) c.one.view_is ∙ c.requires.one.none in
    on_ok_map c.fill_lists.result _ _ c.fill_lists.ensures.one_pieces
    (subst (λ (xs : List (Arc Chunk Global)). HasPieces c.args.widths.now 1 c.args.entries.now (map arc_value xs ++ reverse c.fill_lists.new.one.items)) (sym (nil_of c.one.inside.sealed.items none)))

pub returns-clause-two_pieces : goal.returns-clause-two_pieces
returns-clause-two_pieces g c =
    let none : length c.two.inside.sealed.items ≡ 0 = ap (λ (v : Store). v.sealed) c.two.view_is ∙ c.requires.two.none in
    on_ok_map c.fill_lists.result _ _ c.fill_lists.ensures.two_pieces
    (subst (λ (xs : List (Arc Chunk Global)). HasPieces c.args.widths.now 2 c.args.entries.now (map arc_value xs ++ reverse c.fill_lists.new.two.items)) (sym (nil_of c.two.inside.sealed.items none)))
