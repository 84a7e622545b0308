use Rattle.std.proofs.Common.{◌≡◌, ◌∙◌, ◌-◌, ◌%◌, ◌<◌, ◌++◌, ◌∷◌, [], sym, ap, subst, Vec, Global, ℕ, List, get_or, length, map, arith}
use Rattle.std.proofs.lemmas.List.{length-map, map_push}
use Rattle.std.specs.Arc.{arc_value}
use Rattle.std.specs.declared.sync.Arc.{Arc}
use Rattle.prefix_log.specs.declared.chunk.Chunk.{Chunk}
use Rattle.prefix_log.specs.Chunks.{AreFirst, Halves, HasRows, HaveRows, IsCopy, Store}
use Rattle.prefix_log.proofs.Kept.{any_default}
use Rattle.prefix_log.proofs.Sealed.{first_and_left, first_whole, next_rows, some_open}
use Rattle.prefix_log.proofs.chunks.Chunks.first.Goals as goal
use Rattle.prefix_log.proofs.chunks.Chunks.first.Goals.{then-left-gt0+in_ok-copy+in_ok-new+in_ok-push, else-left-gt0}

pub copy-requires-clause-there : goal.copy-requires-clause-there
copy-requires-clause-there c =
    let s = c.self.inside in
    let w = c.args.widths.now in
    let have = subst (HaveRows w c.args.rows) (sym (ap (λ (v : Store). v.chunks) c.self.view_is)) c.requires.there in
    let are = length-map s.sealed.items arc_value ∙ ap (λ (v : Store). v.sealed) c.self.view_is ∙ c.requires.sealed in
    let some = some_open w c.args.rows (map arc_value s.sealed.items) s.unsealed.items are have c.if-left-gt0.true in
    let last : c.len-then-left-gt0.result - 1 ≡ length s.unsealed.items - 1 = omega (arith, c.len-then-left-gt0.ensures) in
    let there : c.len-then-left-gt0.result - 1 < length s.unsealed.items = omega (arith, last, some) in
    subst (HasRows w (c.args.rows % 64)) (sym (c.index-next.ensures ∙ any_default s.unsealed.items (c.len-then-left-gt0.result - 1) c.index-next.result.now [] there ∙ ap (λ (i : ℕ). get_or s.unsealed.items i []) last))
    (next_rows w c.args.rows (map arc_value s.sealed.items) s.unsealed.items are have c.if-left-gt0.true)

pub returns : goal.returns
returns c =
    let s = c.self.inside in
    let w = c.args.widths.now in
    let chunks = ap (λ (v : Store). v.chunks) c.self.view_is in
    let have = subst (HaveRows w c.args.rows) (sym chunks) c.requires.there in
    let are = length-map s.sealed.items arc_value ∙ ap (λ (v : Store). v.sealed) c.self.view_is ∙ c.requires.sealed in
    let again = c.in_ok-chunks.ensures ∙ ap (map arc_value) c.deref.ensures.value in
    elim c.if-left-gt0.branch [
      | then-left-gt0+in_ok-copy+in_ok-new+in_ok-push u ↦
          let some = some_open w c.args.rows (map arc_value s.sealed.items) s.unsealed.items are have u.if-left-gt0.true in
          let last : u.len-then-left-gt0.result - 1 ≡ length s.unsealed.items - 1 = omega (arith, u.len-then-left-gt0.ensures) in
          let there : u.len-then-left-gt0.result - 1 < length s.unsealed.items = omega (arith, last, some) in
          let next = u.index-next.ensures ∙ any_default s.unsealed.items (u.len-then-left-gt0.result - 1) u.index-next.result.now [] there ∙ ap (λ (i : ℕ). get_or s.unsealed.items i []) last in
          let arc = u.in_ok-new.field-0 in
          let copy = subst (λ (x : List Halves). IsCopy w (c.args.rows % 64) x (arc_value arc)) next (subst (IsCopy w (c.args.rows % 64) u.index-next.result.now) (sym u.in_ok-new.ensures.ok) u.in_ok-copy.ensures) in
          let all = ap (λ (v : Vec (Arc Chunk Global) Global). map arc_value v.items) u.chunks-is ∙ ap (map arc_value) u.in_ok-push.ensures.items ∙ map_push arc_value c.in_ok-chunks.chunks.items arc
          ∙ ap (λ (l : List (List Halves)). l ++ arc_value arc ∷ []) again in
          subst (λ (l : List (List Halves)). AreFirst w c.args.rows l (map arc_value c.if-left-gt0.chunks.items)) chunks
          (first_and_left w c.args.rows (map arc_value s.sealed.items) s.unsealed.items are have (map arc_value c.if-left-gt0.chunks.items) (arc_value arc) u.if-left-gt0.true all copy)
      | else-left-gt0 u ↦
          let none : c.args.rows % 64 ≡ 0 = omega (arith, u.if-left-gt0.false) in
          let all = ap (λ (v : Vec (Arc Chunk Global) Global). map arc_value v.items) u.chunks-is ∙ again in
          subst (λ (l : List (List Halves)). AreFirst w c.args.rows l (map arc_value c.if-left-gt0.chunks.items)) chunks
          (first_whole w c.args.rows (map arc_value s.sealed.items) s.unsealed.items are have (map arc_value c.if-left-gt0.chunks.items) none all)
    ]
