use Rattle.std.proofs.Common.{◌≡◌, ◌<◌, ◌≤◌, ℕ, ◌+◌, ◌-◌, ◌*◌, length, get_or, take, drop, ap, subst, sym, ◌∙◌, arith}
use Rattle.std.specs.List.{flat_map}
use Rattle.key_tree.specs.KeyWords.{control_at}
use Rattle.key_tree.proofs.Reading.{part_at, control_within, read_more, length-levels_read, words_more, words_whole}
use Rattle.key_tree.proofs.key_words.read_words.Goals as goal

pub loop-i-preserved : goal.loop-i-preserved
loop-i-preserved g c =
    let words = c.args.words.now in
    let width = g.L.KeyLevel.WIDTH in
    let i = c.loop-i.i in
    let part = part_at c.WIDTH.result c.WIDTH-in-loop-i.result width i words c.WIDTH.ensures c.WIDTH-in-loop-i.ensures in
    let wide : 2 < width = omega (arith, g.met.L.KeyLevel.wide) in
    record {
      read =
          c.in_ok-push.ensures.items
          ∙ read_more g.L.KeyLevel.read width words i c.loop-i.levels.items c.read.result c.loop-i.invariant.read (c.read.ensures.level ∙ ap g.L.KeyLevel.read part);
      written = λ (small : (k : ℕ) → k < i + 1 → control_at width words k ≤ 3).
          ap (flat_map g.L.KeyLevel.words) c.in_ok-push.ensures.items
          ∙ words_more g.L.KeyLevel.words width c.loop-i.levels.items c.read.result words i
          (c.loop-i.invariant.written (λ k (h : k < i). small k (omega arith)))
          (c.read.ensures.undone (subst (λ (n : ℕ). n ≤ 3) (sym (ap (λ (xs : _). get_or xs 2 0) part ∙ control_within width words i wide)) (small i (omega arith))) ∙ part);
    }

pub new-requires : goal.new-requires
new-requires g c = omega (arith, ap length c.loop-i.invariant.read, length-levels_read g.L.KeyLevel.read g.L.KeyLevel.WIDTH c.args.words.now c.loop-i.i)

pub returns-clause-bits : goal.returns-clause-bits
returns-clause-bits g c =
    let done : c.loop-i.i ≡ c.args.bits = omega arith in
    rw c.new.ensures (ap length c.loop-i.invariant.read ∙ length-levels_read g.L.KeyLevel.read g.L.KeyLevel.WIDTH c.args.words.now c.loop-i.i ∙ done)

pub returns-clause-undone : goal.returns-clause-undone
returns-clause-undone g c = λ good.
    let words = c.args.words.now in
    let width = g.L.KeyLevel.WIDTH in
    let done : c.loop-i.i ≡ c.args.bits = omega arith in
    let long : length words ≡ 3 + width * c.args.bits = omega arith in
    let last : length words - 1 ≡ 2 + width * c.args.bits = omega arith in
    rw c.new.ensures
    (words_whole g.L.KeyLevel.words width c.args.bits c.from_halves-root.result c.loop-i.levels.items (get_or words (length words - 1) 0) words long c.from_halves-root.ensures.low c.from_halves-root.ensures.high
    (c.loop-i.invariant.written (λ k (h : k < c.loop-i.i). good.controls k (omega arith)) ∙ ap (λ (k : ℕ). take (width * k) (drop 2 words)) done) (ap (λ (k : ℕ). get_or words k 0) last))
