use Rattle.std.proofs.Common.{◌≡◌, ◌∙◌, ◌+◌, ◌*◌, ◌++◌, ◌<◌, ◌≤◌, arith, length, length-append, sym, ap, append-nil, [], refl, rules, ℕ, List}
use Rattle.std.proofs.lemmas.Result.{IfOk-from_err}
use Rattle.wire_line.specs.declared.message.Message.{Message}
use Rattle.wire_line.specs.Carried.{went_both}
use Rattle.server_rounds.specs.Plans.{views_of}
use Rattle.row_tree.specs.Rounds.{tree_opened}
use Rattle.row_tree.specs.Sides.{sides_of}
use Rattle.row_tree.proofs.Nine.{keys_part, run_part, opened_in, group_words, group_later}
use Rattle.row_tree.proofs.exchange.exchange.Goals as goal

pub returns-in_err-ready : goal.returns-in_err-ready
returns-in_err-ready g c = let h = c.in_err-ready.ensures.messages in (h.0, h.1, keys_part _ h.0 h.2, search rules)

pub returns-in_err-total : goal.returns-in_err-total
returns-in_err-total g c =
    let s = sides_of c.args.keys.now c.args.zero.now c.args.one.now c.args.two.now in
    let h = c.in_ok-ready.ensures.messages in
    let a = c.in_err-total.ensures in
    let first = group_words s (views_of c.in_ok-ready.ready.keys) h.0 a.0 0 h.3.seen a.2 in (
      h.0 ++ a.0,
      went_both g.W.Wire.sight g.met.W.Wire.both_pass _ _ _ h.0 a.0 h.1 a.1,
      run_part s h.0 a.0 0 (omega arith) (omega (arith, h.3.full)) (keys_part s h.0 h.2) first,
      search rules,
    )

pub returns-in_err-weighted : goal.returns-in_err-weighted
returns-in_err-weighted g c =
    let s = sides_of c.args.keys.now c.args.zero.now c.args.one.now c.args.two.now in
    let h = c.in_ok-ready.ensures.messages in
    let a = c.in_ok-total.ensures in
    let b = c.in_err-weighted.ensures in
    let views = views_of c.in_ok-ready.ready.keys in
    let first = group_words s views h.0 a.0 0 h.3.seen a.2 in
    let second = group_later s h.0 a.0 b.0 1 (omega (arith, h.3.full)) (group_words s views h.0 b.0 1 h.3.seen b.2) in
    let part = run_part s h.0 a.0 0 (omega arith) (omega (arith, h.3.full)) (keys_part s h.0 h.2) first in
    let six : length (h.0 ++ a.0) ≡ 3 + 3 * 1 = omega (arith, length-append h.0 a.0, h.3.full, a.3.full) in
    let both = went_both g.W.Wire.sight g.met.W.Wire.both_pass _ _ _ h.0 a.0 h.1 a.1 in (
      (h.0 ++ a.0) ++ b.0,
      went_both g.W.Wire.sight g.met.W.Wire.both_pass _ _ _ (h.0 ++ a.0) b.0 both b.1,
      run_part s (h.0 ++ a.0) b.0 1 (omega arith) six part second,
      IfOk-from_err c.from_residual-in_err-weighted.result _ c.from_residual-in_err-weighted.ensures.0,
    )

pub returns : goal.returns
returns g c =
    let s = sides_of c.args.keys.now c.args.zero.now c.args.one.now c.args.two.now in
    let h = c.in_ok-ready.ensures.messages in
    let a = c.in_ok-total.ensures in
    let b = c.in_ok-weighted.ensures in
    let views = views_of c.in_ok-ready.ready.keys in
    let first = group_words s views h.0 a.0 0 h.3.seen a.2 in
    let second = group_later s h.0 a.0 b.0 1 (omega (arith, h.3.full)) (group_words s views h.0 b.0 1 h.3.seen b.2) in
    let part = run_part s h.0 a.0 0 (omega arith) (omega (arith, h.3.full)) (keys_part s h.0 h.2) first in
    let six : length (h.0 ++ a.0) ≡ 3 + 3 * 1 = omega (arith, length-append h.0 a.0, h.3.full, a.3.full) in
    let both = went_both g.W.Wire.sight g.met.W.Wire.both_pass _ _ _ h.0 a.0 h.1 a.1 in
    let ms = (h.0 ++ a.0) ++ b.0 in (
      ms,
      went_both g.W.Wire.sight g.met.W.Wire.both_pass _ _ _ (h.0 ++ a.0) b.0 both b.1,
      run_part s (h.0 ++ a.0) b.0 1 (omega arith) six part second,
      (
        omega (arith, length-append (h.0 ++ a.0) b.0, six, b.3.full),
        opened_in h.0 a.0 b.0 0 _ (omega (arith, h.3.full)) a.3,
        opened_in (h.0 ++ a.0) b.0 [] 1 _ six b.3 ∙ ap (λ (l : List Message). tree_opened l 1) (append-nil ms),
      ),
    )
