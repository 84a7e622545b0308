use Rattle.std.proofs.Common.{◌≡◌, ◌∙◌, ◌<◌, refl, sym, ap, subst, List, [], ℕ, length}
use Rattle.std.proofs.lemmas.Result.{IfOk-from_err}
use Rattle.prg_chacha.specs.declared.seed.Seed.{Seed}
use Rattle.query_plan.specs.Query.{Suits, shaped}
use Rattle.query_plan.specs.KeyMessages.{Asked}
use Rattle.query_plan.specs.Laws.{AreKeysOf}
use Rattle.query_plan.specs.Seeds.{weights_of}
use Rattle.query_plan.specs.Views.{key_from}
use Rattle.table_schema.specs.declared.widths.Widths.{Widths}
use Rattle.visit_trace.specs.Growing.{by_stopped, prefix_none, prefix_whole}
use Rattle.visit_trace.specs.Seen.{Grew, GrewBy}
use Rattle.wire_line.specs.Carried.{went_none}
use Rattle.visit_trace.specs.declared.sizes.Sizes.{Sizes}
use Rattle.server_rounds.specs.Plans.{sizes_for}
use Rattle.agreed_rows.specs.Answers.{sizes_over}
use Rattle.agreed_rows.proofs.OverRows.{no_part}
use Rattle.bucket_groups.specs.Check.{answers_of}
use Rattle.bucket_groups.specs.Seen.{group_trace}
use Rattle.agreed_groups.proofs.Asking.{made_over, opens_asked, part_asked, plain_over, stopped_with}
use Rattle.agreed_groups.proofs.ask.answer_groups.Goals as goal

pub returns-in_err-keys-clause-answers : goal.returns-in_err-keys-clause-answers
returns-in_err-keys-clause-answers g c = (
  [],
  [],
  [],
  went_none g.W.Wire.sight _ _ refl refl (g.met.W.Wire.none_passes _),
  stopped_with c.args.agreed.now c.args.query.now c.args.column c.args.seed.now [] [] [] _ c.from_residual.ensures.0 (no_part _),
  λ honest. IfOk-from_err c.from_residual.result _ c.from_residual.ensures.0,
)

pub returns-in_err-keys-clause-trace : goal.returns-in_err-keys-clause-trace
returns-in_err-keys-clause-trace g c = by_stopped _ _ _ _ c.from_residual.ensures.0 (prefix_none _ _)

pub returns-in_err-shelves-clause-answers : goal.returns-in_err-shelves-clause-answers
returns-in_err-shelves-clause-answers g c = (
  [],
  [],
  [],
  went_none g.W.Wire.sight _ _ refl refl (g.met.W.Wire.none_passes _),
  stopped_with c.args.agreed.now c.args.query.now c.args.column c.args.seed.now [] [] [] _ c.from_residual-in_err-shelves.ensures.0 (no_part _),
  λ honest. IfOk-from_err c.from_residual-in_err-shelves.result _ c.from_residual-in_err-shelves.ensures.0,
)

pub returns-in_err-shelves-clause-trace : goal.returns-in_err-shelves-clause-trace
returns-in_err-shelves-clause-trace g c = by_stopped _ _ _ _ c.from_residual-in_err-shelves.ensures.0 (prefix_none _ _)

pub returns-in_err-totals-clause-answers : goal.returns-in_err-totals-clause-answers
returns-in_err-totals-clause-answers g c =
    let e = c.args.agreed.now in
    let q = c.args.query.now in
    let s = c.args.seed.now in
    let keys = c.in_ok-keys.keys in
    let hold = c.in_ok-shelves.ensures.shelves in
    let made = made_over e q s c.args.widths.now keys c.requires.widths c.in_ok-keys.ensures.made in
    let there = subst (λ (w : Widths). c.args.column < w.columns) (sym c.requires.widths) c.requires.column in
    let columns = rw c.shape.ensures.shape at c.shape.ensures.there in
    let h = c.in_err-totals.ensures.messages in
    let part = part_asked c.columns_suffice.ensures c.buckets_see_columns.ensures e q c.args.column s keys _ _ h.0 made hold.zero.count there columns hold.pieces h.2 in (
      h.0,
      [],
      [],
      h.1,
      stopped_with e q c.args.column s h.0 [] [] _ c.from_residual-in_err-totals.ensures.0 part,
      λ honest. IfOk-from_err c.from_residual-in_err-totals.result _ c.from_residual-in_err-totals.ensures.0,
    )

pub returns-in_err-answers-clause-answers : goal.returns-in_err-answers-clause-answers
returns-in_err-answers-clause-answers g c =
    let e = c.args.agreed.now in
    let q = c.args.query.now in
    let s = c.args.seed.now in
    let keys = c.in_ok-keys.keys in
    let hold = c.in_ok-shelves.ensures.shelves in
    let made = made_over e q s c.args.widths.now keys c.requires.widths c.in_ok-keys.ensures.made in
    let there = subst (λ (w : Widths). c.args.column < w.columns) (sym c.requires.widths) c.requires.column in
    let columns = rw c.shape.ensures.shape at c.shape.ensures.there in
    let h = c.in_ok-totals.ensures.messages in
    let t = c.in_ok-totals.totals in
    let opens = opens_asked c.columns_suffice.ensures c.buckets_see_columns.ensures e q c.args.column s keys _ _ h.0 t.total t.weighted made hold.zero.count there columns hold.pieces
    h.3.0 h.3.1 h.3.2 in (
      h.0,
      t.total,
      t.weighted,
      h.1,
      stopped_with e q c.args.column s h.0 t.total t.weighted _ c.from_residual-in_err-answers.ensures.0 opens.transcript.part,
      λ honest. IfOk-from_err c.from_residual-in_err-answers.result _ c.from_residual-in_err-answers.ensures.0,
    )

pub returns-in_err-answers-clause-trace : goal.returns-in_err-answers-clause-trace
returns-in_err-answers-clause-trace g c =
    let e = c.args.agreed.now in
    let q = c.args.query.now in
    let keys = c.in_ok-keys.keys in
    let hold = c.in_ok-shelves.ensures.shelves in
    let made = made_over e q c.args.seed.now c.args.widths.now keys c.requires.widths c.in_ok-keys.ensures.made in
    let sizes : sizes_for keys _ ≡ sizes_over e q = ap (sizes_for keys) hold.zero.count ∙ ap (λ (k : Asked). sizes_for k (length e.all)) made in
    let trace = subst (λ (z : Sizes). Grew c.args.trace.now c.group_runs.new.trace (group_trace z c.args.column)) sizes c.in_ok-totals.ensures.trace in
    by_stopped _ _ _ _ c.from_residual-in_err-answers.ensures.0 (prefix_whole _ _ _ trace)

pub returns-clause-answers : goal.returns-clause-answers
returns-clause-answers g c =
    let e = c.args.agreed.now in
    let q = c.args.query.now in
    let s = c.args.seed.now in
    let keys = c.in_ok-keys.keys in
    let hold = c.in_ok-shelves.ensures.shelves in
    let made = made_over e q s c.args.widths.now keys c.requires.widths c.in_ok-keys.ensures.made in
    let there = subst (λ (w : Widths). c.args.column < w.columns) (sym c.requires.widths) c.requires.column in
    let columns = rw c.shape.ensures.shape at c.shape.ensures.there in
    let h = c.in_ok-totals.ensures.messages in
    let t = c.in_ok-totals.totals in
    let opens = opens_asked c.columns_suffice.ensures c.buckets_see_columns.ensures e q c.args.column s keys _ _ h.0 t.total t.weighted made hold.zero.count there columns hold.pieces
    h.3.0 h.3.1 h.3.2 in
    let suits = subst (λ (w : Widths). Suits w.columns w.bits q) (sym c.requires.widths) c.requires.suits in
    let keys_of = subst AreKeysOf made c.in_ok-keys.ensures.add_up in
    let key = c.key.ensures.key ∙ ap (λ (k : Asked). key_from (weights_of k.seed 1) k.query.count) made in
    let judged = c.in_ok-answers.ensures.answers ∙ ap (answers_of t.total t.weighted) key in
    let plainly = plain_over c.group_pairs_open.ensures c.pieces_hold.ensures c.plain_is_small.ensures e q c.args.column s h.0 t.total t.weighted c.rows.ensures.sound suits keys_of there opens in
    (h.0, t.total, t.weighted, h.1, (opens, judged), λ honest. judged ∙ plainly honest)

pub returns-clause-plain : goal.returns-clause-plain
returns-clause-plain g c still =
    let e = c.args.agreed.now in
    let q = c.args.query.now in
    let s = c.args.seed.now in
    let keys = c.in_ok-keys.keys in
    let hold = c.in_ok-shelves.ensures.shelves in
    let made = made_over e q s c.args.widths.now keys c.requires.widths c.in_ok-keys.ensures.made in
    let there = subst (λ (w : Widths). c.args.column < w.columns) (sym c.requires.widths) c.requires.column in
    let columns = rw c.shape.ensures.shape at c.shape.ensures.there in
    let h = c.in_ok-totals.ensures.messages in
    let t = c.in_ok-totals.totals in
    let opens = opens_asked c.columns_suffice.ensures c.buckets_see_columns.ensures e q c.args.column s keys _ _ h.0 t.total t.weighted made hold.zero.count there columns hold.pieces
    h.3.0 h.3.1 h.3.2 in
    let suits = subst (λ (w : Widths). Suits w.columns w.bits q) (sym c.requires.widths) c.requires.suits in
    let keys_of = subst AreKeysOf made c.in_ok-keys.ensures.add_up in
    let key = c.key.ensures.key ∙ ap (λ (k : Asked). key_from (weights_of k.seed 1) k.query.count) made in
    let judged = c.in_ok-answers.ensures.answers ∙ ap (answers_of t.total t.weighted) key in
    let plainly = plain_over c.group_pairs_open.ensures c.pieces_hold.ensures c.plain_is_small.ensures e q c.args.column s h.0 t.total t.weighted c.rows.ensures.sound suits keys_of there opens in
    judged ∙ plainly (h.1.honest still)
