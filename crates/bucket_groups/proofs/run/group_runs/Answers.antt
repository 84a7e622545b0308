use Rattle.std.proofs.Common.{◌≡◌, ◌∙◌, ◌++◌, refl, map, ap, sym, subst, rules, arith}
use Rattle.list_facts.specs.Count.{total}
use Rattle.scan_chunks.specs.Shelf.{Held}
use Rattle.wire_line.specs.Carried.{went_both}
use Rattle.transcript.specs.Setup.{Sizes}
use Rattle.bucket_groups.specs.Ending.{bucket_ending}
use Rattle.bucket_groups.proofs.Runs.{after_groups, whole_groups, wide_column}
use Rattle.server_rounds.specs.Groups.{by_server}
use Rattle.server_rounds.specs.Plans.{read_for, sizes_for, views_of, words_for}
use Rattle.server_rounds.specs.Shelves.{AreShelves, pieces_of, rows_of}
use Rattle.server_rounds.proofs.Both.{after_keys}
use Rattle.server_rounds.proofs.Visiting.{all_cut, all_done, all_fails, all_none, all_then}
use Rattle.visit_trace.specs.Growing.{by_stopped}
use Rattle.query_plan.specs.Seeds.{weights_of}
use Rattle.transcript.specs.Laws.{Asks}
use Rattle.bucket_groups.specs.Ending.{groups_for}
use Rattle.bucket_groups.specs.Seen.{group_columns}
use Rattle.bucket_groups.proofs.Open.{group_pairs_open}
use Rattle.bucket_groups.proofs.Visiting.{query_after_keys, query_after_run, query_all, query_cut}
use Rattle.server_rounds.proofs.Together.{total-map, counted}
use Rattle.bucket_groups.proofs.run.group_runs.Goals as goal

pub count_rows-rows-requires : goal.count_rows-rows-requires
count_rows-rows-requires g c =
    let held = g.S.Shelf.held in
    let f = λ (s : g.row.S.Denot). (held s).rows in
    omega (arith, ap (total f) c.as_slice.ensures.value, total-map (λ (h : Held). h.rows) held c.args.shelves.now.zero.items, c.requires.few)

pub send-requires : goal.send-requires
send-requires g c =
    let rows = counted g.S.Shelf.held c.args.shelves.now.zero.items _ _ c.count_rows-rows.ensures.count c.as_slice.ensures.value in
    omega (arith, rows, c.requires.few)

pub run_groups-requires-clause-zero : goal.run_groups-requires-clause-zero
run_groups-requires-clause-zero g c κs within =
    let held = g.S.Shelf.held in
    let rows = counted held c.args.shelves.now.zero.items _ _ c.count_rows-rows.ensures.count c.as_slice.ensures.value in
    let z = sizes_for c.args.keys.now (rows_of (map held c.args.shelves.now.zero.items)) in
    let plan : c.in_ok-ready.ready.plan ≡ z = c.in_ok-ready.ensures.plan ∙ ap (sizes_for c.args.keys.now) rows in
    subst (λ (p : Sizes). AreShelves p.widths p.rows (map held c.args.shelves.now.zero.items)) (sym plan) c.requires.zero

pub run_groups-requires-2-clause-zero : goal.run_groups-requires-2-clause-zero
run_groups-requires-2-clause-zero g c κs within =
    let held = g.S.Shelf.held in
    let rows = counted held c.args.shelves.now.zero.items _ _ c.count_rows-rows.ensures.count c.as_slice.ensures.value in
    let z = sizes_for c.args.keys.now (rows_of (map held c.args.shelves.now.zero.items)) in
    let plan : c.in_ok-ready.ready.plan ≡ z = c.in_ok-ready.ensures.plan ∙ ap (sizes_for c.args.keys.now) rows in
    rw c.in_ok-total.ensures.zero (subst (λ (p : Sizes). AreShelves p.widths p.rows (map held c.args.shelves.now.zero.items)) (sym plan) c.requires.zero)

pub run_groups-requires-clause-one : goal.run_groups-requires-clause-one
run_groups-requires-clause-one g c κs within =
    let held = g.S.Shelf.held in
    let rows = counted held c.args.shelves.now.zero.items _ _ c.count_rows-rows.ensures.count c.as_slice.ensures.value in
    let z = sizes_for c.args.keys.now (rows_of (map held c.args.shelves.now.zero.items)) in
    let plan : c.in_ok-ready.ready.plan ≡ z = c.in_ok-ready.ensures.plan ∙ ap (sizes_for c.args.keys.now) rows in
    subst (λ (p : Sizes). AreShelves p.widths p.rows (map held c.args.shelves.now.one.items)) (sym plan) c.requires.one

pub run_groups-requires-2-clause-one : goal.run_groups-requires-2-clause-one
run_groups-requires-2-clause-one g c κs within =
    let held = g.S.Shelf.held in
    let rows = counted held c.args.shelves.now.zero.items _ _ c.count_rows-rows.ensures.count c.as_slice.ensures.value in
    let z = sizes_for c.args.keys.now (rows_of (map held c.args.shelves.now.zero.items)) in
    let plan : c.in_ok-ready.ready.plan ≡ z = c.in_ok-ready.ensures.plan ∙ ap (sizes_for c.args.keys.now) rows in
    rw c.in_ok-total.ensures.one (subst (λ (p : Sizes). AreShelves p.widths p.rows (map held c.args.shelves.now.one.items)) (sym plan) c.requires.one)

pub run_groups-requires-clause-two : goal.run_groups-requires-clause-two
run_groups-requires-clause-two g c κs within =
    let held = g.S.Shelf.held in
    let rows = counted held c.args.shelves.now.zero.items _ _ c.count_rows-rows.ensures.count c.as_slice.ensures.value in
    let z = sizes_for c.args.keys.now (rows_of (map held c.args.shelves.now.zero.items)) in
    let plan : c.in_ok-ready.ready.plan ≡ z = c.in_ok-ready.ensures.plan ∙ ap (sizes_for c.args.keys.now) rows in
    subst (λ (p : Sizes). AreShelves p.widths p.rows (map held c.args.shelves.now.two.items)) (sym plan) c.requires.two

pub run_groups-requires-2-clause-two : goal.run_groups-requires-2-clause-two
run_groups-requires-2-clause-two g c κs within =
    let held = g.S.Shelf.held in
    let rows = counted held c.args.shelves.now.zero.items _ _ c.count_rows-rows.ensures.count c.as_slice.ensures.value in
    let z = sizes_for c.args.keys.now (rows_of (map held c.args.shelves.now.zero.items)) in
    let plan : c.in_ok-ready.ready.plan ≡ z = c.in_ok-ready.ensures.plan ∙ ap (sizes_for c.args.keys.now) rows in
    rw c.in_ok-total.ensures.two (subst (λ (p : Sizes). AreShelves p.widths p.rows (map held c.args.shelves.now.two.items)) (sym plan) c.requires.two)

pub returns-in_err-total-clause-messages : goal.returns-in_err-total-clause-messages
returns-in_err-total-clause-messages g c =
    let held = g.S.Shelf.held in
    let rows = counted held c.args.shelves.now.zero.items _ _ c.count_rows-rows.ensures.count c.as_slice.ensures.value in
    let z = sizes_for c.args.keys.now (rows_of (map held c.args.shelves.now.zero.items)) in
    let plan : c.in_ok-ready.ready.plan ≡ z = c.in_ok-ready.ensures.plan ∙ ap (sizes_for c.args.keys.now) rows in
    let pieces = by_server (pieces_of (map held c.args.shelves.now.zero.items)) (pieces_of (map held c.args.shelves.now.one.items)) (pieces_of (map held c.args.shelves.now.two.items)) in
    let words = words_for c.args.keys.now in
    let read = read_for c.args.keys.now in
    let views = views_of c.in_ok-ready.ready.keys in
    let k = c.in_ok-ready.ensures.messages in
    let column = c.args.column in
    let ending = bucket_ending z column in
    let wide = wide_column z.widths column in
    let b0 = after_keys z ending words read pieces views k.0 k.2 k.3 in
    let r = rw plan at c.in_err-total.ensures.messages in
    let went = went_both g.W.Wire.sight g.met.W.Wire.both_pass _ _ _ k.0 r.0 k.1 r.1 in
    (k.0 ++ r.0, went, r.2 words read k.0 b0, search rules)

pub returns-in_err-weighted-clause-messages : goal.returns-in_err-weighted-clause-messages
returns-in_err-weighted-clause-messages g c =
    let held = g.S.Shelf.held in
    let rows = counted held c.args.shelves.now.zero.items _ _ c.count_rows-rows.ensures.count c.as_slice.ensures.value in
    let z = sizes_for c.args.keys.now (rows_of (map held c.args.shelves.now.zero.items)) in
    let plan : c.in_ok-ready.ready.plan ≡ z = c.in_ok-ready.ensures.plan ∙ ap (sizes_for c.args.keys.now) rows in
    let pieces = by_server (pieces_of (map held c.args.shelves.now.zero.items)) (pieces_of (map held c.args.shelves.now.one.items)) (pieces_of (map held c.args.shelves.now.two.items)) in
    let words = words_for c.args.keys.now in
    let read = read_for c.args.keys.now in
    let views = views_of c.in_ok-ready.ready.keys in
    let k = c.in_ok-ready.ensures.messages in
    let column = c.args.column in
    let ending = bucket_ending z column in
    let wide = wide_column z.widths column in
    let b0 = after_keys z ending words read pieces views k.0 k.2 k.3 in
    let r = rw plan at c.in_ok-total.ensures.messages in
    let w = rw (plan, c.in_ok-total.ensures.zero, c.in_ok-total.ensures.one, c.in_ok-total.ensures.two) at c.in_err-weighted.ensures.messages in
    let b1 = after_groups z column words read pieces views k.0 r.0 _ b0 r.2 wide r.3 in
    let first = went_both g.W.Wire.sight g.met.W.Wire.both_pass _ _ _ k.0 r.0 k.1 r.1 in
    let went = went_both g.W.Wire.sight g.met.W.Wire.both_pass _ _ _ (k.0 ++ r.0) w.0 first w.1 in
    ((k.0 ++ r.0) ++ w.0, went, w.2 words read (k.0 ++ r.0) b1, search rules)

pub returns-clause-messages : goal.returns-clause-messages
returns-clause-messages g c =
    let held = g.S.Shelf.held in
    let rows = counted held c.args.shelves.now.zero.items _ _ c.count_rows-rows.ensures.count c.as_slice.ensures.value in
    let z = sizes_for c.args.keys.now (rows_of (map held c.args.shelves.now.zero.items)) in
    let plan : c.in_ok-ready.ready.plan ≡ z = c.in_ok-ready.ensures.plan ∙ ap (sizes_for c.args.keys.now) rows in
    let pieces = by_server (pieces_of (map held c.args.shelves.now.zero.items)) (pieces_of (map held c.args.shelves.now.one.items)) (pieces_of (map held c.args.shelves.now.two.items)) in
    let words = words_for c.args.keys.now in
    let read = read_for c.args.keys.now in
    let views = views_of c.in_ok-ready.ready.keys in
    let k = c.in_ok-ready.ensures.messages in
    let column = c.args.column in
    let ending = bucket_ending z column in
    let wide = wide_column z.widths column in
    let b0 = after_keys z ending words read pieces views k.0 k.2 k.3 in
    let r = rw plan at c.in_ok-total.ensures.messages in
    let w = rw (plan, c.in_ok-total.ensures.zero, c.in_ok-total.ensures.one, c.in_ok-total.ensures.two) at c.in_ok-weighted.ensures.messages in
    let b1 = after_groups z column words read pieces views k.0 r.0 _ b0 r.2 wide r.3 in
    let first = went_both g.W.Wire.sight g.met.W.Wire.both_pass _ _ _ k.0 r.0 k.1 r.1 in
    let went = went_both g.W.Wire.sight g.met.W.Wire.both_pass _ _ _ (k.0 ++ r.0) w.0 first w.1 in
    let part = w.2 words read (k.0 ++ r.0) b1 in
    ((k.0 ++ r.0) ++ w.0, went, part, whole_groups z column words read pieces views k.0 r.0 w.0 _ _ b0 b1 r.3 part w.3)

pub run_groups-requires-clause-column : goal.run_groups-requires-clause-column
run_groups-requires-clause-column g c = omega (arith, c.requires.column, ap (λ (z : Sizes). z.widths.columns) c.in_ok-ready.ensures.plan)

pub run_groups-requires-2-clause-column : goal.run_groups-requires-2-clause-column
run_groups-requires-2-clause-column g c = omega (arith, c.requires.column, ap (λ (z : Sizes). z.widths.columns) c.in_ok-ready.ensures.plan)

pub returns-in_err-ready-clause-visits : goal.returns-in_err-ready-clause-visits
returns-in_err-ready-clause-visits g c = all_none g.S.Shelf.held g.S.Shelf.visited _ _ _ c.from_residual.ensures.0

pub returns-in_err-total-clause-visits : goal.returns-in_err-total-clause-visits
returns-in_err-total-clause-visits g c =
    let held = g.S.Shelf.held in
    let rows = counted held c.args.shelves.now.zero.items _ _ c.count_rows-rows.ensures.count c.as_slice.ensures.value in
    let z = sizes_for c.args.keys.now (rows_of (map held c.args.shelves.now.zero.items)) in
    let plan : c.in_ok-ready.ready.plan ≡ z = c.in_ok-ready.ensures.plan ∙ ap (sizes_for c.args.keys.now) rows in
    all_cut held g.S.Shelf.visited (group_columns z c.args.column) (group_columns z c.args.column) _ _ _ _ c.from_residual-in_err-total.ensures.0 (rw plan at c.in_err-total.ensures.visits)

pub returns-in_err-weighted-clause-visits : goal.returns-in_err-weighted-clause-visits
returns-in_err-weighted-clause-visits g c =
    let held = g.S.Shelf.held in
    let rows = counted held c.args.shelves.now.zero.items _ _ c.count_rows-rows.ensures.count c.as_slice.ensures.value in
    let z = sizes_for c.args.keys.now (rows_of (map held c.args.shelves.now.zero.items)) in
    let plan : c.in_ok-ready.ready.plan ≡ z = c.in_ok-ready.ensures.plan ∙ ap (sizes_for c.args.keys.now) rows in
    let t = c.in_ok-total.ensures in
    let both = all_then held g.S.Shelf.visited (group_columns z c.args.column) (group_columns z c.args.column) _ _ _ _ _ t.zero t.one t.two (rw plan at t.visits) (rw plan at c.in_err-weighted.ensures.visits) in
    all_fails held g.S.Shelf.visited _ _ _ _ _ c.from_residual-in_err-weighted.ensures.0 both

pub returns-clause-visits : goal.returns-clause-visits
returns-clause-visits g c =
    let held = g.S.Shelf.held in
    let rows = counted held c.args.shelves.now.zero.items _ _ c.count_rows-rows.ensures.count c.as_slice.ensures.value in
    let z = sizes_for c.args.keys.now (rows_of (map held c.args.shelves.now.zero.items)) in
    let plan : c.in_ok-ready.ready.plan ≡ z = c.in_ok-ready.ensures.plan ∙ ap (sizes_for c.args.keys.now) rows in
    let t = c.in_ok-total.ensures in
    let both = all_then held g.S.Shelf.visited (group_columns z c.args.column) (group_columns z c.args.column) _ _ _ _ _ t.zero t.one t.two (rw plan at t.visits) (rw plan at c.in_ok-weighted.ensures.visits) in
    all_done held g.S.Shelf.visited _ _ _ _ _ both

pub returns-in_err-ready-clause-trace : goal.returns-in_err-ready-clause-trace
returns-in_err-ready-clause-trace g c =
    let held = g.S.Shelf.held in
    let rows = counted held c.args.shelves.now.zero.items _ _ c.count_rows-rows.ensures.count c.as_slice.ensures.value in
    let z = sizes_for c.args.keys.now (rows_of (map held c.args.shelves.now.zero.items)) in
    by_stopped _ _ _ _ c.from_residual.ensures.0 (query_cut z c.args.column _ _ c.in_err-ready.ensures.trace)

pub returns-in_err-total-clause-trace : goal.returns-in_err-total-clause-trace
returns-in_err-total-clause-trace g c =
    let held = g.S.Shelf.held in
    let rows = counted held c.args.shelves.now.zero.items _ _ c.count_rows-rows.ensures.count c.as_slice.ensures.value in
    let z = sizes_for c.args.keys.now (rows_of (map held c.args.shelves.now.zero.items)) in
    let plan : c.in_ok-ready.ready.plan ≡ z = c.in_ok-ready.ensures.plan ∙ ap (sizes_for c.args.keys.now) rows in
    by_stopped _ _ _ _ c.from_residual-in_err-total.ensures.0 (query_after_keys z c.args.column _ _ _ c.in_ok-ready.ensures.trace (rw plan at c.in_err-total.ensures.trace))

pub returns-in_err-weighted-clause-trace : goal.returns-in_err-weighted-clause-trace
returns-in_err-weighted-clause-trace g c =
    let held = g.S.Shelf.held in
    let rows = counted held c.args.shelves.now.zero.items _ _ c.count_rows-rows.ensures.count c.as_slice.ensures.value in
    let z = sizes_for c.args.keys.now (rows_of (map held c.args.shelves.now.zero.items)) in
    let plan : c.in_ok-ready.ready.plan ≡ z = c.in_ok-ready.ensures.plan ∙ ap (sizes_for c.args.keys.now) rows in
    by_stopped _ _ _ _ c.from_residual-in_err-weighted.ensures.0
    (query_after_run z c.args.column _ _ _ _ c.in_ok-ready.ensures.trace (rw plan at c.in_ok-total.ensures.trace) (rw plan at c.in_err-weighted.ensures.trace))

pub returns-clause-trace : goal.returns-clause-trace
returns-clause-trace g c =
    let held = g.S.Shelf.held in
    let rows = counted held c.args.shelves.now.zero.items _ _ c.count_rows-rows.ensures.count c.as_slice.ensures.value in
    let z = sizes_for c.args.keys.now (rows_of (map held c.args.shelves.now.zero.items)) in
    let plan : c.in_ok-ready.ready.plan ≡ z = c.in_ok-ready.ensures.plan ∙ ap (sizes_for c.args.keys.now) rows in
    query_all z c.args.column _ _ _ _ c.in_ok-ready.ensures.trace (rw plan at c.in_ok-total.ensures.trace) (rw plan at c.in_ok-weighted.ensures.trace)

pub returns-clause-plain : goal.returns-clause-plain
returns-clause-plain g c unaltered rows hold long =
    let held = g.S.Shelf.held in
    let m = returns-clause-messages g c in
    let k = c.args.keys.now in
    let pieces = by_server (pieces_of (map held c.args.shelves.now.zero.items)) (pieces_of (map held c.args.shelves.now.one.items)) (pieces_of (map held c.args.shelves.now.two.items)) in
    let s = groups_for k.query c.args.column k.widths k.seed (rows_of (map held c.args.shelves.now.zero.items)) pieces in
    let asks : Asks s k.query (weights_of k.seed) rows = record { suits = c.shape.ensures.suits; shape = refl; keys = c.shape.ensures.add_up; hold = hold; long = sym long } in
    let both = group_pairs_open s k.query (weights_of k.seed) rows m.0 c.args.column (λ j. refl) c.requires.column asks refl m.3.0 (m.1.honest unaltered) in
    record { plain_totals = m.3.1 ∙ both.0; key_times = m.3.2 ∙ both.1 }
