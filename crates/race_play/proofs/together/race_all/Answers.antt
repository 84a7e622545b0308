use Rattle.std.proofs.Common.{◌∙◌, ap, refl, subst, List, [], arith}
use Rattle.std.proofs.lemmas.List.{length-map}
use Rattle.std.proofs.lemmas.Result.{IfOk-at_ok}
use Rattle.std.specs.Prelude.{Ok}
use Rattle.table_schema.specs.declared.widths.Widths.{Widths}
use Rattle.ticket_place.specs.Sights.{Named}
use Rattle.waldo_table.specs.Tables.{PassView}
use Rattle.wire_line.specs.declared.message.Message.{Message}
use Rattle.race_play.specs.Askers.{AreAsked, WentEach}
use Rattle.race_play.specs.Filled.{IsGathered}
use Rattle.race_play.specs.Gathers.{places_in}
use Rattle.race_play.proofs.Answering.{asked_more}
use Rattle.race_play.proofs.Breaking.{begun_in}
use Rattle.race_play.proofs.Gathering.{ended_long}
use Rattle.race_play.proofs.Racing.{all_backs, first_of, gathered_of}
use Rattle.race_play.specs.Seen.{all_rounds}
use Rattle.race_play.specs.Settings.{setting_of}
use Rattle.race_play.proofs.Seeing.{first_none, if_err, notes_first, rounds_noted}
use Rattle.race_play.proofs.Writing.{grows_trans}
use Rattle.race_play.proofs.together.race_all.Goals as goal

pub printed-requires : goal.printed-requires
printed-requires g c =
    let e = c.in_ok-gathered.ensures in
    let s = c.in_ok-jobs.ensures in
    let a = ap (λ (p : PassView). p.sight.room) c.split_pass-mine.ensures.kept in
    let b = ap (λ (p : PassView). p.sight.room) c.gather.ensures.gathered in
    gathered_of _ _ _ _ _ c.in_ok-gathered.gathered c.split_jobs.new.pass.sight.room c.requires.legal.writers (e.long ∙ c.run_both-heard.ensures.done.long ∙ s.long) e.all c.room.ensures.sound
    (ap (λ (n : Named). n.capacity) e.pass.book) (s.room ∙ c.requires.whole) (let r = e.room in omega arith)

pub returns-clause-raced : goal.returns-clause-raced
returns-clause-raced g c =
    let e = c.in_ok-gathered.ensures in
    let s = c.in_ok-jobs.ensures in
    let gathered = c.in_ok-gathered.gathered in
    let ended = e.all.ended in
    let asks = c.run_both-heard.ensures.asked in
    let said = c.in_ok-asks.ensures.said in
    let race = c.args.race.now in
    let a = ap (λ (p : PassView). p.sight.room) c.split_pass-mine.ensures.kept in
    let b = ap (λ (p : PassView). p.sight.room) c.gather.ensures.gathered in
    let all : IsGathered race.rows.now race.master race.crew.writers c.gather_all.new.pass.sight.order (places_in gathered) =
    gathered_of _ _ _ _ _ gathered c.split_jobs.new.pass.sight.room c.requires.legal.writers (e.long ∙ c.run_both-heard.ensures.done.long ∙ s.long) e.all c.room.ensures.sound
    (ap (λ (n : Named). n.capacity) e.pass.book) (s.room ∙ c.requires.whole) (let r = e.room in omega arith) in (
      asks.asked.0,
      asks.asked.1,
      record {
        places = places_in gathered;
        stands = c.in_ok-order.ensures;
        all = first_of _ _ _ c.gather_all.new.pass gathered e.all all c.in_ok-order.ensures.same;
        floor = let f = c.floor.ensures.legal.floor in let l = c.in_ok-order.ensures.same in omega arith;
        full = let r = e.room in let k = ap (λ (n : Named). n.capacity) e.pass.book in let n = s.room ∙ c.requires.whole in omega arith;
        long = ended_long _ _ _ c.gather_all.new.pass 0 (places_in gathered) gathered.lines.items ended ∙ length-map gathered.places.items (λ v. v.items) ∙ e.long ∙ c.run_both-heard.ensures.done.long ∙ s.long;
        backs = all_backs _ _ _ c.gather_all.new.pass (places_in gathered) _ c.in_ok-order.ensures gathered.lines.items ended;
        askers = let n = asks.asked.3 in omega arith;
        asks = subst (λ (w : Widths). AreAsked w race.queries.now race.master race.crew.rounds c.gather_all.new.pass.sight.order 0 asks.asked.0 c.in_ok-asks.field-0) c.requires.widths
            (asked_more c.args.table.now.widths race.queries.now race.master race.crew.rounds c.run_both-heard.new.pass.sight.order c.gather_all.new.pass.sight.order
            (grows_trans c.run_both-heard.new.pass c.gather.new.pass c.gather_all.new.pass c.gather.ensures.grows.1 e.grows).order 0 asks.asked.0 c.in_ok-asks.field-0
            (IfOk-at_ok (AreAsked c.args.table.now.widths race.queries.now race.master race.crew.rounds c.run_both-heard.new.pass.sight.order 0 asks.asked.0) said asks.asked.2));
      },
    )

pub returns-in_err-jobs-clause-begun : goal.returns-in_err-jobs-clause-begun
returns-in_err-jobs-clause-begun g c = ([], refl, tt, omega arith)

pub returns-in_err-gathered-clause-begun : goal.returns-in_err-gathered-clause-begun
returns-in_err-gathered-clause-begun g c =
    let b = c.run_both-heard.ensures.asked.begun in
    let race = c.args.race.now in
    begun_in c.args.table.now.widths race.widths c.run_both-heard.new.pass.sight.order c.gather_all.new.pass.sight.order race.queries.now race.master race.crew.rounds race.crew.askers
    (λ (sent : List (List Message)). WentEach g.W.Wire.sight sent c.args.wires.now c.run_both-heard.new.wires) c.requires.widths
    (grows_trans c.run_both-heard.new.pass c.gather.new.pass c.gather_all.new.pass c.gather.ensures.grows.1 c.gather_all.ensures.grows).order b.0 b.1 b.2 b.3

pub returns-in_err-order-clause-begun : goal.returns-in_err-order-clause-begun
returns-in_err-order-clause-begun g c =
    let b = c.run_both-heard.ensures.asked.begun in
    let race = c.args.race.now in
    begun_in c.args.table.now.widths race.widths c.run_both-heard.new.pass.sight.order c.gather_all.new.pass.sight.order race.queries.now race.master race.crew.rounds race.crew.askers
    (λ (sent : List (List Message)). WentEach g.W.Wire.sight sent c.args.wires.now c.run_both-heard.new.wires) c.requires.widths
    (grows_trans c.run_both-heard.new.pass c.gather.new.pass c.gather_all.new.pass c.gather.ensures.grows.1 c.gather_all.ensures.grows).order b.0 b.1 b.2 b.3

pub returns-in_err-asks-clause-begun : goal.returns-in_err-asks-clause-begun
returns-in_err-asks-clause-begun g c =
    let b = c.run_both-heard.ensures.asked.begun in
    let race = c.args.race.now in
    begun_in c.args.table.now.widths race.widths c.run_both-heard.new.pass.sight.order c.gather_all.new.pass.sight.order race.queries.now race.master race.crew.rounds race.crew.askers
    (λ (sent : List (List Message)). WentEach g.W.Wire.sight sent c.args.wires.now c.run_both-heard.new.wires) c.requires.widths
    (grows_trans c.run_both-heard.new.pass c.gather.new.pass c.gather_all.new.pass c.gather.ensures.grows.1 c.gather_all.ensures.grows).order b.0 b.1 b.2 b.3

pub returns-clause-begun : goal.returns-clause-begun
returns-clause-begun g c =
    let b = c.run_both-heard.ensures.asked.begun in
    let race = c.args.race.now in
    begun_in c.args.table.now.widths race.widths c.run_both-heard.new.pass.sight.order c.gather_all.new.pass.sight.order race.queries.now race.master race.crew.rounds race.crew.askers
    (λ (sent : List (List Message)). WentEach g.W.Wire.sight sent c.args.wires.now c.run_both-heard.new.wires) c.requires.widths
    (grows_trans c.run_both-heard.new.pass c.gather.new.pass c.gather_all.new.pass c.gather.ensures.grows.1 c.gather_all.ensures.grows).order b.0 b.1 b.2 b.3

pub returns-in_err-jobs-clause-seen_first : goal.returns-in_err-jobs-clause-seen_first
returns-in_err-jobs-clause-seen_first g c =
    let race = c.args.race.now in
    if_err _ _ (first_none race.widths (all_rounds (setting_of race)) c.args.trace.now)

pub returns-clause-seen : goal.returns-clause-seen
returns-clause-seen g c =
    let race = c.args.race.now in
    rounds_noted c.args.table.now.widths race c.args.trace.now c.noted-asks.new.trace c.run_both-heard.result.trace c.run_both-heard.result.said (Ok c.in_ok-asks.field-0) c.requires.widths
    c.run_both-heard.ensures.asked.seen c.in_ok-asks.ensures.said c.in_ok-asks.ensures.trace tt

pub returns-in_err-gathered-clause-seen_first : goal.returns-in_err-gathered-clause-seen_first
returns-in_err-gathered-clause-seen_first g c =
    let race = c.args.race.now in
    if_err _ _
    (notes_first race.widths (all_rounds (setting_of race)) c.args.trace.now c.noted-asks.new.trace c.noted-asks.result
    (rounds_noted c.args.table.now.widths race c.args.trace.now c.noted-asks.new.trace c.run_both-heard.result.trace c.run_both-heard.result.said c.noted-asks.result c.requires.widths
    c.run_both-heard.ensures.asked.seen c.noted-asks.ensures.said c.noted-asks.ensures.trace c.noted-asks.ensures.trace_first))

pub returns-in_err-order-clause-seen_first : goal.returns-in_err-order-clause-seen_first
returns-in_err-order-clause-seen_first g c =
    let race = c.args.race.now in
    if_err _ _
    (notes_first race.widths (all_rounds (setting_of race)) c.args.trace.now c.noted-asks.new.trace c.noted-asks.result
    (rounds_noted c.args.table.now.widths race c.args.trace.now c.noted-asks.new.trace c.run_both-heard.result.trace c.run_both-heard.result.said c.noted-asks.result c.requires.widths
    c.run_both-heard.ensures.asked.seen c.noted-asks.ensures.said c.noted-asks.ensures.trace c.noted-asks.ensures.trace_first))

pub returns-in_err-asks-clause-seen_first : goal.returns-in_err-asks-clause-seen_first
returns-in_err-asks-clause-seen_first g c =
    let race = c.args.race.now in
    if_err _ _
    (notes_first race.widths (all_rounds (setting_of race)) c.args.trace.now c.noted-asks.new.trace c.noted-asks.result
    (rounds_noted c.args.table.now.widths race c.args.trace.now c.noted-asks.new.trace c.run_both-heard.result.trace c.run_both-heard.result.said c.noted-asks.result c.requires.widths
    c.run_both-heard.ensures.asked.seen c.noted-asks.ensures.said c.noted-asks.ensures.trace c.noted-asks.ensures.trace_first))
