-- What steps came to, put together of what some of them and the others came to.
use Rattle.std.proofs.Common.{◌≡◌, ◌∙◌, refl, sym, ap, subst, ℕ, ◌+◌, ◌<◌, List, [], ◌++◌, length, Ok, Err, length-append, arith}
use Rattle.table_schema.specs.declared.widths.Widths.{Widths}
use Rattle.waldo_words.specs.declared.schedule.Step.{Step}
use Rattle.schedule_play.specs.History.{AreHonest, Done, pair_at}
use Rattle.schedule_play.specs.Leads.{Advances, EndsAt, Leads, Stops}
use Rattle.schedule_play.specs.Plays.{EndsWith, Ended, Plays}
use Rattle.schedule_play.specs.Stages.{Stage, first_stage}
use Rattle.schedule_play.specs.Tasks.{Setting, Task}
use Rattle.schedule_play.specs.Wires.{WiresWent, Carried, Unaltered}
use Rattle.schedule_play.specs.declared.play.PlayFault.{PlayFault}
use Rattle.schedule_play.specs.declared.play.PlayFault.TheVariants.{NotAllowed, Memory}
use Rattle.schedule_play.specs.declared.play.Played.{Played}
use Rattle.schedule_play.specs.declared.style.Style.{Style}
use Rattle.schedule_play.proofs.Advancing.{advances_both, breaks_after, breaks_more, history_after, history_more, history_of, length_advances, honest_both, honest_weaker, plain_after, played_all, played_refused}
use Rattle.schedule_play.proofs.Going.{rose_first, rose_last, wires_both, wires_none}
use Rattle.wire_line.specs.Sights.{Sight, NonePasses, BothPass}

-- some steps were done, and then these came to an end
ends_after : (w : Widths) (s : Setting) (style : Style) (t : ℕ) (xs ys : List Step) (ds es : List Done) (stage mid : Stage) (fault : PlayFault) → Advances w s style stage xs ds mid
    → EndsAt w s style (t + length xs) mid ys es fault → EndsAt w s style t stage (xs ++ ys) (ds ++ es) fault
ends_after w s style t xs ys ds es stage mid (NotAllowed index) p q =
    let long = length_advances w s style xs ds stage mid p in (
      history_after w s style xs ys ds es stage mid p q.0,
      omega (arith, q.1, long, length-append ds es, length-append xs ys),
      omega (arith, q.2, long, length-append ds es),
    )
ends_after w s style t xs ys ds es stage mid Memory p q = breaks_after w s style xs ys ds es stage mid p q

-- more steps behind the one at which they came to an end
ends_more : (w : Widths) (s : Setting) (style : Style) (t : ℕ) (xs ys : List Step) (ds : List Done) (stage : Stage) (fault : PlayFault)
    → EndsAt w s style t stage xs ds fault → EndsAt w s style t stage (xs ++ ys) ds fault
ends_more w s style t xs ys ds stage (NotAllowed index) p = (history_more w s style xs ys ds stage p.1 p.0, omega (arith, p.1, length-append xs ys), p.2)
ends_more w s style t xs ys ds stage Memory p = breaks_more w s style xs ys ds stage p

module _ {W : Type 0} (sight : Sight W) (w : Widths) (s : Setting) (style : Style) where
  -- the messages over wires that were unaltered over all of the steps
  all_honest : (vs us ws : List W) (ds es : List Done) → WiresWent sight ds 0 vs us → WiresWent sight es 0 us ws
      → AreHonest (Unaltered sight vs us) ds → AreHonest (Unaltered sight us ws) es → AreHonest (Unaltered sight vs ws) (ds ++ es)
  all_honest vs us ws ds es p q f g =
      honest_both (Unaltered sight vs ws) ds es
      (honest_weaker (Unaltered sight vs us) (Unaltered sight vs ws) (λ actor still rose. still (rose_first sight 0 ds es actor vs us ws p q rose)) ds f)
      (honest_weaker (Unaltered sight us ws) (Unaltered sight vs ws) (λ actor still rose. still (rose_last sight 0 ds es actor vs us ws p q rose)) es g)

  pub leads_none : NonePasses sight → (stage : Stage) (vs : List W) → Leads sight w s style stage vs [] stage vs
  leads_none none stage vs = record { history = []; sent = wires_none sight none 0 vs; honest = tt; plain = tt; advances = refl; calm = λ still. refl }

  pub leads_both : BothPass sight → (stage mid end : Stage) (vs us ws : List W) (xs ys : List Step) → Leads sight w s style stage vs xs mid us
      → Leads sight w s style mid us ys end ws → Leads sight w s style stage vs (xs ++ ys) end ws
  leads_both both stage mid end vs us ws xs ys p q = record {
    history = p.history ++ q.history;
    sent = wires_both sight both p.history q.history 0 vs us ws p.sent q.sent;
    honest = all_honest vs us ws p.history q.history p.sent q.sent p.honest q.honest;
    plain = plain_after w s style xs p.history q.history stage mid p.advances p.plain q.plain;
    advances = advances_both w s style xs ys p.history q.history stage mid end p.advances q.advances;
    calm = λ still.
        q.calm (λ actor rose. still actor (rose_last sight 0 p.history q.history actor vs us ws p.sent q.sent rose))
        ∙ p.calm (λ actor rose. still actor (rose_first sight 0 p.history q.history actor vs us ws p.sent q.sent rose));
  }

  pub leads_stops : BothPass sight → (t : ℕ) (stage mid : Stage) (vs us ws : List W) (xs ys : List Step) (fault : PlayFault)
      → Leads sight w s style stage vs xs mid us → Stops sight w s style (t + length xs) mid us ys ws fault
      → Stops sight w s style t stage vs (xs ++ ys) ws fault
  leads_stops both t stage mid vs us ws xs ys fault p q = record {
    history = p.history ++ q.history;
    sent = wires_both sight both p.history q.history 0 vs us ws p.sent q.sent;
    honest = all_honest vs us ws p.history q.history p.sent q.sent p.honest q.honest;
    plain = plain_after w s style xs p.history q.history stage mid p.advances p.plain q.plain;
    ends = ends_after w s style t xs ys p.history q.history stage mid fault p.advances q.ends;
  }

  pub stops_more : (t : ℕ) (stage : Stage) (vs ws : List W) (xs ys : List Step) (fault : PlayFault) → Stops sight w s style t stage vs xs ws fault
      → Stops sight w s style t stage vs (xs ++ ys) ws fault
  stops_more t stage vs ws xs ys fault p = record { history = p.history; sent = p.sent; honest = p.honest; plain = p.plain; ends = ends_more w s style t xs ys p.history stage fault p.ends }

-- the steps of a task open the pairs of their history
same_pairs : (history : List Done) (i : ℕ) → i < length history → pair_at history (0 + i) ≡ pair_at history i
same_pairs history i lt = ap (pair_at history) (omega arith)

ended_at : (w : Widths) (task : Task) (history : List Done) (fault : PlayFault) → EndsAt w task.setting task.style 0 first_stage task.steps history fault
    → Ended w task history (Err fault)
ended_at w task history (NotAllowed index) p =
    let at : index ≡ 0 + length history = p.2 in
    (p.0, played_refused w task.setting task.style (pair_at history) task.steps history 0 first_stage p.0 p.1 (same_pairs history) ∙ ap Err (sym at))
ended_at w task history Memory p = p

module _ {W : Type 0} (sight : Sight W) (w : Widths) (task : Task) (vs ws : List W) where
  pub leads_plays : (stage end : Stage) (p : Played) → stage ≡ first_stage → Leads sight w task.setting task.style stage vs task.steps end ws → p.report ≡ end.lines
      → p.altered ≡ end.altered → Plays w task (Carried sight vs ws) (Unaltered sight vs ws) (Ok p)
  leads_plays stage end p first found report altered =
      let leads : Leads sight w task.setting task.style first_stage vs task.steps end ws =
      subst (λ (a : Stage). Leads sight w task.setting task.style a vs task.steps end ws) first found in
      record {
        history = leads.history;
        sent = leads.sent;
        honest = leads.honest;
        plain = leads.plain;
        ended = (
          history_of w task.setting task.style task.steps leads.history first_stage end leads.advances,
          subst (EndsWith p)
              (sym (played_all w task.setting task.style (pair_at leads.history) task.steps leads.history 0 first_stage end leads.advances (same_pairs leads.history)))
              (report, altered),
        );
        accepted = λ still. altered ∙ leads.calm still;
      }

  pub stops_plays : (t : ℕ) (stage : Stage) (fault : PlayFault) → t ≡ 0 → stage ≡ first_stage → Stops sight w task.setting task.style t stage vs task.steps ws fault
      → Plays w task (Carried sight vs ws) (Unaltered sight vs ws) (Err fault)
  stops_plays t stage fault none first found =
      let stops : Stops sight w task.setting task.style 0 first_stage vs task.steps ws fault =
      subst (λ (n : ℕ). Stops sight w task.setting task.style n first_stage vs task.steps ws fault) none
      (subst (λ (a : Stage). Stops sight w task.setting task.style t a vs task.steps ws fault) first found) in
      record { history = stops.history; sent = stops.sent; honest = stops.honest; plain = stops.plain; ended = ended_at w task stops.history fault stops.ends; accepted = λ still. tt }

  -- there was no memory to begin with
  pub nothing_plays : NonePasses sight → ws ≡ vs → Plays w task (Carried sight vs ws) (Unaltered sight vs ws) (Err Memory)
  nothing_plays none same = record { history = []; sent = subst (λ (us : List W). WiresWent sight [] 0 vs us) (sym same) (wires_none sight none 0 vs); honest = tt; plain = tt; ended = tt; accepted = λ still. tt }
