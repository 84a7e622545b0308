-- Steps that ask nothing: they send no messages, and leave each wire as it is.
use Rattle.std.proofs.Common.{◌≡◌, ◌∙◌, refl, sym, ap, subst, ℕ, ◌+◌, true, false, cond, eqb, List, [], ◌∷◌, ◌++◌, length, map, Option, Some, None, option_map, IsSomeAnd, IfSome}
use Rattle.std.specs.List.{flat_map, range_with_len}
use Rattle.server_rounds.specs.declared.opened.OpenedPair.{OpenedPair}
use Rattle.table_schema.specs.declared.widths.Widths.{Widths}
use Rattle.wire_line.specs.Carried.{honest_none, went_none}
use Rattle.wire_line.specs.Messages.{Went}
use Rattle.wire_line.specs.declared.message.Message.{Message}
use Rattle.waldo_core.specs.Answers.{Carries, IsPlain, IsQuiet}
use Rattle.waldo_core.specs.Core.{Core}
use Rattle.waldo_core.specs.InBulk.{core_after}
use Rattle.waldo_core.specs.declared.events.Event.{Event}
use Rattle.waldo_core.specs.declared.events.Event.TheVariants as events
use Rattle.waldo_words.specs.declared.schedule.Step.{Step}
use Rattle.schedule_play.specs.Appended.{stage_with_rows}
use Rattle.schedule_play.specs.History.{AreHonest, CarriesOf, Done, IsCarried, is_answer, nothing_opened, sent_by}
use Rattle.schedule_play.specs.Leads.{Advances, Leads}
use Rattle.schedule_play.specs.Plain.{ArePlain, IsPlainOf}
use Rattle.schedule_play.specs.Stages.{Stage, actor_in, event_of, first_stage, next_stage, step_of, with_reply}
use Rattle.schedule_play.specs.Tasks.{Setting, append_steps}
use Rattle.schedule_play.specs.Wires.{WiresWent, Unaltered}
use Rattle.schedule_play.specs.declared.style.Style.TheVariants.{Queries}
use Rattle.schedule_play.proofs.AppendedRows.{Goes, all_entries, all_go, length-seeded_rows, other_actors, other_rounds, with_rows}
use Rattle.schedule_play.proofs.Cases.{event_quiet}
use Rattle.schedule_play.proofs.RowNumbers.{numbers_are}
use Rattle.schedule_play.proofs.Single.{entry}
use Rattle.wire_line.specs.Sights.{Sight, NonePasses}

-- such a step, and all of some
abbrev unasked : Step → Done
unasked x = entry x [] nothing_opened

abbrev all_unasked : List Step → List Done
all_unasked xs = map unasked xs

nothing_sent : (actor : ℕ) (xs : List Step) → sent_by actor (all_unasked xs) ≡ []
nothing_sent actor [] = refl
nothing_sent actor (x ∷ xs) =
    elim (eqb (actor_in x) actor) as (λ b. cond b ([] ++ sent_by actor (all_unasked xs)) (sent_by actor (all_unasked xs)) ≡ []) [ true ↦ nothing_sent actor xs | false ↦ nothing_sent actor xs ]

quiet_carries : (w : Widths) (core : Core) (event : Event) (pair : OpenedPair) → IsQuiet event → Carries w core event [] pair
quiet_carries w core (events.Draw number row seed) pair quiet = refl
quiet_carries w core (events.Place number k) pair quiet = refl
quiet_carries w core (events.Look number k) pair quiet = refl
quiet_carries w core (events.Fix number) pair quiet = refl
quiet_carries w core (events.Answer number query seed) pair quiet = absurd quiet

quiet_plain : (core : Core) (event : Event) (pair : OpenedPair) → IsQuiet event → IsPlain core event pair
quiet_plain core (events.Draw number row seed) pair quiet = tt
quiet_plain core (events.Place number k) pair quiet = tt
quiet_plain core (events.Look number k) pair quiet = tt
quiet_plain core (events.Fix number) pair quiet = tt
quiet_plain core (events.Answer number query seed) pair quiet = absurd quiet

module _ (w : Widths) (s : Setting) where
  -- its event has no messages
  carried : (stage next : Stage) (x : Step) → is_answer x ≡ false → next_stage s Queries stage x nothing_opened ≡ Some next → IsCarried w s stage (unasked x)
  carried stage next x quiet goes = by (event_of s stage x) refl
    where
      by : (o : Option Event) → event_of s stage x ≡ o → CarriesOf w s stage o (unasked x)
      by None e =
          let none : next_stage s Queries stage x nothing_opened ≡ None = ap (λ (o : Option Event). option_map (with_reply s Queries stage x) (step_of s stage o nothing_opened)) e in absurd cc
      by (Some event) e = quiet_carries w stage.core event nothing_opened (event_quiet s stage x event e quiet)

  plain_here : (stage : Stage) (x : Step) → is_answer x ≡ false → IsPlainOf stage (event_of s stage x) nothing_opened
  plain_here stage x quiet = by (event_of s stage x) refl
    where
      by : (o : Option Event) → event_of s stage x ≡ o → IsPlainOf stage o nothing_opened
      by None e = tt
      by (Some event) e = quiet_plain stage.core event nothing_opened (event_quiet s stage x event e quiet)

  advances : (xs : List Step) (stage end : Stage) → Goes s stage xs end → Advances w s Queries stage xs (all_unasked xs) end
  advances [] stage end e = sym e
  advances (x ∷ xs) stage end go = (
    refl,
    carried stage go.0 x go.1 (go.2 nothing_opened),
    subst (λ (o : Option Stage). IsSomeAnd o (λ (next : Stage). Advances w s Queries next xs (all_unasked xs) end)) (sym (go.2 nothing_opened)) (advances xs go.0 end go.3),
  )

  plain : (xs : List Step) (stage end : Stage) → Goes s stage xs end → ArePlain s Queries stage (all_unasked xs)
  plain [] stage end e = tt
  plain (x ∷ xs) stage end go = (
    (λ honest. plain_here stage x go.1),
    subst (λ (o : Option Stage). IfSome o (λ (next : Stage). ArePlain s Queries next (all_unasked xs))) (sym (go.2 nothing_opened)) (plain xs go.0 end go.3),
  )

honest : (unaltered : ℕ → Type 0) (xs : List Step) → AreHonest unaltered (all_unasked xs)
honest unaltered [] = tt
honest unaltered (x ∷ xs) = ((λ still. honest_none), honest unaltered xs)

-- the stage once all rows were appended
pub with_rows_is : (s : Setting) → with_rows (all_entries s) (length s.rows) other_actors (0 ∷ other_rounds) ≡ stage_with_rows s
with_rows_is s =
    ap (λ (n : ℕ). with_rows (all_entries s) n other_actors (0 ∷ other_rounds)) (sym (length-seeded_rows s.master 0 s.rows))
    ∙ ap (λ (l : List ℕ). record first_stage { core = record (core_after (all_entries s)) { zero = l; one = l; two = l } }) (numbers_are (length (all_entries s)))

module _ {W : Type 0} (sight : Sight W) (none : NonePasses sight) where
  wires_unasked : (xs : List Step) (b : ℕ) (vs : List W) → WiresWent sight (all_unasked xs) b vs vs
  wires_unasked xs b [] = tt
  wires_unasked xs b (v ∷ vs) = (
    record {
      went = subst (λ (ms : List Message). Went sight v ms v) (sym (nothing_sent b xs)) (went_none sight v v refl refl (none v));
      still = λ _. refl;
    },
    wires_unasked xs (b + 1) vs,
  )

  -- the steps of all rows were done
  pub rows_lead : (w : Widths) (s : Setting) (stage end : Stage) (vs : List W) → stage ≡ first_stage → end ≡ stage_with_rows s
      → Leads sight w s Queries stage vs (flat_map (λ (row : ℕ). append_steps) (range_with_len 0 (length s.rows))) end vs
  rows_lead w s stage end vs first last =
      let xs = flat_map (λ (row : ℕ). append_steps) (range_with_len 0 (length s.rows)) in
      let at_end : Goes s first_stage xs end = subst (λ (a : Stage). Goes s first_stage xs a) (with_rows_is s ∙ sym last) (all_go s) in
      let goes : Goes s stage xs end = subst (λ (a : Stage). Goes s a xs end) (sym first) at_end in
      record {
        history = all_unasked xs;
        sent = wires_unasked xs 0 vs;
        honest = honest (Unaltered sight vs vs) xs;
        plain = plain w s xs stage end goes;
        advances = advances w s xs stage end goes;
        calm = λ still. ap (λ (a : Stage). a.altered) last ∙ sym (ap (λ (a : Stage). a.altered) first);
      }
