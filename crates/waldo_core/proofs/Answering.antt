-- An answer.
use Rattle.std.proofs.Common.{◌≡◌, ◌∙◌, refl, sym, ap, subst, ℕ, ℤ, inl, inr, false, Option, Some, None, slice_get, List, [], length}
use Rattle.std.specs.Prelude.{Result, Ok, Err, IfOk}
use Rattle.prefix_log.specs.declared.snapshot.Snapshot.{Snapshot}
use Rattle.prg_chacha.specs.declared.seed.Seed.{Seed}
use Rattle.query_plan.specs.Query.{Suits}
use Rattle.query_plan.specs.Seeds.{weights_of}
use Rattle.query_plan.specs.Views.{key_from}
use Rattle.query_plan.specs.declared.query.Query.{Query}
use Rattle.ring128.specs.Ring.{times}
use Rattle.ring128.specs.Signed.{word_of}
use Rattle.scan_chunks.specs.Shelf.{Held}
use Rattle.server_rounds.specs.declared.opened.OpenedPair.{OpenedPair}
use Rattle.transcript.specs.Transcript.{IsPart}
use Rattle.wire_line.specs.declared.message.Message.{Message}
use Rattle.agreed_rows.specs.Agreed.{Entries}
use Rattle.agreed_rows.specs.Answers.{Answers, IsPlainAnswer, Opens, plain_total, setup_over}
use Rattle.agreed_rows.specs.declared.query.AnswerFault.{AnswerFault}
use Rattle.agreed_rows.specs.declared.query.AnswerFault.TheVariants as faults
use Rattle.agreed_rows.specs.declared.query.Answered.{Answered}
use Rattle.agreed_rows.proofs.Answering.{accepted_as}
use Rattle.waldo_core.specs.Answers.{Begins, BeginsOver, Carries, IsPlain, IsPlainOver, OpensOver, agreed_in, rows_agreed}
use Rattle.waldo_core.specs.Core.{Actor, Core, Fixes}
use Rattle.waldo_core.specs.Core.Fixes.{Unfixed, First, Second, Agreed}
use Rattle.waldo_core.specs.Held.{AreFirst, IsAgreedBy, IsMachine, Table, seen_fixes, seen_machine}
use Rattle.waldo_core.specs.Machines.{Seen, Stepped}
use Rattle.waldo_core.specs.Outcomes.{named, replied}
use Rattle.waldo_core.specs.Step.{acts, answer_step, answered, is_altered, reply_of, step}
use Rattle.waldo_core.specs.declared.actor.ActorState.{ActorState}
use Rattle.waldo_core.specs.declared.events.Event.TheVariants as events
use Rattle.waldo_core.specs.declared.events.Reply.{Reply}
use Rattle.waldo_core.specs.declared.events.Reply.TheVariants as replies
use Rattle.waldo_core.specs.declared.snapshots.Snapshots.{Snapshots}
use Rattle.waldo_core.specs.declared.snapshots.Snapshots.TheVariants as found
use Rattle.waldo_core.proofs.Acts.{seen_there}

-- ---- the core

by_fixes : (core : Core) (f : Fixes) (n : ℕ) (query : Query) (seed : Seed) (pair : OpenedPair) → agreed_in f ≡ Some n → answer_step core f query seed pair ≡ Some (core, answered n query seed pair)
by_fixes core Unfixed n query seed pair e = absurd cc
by_fixes core (First p) n query seed pair e = absurd cc
by_fixes core (Second p q) n query seed pair e = absurd cc
by_fixes core (Agreed m) n query seed pair e = let same : m ≡ n = cc in ap (λ (x : ℕ). Some (core, answered x query seed pair)) same

by_actor : (capacity number : ℕ) (core : Core) (o : Option Actor) (n : ℕ) (query : Query) (seed : Seed) (pair : OpenedPair) → rows_agreed o ≡ Some n
    → acts capacity core (events.Answer number query seed) pair o ≡ Some (core, answered n query seed pair)
by_actor capacity number core None n query seed pair e = absurd cc
by_actor capacity number core (Some a) n query seed pair e = by_fixes core a.fixes n query seed pair e

none_by_fixes : (core : Core) (f : Fixes) (query : Query) (seed : Seed) (pair : OpenedPair) → agreed_in f ≡ None → answer_step core f query seed pair ≡ None
none_by_fixes core Unfixed query seed pair e = refl
none_by_fixes core (First p) query seed pair e = refl
none_by_fixes core (Second p q) query seed pair e = refl
none_by_fixes core (Agreed m) query seed pair e = absurd cc

none_by_actor : (capacity number : ℕ) (core : Core) (o : Option Actor) (query : Query) (seed : Seed) (pair : OpenedPair) → rows_agreed o ≡ None
    → acts capacity core (events.Answer number query seed) pair o ≡ None
none_by_actor capacity number core None query seed pair e = refl
none_by_actor capacity number core (Some a) query seed pair e = none_by_fixes core a.fixes query seed pair e

-- ---- what was agreed on

pub agreed_there : (held : Snapshot → Held) (space : ℕ) (t : Table) (i : ℕ) (a : ActorState) (e : Entries) (old : Seen) → IsMachine held space t → slice_get t.actors i ≡ Some a
    → a.snapshots ≡ found.Agreed e → seen_machine held t ≡ old → IsAgreedBy old i e
agreed_there held space t i a e old ok here is view = subst (λ (v : Seen). IsAgreedBy v i e) view (record {
  agreed = ap rows_agreed (seen_there held t i a here) ∙ ap (λ (s : Snapshots). agreed_in (seen_fixes held s)) is;
  first = subst (λ (s : Snapshots). AreFirst held t.widths t.order s) is (ok.actors i a here).first;
})

not_agreed_in : (held : Snapshot → Held) (s : Snapshots) → ((e : Entries) → s ≡ found.Agreed e → ⊥) → agreed_in (seen_fixes held s) ≡ None
not_agreed_in held found.Unfixed other = refl
not_agreed_in held (found.First s) other = refl
not_agreed_in held (found.Second s t) other = refl
not_agreed_in held (found.Agreed e) other = absurd (other e refl)

pub none_there : (held : Snapshot → Held) (space : ℕ) (t : Table) (i : ℕ) (a : ActorState) (old : Seen) → IsMachine held space t → slice_get t.actors i ≡ Some a
    → ((e : Entries) → a.snapshots ≡ found.Agreed e → ⊥) → seen_machine held t ≡ old → rows_agreed (slice_get old.core.actors i) ≡ None
none_there held space t i a old ok here other view =
    subst (λ (v : Seen). rows_agreed (slice_get v.core.actors i) ≡ None) view (ap rows_agreed (seen_there held t i a here) ∙ not_agreed_in held a.snapshots other)

-- ---- the machine

module _ (m : Seen) (number : ℕ) (query : Query) (seed : Seed) where
  -- nothing was agreed on, or the query is not legal
  pub not_agreed : rows_agreed (slice_get m.core.actors number) ≡ None → (pair : OpenedPair) → Stepped m (events.Answer number query seed) [] pair m (named (events.Answer number query seed) (Ok None))
  not_agreed none pair = (refl, refl, inr (λ p. none_by_actor m.capacity number m.core (slice_get m.core.actors number) query seed p none), refl)

  pub not_suited : ¬ Suits m.widths.columns m.widths.bits query → (pair : OpenedPair) → Stepped m (events.Answer number query seed) [] pair m (named (events.Answer number query seed) (Ok None))
  not_suited unfit pair = (refl, refl, inl unfit, refl)

  -- a query over the rows that were agreed on
  module _ (e : Entries) (by : IsAgreedBy m number e) (suits : Suits m.widths.columns m.widths.bits query) where
    steps : (pair : OpenedPair) (r : Reply) → answered (length e.all) query seed pair ≡ r → step m.capacity m.core (events.Answer number query seed) pair ≡ Some (m.core, r)
    steps pair r is = by_actor m.capacity number m.core (slice_get m.core.actors number) (length e.all) query seed pair by.agreed ∙ ap (λ (x : Reply). Some (m.core, x)) is

    carried : (ms : List Message) (pair : OpenedPair) → Opens e query seed ms pair → Carries m.widths m.core (events.Answer number query seed) ms pair
    carried ms pair opens = subst (λ (o : Option ℕ). OpensOver m.widths m.core.order o query seed ms pair) (sym by.agreed) (subst (λ (v : Entries). Opens v query seed ms pair) by.first opens)

    begun : (ms : List Message) → IsPart (setup_over e query seed) ms → Begins m.widths m.core (events.Answer number query seed) ms
    begun ms part = subst (λ (o : Option ℕ). BeginsOver m.widths m.core.order o query seed ms) (sym by.agreed) (subst (λ (v : Entries). IsPart (setup_over v query seed) ms) by.first part)

    pub answer_stepped : (ms : List Message) (pair : OpenedPair) (n : ℕ) (r : Result Answered AnswerFault) → n ≡ length e.all → Answers e query seed ms pair r
        → Stepped m (events.Answer number query seed) ms pair m (named (events.Answer number query seed) (replied n r))
    answer_stepped ms pair n (Ok a) rows is = (suits, carried ms pair is.0, steps pair (replies.Answered a.rows a.total) (ap (reply_of (length e.all)) is.1 ∙ ap (λ (x : ℕ). replies.Answered x a.total) (sym is.2)), refl)
    answer_stepped ms pair n (Err (faults.Altered total weighted)) rows is =
        (suits, carried ms pair is.0, steps pair (replies.Altered n total weighted) (ap (reply_of (length e.all)) is.1 ∙ ap (λ (x : ℕ). replies.Altered x total weighted) (sym rows)), refl)
    answer_stepped ms pair n (Err faults.Memory) rows is = (begun ms is, refl)

    -- a plain answer opened the plain pair, and the reply is not that it was altered
    pub answer_plain : (ms : List Message) (pair : OpenedPair) (n : ℕ) (r : Result Answered AnswerFault) → Answers e query seed ms pair r → IsPlainAnswer e query r
        → IfOk (named (events.Answer number query seed) (replied n r)) (λ (reply : Reply). IsPlain m.core (events.Answer number query seed) pair × (is_altered reply ≡ false))
    answer_plain ms pair n (Ok a) is plain = (
      subst (λ (o : Option ℕ). IsPlainOver m.core.order o query seed pair) (sym by.agreed)
          (accepted_as e query seed ms pair a.total is.0 is.1
          ∙ ap (λ (total : ℤ). record { total = word_of total; weighted = times (key_from (weights_of seed 1) query.count) (word_of total) })
          (plain ∙ ap (λ (v : Entries). plain_total v query) by.first)),
      refl,
    )
    answer_plain ms pair n (Err (faults.Altered total weighted)) is plain = absurd plain
    answer_plain ms pair n (Err faults.Memory) is plain = tt
