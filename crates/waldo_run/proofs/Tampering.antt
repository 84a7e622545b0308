-- A wire that shifts over one that was lent, and the wires of a command that alters messages.
use Rattle.std.proofs.Common.{◌≡◌, ◌≢◌, ◌∙◌, refl, sym, ap, subst, ℕ, ◌+◌, ◌<◌, ◌⊎◌, inl, inr, List, [], ◌∷◌, length, get_or, set, Option, None, Some, arith}
use Rattle.table_schema.specs.declared.rows.Row.{Row}
use Rattle.table_schema.specs.declared.widths.Widths.{Widths}
use Rattle.schedule_play.specs.History.{AreHonest, Done, sent_by}
use Rattle.schedule_play.specs.Plays.{Plays}
use Rattle.schedule_play.specs.Tasks.{Setting, Task, asking}
use Rattle.schedule_play.specs.Wires.{Carried, Unaltered, WireWent}
use Rattle.schedule_play.specs.declared.play.PlayFault.{PlayFault}
use Rattle.schedule_play.specs.declared.play.PlayFault.TheVariants as faults
use Rattle.schedule_play.specs.declared.play.Played.{Played}
use Rattle.std.specs.Prelude.{Result, Ok, Err}
use Rattle.wire_line.specs.Carried.{honest_at, went_none}
use Rattle.wire_line.specs.Sights.{NonePasses, Sight}
use Rattle.wire_line.specs.Lists.{SomeRose}
use Rattle.wire_line.specs.Messages.{IsHonest, message_at}
use Rattle.wire_line.specs.ShiftLaws.{length-all_shifted, message_at-all_shifted}
use Rattle.wire_line.specs.Shifts.{all_shifted, shifted}
use Rattle.wire_line.specs.Shown.{sight_lent, sight_over}
use Rattle.wire_line.specs.declared.lent.LentWire.{LentWire}
use Rattle.wire_line.specs.declared.message.Message.{Message}
use Rattle.wire_line.specs.declared.shift.ShiftWire.{ShiftWire}
use Rattle.wire_line.specs.declared.shifts.Shift.{Shift}
use Rattle.wire_line.proofs.Below.{went_below}
use Rattle.waldo_words.specs.declared.command.Command.{Command}
use Rattle.waldo_words.specs.declared.command.Command.TheVariants as commands
use Rattle.waldo_words.specs.declared.command.Common.{Common}
use Rattle.waldo_words.specs.declared.shifts.ShiftWord.{ShiftWord}
use Rattle.waldo_run.specs.Tampered.{AreShifted, CarriedWith, FirstShifted, UnalteredWith, WireShifted, shifts_of, shifts_over}
use Rattle.waldo_run.specs.Tasks.{setting_of, task_over}
use Rattle.waldo_run.proofs.Wires.{none_rose, some_rose, still_wires}

-- messages that the wire below did not alter, after the shifts
are_shifted : (shifts : List Shift) (below ms : List Message) → ms ≡ all_shifted shifts 0 below → IsHonest below → AreShifted shifts ms
are_shifted shifts below ms these honest = subst (AreShifted shifts) (sym these) at
  where
    at : AreShifted shifts (all_shifted shifts 0 below)
    at i lt =
        let here : i < length below = omega (arith, lt, length-all_shifted shifts 0 below) in
        let e = message_at-all_shifted shifts 0 i below here in
        let n : 0 + i ≡ i = omega arith in
        ap (λ (m : Message). m.received) e ∙ ap (λ (k : ℕ). shifted shifts k (message_at below i).received) n
        ∙ ap (shifted shifts i) (honest_at below i honest here) ∙ sym (ap (λ (m : Message). shifted shifts i m.sent) e)

module _ {S : Type 0} (sight : Sight S) where
  -- nothing was carried
  pub still_shifted : NonePasses sight → (shifts : List Shift) (w : S) → WireShifted sight shifts [] w w
  still_shifted none shifts w = record {
    below = [];
    went = went_none sight w w refl refl (none w);
    these = refl;
    exact = λ still i lt. absurd (omega (arith, lt));
    still = λ _. refl;
  }

  -- a wire that shifts, over one that was lent and is given back
  pub below_shifted : (w v : ShiftWire (LentWire S)) (start last : S) (shifts : List Shift) (history : List Done)
      → w.shifts ≡ shifts → w.messages.items ≡ [] → w.inner.inner.now ≡ start
      → (v.inner.inner.ghost_name ≡ w.inner.inner.ghost_name → last ≡ v.inner.inner.now)
      → WireWent (sight_over (sight_lent sight)) history 0 w v
      → WireShifted sight shifts history start last
  below_shifted w v start last shifts history e f g h wire =
      let b = went_below sight w v start last shifts (sent_by 0 history) e f g h wire.went in
      record {
        below = b.0;
        went = b.1;
        these = b.2;
        exact = λ still. are_shifted shifts b.0 (sent_by 0 history) b.2 (b.1.honest still);
        still = λ none.
            let same : v ≡ w = wire.still none in
            h (ap (λ (s : ShiftWire (LentWire S)). s.inner.inner.ghost_name) same) ∙ ap (λ (s : ShiftWire (LentWire S)). s.inner.inner.now) same ∙ g;
      }

  -- without a step all wires are as they were
  pub still_carried : NonePasses sight → (shifts : Option (List Shift)) (ws : List S) → CarriedWith sight shifts ws ws []
  still_carried none None ws = still_wires sight none ws
  still_carried none (Some shifts) [] = tt
  still_carried none (Some shifts) (w ∷ ws) = (still_shifted none shifts w, refl)

  -- the first wire of a list
  pub first_shifted : (shifts : List Shift) (history : List Done) (vs : List S) (v u : S) → 0 < length vs → v ≡ get_or vs 0 v
      → WireShifted sight shifts history v u → FirstShifted sight shifts vs (set vs 0 u) history
  first_shifted shifts history [] v u some is wire = absurd (omega (arith, some))
  first_shifted shifts history (w ∷ ws) v u some is wire = (subst (λ (x : S). WireShifted sight shifts history x u) is wire, refl)

module _ {S : Type 0} (sight : Sight S) (vs ws : List S) where
  -- unless some wire's count rose, none did, and where there are no shifts nothing was altered
  pub none_altered : (shifts : Option (List Shift)) → shifts ≡ None → (SomeRose sight vs ws → ⊥) → (actor : ℕ) → UnalteredWith sight shifts vs ws actor
  none_altered None none still actor = none_rose sight vs ws still actor
  none_altered (Some shifts) none still actor = cc

  pub altered_by : (shifts : Option (List Shift)) → (((actor : ℕ) → UnalteredWith sight shifts vs ws actor) → ⊥) → (shifts ≢ None) ⊎ SomeRose sight vs ws
  altered_by None f = inr (some_rose sight vs ws f)
  altered_by (Some shifts) f = inl (λ e. cc)

-- the steps of a command that alters nothing, and of one that does
module _ {S : Type 0} (sight : Sight S) (vs ws : List S) (r : Result Played PlayFault) where
  pub plays_straight : (w : Widths) (t : Task) (shifts : Option (List Shift)) → shifts ≡ None
      → Plays w t (Carried sight vs ws) (Unaltered sight vs ws) r
      → Plays w t (CarriedWith sight shifts vs ws) (UnalteredWith sight shifts vs ws) r
  plays_straight w t shifts none p =
      subst (λ (o : Option (List Shift)). Plays w t (CarriedWith sight o vs ws) (UnalteredWith sight o vs ws) r) (sym none) p

  pub tamper_plays : (w v : Widths) (rows : List Row) (seen : Setting) (words listed : List ShiftWord) (command : Command) (common : Common) (start last : S) → v ≡ w → command ≡ commands.Tamper common words
      → seen ≡ setting_of common rows → listed ≡ words → 0 < length vs → start ≡ get_or vs 0 start → ws ≡ set vs 0 last
      → Plays v (asking seen) (λ history. WireShifted sight (shifts_over seen listed) history start last) (λ actor. ⊥) r
      → Plays w (task_over command rows) (CarriedWith sight (shifts_of (Ok command)) vs ws) (UnalteredWith sight (shifts_of (Ok command)) vs ws) r
  tamper_plays w v rows seen words listed command common start last same is setting are some first now p =
      let known = commands.Tamper common words in
      let q = subst (λ (s : Setting). Plays v (asking s) (λ history. WireShifted sight (shifts_over s listed) history start last) (λ actor. ⊥) r) setting p in
      let t = rw (same, are) at q in
      subst (λ (c : Command). Plays w (task_over c rows) (CarriedWith sight (shifts_of (Ok c)) vs ws) (UnalteredWith sight (shifts_of (Ok c)) vs ws) r) (sym is)
      (record {
        history = t.history;
        sent = subst (λ (us : List S). FirstShifted sight (shifts_over (setting_of common rows) words) vs us t.history) (sym now)
            (first_shifted sight (shifts_over (setting_of common rows) words) t.history vs start last some first t.sent);
        honest = t.honest;
        plain = t.plain;
        ended = t.ended;
        accepted = t.accepted;
      })

-- out of memory no step was done
pub nothing_tampered : {S : Type 0} (sight : Sight S) → NonePasses sight → (w : Widths) (t : Task) (shifts : List Shift) (v : S)
    → Plays w t (λ history. WireShifted sight shifts history v v) (λ actor. ⊥) (Err faults.Memory)
nothing_tampered sight none w t shifts v =
    record { history = []; sent = still_shifted sight none shifts v; honest = tt; plain = tt; ended = tt; accepted = λ _. tt }

-- the same steps, of which less is said of the wires
pub moved_wires : (w : Widths) (t : Task) (carried other : List Done → Type 0) (unaltered : ℕ → Type 0) (r : Result Played PlayFault) → ((history : List Done) → carried history → other history)
    → Plays w t carried unaltered r → Plays w t other (λ actor. ⊥) r
moved_wires w t carried other unaltered r f p = record {
  history = p.history;
  sent = f p.history p.sent;
  honest = never p.history;
  plain = p.plain;
  ended = p.ended;
  accepted = λ all. absurd (all 0);
}
  where
    never : (ds : List Done) → AreHonest (λ actor. ⊥) ds
    never [] = tt
    never (d ∷ ds) = ((λ no. absurd no), never ds)
