-- Logs after many placings and retirements.
use Rattle.std.proofs.Common.{◌≡◌, ◌≢◌, ◌∙◌, refl, sym, ap, ℕ, suc, ◌<◌, ◌≤◌, ⊎_elim, Bool, true, false, cond, eqb, ltb, List, [], ◌∷◌, ◌++◌, All, length, set, arith}
use Rattle.std.specs.Prelude.{Option, Some, None, is_some}
use Rattle.std.proofs.lemmas.Bool.{cases_lt, le-ltb, lt-ltb, ltb-false, ltb-true}
use Rattle.std.proofs.lemmas.Bool.Decides.{nat_tests}
use Rattle.std.proofs.lemmas.List.{length-set, length-drop}
use Rattle.list_facts.specs.Count.{has}
use Rattle.list_facts.proofs.Listed.{length-listed}
use Rattle.onehot_column.specs.declared.piece.Piece.{Piece}
use Rattle.prefix_log.specs.Acts.{Act, IsWithin, after, first_at, journal_after}
use Rattle.prefix_log.specs.Journal.{IsJournal, is_kept, mark_of, prefix, start, start_for}
use Rattle.prefix_log.specs.Laws.{FirstsStay}
use Rattle.prefix_log.specs.Logs.{Log, empty_log, piece_at, slots_from}
use Rattle.prefix_log.proofs.Kept.{by_place, at_place, elsewhere, free_at}
use Rattle.prefix_log.proofs.Leading.{from_after, from_before, lead_length}
use Rattle.prefix_log.proofs.Marked.{has_other, has_self, journal_marked, journal_placed, prefix_below, start_for_whole, start_for_within, start_marked, start_placed, start_within}
use Rattle.prefix_log.proofs.Prefixes.{prefix_is_largest}

-- what a log keeps of its journal and its slots
record Good (log : Log) : Type 0 where
  small : log.capacity ≤ 65536
  places : length log.slots ≡ log.capacity
  journal : IsJournal log.capacity log.journal
  kept : (place : ℕ) → place < log.capacity → is_some (piece_at log.slots place) ≡ is_kept place log.journal

-- a log leads to a final one, which has this journal
record After (log : Log) (acts : List Act) (final : Log) (entries : List ℕ) : Type 0 where
  journal : final.journal ≡ entries
  legal : IsJournal log.capacity final.journal
  rises : start log.journal ≤ start final.journal
  pieces : (place : ℕ) → place < log.capacity
      → piece_at final.slots place ≡ cond (ltb place (start final.journal)) None (cond (has place log.journal) (piece_at log.slots place) (first_at place acts))

eqb_same : (x y : ℕ) → x ≡ y → eqb x y ≡ true
eqb_same x y e = grind (arith, nat_tests)

eqb_other : (x y : ℕ) → x ≢ y → eqb x y ≡ false
eqb_other x y ne = grind (arith, nat_tests)

none_of : {A : Type 0} (o : Option A) → is_some o ≡ false → o ≡ None
none_of None e = refl
none_of (Some x) e = absurd cc

-- ---- no act

nothing_done : (log : Log) → Good log → After log [] log log.journal
nothing_done log good = record {
  journal = refl;
  legal = good.journal;
  rises = omega arith;
  pieces = λ place lt. by place (ltb place (start log.journal)) (has place log.journal) refl refl (good.kept place lt);
}
  where
    by : (place : ℕ) (a b : Bool) → ltb place (start log.journal) ≡ a → has place log.journal ≡ b → is_some (piece_at log.slots place) ≡ cond (ltb place (start log.journal)) false (has place log.journal)
        → piece_at log.slots place ≡ cond a None (cond b (piece_at log.slots place) None)
    by place true b e f is = none_of (piece_at log.slots place) (is ∙ ap (λ (c : Bool). cond c false (has place log.journal)) e)
    by place false true e f is = refl
    by place false false e f is = none_of (piece_at log.slots place) (is ∙ ap (λ (c : Bool). cond c false (has place log.journal)) e ∙ f)

-- ---- a placing

-- the place is in the journal already
placed_again : (log final : Log) (entries : List ℕ) (there : ℕ) (piece : Piece) (acts : List Act) → has there log.journal ≡ true → After log acts final entries
    → After log (Act.Place there piece ∷ acts) final entries
placed_again log final entries there piece acts e rest = record {
  journal = rest.journal;
  legal = rest.legal;
  rises = rest.rises;
  pieces = λ place lt. rest.pieces place lt ∙ ap (cond (ltb place (start final.journal)) None) (skip place);
}
  where
    skip : (place : ℕ) → cond (has place log.journal) (piece_at log.slots place) (first_at place acts) ≡ cond (has place log.journal) (piece_at log.slots place) (first_at place (Act.Place there piece ∷ acts))
    skip = by_place there (λ (place : ℕ). cond (has place log.journal) (piece_at log.slots place) (first_at place acts) ≡ cond (has place log.journal) (piece_at log.slots place) (first_at place (Act.Place there piece ∷ acts)))
        (λ place is. let yes : has place log.journal ≡ true = ap (λ (y : ℕ). has y log.journal) is ∙ e in
        ap (λ (b : Bool). cond b (piece_at log.slots place) (first_at place acts)) yes
        ∙ sym (ap (λ (b : Bool). cond b (piece_at log.slots place) (first_at place (Act.Place there piece ∷ acts))) yes))
        (λ place ne. ap (λ (b : Bool). cond (has place log.journal) (piece_at log.slots place) (cond b (Some piece) (first_at place acts))) (sym (eqb_other place there ne)))

module _ (log : Log) (good : Good log) (there : ℕ) (piece : Piece) (lt : there < log.capacity) (free : has there log.journal ≡ false) where
  abbrev with_piece : Log
  with_piece = record log { journal = log.journal ++ there ∷ []; slots = set log.slots there (Some piece) }

  within : there < length log.slots
  within = omega (arith, good.places)

  stays : start (log.journal ++ there ∷ []) ≡ start log.journal
  stays = start_placed log.journal there (let s = good.small in omega arith)

  past : start log.journal ≤ there
  past = ⊎_elim (λ (less : there < start log.journal).
      let yes : has there log.journal ≡ true = (prefix_is_largest log.journal).below there (omega (arith, start_within log.capacity log.journal good.small good.journal)) in absurd cc)
      (λ (le : start log.journal ≤ there). le) (cases_lt there (start log.journal))

  placed_good : Good with_piece
  placed_good = record {
    small = good.small;
    places = length-set log.slots there (Some piece) ∙ good.places;
    journal = journal_placed log.capacity log.journal there good.journal lt free;
    kept = by_place there (λ (x : ℕ). x < log.capacity → is_some (piece_at (set log.slots there (Some piece)) x) ≡ is_kept x (log.journal ++ there ∷ []))
        (λ x is less. ap is_some (at_place log.slots there piece within x is)
        ∙ sym (ap (λ (y : ℕ). is_kept y (log.journal ++ there ∷ [])) is
        ∙ ap (λ (s : ℕ). cond (ltb there s) false (has there (log.journal ++ there ∷ []))) stays
        ∙ ap (λ (b : Bool). cond b false (has there (log.journal ++ there ∷ []))) (le-ltb there (start log.journal) past) ∙ has_self there log.journal))
        (λ x ne less. ap is_some (elsewhere log.slots there piece within x ne) ∙ good.kept x less
        ∙ sym (ap (λ (s : ℕ). cond (ltb x s) false (has x (log.journal ++ there ∷ []))) stays
        ∙ ap (cond (ltb x (start log.journal)) false) (has_other x there log.journal ne)));
  }

  placed_first : (final : Log) (entries : List ℕ) (acts : List Act) → After with_piece acts final entries → After log (Act.Place there piece ∷ acts) final entries
  placed_first final entries acts rest = record {
    journal = rest.journal;
    legal = rest.legal;
    rises = omega (arith, rest.rises, stays);
    pieces = λ place less. rest.pieces place less ∙ ap (cond (ltb place (start final.journal)) None) (first place);
  }
    where
      first : (place : ℕ) → cond (has place (log.journal ++ there ∷ [])) (piece_at (set log.slots there (Some piece)) place) (first_at place acts)
          ≡ cond (has place log.journal) (piece_at log.slots place) (first_at place (Act.Place there piece ∷ acts))
      first = by_place there (λ (place : ℕ). cond (has place (log.journal ++ there ∷ [])) (piece_at (set log.slots there (Some piece)) place) (first_at place acts)
          ≡ cond (has place log.journal) (piece_at log.slots place) (first_at place (Act.Place there piece ∷ acts)))
          (λ place is.
          let no : has place log.journal ≡ false = ap (λ (y : ℕ). has y log.journal) is ∙ free in
          let yes : has place (log.journal ++ there ∷ []) ≡ true = ap (λ (y : ℕ). has y (log.journal ++ there ∷ [])) is ∙ has_self there log.journal in
          ap (λ (b : Bool). cond b (piece_at (set log.slots there (Some piece)) place) (first_at place acts)) yes
          ∙ at_place log.slots there piece within place is
          ∙ sym (ap (λ (b : Bool). cond b (Some piece) (first_at place acts)) (eqb_same place there is))
          ∙ sym (ap (λ (b : Bool). cond b (piece_at log.slots place) (first_at place (Act.Place there piece ∷ acts))) no))
          (λ place ne.
          ap (λ (b : Bool). cond b (piece_at (set log.slots there (Some piece)) place) (first_at place acts)) (has_other place there log.journal ne)
          ∙ ap (λ (o : Option Piece). cond (has place log.journal) o (first_at place acts)) (elsewhere log.slots there piece within place ne)
          ∙ ap (λ (b : Bool). cond (has place log.journal) (piece_at log.slots place) (cond b (Some piece) (first_at place acts))) (sym (eqb_other place there ne)))

-- ---- a retirement

retired_none : (log final : Log) (entries : List ℕ) (before : ℕ) (acts : List Act) → After log acts final entries → After log (Act.Retire before ∷ acts) final entries
retired_none log final entries before acts rest = record { journal = rest.journal; legal = rest.legal; rises = rest.rises; pieces = rest.pieces }

module _ (log : Log) (good : Good log) (before : ℕ) (more : start log.journal < start_for before log.journal) where
  abbrev s : ℕ
  s = start_for before log.journal

  abbrev without : Log
  without = record log { journal = log.journal ++ mark_of s ∷ []; slots = slots_from s log.slots }

  rises_to : start (log.journal ++ mark_of s ∷ []) ≡ s
  rises_to = start_marked log.journal s

  below : s ≤ log.capacity
  below = omega (arith, start_for_within before log.journal, prefix_below log.capacity (prefix log.journal) log.journal good.small good.journal (prefix_is_largest log.journal))

  no_mark : (x : ℕ) → x < log.capacity → has x (log.journal ++ mark_of s ∷ []) ≡ has x log.journal
  no_mark x lt = has_other x (mark_of s) log.journal (λ (e : x ≡ mark_of s). let small = good.small in absurd (omega arith))

  retired_good : Good without
  retired_good = record {
    small = good.small;
    places = lead_length s _ ∙ omega (arith, length-drop s log.slots, good.places, below);
    journal = journal_marked log.capacity log.journal s good.journal (start_for_whole before log.journal) more (start_for_within before log.journal);
    kept = λ x lt. ⊎_elim
        (λ (less : x < s). ap is_some (from_before s log.slots x less)
        ∙ sym (ap (λ (n : ℕ). cond (ltb x n) false (has x (log.journal ++ mark_of s ∷ []))) rises_to ∙ ap (λ (b : Bool). cond b false (has x (log.journal ++ mark_of s ∷ []))) (lt-ltb x s less)))
        (λ (le : s ≤ x). ap is_some (from_after s log.slots x le) ∙ good.kept x lt
        ∙ ap (λ (b : Bool). cond b false (has x log.journal)) (le-ltb x (start log.journal) (omega arith))
        ∙ sym (ap (λ (n : ℕ). cond (ltb x n) false (has x (log.journal ++ mark_of s ∷ []))) rises_to
        ∙ ap (λ (b : Bool). cond b false (has x (log.journal ++ mark_of s ∷ []))) (le-ltb x s le) ∙ no_mark x lt)) (cases_lt x s);
  }

  retired_first : (final : Log) (entries : List ℕ) (acts : List Act) → After without acts final entries → After log (Act.Retire before ∷ acts) final entries
  retired_first final entries acts rest = record {
    journal = rest.journal;
    legal = rest.legal;
    rises = omega (arith, rest.rises, rises_to);
    pieces = λ place lt. rest.pieces place lt ∙ by place lt (ltb place (start final.journal)) refl;
  }
    where
      by : (place : ℕ) → place < log.capacity → (b : Bool) → ltb place (start final.journal) ≡ b
          → cond b None (cond (has place (log.journal ++ mark_of s ∷ [])) (piece_at (slots_from s log.slots) place) (first_at place acts))
          ≡ cond b None (cond (has place log.journal) (piece_at log.slots place) (first_at place acts))
      by place lt true e = refl
      by place lt false e =
          let le : start final.journal ≤ place = ltb-false place (start final.journal) e in
          ap (λ (b : Bool). cond b (piece_at (slots_from s log.slots) place) (first_at place acts)) (no_mark place lt)
          ∙ ap (λ (o : Option Piece). cond (has place log.journal) o (first_at place acts)) (from_after s log.slots place (omega (arith, rest.rises, rises_to)))

-- ---- all acts

after_all : (log : Log) (acts : List Act) → Good log → All (IsWithin log.capacity) acts → After log acts (after log acts) (journal_after log.journal acts)
after_all log [] good all = nothing_done log good
after_all log (Act.Place there piece ∷ acts) good all =
    by (has there log.journal) refl (after_all log acts good tail)
    (λ (free : has there log.journal ≡ false). after_all (with_piece log good there piece (all 0 (Act.Place there piece) (omega arith)) free) acts (placed_good log good there piece (all 0 (Act.Place there piece) (omega arith)) free) tail)
  where
    tail : All (IsWithin log.capacity) acts
    tail n d h = all (suc n) d (omega arith)

    by : (b : Bool) → has there log.journal ≡ b → After log acts (after log acts) (journal_after log.journal acts)
        → ((free : has there log.journal ≡ false) → After (record log { journal = log.journal ++ there ∷ []; slots = set log.slots there (Some piece) }) acts (after (record log { journal = log.journal ++ there ∷ []; slots = set log.slots there (Some piece) }) acts) (journal_after (log.journal ++ there ∷ []) acts))
        → After log (Act.Place there piece ∷ acts) (after log (Act.Place there piece ∷ acts)) (journal_after log.journal (Act.Place there piece ∷ acts))
    by true e taken free = rw e (placed_again log (after log acts) (journal_after log.journal acts) there piece acts e taken)
    by false e taken free = rw e (placed_first log good there piece (all 0 (Act.Place there piece) (omega arith)) e _ _ acts (free e))
after_all log (Act.Retire before ∷ acts) good all =
    by (ltb (start log.journal) (start_for before log.journal)) refl (after_all log acts good tail)
    (λ (more : start log.journal < start_for before log.journal). after_all (without log good before more) acts (retired_good log good before more) tail)
  where
    tail : All (IsWithin log.capacity) acts
    tail n d h = all (suc n) d (omega arith)

    by : (b : Bool) → ltb (start log.journal) (start_for before log.journal) ≡ b → After log acts (after log acts) (journal_after log.journal acts)
        → ((more : start log.journal < start_for before log.journal) → After (record log { journal = log.journal ++ mark_of (start_for before log.journal) ∷ []; slots = slots_from (start_for before log.journal) log.slots }) acts
        (after (record log { journal = log.journal ++ mark_of (start_for before log.journal) ∷ []; slots = slots_from (start_for before log.journal) log.slots }) acts) (journal_after (log.journal ++ mark_of (start_for before log.journal) ∷ []) acts))
        → After log (Act.Retire before ∷ acts) (after log (Act.Retire before ∷ acts)) (journal_after log.journal (Act.Retire before ∷ acts))
    by true e same more = rw e (retired_first log good before (ltb-true _ _ e) _ _ acts (more (ltb-true _ _ e)))
    by false e same more = rw e (retired_none log (after log acts) (journal_after log.journal acts) before acts same)

pub firsts_stay : FirstsStay
firsts_stay server w capacity acts small all =
    let a = after_all (empty_log server w capacity) acts (record {
      small = small;
      places = length-listed {A = Option Piece} capacity (λ (p : ℕ). None);
      journal = tt;
      kept = λ place lt. free_at capacity place ∙ sym (ap (λ (b : Bool). cond b false false) (le-ltb place 0 (omega arith)));
    }) all in
    record {
      journal = a.journal;
      legal = a.legal;
      pieces = λ place lt. a.pieces place lt;
    }
