-- What a step keeps of a legal core.
use Rattle.std.proofs.Common.{◌≡◌, ◌≢◌, ◌∙◌, ⊎_elim, refl, sym, ap, subst, ℕ, zero, suc, ◌<◌, ◌≤◌, true, false, List, [], length, Some, slice_get, arith}
use Rattle.std.proofs.lemmas.Bool.{false≢true}
use Rattle.std.proofs.lemmas.List.{length-set}
use Rattle.std.proofs.lemmas.Option.{get_or_from_slice_get, none-some, slice_get_within}
use Rattle.list_facts.specs.Count.{has, times}
use Rattle.list_facts.specs.Listed.{listed}
use Rattle.list_facts.proofs.Listed.{get_or-listed, length-listed}
use Rattle.waldo_core.specs.Core.{Actor, Core, Fixes, Open, empty_core, fresh, journal_of, prefix, with_actor}
use Rattle.waldo_core.specs.Core.Fixes.{Unfixed, First, Second, Agreed}
use Rattle.waldo_core.specs.Legal.{AreFixes, HasOpen, IsActor, IsLegal}
use Rattle.waldo_core.proofs.OpenDraws.{All-from_get, All-set_but, HasDraw, open_after, open_here, open_there}

-- ---- what stays of an actor

-- the order and the prefixes of a later core are no smaller
pub record Later (core next : Core) : Type 0 where
  pub order : length core.order ≤ length next.order
  pub zero : prefix core.zero ≤ prefix next.zero
  pub one : prefix core.one ≤ prefix next.one
  pub two : prefix core.two ≤ prefix next.two

-- a place is in the same journals
pub record Unmoved (core next : Core) (place : ℕ) : Type 0 where
  pub zero : has place next.zero ≡ has place core.zero
  pub one : has place next.one ≡ has place core.one
  pub two : has place next.two ≡ has place core.two

fixes_stay : (core next : Core) (floor : ℕ) (fixes : Fixes) → Later core next → AreFixes core floor fixes → AreFixes next floor fixes
fixes_stay core next floor Unfixed l f = f
fixes_stay core next floor (First p) l f = (f.0, omega (arith, f.1, l.zero))
fixes_stay core next floor (Second p q) l f = (f.0, omega (arith, f.1, l.zero), f.2, omega (arith, f.3, l.one))
fixes_stay core next floor (Agreed n) l f = (f.0, omega (arith, f.1, l.zero), omega (arith, f.2, l.one), omega (arith, f.3, l.two))

pub actor_stays : (core next : Core) (u : Actor) → Later core next → ((draw : Open) → u.draw ≡ Some draw → Unmoved core next draw.place) → IsActor core u → IsActor next u
actor_stays core next u l unmoved is = record {
  floor = omega (arith, is.floor, l.order);
  draw = λ draw e. let o = is.draw draw e in let m = unmoved draw e in record {
    place = omega (arith, o.place, l.order);
    zero = m.zero ∙ o.zero;
    one = m.one ∙ o.one;
    two = m.two ∙ o.two;
    missing = o.missing;
  };
  fixes = fixes_stay core next u.floor u.fixes l is.fixes;
}

-- ---- another actor at a number

journals_stay : (core : Core) (number : ℕ) (a : Actor) (k : ℕ) → journal_of core k ≡ journal_of (with_actor core number a) k
journals_stay core number a zero = refl
journals_stay core number a (suc zero) = refl
journals_stay core number a (suc (suc k)) = refl

-- what a core needs so that it is legal once the actor of this number is another one
pub record Becomes (core : Core) (number : ℕ) (a : Actor) : Type 0 where
  pub once : (k place : ℕ) → times place (journal_of core k) ≤ 1
  pub known : (k place : ℕ) → has place (journal_of core k) ≡ true → place < length core.order
  pub sixteen : length core.actors ≡ 16
  pub here : IsActor (with_actor core number a) a
  pub others : (j : ℕ) (u : Actor) → j ≢ number → slice_get core.actors j ≡ Some u → IsActor (with_actor core number a) u
  pub apart : (i j place : ℕ) → HasOpen core i place → HasOpen core j place → i ≡ j
  pub alone : (j place : ℕ) → HasDraw a place → j ≢ number → ¬ HasOpen core j place
  pub closed : (k place : ℕ) → place < length core.order → ((j : ℕ) → j ≢ number → ¬ HasOpen core j place) → ¬ HasDraw a place → has place (journal_of core k) ≡ true

module _ (core : Core) (number : ℕ) (actor a : Actor) (get : slice_get core.actors number ≡ Some actor) (b : Becomes core number a) where
  becomes_apart : (i j place : ℕ) → HasOpen (with_actor core number a) i place → HasOpen (with_actor core number a) j place → i ≡ j
  becomes_apart i j place h g = ⊎_elim
      (λ (p : (i ≡ number) × HasDraw a place). ⊎_elim
      (λ (q : (j ≡ number) × HasDraw a place). p.0 ∙ sym q.0)
      (λ (q : (j ≢ number) × HasOpen core j place). absurd (b.alone j place p.1 q.0 q.1)) (open_after core number actor get a j place g))
      (λ (p : (i ≢ number) × HasOpen core i place). ⊎_elim
      (λ (q : (j ≡ number) × HasDraw a place). absurd (b.alone i place q.1 p.0 p.1))
      (λ (q : (j ≢ number) × HasOpen core j place). b.apart i j place p.1 q.1) (open_after core number actor get a j place g))
      (open_after core number actor get a i place h)

  pub becomes_legal : IsLegal (with_actor core number a)
  becomes_legal = record {
    once = λ k place. subst (λ (journal : List ℕ). times place journal ≤ 1) (journals_stay core number a k) (b.once k place);
    known = λ k place h. b.known k place (subst (λ (journal : List ℕ). has place journal ≡ true) (sym (journals_stay core number a k)) h);
    sixteen = length-set core.actors number a ∙ b.sixteen;
    actors = All-set_but (IsActor (with_actor core number a)) core.actors number actor a get b.here b.others;
    apart = becomes_apart;
    closed = λ k place lt none. subst (λ (journal : List ℕ). has place journal ≡ true) (journals_stay core number a k)
        (b.closed k place lt (λ j ne h. none j (open_there core number actor get a j place ne h)) (λ h. none number (open_here core number actor get a place h)));
  }

-- ---- nothing was drawn

bare : (k : ℕ) → journal_of empty_core k ≡ []
bare zero = refl
bare (suc zero) = refl
bare (suc (suc k)) = refl

fresh_at : (j : ℕ) (u : Actor) → slice_get (listed 16 (λ (actor : ℕ). fresh)) j ≡ Some u → fresh ≡ u
fresh_at j u e =
    let lt : j < 16 = slice_get_within (listed 16 (λ (actor : ℕ). fresh)) j u e in
    sym (get_or-listed 16 j (λ (actor : ℕ). fresh) u lt) ∙ get_or_from_slice_get (listed 16 (λ (actor : ℕ). fresh)) j u u e

none_open : (j place : ℕ) → ¬ HasOpen empty_core j place
none_open j place h = none-some h.1 (ap (λ (u : Actor). u.draw) (fresh_at j h.0 h.2) ∙ h.3)

fresh_legal : IsActor empty_core fresh
fresh_legal = record { floor = omega arith; draw = λ draw e. absurd (none-some draw e); fixes = tt }

pub empty_legal : IsLegal empty_core
empty_legal = record {
  once = λ k place. subst (λ (journal : List ℕ). times place journal ≤ 1) (sym (bare k)) (omega arith);
  known = λ k place h. let there : false ≡ true = subst (λ (journal : List ℕ). has place journal ≡ true) (bare k) h in absurd (false≢true there);
  sixteen = length-listed 16 (λ (actor : ℕ). fresh);
  actors = All-from_get (IsActor empty_core) (listed 16 (λ (actor : ℕ). fresh)) (λ j u e. subst (IsActor empty_core) (fresh_at j u e) fresh_legal);
  apart = λ i j place h g. absurd (none_open i place h);
  closed = λ k place lt none. absurd (omega arith);
}
