-- Actor 0 fixes at three servers that have all rows.
use Rattle.std.proofs.Common.{◌≡◌, ◌∙◌, refl, sym, ap, ℕ, None, Some, List, ◌∷◌, length, min, arith}
use Rattle.std.proofs.lemmas.Bool.{le-ltb}
use Rattle.std.specs.List.{range_with_len}
use Rattle.list_facts.specs.Listed.{listed}
use Rattle.prg_chacha.specs.declared.seed.Seed.{Seed}
use Rattle.server_rounds.specs.declared.opened.OpenedPair.{OpenedPair}
use Rattle.table_schema.specs.declared.rows.Row.{Row}
use Rattle.waldo_core.specs.Core.{Actor, Core, Fixes, fresh, prefix}
use Rattle.waldo_core.specs.Core.Fixes.{Unfixed, First, Second, Agreed}
use Rattle.waldo_core.specs.Machines.{Seen}
use Rattle.waldo_core.specs.Step.{step}
use Rattle.waldo_core.specs.declared.events.Event.TheVariants as events
use Rattle.waldo_core.specs.declared.events.Reply.{Reply}
use Rattle.waldo_core.specs.declared.events.Reply.TheVariants as replies
use Rattle.schedule_play.specs.AllAgreed.{core_agreed, core_fixed}
use Rattle.schedule_play.proofs.RowNumbers.{numbers_are, prefix-numbers_below}

-- a fix that has this outcome leads to its core
abbrev pub Fixes0 : Seen → Seen → Type 0
Fixes0 old new = (next : Core × Reply) → ((pair : OpenedPair) → step old.capacity old.core (events.Fix 0) pair ≡ Some next) → new ≡ record old { core = next.0 }

-- a core whose servers have these places, and whose actor 0 has these fixes
abbrev core_at : List (Row × Seed) → List ℕ → ℕ → List Actor → Fixes → Core
core_at entries j n others fixes = record { order = entries; zero = j; one = j; two = j; actors = record { floor = n; draw = None; fixes = fixes } ∷ others }

module _ (entries : List (Row × Seed)) (j : List ℕ) (n : ℕ) (others : List Actor) (whole : prefix j ≡ n) where
  first_fix : (capacity : ℕ) (pair : OpenedPair)
      → step capacity (core_at entries j n others Unfixed) (events.Fix 0) pair ≡ Some (core_at entries j n others (First n), replies.Fixed n)
  first_fix capacity pair = rw (whole, le-ltb n n (omega arith)) refl

  second_fix : (capacity : ℕ) (pair : OpenedPair)
      → step capacity (core_at entries j n others (First n)) (events.Fix 0) pair ≡ Some (core_at entries j n others (Second n n), replies.Fixed n)
  second_fix capacity pair = rw (whole, le-ltb n n (omega arith)) refl

  third_fix : (capacity : ℕ) (pair : OpenedPair)
      → step capacity (core_at entries j n others (Second n n)) (events.Fix 0) pair ≡ Some (core_at entries j n others (Agreed n), replies.Agreed n)
  third_fix capacity pair =
      let least : min (min n n) n ≡ n = omega arith in
      rw (whole, le-ltb n n (omega arith), least) refl

  -- after three fixes actor 0 agreed on all places
  fixed_thrice : (start first second third : Seen) → start.core ≡ core_at entries j n others Unfixed → Fixes0 start first → Fixes0 first second → Fixes0 second third
      → (third.core ≡ core_at entries j n others (Agreed n)) × (third.widths ≡ start.widths)
  fixed_thrice start first second third is f g h =
      let a = f (core_at entries j n others (First n), replies.Fixed n)
      (λ pair. ap (λ (c : Core). step start.capacity c (events.Fix 0) pair) is ∙ first_fix start.capacity pair) in
      let b = g (core_at entries j n others (Second n n), replies.Fixed n)
      (λ pair. ap (λ (c : Core). step first.capacity c (events.Fix 0) pair) (ap (λ (m : Seen). m.core) a) ∙ second_fix first.capacity pair) in
      let c = h (core_at entries j n others (Agreed n), replies.Agreed n)
      (λ pair. ap (λ (c : Core). step second.capacity c (events.Fix 0) pair) (ap (λ (m : Seen). m.core) b) ∙ third_fix second.capacity pair) in
      (ap (λ (m : Seen). m.core) c, ap (λ (m : Seen). m.widths) c ∙ ap (λ (m : Seen). m.widths) b ∙ ap (λ (m : Seen). m.widths) a)

pub all_agreed : (entries : List (Row × Seed)) (start first second third : Seen) → start.core ≡ core_fixed entries Unfixed → Fixes0 start first → Fixes0 first second
    → Fixes0 second third → (third.core ≡ core_agreed entries) × (third.widths ≡ start.widths)
all_agreed entries =
    let n = length entries in
    fixed_thrice entries (range_with_len 0 n) n (listed 15 (λ (actor : ℕ). fresh)) (ap prefix (sym (numbers_are n)) ∙ prefix-numbers_below n)
