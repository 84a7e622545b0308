-- Rows that are appended one after another lead where they should.
use Rattle.std.proofs.Common.{◌≡◌, ◌∙◌, sym, ap, subst, ℕ, zero, suc, ◌+◌, ◌<◌, ◌≤◌, max, Bool, true, false, cond, List, [], ◌∷◌, ◌++◌, length, append-nil, append_assoc, arith}
use Rattle.std.specs.Prelude.{Some, None, nat_lt}
use Rattle.std.specs.List.{flat_map, range_with_len}
use Rattle.std.proofs.lemmas.Bool.Decides.{nat_tests}
use Rattle.std.proofs.lemmas.List.{length_push}
use Rattle.list_facts.specs.Count.{has, times, once_below}
use Rattle.list_facts.specs.Listed.{listed}
use Rattle.list_facts.proofs.Count.{has_from_none, once_below-more, times-append}
use Rattle.prg_chacha.specs.declared.seed.Seed.{Seed}
use Rattle.server_rounds.specs.declared.opened.OpenedPair.{OpenedPair}
use Rattle.table_schema.specs.declared.rows.Row.{Row}
use Rattle.waldo_core.specs.Core.{Actor, Core, fresh}
use Rattle.waldo_core.specs.Core.Fixes.{Unfixed}
use Rattle.waldo_core.specs.InBulk.{Leads, RowsLead, appending, core_after}
use Rattle.waldo_core.specs.Step.{step}
use Rattle.waldo_core.specs.declared.events.Event.{Event}
use Rattle.waldo_core.specs.declared.events.Event.TheVariants as events
use Rattle.waldo_core.specs.declared.events.Reply.TheVariants as replies

leads_more : (capacity : ℕ) (a b d : Core) (es fs : List Event) → Leads capacity a es b → Leads capacity b fs d → Leads capacity a (es ++ fs) d
leads_more capacity a b d [] fs e then = subst (λ (c : Core). Leads capacity c fs d) (sym e) then
leads_more capacity a b d (e ∷ es) fs first then = (first.0, first.1, leads_more capacity first.0.0 b d es fs first.2 then)

range_end : (a n : ℕ) → range_with_len a (n + 1) ≡ range_with_len a n ++ (a + n) ∷ []
range_end a zero = ap (λ (m : ℕ). m ∷ []) (omega arith)
range_end a (suc n) =
    let e : suc n + 1 ≡ suc (n + 1) = omega arith in
    let last : a + 1 + n ≡ a + suc n = omega arith in
    ap (range_with_len a) e ∙ ap (λ (xs : List ℕ). a ∷ xs) (range_end (a + 1) n ∙ ap (λ (m : ℕ). range_with_len (a + 1) n ++ m ∷ []) last)

range_more : (n : ℕ) → range_with_len 0 (n + 1) ≡ range_with_len 0 n ++ n ∷ []
range_more n = let e : 0 + n ≡ n = omega arith in range_end 0 n ∙ ap (λ (m : ℕ). range_with_len 0 n ++ m ∷ []) e

times_range : (x n : ℕ) → times x (range_with_len 0 n) ≡ once_below x n
times_range x zero = grind (arith, nat_tests)
times_range x (suc n) =
    let e : suc n ≡ n + 1 = omega arith in
    ap (λ (m : ℕ). times x (range_with_len 0 m)) e ∙ ap (times x) (range_more n) ∙ times-append x (range_with_len 0 n) (n ∷ [])
    ∙ ap (λ (m : ℕ). m + times x (n ∷ [])) (times_range x n) ∙ sym (once_below-more x n) ∙ ap (once_below x) (sym e)

none_below : (n : ℕ) → once_below n n ≡ 0
none_below n = grind (arith, nat_tests)

not_there : (n : ℕ) → has n (range_with_len 0 n) ≡ false
not_there n = has_from_none n (range_with_len 0 n) (times_range n n ∙ none_below n)

less : (n m : ℕ) → n < m → nat_lt n m ≡ true
less n m lt = grind (arith, nat_tests)

module _ (capacity : ℕ) (xs : List (Row × Seed)) (entry : Row × Seed) (room : length xs < capacity) where
  abbrev rest : List Actor
  rest = listed 15 (λ (actor : ℕ). fresh)

  abbrev at : List ℕ → List ℕ → List ℕ → Actor → Core
  at j k l a = record { order = xs ++ entry ∷ []; zero = j; one = k; two = l; actors = a ∷ rest }

  abbrev opened : Bool → Bool → Actor
  opened a b = record { floor = length xs; draw = Some (record { place = length xs; zero = a; one = b; two = false }); fixes = Unfixed }

  abbrev old : List ℕ
  old = range_with_len 0 (length xs)

  abbrev new : List ℕ
  new = old ++ length xs ∷ []

  abbrev done : Actor
  done = record { floor = max (length xs) (length xs + 1); draw = None; fixes = Unfixed }

  abbrev either : Bool → List ℕ
  either b = cond b old new

  drawn : (pair : OpenedPair) → step capacity (core_after xs) (events.Draw 0 entry.0 entry.1) pair ≡ Some (at old old old (opened false false), replies.Drew (length xs))
  drawn pair = ap (λ (b : Bool). Some (cond b (at old old old (opened false false), replies.Drew (length xs)) (core_after xs, replies.Full capacity))) (less (length xs) capacity room)

  zeroth : (pair : OpenedPair) → step capacity (at old old old (opened false false)) (events.Place 0 0) pair ≡ Some (at new old old (opened true false), replies.Placed)
  zeroth pair = ap (λ (b : Bool). Some (at (either b) old old (opened true false), replies.Placed)) (not_there (length xs))

  first : (pair : OpenedPair) → step capacity (at new old old (opened true false)) (events.Place 0 1) pair ≡ Some (at new new old (opened true true), replies.Placed)
  first pair = ap (λ (b : Bool). Some (at new (either b) old (opened true true), replies.Placed)) (not_there (length xs))

  second : (pair : OpenedPair) → step capacity (at new new old (opened true true)) (events.Place 0 2) pair ≡ Some (at new new new done, replies.Placed)
  second pair = ap (λ (b : Bool). Some (at new new (either b) done, replies.Placed)) (not_there (length xs))

  last : at new new new done ≡ core_after (xs ++ entry ∷ [])
  last =
      let count : length (xs ++ entry ∷ []) ≡ length xs + 1 = length_push xs entry in
      let journal : new ≡ range_with_len 0 (length (xs ++ entry ∷ [])) = sym (range_more (length xs)) ∙ ap (range_with_len 0) (sym count) in
      let floor : max (length xs) (length xs + 1) ≡ length (xs ++ entry ∷ []) = omega (arith, count) in
      ap (λ (j : List ℕ). at j j j done) journal
      ∙ ap (λ (n : ℕ). at (range_with_len 0 (length (xs ++ entry ∷ []))) (range_with_len 0 (length (xs ++ entry ∷ []))) (range_with_len 0 (length (xs ++ entry ∷ []))) (record { floor = n; draw = None; fixes = Unfixed })) floor

  pub row_leads : Leads capacity (core_after xs) (appending entry) (core_after (xs ++ entry ∷ []))
  row_leads = (
    (at old old old (opened false false), replies.Drew (length xs)),
    drawn,
    (
      (at new old old (opened true false), replies.Placed),
      zeroth,
      ((at new new old (opened true true), replies.Placed), first, ((at new new new done, replies.Placed), second, last)),
    ),
  )

rows_from : (capacity : ℕ) (xs ys : List (Row × Seed)) → length (xs ++ ys) ≤ capacity → Leads capacity (core_after xs) (flat_map appending ys) (core_after (xs ++ ys))
rows_from capacity xs [] le = ap core_after (sym (append-nil xs))
rows_from capacity xs (y ∷ ys) le =
    let same : (xs ++ y ∷ []) ++ ys ≡ xs ++ y ∷ ys = append_assoc xs (y ∷ []) ys in
    let few : length ((xs ++ y ∷ []) ++ ys) ≤ capacity = omega (arith, ap length same) in
    let room : length xs < capacity = room_here xs y ys capacity le in
    leads_more capacity (core_after xs) (core_after (xs ++ y ∷ [])) (core_after (xs ++ y ∷ ys)) (appending y) (flat_map appending ys) (row_leads capacity xs y room)
    (subst (λ (l : List (Row × Seed)). Leads capacity (core_after (xs ++ y ∷ [])) (flat_map appending ys) (core_after l)) same (rows_from capacity (xs ++ y ∷ []) ys few))
  where
    room_here : (xs : List (Row × Seed)) (y : Row × Seed) (ys : List (Row × Seed)) (capacity : ℕ) → length (xs ++ y ∷ ys) ≤ capacity → length xs < capacity
    room_here [] y ys capacity le = omega arith
    room_here (x ∷ xs) y ys zero le = absurd (omega arith)
    room_here (x ∷ xs) y ys (suc capacity) le = let r = room_here xs y ys capacity (omega arith) in omega (arith, r)

pub rows_lead : RowsLead
rows_lead capacity entries le = rows_from capacity [] entries le
