-- Each step keeps the rule.
use Rattle.std.proofs.Common.{◌≡◌, ◌≢◌, ℕ, ◌+◌, ◌%◌, ◌^◌, ◌<◌, ◌≤◌, true, false, eqb, if◌then◌else◌, List, [], ◌∷◌, ◌++◌, length, get_or, set, sym, refl, ap, ◌∙◌, subst, ⊎_elim, eq-eqb, ne_eqb, arith, length-append, Option, Some}
use Rattle.std.proofs.lemmas.List.Elements.{All-set, All-push}
use mathlib.Core.Logic.{dite}
use mathlib.Core.Option.{none, some}
use mathlib.Core.List.{IsPrefix}
use native.Mathlib.Decide.{ℕ_discrete}
use lib.ListN.{get_elem?}
use prog.Atomic.{either}
use Rattle.atomic_table.specs.Table as table
use Rattle.atomic_table.specs.Table.{State, Me, Act, rest, step, keeps, stepped, Allows, Splits, Joins}
use Rattle.atomic_table.proofs.Lists.{at_set, set_here, set_else}
use Rattle.list_facts.specs.Count.{total}
use Rattle.list_facts.proofs.Count.{total-append, total-set, total_has}
use Rattle.list_facts.proofs.Each.{All-at, All-set_others}
use Rattle.list_facts.proofs.Prefixes.{prefix_nil, prefix_self, prefix_trans, longer_prefix, longer_begins}
use Rattle.journal_lock.specs.declared.knows.Knows.{Knows}
use Rattle.journal_lock.specs.Desk.{Fits, Locked, holding, rested}
use Rattle.journal_lock.specs.Steps as steps
use Rattle.journal_lock.specs.Steps.{Took, again, joined}

holding_yes : (v : Knows) → v.holds ≡ true → holding v ≡ 1
holding_yes v is = ap (λ b. if b then 1 else 0) is

holding_no : (v : Knows) → v.holds ≡ false → holding v ≡ 0
holding_no v is = ap (λ b. if b then 1 else 0) is

-- where at most one seat has the value and this one does, no other does
alone : (views : List Knows) (id : ℕ) (v : Knows) (j : ℕ) (u : Knows) → total holding views ≤ 1 → get_elem? views id ≡ some v → v.holds ≡ true → j ≢ id → get_elem? views j ≡ some u → u.holds ≡ true → ⊥
alone views id v j u one at holds ne at' holds' =
    let idle : Knows = record v { holds = false } in
    let sum = total-set holding views id v idle at in
    let has = total_has holding (set views id idle) j u (set_else views id j idle ne ∙ at') in
    let mine = holding_yes v holds in
    let theirs = holding_yes u holds' in omega arith

-- a seat that does not have the value fits where all that it has seen begins the journal
fits_idle : (line : List ℕ) (v : Knows) → v.holds ≡ false → IsPrefix v.seen line → IsPrefix v.left line → IsPrefix v.right line → Fits line v
fits_idle line v idle seen left right = record { seen = seen; left = left; right = right; all = λ holds. absurd (cc (idle, holds)) }

fits_rested : (line seen : List ℕ) → IsPrefix seen line → Fits line (rested seen)
fits_rested line seen p = fits_idle line (rested seen) refl p (prefix_nil line) (prefix_nil line)

module _ {S T : Type 0} (journal : S → List ℕ) (tag : S → T) (kind : T) where
  abbrev L : State (Option S) Knows → Type 0
  L s = Locked journal tag kind s

  here_of : (s : State (Option S) Knows) (r : L s) (id : ℕ) (v : Knows) → get_elem? s.views id ≡ some v → Fits r.line v
  here_of s r id v at = All-at (Fits r.line) s.views id v r.fits at

  -- a step that changes neither the words nor who has the value
  unmoved : (s : State (Option S) Knows) (r : L s) (ws : List ℕ) (id : ℕ) (v w : Knows) → ws ≡ s.words → get_elem? s.views id ≡ some v → w.holds ≡ v.holds → Fits r.line w
      → L record { words = ws; homes = s.homes; views = set s.views id w }
  unmoved s r ws id v w same at holds here =
      let sum = total-set holding s.views id v w at in
      let equal : holding w ≡ holding v = ap (λ b. if b then 1 else 0) holds in
      let before = r.held in record {
        line = r.line;
        turn = r.turn;
        words = same ∙ r.words;
        one = r.one;
        held = omega arith;
        fits = All-set (Fits r.line) s.views id w here r.fits;
        home = r.home;
      }

  word_0 : (s : State (Option S) Knows) (r : L s) → get_or s.words 0 0 ≡ r.turn
  word_0 s r = ap (λ (ws : List ℕ). get_or ws 0 0) r.words

  word_1 : (s : State (Option S) Knows) (r : L s) → get_or s.words 1 0 ≡ length r.line
  word_1 s r = ap (λ (ws : List ℕ). get_or ws 1 0) r.words

  same_0 : (s : State (Option S) Knows) (r : L s) → set s.words 0 (get_or s.words 0 0) ≡ s.words
  same_0 s r = ap (λ (ws : List ℕ). set ws 0 (get_or ws 0 0)) r.words ∙ sym r.words

  same_1 : (s : State (Option S) Knows) (r : L s) → set s.words 1 (get_or s.words 1 0) ≡ s.words
  same_1 s r = ap (λ (ws : List ℕ). set ws 1 (get_or ws 1 0)) r.words ∙ sym r.words

  module _ (fits : S → Type 0) (fit : (x : S) → tag x ≡ kind → fits x) where
    -- the exchange of the turn from 0 to 1: the seat has the value, or another view that has seen as much
    takes_or : (slots id : ℕ) (me : Me (Option S) Knows) (other : Knows) → me.0.holds ≡ false → me.1 ≡ [] → other.holds ≡ false → other.seen ≡ me.0.seen → other.left ≡ me.0.left → other.right ≡ me.0.right
        → Allows (Locked journal tag kind) slots id me 0 (λ n. either (eqb n 0) 1 n) (λ found m'. (found ≡ 0 → Took journal fits me m') × (found ≢ 0 → m' ≡ (other, me.1)))
    takes_or slots id me other idle none_out idle' seen left right s r wide at small =
        let x : ℕ = get_or s.words 0 0 in
        let v = me.0 in
        let here = here_of s r id v at in
        let is = word_0 s r in dite (ℕ_discrete x 0)
        (λ hit.
        let t = r.home (sym is ∙ hit) in
        let w : Knows = record v { holds = true; held = journal t.0 } in
        let a : Act (Option S) = table.takes 0 (Some t.0) in
        let sum = total-set holding s.views id v w at in
        let none_yet = holding_no v idle in
        let before = r.held in (
          w,
          a,
          t.1,
          subst (λ b. L (stepped s 0 (either b 1 x) id me.1 w a)) (sym (eq-eqb x 0 hit)) (record {
            line = r.line;
            turn = 1;
            words = ap (λ (ws : List ℕ). set ws 0 1) r.words;
            one = omega arith;
            held = omega arith;
            fits = All-set (Fits r.line) s.views id w (record { seen = here.seen; left = here.left; right = here.right; all = λ _. t.2 }) r.fits;
            home = λ e. absurd (omega arith);
          }),
          (
            (λ _. record {
              value = t.0;
              out = ap (λ (c : List (ℕ × Option S)). (0, Some t.0) ∷ c) none_out;
              view = refl;
              begins = subst (λ (l : List ℕ). IsPrefix v.seen l) (sym t.2) here.seen;
              fit = fit t.0 t.3;
            }),
            λ ne. absurd (ne hit),
          ),
        ))
        (λ miss. (
          other,
          keeps,
          tt,
          subst (λ b. L (stepped s 0 (either b 1 x) id me.1 other keeps)) (sym (ne_eqb x 0 miss))
              (unmoved s r (set s.words 0 x) id v other (same_0 s r) at (idle' ∙ sym idle)
              (fits_idle r.line other idle' (subst (λ (l : List ℕ). IsPrefix l r.line) (sym seen) here.seen) (subst (λ (l : List ℕ). IsPrefix l r.line) (sym left) here.left) (subst (λ (l : List ℕ). IsPrefix l r.line) (sym right) here.right))),
          ((λ e. absurd (miss e)), λ _. refl),
        ))

    pub takes : (slots id : ℕ) (me : Me (Option S) Knows) → me.0.holds ≡ false → me.1 ≡ []
        → Allows (Locked journal tag kind) slots id me 0 (λ n. either (eqb n 0) 1 n) (steps.takes journal fits (step slots 0 0 1 none) me)
    takes slots id me idle none_out = takes_or slots id me me.0 idle none_out idle refl refl refl

    pub tries : (slots id : ℕ) (me : Me (Option S) Knows) → me.0.holds ≡ false → me.1 ≡ []
        → Allows (Locked journal tag kind) slots id me 0 (λ n. either (eqb n 0) 1 n) (steps.tries journal fits (step slots 0 0 1 none) me)
    tries slots id me idle none_out = takes_or slots id me (record me.0 { tries = me.0.tries + 1 }) idle none_out idle refl refl refl

  pub gives : (id : ℕ) (me : Me (Option S) Knows) → me.0.holds ≡ true → (value : S) → me.1 ≡ (0, Some value) ∷ [] → journal value ≡ me.0.held → tag value ≡ kind
      → Allows (Locked journal tag kind) 1 id me 0 (λ _. 0) (steps.gives (step 1 0 0 0 none) me)
  gives id me holds value out is_journal is_tag s r wide at small =
      let v = me.0 in
      let here = here_of s r id v at in
      let w : Knows = record v { holds = false; held = [] } in
      let sum = total-set holding s.views id v w at in
      let mine = holding_yes v holds in
      let before = r.held in
      let most = r.one in
      let a : Act (Option S) = table.gives in
      let none_left : total holding (set s.views id w) ≡ 0 = omega arith in (
        w,
        a,
        tt,
        subst (λ (l : List (ℕ × Option S)). L (stepped s 0 0 id l w a)) (sym out) (record {
          line = r.line;
          turn = 0;
          words = ap (λ (ws : List ℕ). set ws 0 0) r.words;
          one = omega arith;
          held = none_left;
          fits = All-set (Fits r.line) s.views id w (fits_idle r.line w refl here.seen here.left here.right) r.fits;
          home = λ _. (value, set_here s.homes 0 (some (Some value)) (omega arith), is_journal ∙ here.all holds, is_tag);
        }),
        ap (λ (l : List (ℕ × Option S)). (w, rest l)) out,
      )

  pub reads : (slots id : ℕ) (me : Me (Option S) Knows) → me.0.holds ≡ true → Allows (Locked journal tag kind) slots id me 1 (λ n. n) (steps.reads (step slots 1 0 0 none) me)
  reads slots id me holds s r wide at small =
      let v = me.0 in
      let here = here_of s r id v at in
      let all = here.all holds in
      let w : Knows = record v { seen = v.held; looks = v.looks + 1 } in (
        w,
        keeps,
        tt,
        unmoved s r (set s.words 1 (get_or s.words 1 0)) id v w (same_1 s r) at refl
            (record { seen = subst (λ (l : List ℕ). IsPrefix l r.line) (sym all) (prefix_self r.line); left = here.left; right = here.right; all = λ _. all }),
        (word_1 s r ∙ ap length (sym all), refl),
      )

  -- the seat that has the value adds an entry to the journal
  pub grows : (slots id : ℕ) (me : Me (Option S) Knows) (after : List ℕ) (entry : ℕ) → me.0.holds ≡ true → after ≡ me.0.held ++ entry ∷ [] → length after < 2 ^ 64
      → Allows (Locked journal tag kind) slots id me 1 (λ n. (n + 1) % 2 ^ 64) (steps.grows after (step slots 1 1 0 none) me)
  grows slots id me after entry holds one_more short s r wide at small =
      let v = me.0 in
      let here = here_of s r id v at in
      let is : after ≡ r.line ++ entry ∷ [] = one_more ∙ ap (λ (l : List ℕ). l ++ entry ∷ []) (here.all holds) in
      let p : IsPrefix r.line after = (entry ∷ [], sym is) in
      let w : Knows = record v { held = after; seen = after } in
      let sum = total-set holding s.views id v w at in
      let before = r.held in
      let most = r.one in
      let long : length after ≡ length r.line + 1 = ap length is ∙ length-append r.line (entry ∷ []) in
      let up : (length r.line + 1) % 2 ^ 64 ≡ length after = omega arith in (
        w,
        keeps,
        tt,
        record {
          line = after;
          turn = r.turn;
          words = ap (λ (ws : List ℕ). set ws 1 ((get_or ws 1 0 + 1) % 2 ^ 64)) r.words ∙ ap (λ (n : ℕ). r.turn ∷ n ∷ []) up;
          one = r.one;
          held = omega arith;
          fits = All-set_others (Fits after) s.views id w (record { seen = prefix_self after; left = prefix_trans _ _ _ here.left p; right = prefix_trans _ _ _ here.right p; all = λ _. refl })
              (λ j u ne e. let f = here_of s r j u e in record {
                seen = prefix_trans _ _ _ f.seen p;
                left = prefix_trans _ _ _ f.left p;
                right = prefix_trans _ _ _ f.right p;
                all = λ h. absurd (alone s.views id v j u (omega arith) at holds ne e h);
              });
          home = λ none_out. let has = total_has holding s.views id v at in let mine = holding_yes v holds in absurd (omega arith);
        },
        refl,
      )

  pub splits : (id : ℕ) (v : Knows) → Splits (Locked journal tag kind) id v v (again v)
  splits id v s r at =
      let here = here_of s r id v at in
      let sum = total-set holding s.views id v v at in
      let more = total-append holding (set s.views id v) (again v ∷ []) in
      let before = r.held in record {
        line = r.line;
        turn = r.turn;
        words = r.words;
        one = r.one;
        held = omega arith;
        fits = All-push (Fits r.line) (set s.views id v) (again v) (All-set (Fits r.line) s.views id v here r.fits) (fits_rested r.line v.seen here.seen);
        home = r.home;
      }

  pub joins : (id : ℕ) (v : Knows) (other : ℕ) (w : Knows) → v.holds ≡ false → w.holds ≡ false → Joins (Locked journal tag kind) id v other w (joined v w) (rested [])
  joins id v other w idle idle' s r at ne at' =
      let here = here_of s r id v at in
      let j = joined v w in
      let there : Fits r.line w = ⊎_elim (λ t. absurd (ne t.0)) (λ t. here_of s r other w t.1) (at_set s.views id other j w at') in
      let sum = total-set holding s.views id v j at in
      let sum' = total-set holding (set s.views id j) other w (rested []) at' in
      let none_there = holding_no w idle' in
      let before = r.held in record {
        line = r.line;
        turn = r.turn;
        words = r.words;
        one = r.one;
        held = omega arith;
        fits = All-set (Fits r.line) (set s.views id j) other (rested []) (fits_rested r.line [] (prefix_nil r.line))
            (All-set (Fits r.line) s.views id j (fits_idle r.line j idle (longer_prefix v.seen w.seen r.line here.seen there.seen) here.seen there.seen) r.fits);
        home = r.home;
      }

  pub notes : (slots id : ℕ) (me : Me (Option S) Knows) → Allows (Locked journal tag kind) slots id me 1 (λ n. n) (steps.notes (step slots 1 0 0 none) me)
  notes slots id me s r wide at small =
      let v = me.0 in
      let here = here_of s r id v at in
      let w : Knows = record v { left = []; right = [] } in (
        w,
        keeps,
        tt,
        unmoved s r (set s.words 1 (get_or s.words 1 0)) id v w (same_1 s r) at refl
            (record { seen = here.seen; left = prefix_nil r.line; right = prefix_nil r.line; all = here.all }),
        (refl, λ e. subst (λ (l : List ℕ). IsPrefix v.left l × IsPrefix v.right l) (sym e) (longer_begins v.left v.right r.line here.left here.right)),
      )
