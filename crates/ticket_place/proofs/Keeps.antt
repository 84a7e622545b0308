-- Each step keeps the rule.
use Rattle.std.proofs.Common.{◌≡◌, ℕ, ◌+◌, ◌-◌, ◌%◌, ◌^◌, ◌<◌, ◌≤◌, ◌≢◌, List, [], ◌∷◌, ◌++◌, length, get_or, set, sym, refl, ap, ◌∙◌, subst, ⊎_elim, arith, length-append}
use Rattle.std.proofs.lemmas.Bool.Decides.{nat_tests}
use Rattle.std.proofs.lemmas.List.Elements.{All-nil, All-cons, All-set, All-push, All-weaker}
use mathlib.Core.Option.{none, some}
use mathlib.Core.List.{IsPrefix}
use lib.ListN.{get_elem?}
use Rattle.atomic_table.specs.Table.{State, Me, opening, step, keeps, Allows, Splits, Joins}
use Rattle.atomic_table.proofs.Lists.{at_set, set_else}
use Rattle.list_facts.specs.Count.{total, times, once_below, longer}
use Rattle.list_facts.proofs.Count.{total-append, total-set, total_has, times-append, once_below-more, once_below_rises, once_below_most, once_below_both}
use Rattle.list_facts.proofs.Each.{All-at}
use Rattle.list_facts.proofs.Prefixes.{prefix_nil, prefix_self, prefix_trans, prefix_length, longer_left, longer_right, longer_prefix, longer_begins}
use Rattle.prg_chacha.specs.declared.seed.Seed.{Seed}
use Rattle.table_schema.specs.declared.rows.Row.{Row}
use Rattle.ticket_place.specs.declared.known.Known.{Known}
use Rattle.ticket_place.specs.Orders.{Fits, Ordered, SoundSeat, fresh}
use Rattle.ticket_place.specs.Steps as steps
use Rattle.ticket_place.specs.Steps.{without_room, handed, joined}

abbrev M : Type 0
M = Me (Unit {0}) Known

abbrev S : Type 0
S = State (Unit {0}) Known

abbrev room_of : Known → ℕ
room_of v = v.room

abbrev owns : ℕ → Known → ℕ
owns x v = times x v.own

-- what fits one order fits a longer one
fits_more : (order more : List (Row × Seed)) → IsPrefix order more → (v : Known) → Fits order v → Fits more v
fits_more order more p v f = record { seen = prefix_trans _ _ _ f.seen p; left = prefix_trans _ _ _ f.left p; right = prefix_trans _ _ _ f.right p; own = f.own }

fits_fresh : (order seen : List (Row × Seed)) (room : ℕ) → IsPrefix seen order → Fits order (fresh seen room)
fits_fresh order seen room p = record { seen = p; left = prefix_nil order; right = prefix_nil order; own = λ x. omega arith }

here_of : (capacity : ℕ) (s : S) (r : Ordered capacity s) (id : ℕ) (v : Known) → get_elem? s.views id ≡ some v → Fits r.order v
here_of capacity s r id v at = All-at (Fits r.order) s.views id v r.fits at

-- the own places, each once, where the last place of the order is one more of them
own_more : (order : List (Row × Seed)) (entry : Row × Seed) (v : Known) (place : ℕ) → Fits order v → place ≡ length order
    → (x : ℕ) → times x (v.own ++ place ∷ []) ≤ once_below x (length (order ++ entry ∷ []))
own_more order entry v place here is x =
    let before = here.own x in
    let rises = once_below_rises x (length v.order) (length order) (prefix_length v.order order here.seen) in
    let gained = times-append x v.own (place ∷ []) in
    let more = once_below-more x (length order) in
    let same : times x (place ∷ []) ≡ times x (length order ∷ []) = ap (λ (k : ℕ). times x (k ∷ [])) is in
    let e : once_below x (length (order ++ entry ∷ [])) ≡ once_below x (length order + 1) = ap (once_below x) (length-append order (entry ∷ [])) in omega arith

pub draws : (capacity slots id : ℕ) (me : M) (entry : Row × Seed) → 0 < me.0.room
    → Allows (Ordered capacity) slots id me 0 (λ n. (n + 1) % 2 ^ 64) (steps.draws entry capacity (step slots 0 1 0 none) me)
draws capacity slots id me entry some_room s r wide at small =
    let v = me.0 in
    let n : ℕ = get_or s.words 0 0 in
    let is : n ≡ length r.order = ap (λ (ws : List ℕ). get_or ws 0 0) r.word in
    let here = here_of capacity s r id v at in
    let p = here.seen in
    let more : List (Row × Seed) = r.order ++ entry ∷ [] in
    let to_more : IsPrefix r.order more = (entry ∷ [], refl) in
    let w : Known = record v { order = more; room = v.room - 1; own = v.own ++ n ∷ [] } in
    let long : length more ≡ length r.order + 1 = length-append r.order (entry ∷ []) in
    let rooms = total-set room_of s.views id v w at in
    let has = total_has room_of s.views id v at in
    let fits = r.rooms in
    let under = r.small in
    let own = own_more r.order entry v n here is in (
      w,
      keeps,
      tt,
      record {
        order = more;
        word = ap (λ (ws : List ℕ). set ws 0 ((get_or ws 0 0 + 1) % 2 ^ 64)) r.word ∙ ap (λ (k : ℕ). k ∷ []) (let e : (length r.order + 1) % 2 ^ 64 ≡ length more = omega arith in e);
        fits = All-set (Fits more) s.views id w (record { seen = prefix_self more; left = prefix_trans _ _ _ here.left to_more; right = prefix_trans _ _ _ here.right to_more; own = own })
            (All-weaker (Fits r.order) (Fits more) (fits_more r.order more to_more) s.views r.fits);
        rooms = omega arith;
        owned = λ x.
            let sum = total-set (owns x) s.views id v w at in
            let before = r.owned x in
            let gained = times-append x v.own (n ∷ []) in
            let one_more = once_below-more x (length r.order) in
            let same : times x (n ∷ []) ≡ times x (length r.order ∷ []) = ap (λ (k : ℕ). times x (k ∷ [])) is in
            let e : once_below x (length more) ≡ once_below x (length r.order + 1) = ap (once_below x) long in omega arith;
        small = r.small;
      },
      (
        record {
          others = p.0;
          order = ap (λ (l : List (Row × Seed)). l ++ entry ∷ []) (sym p.1);
          at = is ∙ ap length (sym p.1);
          room = omega arith;
          own = refl;
          rest = refl;
        },
        refl,
        record { within = omega arith; once = own },
      ),
    )

-- a step that leaves the word, the rooms and the own places
unmoved : (capacity id : ℕ) (s : S) (r : Ordered capacity s) (v w : Known) → get_elem? s.views id ≡ some v → Fits r.order w → w.room ≡ v.room → w.own ≡ v.own
    → Ordered capacity (record { words = set s.words 0 (get_or s.words 0 0); homes = s.homes; views = set s.views id w })
unmoved capacity id s r v w at here room own =
    let rooms = total-set room_of s.views id v w at in
    let fits = r.rooms in record {
      order = r.order;
      word = ap (λ (ws : List ℕ). set ws 0 (get_or ws 0 0)) r.word;
      fits = All-set (Fits r.order) s.views id w here r.fits;
      rooms = omega arith;
      owned = λ x. let e = total-set (owns x) s.views id v w at in let before = r.owned x in let same : times x w.own ≡ times x v.own = ap (times x) own in omega arith;
      small = r.small;
    }

pub looks : (capacity slots id : ℕ) (me : M) → Allows (Ordered capacity) slots id me 0 (λ n. n) (steps.looks capacity (step slots 0 0 0 none) me)
looks capacity slots id me s r wide at small =
    let v = me.0 in
    let here = here_of capacity s r id v at in
    let w : Known = record v { order = r.order; looks = v.looks + 1 } in
    let short = prefix_length v.order r.order here.seen in
    let own : (x : ℕ) → times x v.own ≤ once_below x (length r.order) = λ x. let before = here.own x in let rises = once_below_rises x (length v.order) (length r.order) short in omega arith in
    let has = total_has room_of s.views id v at in
    let fits = r.rooms in (
      w,
      keeps,
      tt,
      unmoved capacity id s r v w at (record { seen = prefix_self r.order; left = here.left; right = here.right; own = own }) refl refl,
      (here.seen, sym (ap (λ (ws : List ℕ). get_or ws 0 0) r.word), refl, record { within = omega arith; once = own }),
    )

pub hands : (capacity id : ℕ) (v : Known) (room : ℕ) → room ≤ v.room → Splits (Ordered capacity) id v (without_room v room) (handed v room)
hands capacity id v room le s r at =
    let here = here_of capacity s r id v at in
    let w = without_room v room in
    let given = handed v room in
    let rooms = total-set room_of s.views id v w at in
    let more = total-append room_of (set s.views id w) (given ∷ []) in
    let fits = r.rooms in record {
      order = r.order;
      word = r.word;
      fits = All-push (Fits r.order) (set s.views id w) given
          (All-set (Fits r.order) s.views id w (record { seen = here.seen; left = here.left; right = here.right; own = here.own }) r.fits)
          (fits_fresh r.order v.order room here.seen);
      rooms = omega arith;
      owned = λ x. let e = total-set (owns x) s.views id v w at in let f = total-append (owns x) (set s.views id w) (given ∷ []) in let before = r.owned x in omega arith;
      small = r.small;
    }

-- how often a place is among the own ones of two seats is no more than among those of all
owns_two : (x : ℕ) (views : List Known) (id : ℕ) (v : Known) (other : ℕ) (w : Known) → other ≢ id → get_elem? views id ≡ some v → get_elem? views other ≡ some w
    → times x v.own + times x w.own ≤ total (owns x) views
owns_two x views id v other w ne at at' =
    let spent = fresh [] 0 in
    let sum = total-set (owns x) views id v spent at in
    let has = total_has (owns x) (set views id spent) other w (set_else views id other spent ne ∙ at') in omega arith

pub joins : (capacity id : ℕ) (v : Known) (other : ℕ) (w : Known) → Joins (Ordered capacity) id v other w (joined v w) (fresh [] 0)
joins capacity id v other w s r at ne at_other =
    let here = here_of capacity s r id v at in
    let j = joined v w in
    let spent = fresh [] 0 in
    let there : Fits r.order w = ⊎_elim (λ t. absurd (ne t.0)) (λ t. here_of capacity s r other w t.1) (at_set s.views id other j w at_other) in
    let rooms = total-set room_of s.views id v j at in
    let rooms' = total-set room_of (set s.views id j) other w spent at_other in
    let fits = r.rooms in
    let long = longer v.order w.order in
    let own : (x : ℕ) → times x (v.own ++ w.own) ≤ once_below x (length long) = λ x.
    let before = r.owned x in
    let most = once_below_most x (length r.order) in
    let sum = times-append x v.own w.own in
    let both_own = owns_two x s.views id v other w ne at (sym (set_else s.views id other j ne) ∙ at_other) in
    let both = once_below_both x (length v.order) (length w.order) (length long) (times x v.own) (times x w.own) (longer_left v.order w.order) (longer_right v.order w.order) (here.own x) (there.own x) (omega arith) in omega arith in record {
      order = r.order;
      word = r.word;
      fits = All-set (Fits r.order) (set s.views id j) other spent (fits_fresh r.order [] 0 (prefix_nil r.order))
          (All-set (Fits r.order) s.views id j (record { seen = longer_prefix v.order w.order r.order here.seen there.seen; left = here.seen; right = there.seen; own = own }) r.fits);
      rooms = omega arith;
      owned = λ x.
          let e = total-set (owns x) s.views id v j at in
          let f = total-set (owns x) (set s.views id j) other w spent at_other in
          let before = r.owned x in
          let sum = times-append x v.own w.own in omega arith;
      small = r.small;
    }

pub notes : (capacity slots id : ℕ) (me : M) → Allows (Ordered capacity) slots id me 0 (λ n. n) (steps.notes capacity (step slots 0 0 0 none) me)
notes capacity slots id me s r wide at small =
    let v = me.0 in
    let here = here_of capacity s r id v at in
    let w : Known = record v { left = []; right = [] } in
    let has = total_has room_of s.views id v at in
    let fits = r.rooms in
    let under = r.small in
    let short = prefix_length v.order r.order here.seen in (
      w,
      keeps,
      tt,
      unmoved capacity id s r v w at (record { seen = here.seen; left = prefix_nil r.order; right = prefix_nil r.order; own = here.own }) refl refl,
      (
        refl,
        (λ e. subst (λ (l : List (Row × Seed)). IsPrefix v.left l × IsPrefix v.right l) (sym e) (longer_begins v.left v.right r.order here.left here.right)),
        record { within = omega arith; once = here.own },
        omega arith,
      ),
    )

-- the rule at the start
pub opens : (capacity : ℕ) → capacity < 2 ^ 32 → Ordered capacity (opening (0 ∷ []) [] (fresh [] capacity))
opens capacity small = record {
  order = [];
  word = refl;
  fits = All-cons (Fits []) (fresh [] capacity) [] (fits_fresh [] [] capacity (prefix_nil [])) (All-nil (Fits []));
  rooms = omega arith;
  owned = λ x. grind (arith, nat_tests);
  small = small;
}

-- where the own places of two seats are places of one order, each once, no place is among both
pub apart : (capacity : ℕ) (v w u : Known) → u ≡ record (joined v w) { left = []; right = [] } → SoundSeat capacity u → (x : ℕ) → times x v.own + times x w.own ≤ 1
apart capacity v w u is sound x =
    let own : times x u.own ≡ times x (v.own ++ w.own) = ap (λ (k : Known). times x k.own) is in
    let sum = times-append x v.own w.own in
    let once = sound.once x in
    let most = once_below_most x (length u.order) in omega arith
