-- Rows and places, one after another.
use Rattle.std.proofs.Common.{◌≡◌, ◌≢◌, ◌∙◌, refl, sym, ap, subst, ℕ, zero, suc, ◌+◌, ◌%◌, ◌<◌, ◌≤◌, eqb, cond, eq-eqb, ne_eqb, List, [], ◌∷◌, ◌++◌, length, set, get_or, take, map, slice_get, Some, All, replicate, arith, append-nil}
use Rattle.std.proofs.lemmas.List.{get_or-replicate, length-map, length-replicate, length-take, map-append, take_all, take_more}
use Rattle.std.proofs.lemmas.List.Elements.{All-cons, All-nil}
use Rattle.std.proofs.lemmas.Option.{same_Some, slice_get-get_or, slice_get-map}
use Rattle.std.specs.Option.{option_map}
use Rattle.prg_chacha.specs.declared.seed.Seed.{Seed}
use Rattle.table_schema.specs.declared.rows.Row.{Row}
use Rattle.race_play.specs.Laws.{Stands}
use Rattle.race_play.specs.Writes.{AreEntries}
use Rattle.race_play.proofs.Ordering.{gathered_stands}
use Rattle.race_play.proofs.Writing.{Below, entries_below, entries_long}
use Rattle.race_play.specs.Filled.{HaveWritten, IsGathered, filled, filled_all}
use Rattle.race_play.specs.Turns.{turns}

pub push_no : (xs : List ℕ) (w many i : ℕ) → i % many ≢ w → xs ≡ xs ++ cond (eqb (i % many) w) (i ∷ []) []
push_no xs w many i ne = sym (ap (λ b. xs ++ cond b (i ∷ []) []) (ne_eqb (i % many) w ne) ∙ append-nil xs)

pub push_yes : (xs new : List ℕ) (w many i : ℕ) → i % many ≡ w → new ≡ xs ++ i ∷ [] → new ≡ xs ++ cond (eqb (i % many) w) (i ∷ []) []
push_yes xs new w many i e is = is ∙ sym (ap (λ b. xs ++ cond b (i ∷ []) []) (eq-eqb (i % many) w e))

pub turn_more : (xs new : List ℕ) (w many i : ℕ) → xs ≡ turns w many i → new ≡ xs ++ cond (eqb (i % many) w) (i ∷ []) [] → new ≡ turns w many (i + 1)
turn_more xs new w many i is more = let e : suc i ≡ i + 1 = omega arith in more ∙ ap (λ (l : List ℕ). l ++ cond (eqb (i % many) w) (i ∷ []) []) is ∙ ap (turns w many) e

pub filled_snoc : (xs is ps : List ℕ) (i p : ℕ) → length ps ≡ length is → filled xs (is ++ i ∷ []) (ps ++ p ∷ []) ≡ set (filled xs is ps) p i
filled_snoc xs [] [] i p long = refl
filled_snoc xs [] (q ∷ ps) i p long = absurd (omega (arith, long))
filled_snoc xs (x ∷ is) [] i p long = absurd (omega (arith, long))
filled_snoc xs (x ∷ is) (q ∷ ps) i p long = filled_snoc (set xs q x) is ps i p (omega (arith, long))

pub fill_more : (old is ps printed : List ℕ) (k : ℕ) → length ps ≡ length is → k < length ps → printed ≡ filled old (take k is) (take k ps) → set printed (get_or ps k 0) (get_or is k 0) ≡ filled old (take (k + 1) is) (take (k + 1) ps)
fill_more old is ps printed k long lt done =
    ap (λ (l : List ℕ). set l (get_or ps k 0) (get_or is k 0)) done
    ∙ sym (filled_snoc old (take k is) (take k ps) (get_or is k 0) (get_or ps k 0) (omega (arith, long, lt, length-take k is, length-take k ps)))
    ∙ ap (λ (l : List ℕ). filled old l (take k ps ++ get_or ps k 0 ∷ [])) (sym (take_more is k 0 (omega (arith, long))))
    ∙ ap (λ (l : List ℕ). filled old (take (k + 1) is) l) (sym (take_more ps k 0 lt))

pub fill_all : (old is ps printed : List ℕ) (k : ℕ) → length ps ≡ length is → length ps ≤ k → printed ≡ filled old (take k is) (take k ps) → printed ≡ filled old is ps
fill_all old is ps printed k long le done = done ∙ ap (λ (l : List ℕ). filled old l (take k ps)) (take_all k is (omega (arith, long))) ∙ ap (filled old is) (take_all k ps le)

-- ---- writer by writer

pub filled_all_snoc : (writers n : ℕ) (xs : List ℕ) (w : ℕ) (places : List (List ℕ)) (own : List ℕ)
    → filled_all writers n xs w (places ++ own ∷ []) ≡ filled (filled_all writers n xs w places) (turns (w + length places) writers n) own
filled_all_snoc writers n xs w [] own = ap (λ (k : ℕ). filled xs (turns k writers n) own) (let e : w ≡ w + 0 = omega arith in e)
filled_all_snoc writers n xs w (ps ∷ places) own =
    filled_all_snoc writers n (filled xs (turns w writers n) ps) (suc w) places own
    ∙ ap (λ (k : ℕ). filled (filled_all writers n (filled xs (turns w writers n) ps) (suc w) places) (turns k writers n) own) (let e : suc w + length places ≡ w + suc (length places) = omega arith in e)

below_all : (m : ℕ) (xs : List ℕ) → Below m xs → All (λ (x : ℕ). x < m) xs
below_all m [] b = All-nil (λ (x : ℕ). x < m)
below_all m (x ∷ xs) b = All-cons (λ (x : ℕ). x < m) x xs b.0 (below_all m xs b.1)

module _ (rows : List Row) (master : Seed) (writers : ℕ) (order : List (Row × Seed)) where
  entries_at : (w k : ℕ) (places : List (List ℕ)) (own : List ℕ) → HaveWritten rows master writers order w places → slice_get places k ≡ Some own → AreEntries rows master (w + k) order (turns (w + k) writers (length rows)) own
  entries_at w k [] own h at = absurd cc
  entries_at w zero (ps ∷ places) own h at =
      subst (λ (m : ℕ). AreEntries rows master m order (turns m writers (length rows)) own) (let e : w ≡ w + 0 = omega arith in e)
      (subst (λ (o : List ℕ). AreEntries rows master w order (turns w writers (length rows)) o) (same_Some ps own at) h.0)
  entries_at w (suc k) (ps ∷ places) own h at =
      subst (λ (m : ℕ). AreEntries rows master m order (turns m writers (length rows)) own) (let e : suc w + k ≡ w + suc k = omega arith in e) (entries_at (suc w) k places own h.2 at)

  module _ {V : Type 0} (items : V → List ℕ) (xs : List V) (g : IsGathered rows master writers order (map items xs)) (k : ℕ) (d : V) (lt : k < length xs) where
    own_at : slice_get (map items xs) k ≡ Some (items (get_or xs k d))
    own_at = slice_get-map items xs k ∙ ap (option_map items) (slice_get-get_or xs k d lt)

    entries : AreEntries rows master k order (turns k writers (length rows)) (items (get_or xs k d))
    entries = subst (λ (m : ℕ). AreEntries rows master m order (turns m writers (length rows)) (items (get_or xs k d))) (let e : 0 + k ≡ k = omega arith in e) (entries_at 0 k (map items xs) (items (get_or xs k d)) g.wrote own_at)

    pub writer_below : k < writers
    writer_below = let e = g.each in let l = length-map xs items in omega arith

    pub long_at : (ts : List ℕ) → ts ≡ turns k writers (length rows) → length (items (get_or xs k d)) ≡ length ts
    long_at ts is = entries_long rows master k order (turns k writers (length rows)) (items (get_or xs k d)) entries ∙ ap length (sym is)

    pub all_at : (printed : List ℕ) → length printed ≡ length rows → All (λ (x : ℕ). x < length printed) (items (get_or xs k d))
    all_at printed long = below_all (length printed) (items (get_or xs k d)) (lift (items (get_or xs k d)) (entries_below rows master k order (turns k writers (length rows)) (items (get_or xs k d)) entries))
      where
        lift : (ys : List ℕ) → Below (length order) ys → Below (length printed) ys
        lift [] b = tt
        lift (y ∷ ys) b = (let few = g.few in let l = b.0 in omega arith, lift ys b.1)

    pub one_more : (printed new blanks ts : List ℕ) → ts ≡ turns k writers (length rows) → printed ≡ filled_all writers (length rows) blanks 0 (map items (take k xs)) → new ≡ filled printed ts (items (get_or xs k d))
        → new ≡ filled_all writers (length rows) blanks 0 (map items (take (k + 1) xs))
    one_more printed new blanks ts is before more =
        more ∙ ap (λ (l : List ℕ). filled printed l (items (get_or xs k d))) is ∙ ap (λ (l : List ℕ). filled l (turns k writers (length rows)) (items (get_or xs k d))) before
        ∙ ap (λ (m : ℕ). filled (filled_all writers (length rows) blanks 0 (map items (take k xs))) (turns m writers (length rows)) (items (get_or xs k d)))
        (let l = length-map (take k xs) items in let t = length-take k xs in let e : k ≡ 0 + length (map items (take k xs)) = omega arith in e)
        ∙ sym (filled_all_snoc writers (length rows) blanks 0 (map items (take k xs)) (items (get_or xs k d)))
        ∙ ap (filled_all writers (length rows) blanks 0) (sym (map-append items (take k xs) (get_or xs k d ∷ [])) ∙ ap (map items) (sym (take_more xs k d lt)))

  pub stands_of : {V : Type 0} (items : V → List ℕ) (xs : List V) (printed : List ℕ) (k : ℕ) → IsGathered rows master writers order (map items xs) → length xs ≤ k
      → printed ≡ filled_all writers (length rows) (replicate (length rows) (length rows)) 0 (map items (take k xs)) → Stands rows master writers order (map items xs) printed
  stands_of items xs printed k g le is =
      subst (λ (p : List ℕ). Stands rows master writers order (map items xs) p) (sym (is ∙ ap (λ (l : List _). filled_all writers (length rows) (replicate (length rows) (length rows)) 0 (map items l)) (take_all k xs le)))
      (gathered_stands rows master writers order (map items xs) (replicate (length rows) (length rows)) g (record {
        long = length-replicate (length rows) (length rows);
        blank = λ x lt. slice_get-get_or (replicate (length rows) (length rows)) x (length rows) (let l = length-replicate (length rows) (length rows) in omega arith) ∙ ap Some (get_or-replicate (length rows) x (length rows) (length rows) lt);
      }))
