-- Sums over the turns of all writers are sums over all rows.
use Rattle.std.proofs.Common.{◌≡◌, ◌≢◌, ◌∙◌, refl, ap, ℕ, zero, suc, ◌+◌, ◌-◌, ◌%◌, ◌<◌, ◌≤◌, Bool, true, false, cond, eqb, List, [], ◌∷◌, length, arith}
use Rattle.std.proofs.lemmas.Bool.Decides.{nat_tests}
use Rattle.std.proofs.Math.Nat.{mod-lt}
use mathlib.Core.Logic.{dite}
use native.Mathlib.Decide.{ℕ_discrete}
use Rattle.list_facts.specs.Count.{times, total}
use Rattle.list_facts.proofs.Count.{total-append}
use Rattle.race_play.specs.Turns.{turns}

-- over a number of writers from one on
abbrev pub tsum : (ℕ → ℕ) → ℕ → ℕ → ℕ → ℕ → ℕ
tsum g many w zero n = 0
tsum g many w (suc k) n = total g (turns w many n) + tsum g many (suc w) k n

-- over all rows below n
abbrev pub tot : (ℕ → ℕ) → ℕ → ℕ
tot g zero = 0
tot g (suc n) = tot g n + g n

abbrev hit : ℕ → ℕ → ℕ → ℕ → ℕ
hit r w zero x = 0
hit r w (suc k) x = cond (eqb r w) x 0 + hit r (suc w) k x

miss : (r w x : ℕ) → r ≢ w → cond (eqb r w) x 0 ≡ 0
miss r w x ne = grind (arith, nat_tests)

strike : (r w x : ℕ) → r ≡ w → cond (eqb r w) x 0 ≡ x
strike r w x e = grind (arith, nat_tests)

hit_none : (r w k x : ℕ) → r < w → hit r w k x ≡ 0
hit_none r w zero x lt = refl
hit_none r w (suc k) x lt = let a = miss r w x (λ e. absurd (omega arith)) in let b = hit_none r (suc w) k x (omega arith) in omega arith

hit_one : (r w k x : ℕ) → w ≤ r → r < w + k → hit r w k x ≡ x
hit_one r w zero x le lt = absurd (omega arith)
hit_one r w (suc k) x le lt = dite (ℕ_discrete r w)
    (λ e. let a = strike r w x e in let b = hit_none r (suc w) k x (omega arith) in omega arith)
    (λ ne. let a = miss r w x ne in let b = hit_one r (suc w) k x (omega arith) (omega arith) in omega arith)

one_more : (g : ℕ → ℕ) (b : Bool) (n : ℕ) → total g (cond b (n ∷ []) []) ≡ cond b (g n) 0
one_more g true n = omega arith
one_more g false n = refl

turns_total : (g : ℕ → ℕ) (w many n : ℕ) → total g (turns w many (suc n)) ≡ total g (turns w many n) + cond (eqb (n % many) w) (g n) 0
turns_total g w many n = let a = total-append g (turns w many n) (cond (eqb (n % many) w) (n ∷ []) []) in let b = one_more g (eqb (n % many) w) n in omega arith

tsum_step : (g : ℕ → ℕ) (many w k n : ℕ) → tsum g many w k (suc n) ≡ tsum g many w k n + hit (n % many) w k (g n)
tsum_step g many w zero n = refl
tsum_step g many w (suc k) n = let a = turns_total g w many n in let b = tsum_step g many (suc w) k n in omega arith

tsum_none : (g : ℕ → ℕ) (many w k : ℕ) → tsum g many w k zero ≡ 0
tsum_none g many w zero = refl
tsum_none g many w (suc k) = let r = tsum_none g many (suc w) k in omega arith

pub tsum_all : (g : ℕ → ℕ) (many n : ℕ) → 0 < many → tsum g many 0 many n ≡ tot g n
tsum_all g many zero some = tsum_none g many 0 many
tsum_all g many (suc n) some =
    let a = tsum_step g many 0 many n in let b = tsum_all g many n some in
    let c = hit_one (n % many) 0 many (g n) (omega arith) (let m = mod-lt n some in omega arith) in omega arith

-- lengths and counts are such sums
pub length_total : (xs : List ℕ) → length xs ≡ total (λ (y : ℕ). 1) xs
length_total [] = refl
length_total (x ∷ xs) = let r = length_total xs in omega arith

pub times_total : (v : ℕ) (xs : List ℕ) → times v xs ≡ total (λ (y : ℕ). times v (y ∷ [])) xs
times_total v [] = refl
times_total v (x ∷ xs) = let r = times_total v xs in omega arith

pub tot_ones : (n : ℕ) → tot (λ (y : ℕ). 1) n ≡ n
tot_ones zero = refl
tot_ones (suc n) = let r = tot_ones n in omega arith

single : (v n : ℕ) → v ≢ n → times v (n ∷ []) ≡ 0
single v n ne = grind (arith, nat_tests)

single_same : (v n : ℕ) → v ≡ n → times v (n ∷ []) ≡ 1
single_same v n e = grind (arith, nat_tests)

tot_past : (v n : ℕ) → n ≤ v → tot (λ (y : ℕ). times v (y ∷ [])) n ≡ 0
tot_past v zero le = refl
tot_past v (suc n) le = let r = tot_past v n (omega arith) in let s = single v n (λ e. absurd (omega arith)) in omega arith

pub tot_once : (v n : ℕ) → v < n → tot (λ (y : ℕ). times v (y ∷ [])) n ≡ 1
tot_once v zero lt = absurd (omega arith)
tot_once v (suc n) lt = dite (ℕ_discrete v n)
    (λ e. let r = tot_past v n (omega arith) in let s = single_same v n e in omega arith)
    (λ ne. let r = tot_once v n (omega arith) in let s = single v n ne in omega arith)

pub tsum_snoc : (g : ℕ → ℕ) (many w k n : ℕ) → tsum g many w (suc k) n ≡ tsum g many w k n + total g (turns (w + k) many n)
tsum_snoc g many w zero n = let e : w + 0 ≡ w = omega arith in let s = ap (λ (m : ℕ). total g (turns m many n)) e in omega arith
tsum_snoc g many w (suc k) n =
    let r = tsum_snoc g many (suc w) k n in let e : w + suc k ≡ suc w + k = omega arith in let s = ap (λ (m : ℕ). total g (turns m many n)) e in omega arith

tsum_up : (g : ℕ → ℕ) (many w k more n : ℕ) → tsum g many w k n ≤ tsum g many w (more + k) n
tsum_up g many w k zero n = let e : zero + k ≡ k = omega arith in let s = ap (λ (m : ℕ). tsum g many w m n) e in omega arith
tsum_up g many w k (suc more) n =
    let r = tsum_up g many w k more n in let s = tsum_snoc g many w (more + k) n in let e : suc more + k ≡ suc (more + k) = omega arith in let t = ap (λ (m : ℕ). tsum g many w m n) e in omega arith

-- the rows of the first writers, and of one more, are at most all
pub rooms_within : (many k n : ℕ) → k < many → tsum (λ (y : ℕ). 1) many 0 k n + length (turns k many n) ≤ n
rooms_within many k n lt =
    let one = tsum_snoc (λ (y : ℕ). 1) many 0 k n in
    let e : 0 + k ≡ k = omega arith in let s = ap (λ (m : ℕ). total (λ (y : ℕ). 1) (turns m many n)) e in
    let len = length_total (turns k many n) in
    let up = tsum_up (λ (y : ℕ). 1) many 0 (suc k) (many - suc k) n in
    let f : (many - suc k) + suc k ≡ many = omega arith in let t = ap (λ (m : ℕ). tsum (λ (y : ℕ). 1) many 0 m n) f in
    let all = tsum_all (λ (y : ℕ). 1) many n (omega arith) in let ones = tot_ones n in omega arith

pub rooms_more : (many k n : ℕ) → tsum (λ (y : ℕ). 1) many 0 (k + 1) n ≡ tsum (λ (y : ℕ). 1) many 0 k n + length (turns k many n)
rooms_more many k n =
    let one = tsum_snoc (λ (y : ℕ). 1) many 0 k n in
    let e : 0 + k ≡ k = omega arith in let s = ap (λ (m : ℕ). total (λ (y : ℕ). 1) (turns m many n)) e in
    let len = length_total (turns k many n) in
    let f : k + 1 ≡ suc k = omega arith in let t = ap (λ (m : ℕ). tsum (λ (y : ℕ). 1) many 0 m n) f in omega arith

pub rooms_all : (many n : ℕ) → 0 < many → tsum (λ (y : ℕ). 1) many 0 many n ≡ n
rooms_all many n some = tsum_all (λ (y : ℕ). 1) many n some ∙ tot_ones n
