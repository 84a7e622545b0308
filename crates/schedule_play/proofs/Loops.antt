-- Steps of which a loop does some each time round.
use Rattle.std.proofs.Common.{◌≡◌, ◌∙◌, refl, sym, ap, ℕ, zero, suc, ◌+◌, ◌-◌, ◌*◌, ◌<◌, List, [], ◌∷◌, ◌++◌, append-nil, length, get_or, take, drop, arith, length-append, take-append-drop}
use Rattle.std.specs.List.{flat_map, range_with_len}
use Rattle.std.proofs.lemmas.List.{take_more}
use Rattle.std.proofs.lemmas.List.Concat.{flat_map-append}
use Rattle.waldo_words.specs.declared.schedule.Step.{Step}
use Rattle.schedule_play.specs.Stages.{HaveWires, actor_in}
use Rattle.schedule_play.specs.Tasks.{ask_steps}

-- numbers in a row, cut in two
pub range_both : (a n m : ℕ) → range_with_len a (n + m) ≡ range_with_len a n ++ range_with_len (a + n) m
range_both a zero m =
    let e : 0 + m ≡ m = omega arith in
    let f : a + 0 ≡ a = omega arith in
    rw (e, f) refl
range_both a (suc n) m =
    let e : suc n + m ≡ suc (n + m) = omega arith in
    let f : a + suc n ≡ a + 1 + n = omega arith in
    rw (e, f) (ap (λ (l : List ℕ). a ∷ l) (range_both (a + 1) n m))

-- the parts of the numbers up to n, and one more
pub parts_more : (f : ℕ → List Step) (n : ℕ) → flat_map f (range_with_len 0 (n + 1)) ≡ flat_map f (range_with_len 0 n) ++ f n
parts_more f n =
    let e : 0 + n ≡ n = omega arith in
    ap (flat_map f) (range_both 0 n 1) ∙ flat_map-append f (range_with_len 0 n) (range_with_len (0 + n) 1)
    ∙ ap (λ (l : List Step). flat_map f (range_with_len 0 n) ++ l) (append-nil (f (0 + n)) ∙ ap f e)

-- those behind them
pub parts_behind : ℕ → ℕ → (ℕ → List Step) → List Step
parts_behind n m f = flat_map f (range_with_len (0 + (n + 1)) (m - (n + 1)))

pub parts_all : (f : ℕ → List Step) (n m : ℕ) → n < m → flat_map f (range_with_len 0 m) ≡ (flat_map f (range_with_len 0 n) ++ f n) ++ parts_behind n m f
unfolding parts_behind
parts_all f n m lt =
    let e : m ≡ (n + 1) + (m - (n + 1)) = omega arith in
    ap (λ (k : ℕ). flat_map f (range_with_len 0 k)) e
    ∙ ap (flat_map f) (range_both 0 (n + 1) (m - (n + 1)))
    ∙ flat_map-append f (range_with_len 0 (n + 1)) (range_with_len (0 + (n + 1)) (m - (n + 1)))
    ∙ ap (λ (l : List Step). l ++ flat_map f (range_with_len (0 + (n + 1)) (m - (n + 1)))) (parts_more f n)

-- the first steps, the next one and the others
pub steps_all : (xs : List Step) (i : ℕ) (d : Step) → i < length xs → xs ≡ (take i xs ++ get_or xs i d ∷ []) ++ drop (i + 1) xs
steps_all xs i d lt = sym (take-append-drop (i + 1) xs) ∙ ap (λ (l : List Step). l ++ drop (i + 1) xs) (take_more xs i d lt)

-- how many steps the parts of n numbers are
pub length-parts : (f : ℕ → List Step) (k a n : ℕ) → ((i : ℕ) → length (f i) ≡ k) → length (flat_map f (range_with_len a n)) ≡ k * n
length-parts f k a zero long = omega arith
length-parts f k a (suc n) long =
    let more : k * suc n ≡ k + k * n = omega arith in
    omega (arith, length-append (f a) (flat_map f (range_with_len (a + 1) n)), long a, length-parts f k (a + 1) n long, more)

-- the steps of a query are of actor 0
pub first_have_wires : (n q : ℕ) → 0 < n → HaveWires n (ask_steps q)
first_have_wires n q some = at
  where
    at : (k : ℕ) (d : Step) → k < length (ask_steps q) → actor_in (get_or (ask_steps q) k d) < 16 → actor_in (get_or (ask_steps q) k d) < n
    at zero d lt small = some
    at (suc zero) d lt small = some
    at (suc (suc zero)) d lt small = some
    at (suc (suc (suc zero))) d lt small = some
    at (suc (suc (suc (suc k)))) d lt small = absurd (omega (arith, lt))
