-- The laws of the ring. A goal that is linear in its variables is `omega arith`; one with products is
-- `simp inward (omega arith)`, which first drops each inner `%`.
use Rattle.std.proofs.Common.{◌≡◌, ℕ, zero, suc, ◌+◌, ◌*◌, ◌%◌, ◌^◌, ◌<◌, ◌≤◌, List, [], ◌∷◌, ◌++◌, length, get_or, drop, refl, sym, ap, ◌∙◌, arith}
use Rattle.std.proofs.Math.Nat.{mod-add-mod, add-mod-mod}
use Rattle.std.proofs.lemmas.Nat.{mul-mod_first, mul-mod_second}
use Rattle.std.proofs.lemmas.List.{drop_more, drop_all}
use Rattle.std.proofs.lemmas.List.{ext_get_or}
use Rattle.list_facts.specs.Listed.{listed}
use Rattle.list_facts.proofs.Listed.{length-listed, get_or-listed}
use Rattle.ring128.specs.Ring.{plus, times, dot_of, sums, sums3, scaled, total_of}
use Rattle.ring128.specs.Laws.{IsThree}

pub add-mul-mod : (a c b m : ℕ) → (a + c * (b % m)) % m ≡ (a + c * b) % m
add-mul-mod a c b m = sym (add-mod-mod a (c * (b % m)) m) ∙ ap (λ n. (a + n) % m) (mul-mod_second c b m) ∙ add-mod-mod a (c * b) m

pub ruleset inward = (mul-mod_first, mul-mod_second, mod-add-mod, add-mod-mod, add-mul-mod)

pub times-plus : (a b c : ℕ) → times (plus a b) c ≡ plus (times a c) (times b c)
times-plus a b c = simp inward (omega arith)

pub times_comm : (a b : ℕ) → times a b ≡ times b a
times_comm a b = omega arith

pub times_assoc : (a b c : ℕ) → times (times a b) c ≡ times a (times b c)
times_assoc a b c = simp inward (omega arith)

pub dot_of-below : (xs ys : List ℕ) → dot_of xs ys < 2 ^ 128
dot_of-below [] ys = omega arith
dot_of-below (x ∷ xs) [] = omega arith
dot_of-below (x ∷ xs) (y ∷ ys) = omega arith

pub dot_of_comm : (xs ys : List ℕ) → dot_of xs ys ≡ dot_of ys xs
dot_of_comm [] [] = refl
dot_of_comm [] (y ∷ ys) = refl
dot_of_comm (x ∷ xs) [] = refl
dot_of_comm (x ∷ xs) (y ∷ ys) = omega (arith, dot_of_comm xs ys)

pub dot_of-sums : (xs ys zs : List ℕ) → length xs ≡ length ys → dot_of (sums xs ys) zs ≡ plus (dot_of xs zs) (dot_of ys zs)
dot_of-sums [] [] zs e = refl
dot_of-sums [] (y ∷ ys) zs e = omega arith
dot_of-sums (x ∷ xs) [] zs e = omega arith
dot_of-sums (x ∷ xs) (y ∷ ys) [] e = refl
dot_of-sums (x ∷ xs) (y ∷ ys) (z ∷ zs) e = omega (arith, dot_of-sums xs ys zs (omega arith), times-plus x y z)

pub dot_of-scaled : (c : ℕ) (xs ys : List ℕ) → dot_of (scaled c xs) ys ≡ times (dot_of xs ys) c
dot_of-scaled c [] ys = omega arith
dot_of-scaled c (x ∷ xs) [] = omega arith
dot_of-scaled c (x ∷ xs) (y ∷ ys) = rw (dot_of-scaled c xs ys) (simp inward (omega arith))

-- the sum so far and the dot product of what is left, one step on
pub dot_of_more : (s : ℕ) (xs ys : List ℕ) (i : ℕ) → i < length xs → i < length ys
    → plus (plus s (times (get_or xs i 0) (get_or ys i 0))) (dot_of (drop (i + 1) xs) (drop (i + 1) ys)) ≡ plus s (dot_of (drop i xs) (drop i ys))
dot_of_more s xs ys i h k = rw (drop_more xs i 0 h, drop_more ys i 0 k) (omega arith)

pub dot_of_none : (xs ys : List ℕ) (i : ℕ) → length xs ≤ i → dot_of (drop i xs) ys ≡ 0
dot_of_none xs ys i h = rw (drop_all i xs h)

pub length-sums : (xs ys : List ℕ) → length xs ≡ length ys → length (sums xs ys) ≡ length xs
length-sums [] ys e = refl
length-sums (x ∷ xs) [] e = omega arith
length-sums (x ∷ xs) (y ∷ ys) e = omega (arith, length-sums xs ys (omega arith))

pub get_or-sums : (xs ys : List ℕ) (i : ℕ) → length xs ≡ length ys → i < length xs → get_or (sums xs ys) i 0 ≡ plus (get_or xs i 0) (get_or ys i 0)
get_or-sums [] ys i e h = omega arith
get_or-sums (x ∷ xs) [] i e h = omega arith
get_or-sums (x ∷ xs) (y ∷ ys) zero e h = refl
get_or-sums (x ∷ xs) (y ∷ ys) (suc i) e h = get_or-sums xs ys i (omega arith) (omega arith)

pub length-scaled : (c : ℕ) (xs : List ℕ) → length (scaled c xs) ≡ length xs
length-scaled c [] = refl
length-scaled c (x ∷ xs) = ap suc (length-scaled c xs)

pub get_or-scaled : (c : ℕ) (xs : List ℕ) (i : ℕ) → i < length xs → get_or (scaled c xs) i 0 ≡ times (get_or xs i 0) c
get_or-scaled c [] i h = omega arith
get_or-scaled c (x ∷ xs) zero h = refl
get_or-scaled c (x ∷ xs) (suc i) h = get_or-scaled c xs i (omega arith)

-- the sums of two lists that are made place by place
pub sums-listed : (n : ℕ) (f g : ℕ → ℕ) → sums (listed n f) (listed n g) ≡ listed n (λ i. plus (f i) (g i))
sums-listed n f g =
    let long : length (listed n f) ≡ length (listed n g) = length-listed n f ∙ sym (length-listed n g) in
    let same : length (sums (listed n f) (listed n g)) ≡ n = length-sums (listed n f) (listed n g) long ∙ length-listed n f in
    ext_get_or 0 _ _ (same ∙ sym (length-listed n (λ i. plus (f i) (g i))))
    (λ i h. let b : i < n = omega (arith, same) in
    let c : i < length (listed n f) = omega (arith, length-listed n f) in
    get_or-sums (listed n f) (listed n g) i long c
    ∙ simp (get_or-listed n i f 0 b, get_or-listed n i g 0 b, get_or-listed n i (λ i. plus (f i) (g i)) 0 b))

-- three lists of one length, added up

pub length-sums3 : (n : ℕ) (xs ys zs : List ℕ) → IsThree n xs ys zs → length (sums3 xs ys zs) ≡ n
length-sums3 n xs ys zs t =
    let e : length xs ≡ length ys = omega arith in
    let f : length (sums xs ys) ≡ length zs = omega (arith, length-sums xs ys e) in
    omega (arith, length-sums xs ys e, length-sums (sums xs ys) zs f)

pub get_or-sums3 : (n i : ℕ) (xs ys zs : List ℕ) → IsThree n xs ys zs → i < n
    → get_or (sums3 xs ys zs) i 0 ≡ plus (plus (get_or xs i 0) (get_or ys i 0)) (get_or zs i 0)
get_or-sums3 n i xs ys zs t h =
    let e : length xs ≡ length ys = omega arith in
    let f : length (sums xs ys) ≡ length zs = omega (arith, length-sums xs ys e) in
    let g : i < length xs = omega arith in
    let j : i < length (sums xs ys) = omega (arith, length-sums xs ys e) in
    get_or-sums (sums xs ys) zs i f j ∙ ap (λ (v : ℕ). plus v (get_or zs i 0)) (get_or-sums xs ys i e g)

-- three lists made place by place add up to a fourth, if they do at each place
pub listed_add_up : (n : ℕ) (f g h : ℕ → ℕ) (whole : List ℕ) → length whole ≡ n
    → ((i : ℕ) → i < n → plus (plus (f i) (g i)) (h i) ≡ get_or whole i 0)
    → sums3 (listed n f) (listed n g) (listed n h) ≡ whole
listed_add_up n f g h whole long at =
    let t : IsThree n (listed n f) (listed n g) (listed n h) = record { first = length-listed n f; second = length-listed n g; third = length-listed n h } in
    ext_get_or 0 _ _ (omega (arith, length-sums3 n _ _ _ t))
    (λ i b. let c : i < n = omega (arith, length-sums3 n _ _ _ t) in
    get_or-sums3 n i _ _ _ t c
    ∙ simp (get_or-listed n i f 0 c, get_or-listed n i g 0 c, get_or-listed n i h 0 c) (at i c))

pub dot_of-sums3 : (n : ℕ) (xs ys zs ws : List ℕ) → IsThree n xs ys zs
    → dot_of (sums3 xs ys zs) ws ≡ plus (plus (dot_of xs ws) (dot_of ys ws)) (dot_of zs ws)
dot_of-sums3 n xs ys zs ws t =
    let e : length xs ≡ length ys = omega arith in
    let f : length (sums xs ys) ≡ length zs = omega (arith, length-sums xs ys e) in
    dot_of-sums (sums xs ys) zs ws f ∙ ap (λ (v : ℕ). plus v (dot_of zs ws)) (dot_of-sums xs ys ws e)

pub dot_of-sums3_right : (n : ℕ) (ws xs ys zs : List ℕ) → IsThree n xs ys zs
    → dot_of ws (sums3 xs ys zs) ≡ plus (plus (dot_of ws xs) (dot_of ws ys)) (dot_of ws zs)
dot_of-sums3_right n ws xs ys zs t =
    dot_of_comm ws (sums3 xs ys zs) ∙ dot_of-sums3 n xs ys zs ws t
    ∙ simp (dot_of_comm xs ws, dot_of_comm ys ws, dot_of_comm zs ws)

pub total_of-append : (xs ys : List ℕ) → total_of (xs ++ ys) ≡ plus (total_of xs) (total_of ys)
total_of-append [] [] = refl
total_of-append [] (y ∷ ys) = omega arith
total_of-append (x ∷ xs) ys = omega (arith, total_of-append xs ys)
