-- Lists made place by place.
use Rattle.std.proofs.Common.{◌≡◌, ℕ, zero, suc, ◌+◌, ◌<◌, List, [], ◌∷◌, ◌++◌, length, get_or, refl, sym, ap, subst, ◌∙◌, arith, append_assoc}
use Rattle.std.proofs.lemmas.List.{ext_get_or, append-nil}
use Rattle.std.proofs.lemmas.List.FromFn.{length-map-range_with_len, get_or-map-range_with_len, map-range_with_len_more}
use Rattle.list_facts.specs.Listed.{listed}

pub length-listed : {A : Type 0} (n : ℕ) (f : ℕ → A) → length (listed n f) ≡ n
length-listed n f = length-map-range_with_len f 0 n

pub get_or-listed : {A : Type 0} (n i : ℕ) (f : ℕ → A) (d : A) → i < n → get_or (listed n f) i d ≡ f i
get_or-listed n i f d h = get_or-map-range_with_len f 0 n i i d h (omega arith)

pub listed_more : {A : Type 0} (n : ℕ) (f : ℕ → A) → listed n f ++ f n ∷ [] ≡ listed (n + 1) f
listed_more n f = sym (map-range_with_len_more f 0 n n (omega arith))

-- a list is made place by place, if it is right at each place
pub listed_is : {A : Type 0} (n : ℕ) (f : ℕ → A) (d : A) (xs : List A) → length xs ≡ n → ((i : ℕ) → i < n → get_or xs i d ≡ f i) → xs ≡ listed n f
listed_is n f d xs long at =
    ext_get_or d _ _ (omega (arith, length-listed n f))
    (λ i h. let k : i < n = omega arith in at i k ∙ sym (get_or-listed n i f d k))

-- two lists made place by place are one, if they are at each place
pub listed_same : {A : Type 0} (n : ℕ) (f g : ℕ → A) → ((i : ℕ) → i < n → f i ≡ g i) → listed n f ≡ listed n g
listed_same zero f g at = refl
listed_same (suc n) f g at =
    let more : n + 1 ≡ suc n = omega arith in
    subst (λ k. listed k f ≡ listed k g) more
    (sym (listed_more n f)
    ∙ ap (λ xs. xs ++ f n ∷ []) (listed_same n f g (λ i h. at i (omega arith)))
    ∙ ap (λ x. listed n g ++ x ∷ []) (at n (omega arith))
    ∙ listed_more n g)

-- the first places and the others
pub listed-append : {A : Type 0} (m n : ℕ) (f : ℕ → A) → listed (m + n) f ≡ listed m f ++ listed n (λ i. f (m + i))
listed-append m zero f = let none : m + 0 ≡ m = omega arith in ap (λ k. listed k f) none ∙ sym (append-nil (listed m f))
listed-append m (suc n) f =
    let more : n + 1 ≡ suc n = omega arith in
    let all : m + (n + 1) ≡ m + n + 1 = omega arith in
    subst (λ k. listed (m + k) f ≡ listed m f ++ listed k (λ i. f (m + i))) more
    (ap (λ k. listed k f) all
    ∙ sym (listed_more (m + n) f)
    ∙ ap (λ xs. xs ++ f (m + n) ∷ []) (listed-append m n f)
    ∙ append_assoc (listed m f) (listed n (λ i. f (m + i))) (f (m + n) ∷ [])
    ∙ ap (λ xs. listed m f ++ xs) (listed_more n (λ i. f (m + i))))
