-- The fields of a record by their places.
use Rattle.std.proofs.Common.{◌≡◌, ◌∙◌, refl, ℕ, zero, suc, ◌+◌, ◌≤◌, Bool, true, false, List, [], ◌∷◌, length, drop, Some, None, arith, add-one}
use Rattle.std.specs.Str.{IsUtf8, is_utf8}
use Rattle.std.proofs.lemmas.Str.{IsUtf8-from_is_utf8, is_utf8-from_IsUtf8}
use Rattle.csv.specs.Records.{field_at}

pub past_fields : (fs : List (List ℕ)) (i : ℕ) → field_at fs i ≡ None → length fs ≤ i
unfolding field_at
past_fields [] i e = omega arith
past_fields (f ∷ fs) zero e = absurd cc
past_fields (f ∷ fs) (suc i) e = let h = past_fields fs i e in omega (arith, h)

pub drop_field : (fs : List (List ℕ)) (i : ℕ) (f : List ℕ) → field_at fs i ≡ Some f → drop i fs ≡ f ∷ drop (i + 1) fs
unfolding field_at
drop_field [] i f e = absurd cc
drop_field (g ∷ gs) zero f e = let same : g ≡ f = cc in rw same refl
drop_field (g ∷ gs) (suc i) f e = rw add-one (drop_field gs i f e ∙ rw add-one refl)

pub no_text : (bs : List ℕ) → ¬ (IsUtf8 bs) → is_utf8 bs ≡ false
no_text bs h = by (is_utf8 bs) refl
  where
    by : (t : Bool) → is_utf8 bs ≡ t → is_utf8 bs ≡ false
    by true e = absurd (h (IsUtf8-from_is_utf8 bs e))
    by false e = e

pub is_text : (bs : List ℕ) → IsUtf8 bs → is_utf8 bs ≡ true
is_text bs h = is_utf8-from_IsUtf8 bs h
