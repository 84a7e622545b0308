-- Three messages, or fewer.
use Rattle.std.proofs.Common.{◌≡◌, ℕ, zero, suc, ◌<◌, List, [], ◌∷◌, ◌++◌, length, Option, Some, None, MatchOption, refl, sym, ap, subst, ◌∙◌, arith, append-nil}
use Rattle.wire_line.specs.declared.message.Message.{Message}
use Rattle.wire_line.specs.Messages.{message_of, message_at, Went}
use Rattle.transcript.specs.Transcript.{Fits}
use Rattle.transcript.specs.Steps.{after}
use Rattle.server_rounds.specs.Groups.{by_server, from_of, to_of, first_of, second_of, Pairs, IsGroup, Received, AreReshared}
use Rattle.server_rounds.specs.declared.way.Way.{Way}
use Rattle.server_rounds.specs.declared.way.Way.TheVariants.{Around}
use Rattle.wire_line.specs.Sights.{Sight}

-- message k of a step
abbrev pub going : Way → ℕ → List ℕ → List ℕ → Message
going way k sent got = message_of (from_of way k) (to_of way k) sent got

pub group_none : (way : Way) (words : ℕ → List ℕ) → IsGroup way words []
group_none way words = record { few = omega arith; fits = λ k h. absurd (omega arith) }

fits_of : (way : Way) (k : ℕ) (sent got : List ℕ) → length got ≡ length sent → Fits (going way k sent got) (from_of way k) (to_of way k) sent
fits_of way k sent got e = record { from = refl; to = refl; words = refl; long = e }

pub group_one : (way : Way) (x y z r : List ℕ) → length r ≡ length x → IsGroup way (by_server x y z) (going way 0 x r ∷ [])
group_one way x y z r e = record { few = omega arith; fits = at }
  where
    at : (k : ℕ) → k < 1 → Fits (message_at (going way 0 x r ∷ []) k) (from_of way k) (to_of way k) (by_server x y z k)
    at zero h = fits_of way 0 x r e
    at (suc k) h = absurd (omega arith)

pub group_two : (way : Way) (x y z r s : List ℕ) → length r ≡ length x → length s ≡ length y
    → IsGroup way (by_server x y z) (going way 0 x r ∷ going way 1 y s ∷ [])
group_two way x y z r s e f = record { few = omega arith; fits = at }
  where
    at : (k : ℕ) → k < 2 → Fits (message_at (going way 0 x r ∷ going way 1 y s ∷ []) k) (from_of way k) (to_of way k) (by_server x y z k)
    at zero h = fits_of way 0 x r e
    at (suc zero) h = fits_of way 1 y s f
    at (suc (suc k)) h = absurd (omega arith)

pub group_three : (way : Way) (x y z r s t : List ℕ) → length r ≡ length x → length s ≡ length y → length t ≡ length z
    → IsGroup way (by_server x y z) (going way 0 x r ∷ going way 1 y s ∷ going way 2 z t ∷ [])
group_three way x y z r s t e f g = record { few = omega arith; fits = at }
  where
    at : (k : ℕ) → k < 3 → Fits (message_at (going way 0 x r ∷ going way 1 y s ∷ going way 2 z t ∷ []) k) (from_of way k) (to_of way k) (by_server x y z k)
    at zero h = fits_of way 0 x r e
    at (suc zero) h = fits_of way 1 y s f
    at (suc (suc zero)) h = fits_of way 2 z t g
    at (suc (suc (suc k))) h = absurd (omega arith)

-- the same words, one by one
pub regroup : (way : Way) (f g : ℕ → List ℕ) (ms : List Message) → IsGroup way f ms → ((k : ℕ) → k < 3 → f k ≡ g k) → IsGroup way g ms
regroup way f g ms group e = record {
  few = group.few;
  fits = λ k h. let b : k < 3 = omega (arith, group.few) in
      let at = group.fits k h in record { from = at.from; to = at.to; words = at.words ∙ e k b; long = at.long };
}

pub three_same : {T : Type 0} (f g : ℕ → T) → f 0 ≡ g 0 → f 1 ≡ g 1 → f 2 ≡ g 2 → (k : ℕ) → k < 3 → f k ≡ g k
three_same f g a b c zero h = a
three_same f g a b c (suc zero) h = b
three_same f g a b c (suc (suc zero)) h = c
three_same f g a b c (suc (suc (suc k))) h = absurd (omega arith)

-- what the servers hold once all three messages were carried
pub reshared : {x y z a b c : List ℕ} (pairs : Pairs) (ms : List Message) → IsGroup Around (by_server x y z) ms → Received ms a b c
    → pairs.zero.first ≡ x → pairs.zero.second ≡ b → pairs.one.first ≡ y → pairs.one.second ≡ c → pairs.two.first ≡ z → pairs.two.second ≡ a
    → AreReshared pairs ms
reshared pairs ms group got e0 f0 e1 f1 e2 f2 = record {
  full = got.full;
  first = three_same (first_of pairs) (λ k. (message_at ms k).sent)
      (e0 ∙ sym (group.fits 0 (omega (arith, got.full))).words)
      (e1 ∙ sym (group.fits 1 (omega (arith, got.full))).words)
      (e2 ∙ sym (group.fits 2 (omega (arith, got.full))).words);
  second = three_same (second_of pairs) (λ k. (message_at ms (after k)).received) (f0 ∙ sym got.at1) (f1 ∙ sym got.at2) (f2 ∙ sym got.at0);
}

-- where there is no earlier product
pub match_none : {A : Type 0} (o : Option A) (P : Type 0) (Q : A → Type 0) → o ≡ None → P → MatchOption o P Q
match_none None P Q e p = p
match_none (Some x) P Q e p = absurd cc

pub none_matched : {A : Type 0} (o : Option A) (P : Type 0) (Q : A → Type 0) → o ≡ None → MatchOption o P Q → P
none_matched None P Q e p = p
none_matched (Some x) P Q e p = absurd cc

-- where there is one
pub some_matched : {A : Type 0} (o : Option A) (x : A) (P : Type 0) (Q : A → Type 0) → o ≡ Some x → MatchOption o P Q → Q x
some_matched None x P Q e p = absurd cc
some_matched (Some y) x P Q e p = let same : y ≡ x = cc in subst Q same p

-- no messages more
pub went_just : {S : Type 0} (sight : Sight S) (s t : S) (ms ns : List Message)
    → ns ≡ [] → Went sight s (ms ++ ns) t → Went sight s ms t
went_just sight s t ms ns none went =
    subst (λ (l : List Message). Went sight s l t) (ap (λ (l : List Message). ms ++ l) none ∙ append-nil ms) went
