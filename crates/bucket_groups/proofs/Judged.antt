-- The answer of a bucket is that of its own pair.
use Rattle.std.proofs.Common.{◌≡◌, ◌∙◌, refl, sym, ap, ℕ, ℤ, ◌<◌, List, length, get_or}
use Rattle.std.specs.Prelude.{Result, Ok, Err}
use Rattle.list_facts.proofs.Listed.{get_or-listed, length-listed}
use Rattle.ring128.specs.Signed.{signed_of}
use Rattle.weighted_check.specs.Check.{Accepts, checked}
use Rattle.weighted_check.specs.declared.Altered.{Altered}
use Rattle.weighted_check.proofs.Checked.{accepted, answered, never}
use Rattle.bucket_groups.specs.Check.{AreJudged, answer_at, answer_of, answers_of}
use Rattle.bucket_groups.specs.declared.check.GroupAnswer.TheVariants as answer

pub refused : (t w k : ℕ) → ¬ Accepts t w k → answer_of (checked t w k) ≡ answer.Altered t w
refused t w k not = ap answer_of (never t w k not)

good : (t w k : ℕ) → answer_of (checked t w k) ≡ answer.Good (signed_of t) → Accepts t w k
good t w k e = by (checked t w k) refl e
  where
    by : (r : Result ℤ Altered) → checked t w k ≡ r → answer_of r ≡ answer.Good (signed_of t) → Accepts t w k
    by (Ok total) is e = (answered t w k total is).0
    by (Err pair) is e = absurd cc

pub answer_is : (total weighted : List ℕ) (key b : ℕ) → b < length total
    → answer_at (answers_of total weighted key) b ≡ answer_of (checked (get_or total b 0) (get_or weighted b 0) key)
answer_is total weighted key b h =
    get_or-listed (length total) b (λ i. answer_of (checked (get_or total i 0) (get_or weighted i 0) key)) (answer.Altered 0 0) h

pub are_judged : (total weighted : List ℕ) (key : ℕ) → AreJudged total weighted key (answers_of total weighted key)
are_judged total weighted key = record {
  long = length-listed (length total) _;
  good = λ b h. (
    (λ e. good (get_or total b 0) (get_or weighted b 0) key (sym (answer_is total weighted key b h) ∙ e)),
    (λ a. answer_is total weighted key b h ∙ ap answer_of (accepted (get_or total b 0) (get_or weighted b 0) key a)),
  );
}
