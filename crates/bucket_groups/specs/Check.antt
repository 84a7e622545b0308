-- What the client answers for each bucket.
use Rattle.std.specs.Prelude.{ℕ, ℤ, ◌≡◌, ◌↔◌, ◌<◌, List, length, slice_index, slice_index_or, Result, Ok, Err}
use Rattle.list_facts.specs.Listed.{listed}
use Rattle.ring128.specs.Signed.{signed_of}
use Rattle.weighted_check.specs.Check.{Accepts, checked}
use Rattle.weighted_check.specs.declared.Altered.{Altered}
use Rattle.bucket_groups.specs.declared.check.GroupAnswer.{GroupAnswer}
use Rattle.bucket_groups.specs.declared.check.GroupAnswer.TheVariants as answer

-- a bucket's answer: the total's signed reading where its own pair is accepted, else the pair
abbrev pub answer_of : Result ℤ Altered → GroupAnswer
answer_of (Ok total) = answer.Good total
answer_of (Err pair) = answer.Altered pair.total pair.weighted

-- bucket by bucket
abbrev pub answers_of : List ℕ → List ℕ → ℕ → List GroupAnswer
answers_of total weighted key = listed (length total) (λ b. answer_of (checked (slice_index total b) (slice_index weighted b) key))

-- the answer of bucket b
abbrev pub answer_at : List GroupAnswer → ℕ → GroupAnswer
answer_at answers b = slice_index_or answers b (answer.Altered 0 0)

-- an answer a bucket: the signed reading of the bucket's own total where its own pair is accepted, and nothing else
pub record AreJudged (total weighted : List ℕ) (key : ℕ) (answers : List GroupAnswer) : Type 0 where
  pub long : length answers ≡ length total
  pub good : (b : ℕ) → b < length total
      → (answer_at answers b ≡ answer.Good (signed_of (slice_index total b))) ↔ Accepts (slice_index total b) (slice_index weighted b) key
