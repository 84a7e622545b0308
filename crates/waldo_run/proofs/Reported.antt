-- What was read of a source that reports its bytes.
use Rattle.std.proofs.Common.{◌≡◌, ◌≢◌, ℕ, ◌<◌, ◌≤◌, Bool, true, false, cond, nat_le, List, ◌++◌, length, refl, sym, ◌∙◌, ap, subst, arith, append-nil, length-append}
use Rattle.std.specs.Prelude.{MatchBool, Option, None, Some, Result, Ok, Err}
use Rattle.std.specs.Io.KnownBytes.{Consumes, IsAtEnd}
use Rattle.fault_count.specs.Causes.{Rose}
use Rattle.row_source.specs.Input.{Reading, Reads, most_bytes}
use Rattle.row_source.specs.Input.Reading.{Untouched, Whole, Long, Broken}
use Rattle.waldo_words.specs.declared.command.Command.{Command}
use Rattle.waldo_words.specs.declared.faults.WordFault.{WordFault}
use Rattle.waldo_run.specs.Replies.{Answering, Suits, reply_to}
use Rattle.waldo_run.specs.Run.{reading_by, reading_of}
use Rattle.waldo_run.specs.Tasks.{reads_input}
use Rattle.fault_count.specs.Streams.{Change}

-- where the source reports its bytes, what was read is these
pub whole_reported : (left now : Option (List ℕ)) (bs reported : List ℕ) → Consumes left now bs → IsAtEnd now → left ≡ Some reported → bs ≡ reported
whole_reported None now bs reported c end e = cc
whole_reported (Some xs) None bs reported c end e = absurd c
whole_reported (Some xs) (Some ys) bs reported c end e =
    let all : xs ≡ bs = c ∙ ap (λ l. bs ++ l) end ∙ append-nil bs in
    let known : xs ≡ reported = cc in
    sym all ∙ known

pub long_reported : (left now : Option (List ℕ)) (bs reported : List ℕ) → Consumes left now bs → left ≡ Some reported → length bs ≤ length reported
long_reported None now bs reported c e = cc
long_reported (Some xs) None bs reported c e = absurd c
long_reported (Some xs) (Some ys) bs reported c e =
    let known : xs ≡ reported = cc in
    rw (← known, c) (omega (arith, length-append bs ys))

pub short_reading : (bytes : List ℕ) (b : Bool) → nat_le (length bytes) most_bytes ≡ b → length bytes ≤ most_bytes → cond b (Whole bytes) Long ≡ Whole bytes
short_reading bytes true e h = refl
short_reading bytes false e h = absurd (grind arith)

long_reading : (bytes : List ℕ) (b : Bool) → nat_le (length bytes) most_bytes ≡ b → most_bytes < length bytes → cond b (Whole bytes) Long ≡ Long
long_reading bytes true e h = absurd (grind arith)
long_reading bytes false e h = refl

-- the reading over reported bytes, where no read failed
pub read_reported : (reading : Reading) (source : Change) (reported : List ℕ) → reading ≢ Untouched
    → Reads most_bytes reading source → (Rose source.before source.now → ⊥) → source.old ≡ Some reported → reading ≡ reading_of reported
read_reported Untouched source reported some reads sure e = absurd (some refl)
read_reported (Whole bytes) source reported some reads sure e =
    let same : bytes ≡ reported = whole_reported source.old source.new bytes reported reads.1 reads.2 e in
    let few : length reported ≤ most_bytes = subst (λ bs. length bs ≤ most_bytes) same reads.0 in
    ap Whole same ∙ sym (short_reading reported _ refl few)
read_reported Long source reported some reads sure e =
    let many : most_bytes < length reported = omega (arith, long_reported source.old source.new reads.0 reported reads.2 e, reads.1) in
    sym (long_reading reported _ refl many)
read_reported Broken source reported some reads sure e = absurd (sure reads)

suits_reported : (command : Command) (reading : Reading) (b : Bool) (reported : List ℕ) → (reading ≢ Untouched → reading ≡ reading_of reported)
    → MatchBool b (reading ≢ Untouched) (reading ≡ Untouched) → reading ≡ cond b (reading_of reported) Untouched
suits_reported command reading true reported f suits = f suits
suits_reported command reading false reported f suits = suits

pub over_reported : (answer : Answering) (command : Result Command WordFault) (reading : Reading) (source : Change) (reported : List ℕ) → Suits command reading
    → Reads most_bytes reading source → (Rose source.before source.now → ⊥) → source.old ≡ Some reported
    → reply_to answer command reading ≡ reply_to answer command (reading_by command reported)
over_reported answer (Err fault) reading source reported suits reads sure e = refl
over_reported answer (Ok command) reading source reported suits reads sure e =
    ap (reply_to answer (Ok command)) (suits_reported command reading (reads_input command) reported (λ some. read_reported reading source reported some reads sure e) suits)
