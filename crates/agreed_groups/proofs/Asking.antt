-- A query by buckets over shelves of rows that were agreed on is one over these rows.
use Rattle.std.proofs.Common.{◌≡◌, ◌∙◌, refl, sym, ap, subst, ℕ, ℤ, ◌+◌, ◌<◌, ◌≤◌, ◌^◌, List, [], length, get_or, map, filter, arith, Result, Ok, Err}
use Rattle.std.specs.Result.{IsErr}
use Rattle.std.proofs.lemmas.List.{ext_get_or, get_or-map, length-map}
use Rattle.std.proofs.lemmas.List.Elements.{All-filter, All-map}
use Rattle.std.proofs.lemmas.List.Sums.{count_by-le-length, length-filter}
use Rattle.list_facts.proofs.Listed.{get_or-listed, length-listed}
use Rattle.ring128.specs.Ring.{times}
use Rattle.ring128.specs.declared.memory.Memory.{Memory}
use Rattle.onehot_column.specs.Code.{width_of}
use Rattle.ring128.specs.Signed.{word_of, signed_of, size_of}
use Rattle.ring128.proofs.Signed.{signed-word}
use Rattle.prg_chacha.specs.declared.seed.Seed.{Seed}
use Rattle.query_plan.specs.KeyMessages.{Asked}
use Rattle.query_plan.specs.Laws.{AreKeysOf}
use Rattle.query_plan.specs.Query.{Suits, shaped}
use Rattle.query_plan.specs.Seeds.{weights_of}
use Rattle.query_plan.specs.Views.{key_from}
use Rattle.query_plan.specs.declared.query.Query.{Query}
use Rattle.scan_chunks.specs.Pieces.{Pieces}
use Rattle.table_schema.specs.Widths.{Holds}
use Rattle.table_schema.specs.declared.rows.Row.{Row}
use Rattle.table_schema.specs.declared.widths.Widths.{Widths}
use Rattle.transcript.specs.Laws.{Asks, ColumnsSuffice, HasColumns, PiecesHold, PlainIsSmall, SamePieces}
use Rattle.transcript.specs.Plain.{plain}
use Rattle.transcript.specs.Rows.{pieces_over}
use Rattle.transcript.specs.Setup.{Setup, Sizes}
use Rattle.transcript.specs.Transcript.{IsPart, IsTranscript}
use Rattle.weighted_check.specs.Check.{Accepts}
use Rattle.wire_line.specs.Messages.{IsHonest}
use Rattle.wire_line.specs.declared.message.Message.{Message}
use Rattle.agreed_rows.specs.Agreed.{Entries, Sound}
use Rattle.agreed_rows.specs.Answers.{rows_in}
use Rattle.bucket_groups.specs.Check.{AreJudged, answers_of}
use Rattle.bucket_groups.specs.Ending.{groups_for, opened_groups}
use Rattle.bucket_groups.specs.Grouped.{grouped, is_in}
use Rattle.bucket_groups.specs.Laws.{BucketsSeeColumns, GroupPairsOpen}
use Rattle.bucket_groups.specs.declared.check.GroupAnswer.{GroupAnswer}
use Rattle.bucket_groups.specs.declared.check.GroupAnswer.TheVariants as answer
use Rattle.bucket_groups.proofs.Judged.{are_judged}
use Rattle.agreed_groups.specs.Answers.{AnswersGroups, OpensGroups, groups_over, judged_groups, plain_groups}

-- the first messages, and all of them
pub part_over : ColumnsSuffice → BucketsSeeColumns → (e : Entries) (query : Query) (column : ℕ) (seed : Seed) (n : ℕ) (pieces : ℕ → Pieces) (ms : List Message)
    → n ≡ length e.all → column < e.widths.columns → HasColumns (record { rows = length e.all; widths = e.widths; shape = shaped query })
    → SamePieces e.widths.columns pieces (pieces_over e.widths e.all)
    → IsPart (groups_for query column e.widths seed n pieces) ms → IsPart (groups_over e query column seed) ms
part_over suffice sees e query column seed n pieces ms many there columns same part =
    let z : Sizes = record { rows = length e.all; widths = e.widths; shape = shaped query } in
    let here : IsPart (groups_for query column e.widths seed (length e.all) pieces) ms = subst (λ (m : ℕ). IsPart (groups_for query column e.widths seed m pieces) ms) many part in
    suffice (groups_for query column e.widths seed (length e.all) pieces) (pieces_over e.widths e.all) ms columns (sees z column (omega (arith, there))) same here

pub all_over : ColumnsSuffice → BucketsSeeColumns → (e : Entries) (query : Query) (column : ℕ) (seed : Seed) (n : ℕ) (pieces : ℕ → Pieces) (ms : List Message)
    → n ≡ length e.all → column < e.widths.columns → HasColumns (record { rows = length e.all; widths = e.widths; shape = shaped query })
    → SamePieces e.widths.columns pieces (pieces_over e.widths e.all)
    → IsTranscript (groups_for query column e.widths seed n pieces) ms → IsTranscript (groups_over e query column seed) ms
all_over suffice sees e query column seed n pieces ms many there columns same all = record {
  part = part_over suffice sees e query column seed n pieces ms many there columns same all.part;
  full = all.full;
}

-- the same of keys that were made for the query
abbrev pub keys_for : Entries → Query → Seed → Asked
keys_for e query seed = record { query = query; widths = e.widths; seed = seed }

pub made_over : (e : Entries) (query : Query) (seed : Seed) (w : Widths) (keys : Asked) → e.widths ≡ w → keys ≡ record { query = query; widths = w; seed = seed }
    → keys ≡ keys_for e query seed
made_over e query seed w keys same made = made ∙ ap (λ (v : Widths). record { query = query; widths = v; seed = seed }) (sym same)

pub part_asked : ColumnsSuffice → BucketsSeeColumns → (e : Entries) (query : Query) (column : ℕ) (seed : Seed) (keys : Asked) (n : ℕ) (pieces : ℕ → Pieces) (ms : List Message)
    → keys ≡ keys_for e query seed → n ≡ length e.all → column < e.widths.columns
    → HasColumns (record { rows = length e.all; widths = keys.widths; shape = shaped keys.query }) → SamePieces e.widths.columns pieces (pieces_over e.widths e.all)
    → IsPart (groups_for keys.query column keys.widths keys.seed n pieces) ms → IsPart (groups_over e query column seed) ms
part_asked suffice sees e query column seed keys n pieces ms made many there columns same part =
    part_over suffice sees e query column seed n pieces ms many there
    (subst (λ (k : Asked). HasColumns (record { rows = length e.all; widths = k.widths; shape = shaped k.query })) made columns) same
    (subst (λ (k : Asked). IsPart (groups_for k.query column k.widths k.seed n pieces) ms) made part)

pub opens_asked : ColumnsSuffice → BucketsSeeColumns → (e : Entries) (query : Query) (column : ℕ) (seed : Seed) (keys : Asked) (n : ℕ) (pieces : ℕ → Pieces) (ms : List Message)
    (total weighted : List ℕ) → keys ≡ keys_for e query seed → n ≡ length e.all → column < e.widths.columns
    → HasColumns (record { rows = length e.all; widths = keys.widths; shape = shaped keys.query }) → SamePieces e.widths.columns pieces (pieces_over e.widths e.all)
    → IsTranscript (groups_for keys.query column keys.widths keys.seed n pieces) ms
    → total ≡ opened_groups (groups_for keys.query column keys.widths keys.seed n pieces) column ms 0
    → weighted ≡ opened_groups (groups_for keys.query column keys.widths keys.seed n pieces) column ms 1 → OpensGroups e query column seed ms total weighted
opens_asked suffice sees e query column seed keys n pieces ms total weighted made many there columns same all t0 t1 =
    let over = λ (k : Asked). groups_for k.query column k.widths k.seed n pieces in
    record {
      transcript =
          all_over suffice sees e query column seed n pieces ms many there
          (subst (λ (k : Asked). HasColumns (record { rows = length e.all; widths = k.widths; shape = shaped k.query })) made columns) same
          (subst (λ (k : Asked). IsTranscript (over k) ms) made all);
      opened_total = t0 ∙ ap (λ (k : Asked). opened_groups (over k) column ms 0) made;
      opened_weighted = t1 ∙ ap (λ (k : Asked). opened_groups (over k) column ms 1) made;
    }

-- out of memory the first messages were carried
pub stopped_with : (e : Entries) (query : Query) (column : ℕ) (seed : Seed) (ms : List Message) (total weighted : List ℕ) (r : Result (List GroupAnswer) Memory) → IsErr r
    → IsPart (groups_over e query column seed) ms → AnswersGroups e query column seed ms total weighted r
stopped_with e query column seed ms total weighted (Ok a) failed part = absurd cc
stopped_with e query column seed ms total weighted (Err m) failed part = part

-- a plain answer over some of the rows is small
small_of : PlainIsSmall → (e : Entries) (query : Query) (column b : ℕ) → Sound e → size_of (plain query (filter (is_in column b) (rows_in e.all))) < 2 ^ 48
small_of law e query column b sound =
    let rows = rows_in e.all in
    let mine = filter (is_in column b) rows in
    let hold = All-filter (is_in column b) (Holds e.widths) rows (All-map (Holds e.widths) (λ (entry : Row × Seed). entry.0) e.all sound.rows) in
    let few : length mine ≤ 65536 = omega (arith, length-filter (is_in column b) rows, count_by-le-length (is_in column b) rows, length-map e.all (λ (entry : Row × Seed). entry.0), sound.few) in
    law e.widths query mine hold few

-- over honest messages each bucket is answered by its plain answer
pub plain_over : GroupPairsOpen → PiecesHold → PlainIsSmall → (e : Entries) (query : Query) (column : ℕ) (seed : Seed) (ms : List Message) (total weighted : List ℕ) → Sound e
    → Suits e.widths.columns e.widths.bits query → AreKeysOf (record { query = query; widths = e.widths; seed = seed }) → column < e.widths.columns
    → OpensGroups e query column seed ms total weighted → IsHonest ms → judged_groups query seed total weighted ≡ plain_groups e query column
plain_over law hold small e query column seed ms total weighted sound suits keys there opens honest =
    let s : Setup = groups_over e query column seed in
    let rows = rows_in e.all in
    let w = width_of e.widths column in
    let key = key_from (weights_of seed 1) query.count in
    let plains = grouped query column w rows in
    let times_key = λ (n : ℤ). times key (word_of n) in
    let asks : Asks s query (weights_of seed) rows = record { suits = suits; shape = refl; keys = keys; hold = hold e.widths e.all sound.rows; long = sym (length-map e.all (λ (entry : Row × Seed). entry.0)) } in
    let both = law s query (weights_of seed) rows ms column (λ j. refl) there asks refl opens.transcript honest in
    let totals : total ≡ map word_of plains = opens.opened_total ∙ both.0 in
    let weights : weighted ≡ map times_key plains = opens.opened_weighted ∙ both.1 in
    let judged = are_judged total weighted key in
    let wide : length plains ≡ w = length-listed w (λ (b : ℕ). plain query (filter (is_in column b) rows)) in
    let many : length total ≡ w = ap length totals ∙ length-map plains word_of ∙ wide in
    let long : length (judged_groups query seed total weighted) ≡ length total = judged.long in
    ext_get_or (answer.Altered 0 0) (judged_groups query seed total weighted) (map answer.Good plains)
    (long ∙ many ∙ sym wide ∙ sym (length-map plains answer.Good))
    (λ i h.
    let b : i < length total = omega (arith, h, long) in
    let p : i < length plains = omega (arith, b, many, wide) in
    let d = plain query [] in
    let a = get_or plains i d in
    let plain_at : a ≡ plain query (filter (is_in column i) rows) = get_or-listed w i (λ (b : ℕ). plain query (filter (is_in column b) rows)) d (omega (arith, p, wide)) in
    let total_at : get_or total i 0 ≡ word_of a = ap (λ (l : List ℕ). get_or l i 0) totals ∙ get_or-map word_of plains i d 0 p in
    let weighted_at : get_or weighted i 0 ≡ times key (word_of a) = ap (λ (l : List ℕ). get_or l i 0) weights ∙ get_or-map times_key plains i d 0 p in
    let low : size_of a < 2 ^ 48 = omega (arith, ap size_of plain_at, small_of small e query column i sound) in
    let read : signed_of (get_or total i 0) ≡ a = ap signed_of total_at ∙ signed-word a (omega (arith, low)) in
    let accepts : Accepts (get_or total i 0) (get_or weighted i 0) key = record { weighs = weighted_at ∙ sym (ap (times key) total_at); small = omega (arith, ap size_of read, low) } in
    (judged.good i b).1 accepts ∙ ap answer.Good read ∙ sym (get_or-map answer.Good plains i d (answer.Altered 0 0) p))
