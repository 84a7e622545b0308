-- A query over rows that were agreed on.
use Rattle.std.proofs.Common.{◌≡◌, ◌∙◌, refl, sym, ap, subst, ℕ, ℤ, ◌+◌, ◌*◌, ◌<◌, ◌^◌, List, length, take, arith}
use Rattle.std.specs.Prelude.{Result, Ok, Err}
use Rattle.std.proofs.lemmas.List.{length-map, length-take-le}
use Rattle.std.proofs.lemmas.List.Elements.{All-map}
use Rattle.prg_chacha.specs.declared.seed.Seed.{Seed}
use Rattle.query_plan.specs.KeyMessages.{Asked}
use Rattle.query_plan.specs.Laws.{AreKeysOf}
use Rattle.query_plan.specs.Query.{Suits, shaped}
use Rattle.query_plan.specs.Seeds.{weights_of}
use Rattle.query_plan.specs.Views.{key_from}
use Rattle.query_plan.specs.declared.query.Query.{Query}
use Rattle.ring128.specs.Ring.{times}
use Rattle.ring128.specs.Signed.{word_of, signed_of, size_of}
use Rattle.ring128.proofs.Signed.{signed-word}
use Rattle.scan_chunks.specs.Shelf.{Held}
use Rattle.server_rounds.specs.Groups.{by_server}
use Rattle.server_rounds.specs.declared.opened.OpenedPair.{OpenedPair}
use Rattle.table_schema.specs.Widths.{Holds}
use Rattle.table_schema.specs.declared.rows.Row.{Row}
use Rattle.table_schema.specs.declared.widths.Widths.{Widths}
use Rattle.transcript.specs.Laws.{Asks, HasColumns}
use Rattle.transcript.specs.Rows.{pieces_over}
use Rattle.transcript.specs.Setup.{Setup, Sizes}
use Rattle.visit_trace.specs.Expected.{trace_of}
use Rattle.visit_trace.specs.Seen.{AllSeen, Grew, GrewPrefix}
use Rattle.transcript.specs.Formulas.{setup_for}
use Rattle.transcript.specs.Transcript.{IsPart, IsTranscript, opened_of}
use Rattle.transcript.proofs.Held.{pieces_hold}
use Rattle.transcript.proofs.Honest.{pair_opens}
use Rattle.transcript.proofs.Small.{plain_is_small}
use Rattle.weighted_check.specs.Check.{checked}
use Rattle.weighted_check.proofs.Checked.{accepted, answered, refused, word-signed}
use Rattle.weighted_check.specs.declared.Altered.{Altered}
use Rattle.wire_line.specs.Messages.{IsHonest}
use Rattle.wire_line.specs.declared.message.Message.{Message}
use Rattle.agreed_rows.specs.Agreed.{Entries, IsAgreed, Sound, first_rows}
use Rattle.agreed_rows.specs.Answers.{AddsTrace, Answers, IsPlainAnswer, Opens, answered_by, judged, plain_total, rows_in, setup_over, sizes_over}
use Rattle.agreed_rows.specs.declared.query.AnswerFault.{AnswerFault}
use Rattle.agreed_rows.specs.declared.query.Answered.{Answered}
use Rattle.agreed_rows.specs.Servers.{KeepsFirst}
use Rattle.agreed_rows.specs.Shelves.{AreRowsOf}
use Rattle.agreed_rows.proofs.OverRows.{are_rows, over_same, same_rows}

pub agreed_long : (w : Widths) (order : List (Row × Seed)) (n : ℕ) (h0 h1 h2 : Held) → IsAgreed w order n h0 h1 h2 → length (take n order) ≡ n
agreed_long w order n h0 h1 h2 is = length-take-le n order is.zero.few

pub agreed_sound : (w : Widths) (order : List (Row × Seed)) (n : ℕ) (h0 h1 h2 : Held) → IsAgreed w order n h0 h1 h2 → Sound (first_rows w order n)
agreed_sound w order n h0 h1 h2 is = record { few = omega (arith, is.few, agreed_long w order n h0 h1 h2 is); rows = is.zero.rows }

-- the shelves of an agreement have its rows
pub agreed_rows : (w : Widths) (k : ℕ) (order : List (Row × Seed)) (n : ℕ) (h : Held) (keys : Asked) → keys.widths ≡ w → KeepsFirst w k order n h → AreRowsOf keys.widths n h
agreed_rows w k order n h keys same keeps = subst (λ (v : Widths). AreRowsOf v n h) (sym same) (are_rows w k order n h keeps)

-- a pair that opens an answer of a small size and the key times it is accepted
accepted_plain : (total weighted key : ℕ) (answer : ℤ) → total ≡ word_of answer → weighted ≡ times key (word_of answer) → size_of answer < 2 ^ 48
    → checked total weighted key ≡ Ok answer
accepted_plain total weighted key answer sum product small =
    let read : signed_of total ≡ answer = ap signed_of sum ∙ signed-word answer (omega (arith, small)) in
    accepted total weighted key (record { weighs = product ∙ ap (times key) (sym sum); small = omega (arith, ap size_of read, small) }) ∙ ap Ok read

opened-below : (s : Setup) (ms : List Message) (run : ℕ) → opened_of s ms run < 2 ^ 128
opened-below s ms run = omega arith

-- what is accepted of a pair that a query opened is its total, and the weighted total is the key times it
pub accepted_as : (e : Entries) (query : Query) (seed : Seed) (ms : List Message) (pair : OpenedPair) (answer : ℤ) → Opens e query seed ms pair → judged query seed pair ≡ Ok answer
    → pair ≡ record { total = word_of answer; weighted = times (key_from (weights_of seed 1) query.count) (word_of answer) }
accepted_as e query seed ms pair answer opens says =
    let key = key_from (weights_of seed 1) query.count in
    let is = answered pair.total pair.weighted key answer says in
    let below : pair.total < 2 ^ 128 = subst (λ (n : ℕ). n < 2 ^ 128) (sym opens.total) (opened-below (setup_over e query seed) ms 0) in
    let total : pair.total ≡ word_of answer = sym (ap word_of is.1 ∙ word-signed pair.total below) in
    ap (λ (weighted : ℕ). record { total = pair.total; weighted = weighted }) is.0.weighs
    ∙ ap (λ (n : ℕ). record { total = n; weighted = times (key_from (weights_of seed 1) query.count) n }) total

pub refused_as : (query : Query) (seed : Seed) (pair : OpenedPair) (fault : Altered) → judged query seed pair ≡ Err fault → pair ≡ record { total = fault.total; weighted = fault.weighted }
refused_as query seed pair fault e =
    ap (λ (a : Altered). record { total = a.total; weighted = a.weighted }) (sym (refused pair.total pair.weighted (key_from (weights_of seed 1) query.count) fault e))

-- a query that is asked over an agreement, with its keys
pub record Asking (w : Widths) (order : List (Row × Seed)) (n : ℕ) (h0 h1 h2 : Held) (query : Query) (seed : Seed) (keys : Asked) : Type 0 where
  pub agreed : IsAgreed w order n h0 h1 h2
  pub made : keys ≡ record { query = query; widths = w; seed = seed }
  pub keys_of : AreKeysOf keys
  pub suits : Suits w.columns w.bits query
  pub columns : HasColumns (record { rows = n; widths = keys.widths; shape = shaped keys.query })

-- the sizes of what keys were made for, over this many rows
abbrev pub sizes_at : ℕ → Asked → Sizes
sizes_at n keys = record { rows = n; widths = keys.widths; shape = shaped keys.query }

module _ (w : Widths) (order : List (Row × Seed)) (n : ℕ) (h0 h1 h2 : Held) (query : Query) (seed : Seed) (keys : Asked) (asking : Asking w order n h0 h1 h2 query seed keys) where
  abbrev rows : Entries
  rows = first_rows w order n

  there : HasColumns (record { rows = n; widths = w; shape = shaped query })
  there = subst (λ (k : Asked). HasColumns (record { rows = n; widths = k.widths; shape = shaped k.query })) asking.made asking.columns

  long : n ≡ length (take n order)
  long = sym (agreed_long w order n h0 h1 h2 asking.agreed)

  -- the first messages
  pub asked_part : (ms : List Message) → IsPart (setup_for keys.query keys.widths keys.seed n (by_server h0.pieces h1.pieces h2.pieces)) ms → IsPart (setup_over rows query seed) ms
  asked_part ms part =
      let here : IsPart (setup_for query w seed n (by_server h0.pieces h1.pieces h2.pieces)) ms = subst (λ (k : Asked). IsPart (setup_for k.query k.widths k.seed n (by_server h0.pieces h1.pieces h2.pieces)) ms) asking.made part in
      subst (λ (m : ℕ). IsPart (setup_for query w seed m (pieces_over w (take n order))) ms) long
      (over_same query w seed n n (by_server h0.pieces h1.pieces h2.pieces) (pieces_over w (take n order)) ms refl there (same_rows w order n h0 h1 h2 asking.agreed) here)

  -- all messages, and what they open
  pub asked_opens : (ms : List Message) (pair : OpenedPair) → IsTranscript (setup_for keys.query keys.widths keys.seed n (by_server h0.pieces h1.pieces h2.pieces)) ms
      → pair.total ≡ opened_of (setup_for keys.query keys.widths keys.seed n (by_server h0.pieces h1.pieces h2.pieces)) ms 0
      → pair.weighted ≡ opened_of (setup_for keys.query keys.widths keys.seed n (by_server h0.pieces h1.pieces h2.pieces)) ms 1 → Opens rows query seed ms pair
  asked_opens ms pair all total weighted =
      let full : length ms ≡ 3 + 12 * query.count + 6 * 0 = all.full ∙ ap (λ (k : Asked). 3 + 12 * k.query.count + 6 * 0) asking.made in
      record {
        transcript = record { part = asked_part ms all.part; full = full };
        total = total ∙ ap (λ (k : Asked). opened_of (setup_for k.query k.widths k.seed n (by_server h0.pieces h1.pieces h2.pieces)) ms 0) asking.made;
        weighted = weighted ∙ ap (λ (k : Asked). opened_of (setup_for k.query k.widths k.seed n (by_server h0.pieces h1.pieces h2.pieces)) ms 1) asking.made;
      }

  -- over honest messages the check accepts the plain answer
  asked_plainly : (ms : List Message) (pair : OpenedPair) → Opens rows query seed ms pair → IsHonest ms → judged query seed pair ≡ Ok (plain_total rows query)
  asked_plainly ms pair opens honest =
      let is = asking.agreed in
      let entries = take n order in
      let asks : Asks (setup_over rows query seed) query (weights_of seed) (rows_in entries) = record {
        suits = asking.suits;
        shape = refl;
        keys = subst AreKeysOf asking.made asking.keys_of;
        hold = pieces_hold w entries is.zero.rows;
        long = sym (length-map entries (λ (entry : Row × Seed). entry.0));
      } in
      let opened = pair_opens (setup_over rows query seed) query (weights_of seed) (rows_in entries) ms (λ j. refl) asks refl opens.transcript honest in
      let small = plain_is_small w query (rows_in entries) (All-map (Holds w) (λ (entry : Row × Seed). entry.0) entries is.zero.rows)
      (omega (arith, length-map entries (λ (entry : Row × Seed). entry.0), agreed_long w order n h0 h1 h2 is, is.few)) in
      accepted_plain pair.total pair.weighted (key_from (weights_of seed 1) query.count) (plain_total rows query) (opens.total ∙ opened.0) (opens.weighted ∙ opened.1) small

  -- the answer is that of the check, which is plain over honest messages
  judged_by : (pair : OpenedPair) (key n : ℕ) (r : Result Answered AnswerFault) → key ≡ key_from (weights_of keys.seed 1) keys.query.count → r ≡ answered_by n (checked pair.total pair.weighted key)
      → r ≡ answered_by n (judged query seed pair)
  judged_by pair key n r is says =
      says ∙ ap (λ (k : ℕ). answered_by n (checked pair.total pair.weighted k)) (is ∙ ap (λ (k : Asked). key_from (weights_of k.seed 1) k.query.count) asking.made)

  pub asked_answers : (ms : List Message) (pair : OpenedPair) (key m : ℕ) (r : Result Answered AnswerFault) → Opens rows query seed ms pair
      → key ≡ key_from (weights_of keys.seed 1) keys.query.count → m ≡ n → r ≡ answered_by m (checked pair.total pair.weighted key) → Answers rows query seed ms pair r
  asked_answers ms pair key m r opens is count says =
      subst (λ (x : Result Answered AnswerFault). Answers rows query seed ms pair x) (sym (judged_by pair key m r is says)) (by (judged query seed pair) refl)
    where
      by : (o : Result ℤ Altered) → judged query seed pair ≡ o → Answers rows query seed ms pair (answered_by m o)
      by (Ok total) e = (opens, e, count ∙ long)
      by (Err fault) e = (opens, e, refused_as query seed pair fault e)

  pub asked_plain : (ms : List Message) (pair : OpenedPair) (key m : ℕ) (r : Result Answered AnswerFault) → Opens rows query seed ms pair
      → key ≡ key_from (weights_of keys.seed 1) keys.query.count → r ≡ answered_by m (checked pair.total pair.weighted key) → IsHonest ms → IsPlainAnswer rows query r
  asked_plain ms pair key m r opens is says honest =
      subst (λ (x : Result Answered AnswerFault). IsPlainAnswer rows query x)
      (sym (judged_by pair key m r is says ∙ ap (answered_by m) (asked_plainly ms pair opens honest))) refl

  -- the trace of the sizes
  asked_sizes : sizes_at n keys ≡ sizes_over rows query
  asked_sizes = ap (sizes_at n) asking.made ∙ ap (λ (m : ℕ). sizes_at m (record { query = query; widths = w; seed = seed })) long

  pub asked_begun : (a b : AllSeen) → GrewPrefix a b (trace_of (sizes_at n keys)) → GrewPrefix a b (trace_of (sizes_over rows query))
  asked_begun a b g = subst (λ (z : Sizes). GrewPrefix a b (trace_of z)) asked_sizes g

  pub asked_trace : (a b : AllSeen) (pair : OpenedPair) (key m : ℕ) (r : Result Answered AnswerFault) → r ≡ answered_by m (checked pair.total pair.weighted key)
      → Grew a b (trace_of (sizes_at n keys)) → AddsTrace rows query a b r
  asked_trace a b pair key m r says g =
      subst (λ (x : Result Answered AnswerFault). AddsTrace rows query a b x) (sym says) (by (checked pair.total pair.weighted key) (subst (λ (z : Sizes). Grew a b (trace_of z)) asked_sizes g))
    where
      by : (o : Result ℤ Altered) → Grew a b (trace_of (sizes_over rows query)) → AddsTrace rows query a b (answered_by m o)
      by (Ok total) h = h
      by (Err fault) h = h
