-- Altered messages at one server's ends.
use Rattle.std.proofs.Common.{◌≡◌, ◌∙◌, refl, sym, ap, subst, List, ◌++◌, arith}
use Rattle.std.specs.Prelude.{ℕ, ◌<◌, Option, Some, option_map}
use Rattle.std.proofs.lemmas.List.{append_cancel_left}
use Rattle.wire_line.specs.declared.message.Message.{Message}
use Rattle.query_plan.specs.Laws.{AreKeysOf}
use Rattle.query_plan.specs.Query.{Suits}
use Rattle.query_plan.specs.KeyMessages.{Asked}
use Rattle.query_plan.specs.Seeds.{weights_of}
use Rattle.transcript.specs.Formulas.{setup_for}
use Rattle.transcript.specs.Laws.{Asks}
use Rattle.transcript.specs.Setup.{Setup}
use Rattle.transcript.specs.Shifts.{OneAltered, ShiftedOpen}
use Rattle.transcript.specs.Transcript.{IsTranscript, opened_of}
use Rattle.scan_chunks.specs.Pieces.{Pieces}
use Rattle.server_rounds.specs.OneServer.{OneServer}
use Rattle.server_rounds.specs.declared.opened.OpenedPair.{OpenedPair}

-- the list of a wire that tells says which messages it carried
pub told_messages : {S : Type 0} (told : S → Option (List Message)) (s t : S) (old ms ns : List Message)
    → told s ≡ Some old → told t ≡ Some (old ++ ns) → told t ≡ option_map (λ (list : List Message). list ++ ms) (told s) → ms ≡ ns
told_messages told s t old ms ns e f listed =
    append_cancel_left old ms ns (some_of (old ++ ms) (old ++ ns) (sym (ap (option_map (λ (list : List Message). list ++ ms)) e) ∙ sym listed ∙ f))
  where
    some_of : (xs ys : List Message) → ◌≡◌ {A = Option (List Message)} (Some xs) (Some ys) → xs ≡ ys
    some_of xs ys e = cc

-- what the messages of a query open where one server is an end of every altered one
pub one_server : ShiftedOpen → (k : Asked) (n : ℕ) (pieces : ℕ → Pieces) (ms ns : List Message) (pair : OpenedPair) → AreKeysOf k → Suits k.widths.columns k.widths.bits k.query
    → IsTranscript (setup_for k.query k.widths k.seed n pieces) ms → pair.total ≡ opened_of (setup_for k.query k.widths k.seed n pieces) ms 0
    → pair.weighted ≡ opened_of (setup_for k.query k.widths k.seed n pieces) ms 1 → ms ≡ ns
    → OneServer (setup_for k.query k.widths k.seed n pieces) k.query k.seed ns pair
one_server law k n pieces ms ns pair keys suits all total weighted these =
    let s : Setup = setup_for k.query k.widths k.seed n pieces in
    subst (λ (l : List Message). OneServer s k.query k.seed l pair) these
    (λ rows server hold long three one.
    let asks : Asks s k.query (weights_of k.seed) rows = record { suits = suits; shape = refl; keys = keys; hold = hold; long = sym long } in
    record {
      total = total ∙ law s k.query (weights_of k.seed) rows ms 0 server (omega arith) three asks refl all one;
      weighted = weighted ∙ law s k.query (weights_of k.seed) rows ms 1 server (omega arith) three asks refl all one;
    })
