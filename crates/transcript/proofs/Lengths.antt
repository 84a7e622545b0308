-- The lengths of messages.
use Rattle.std.proofs.Common.{◌≡◌, ℕ, zero, suc, ◌<◌, length, List, ap, ◌∙◌, arith}
use Rattle.list_facts.proofs.Listed.{length-listed}
use Rattle.wire_line.specs.declared.message.Message.{Message}
use Rattle.transcript.specs.Setup.{Setup, Ending, count_of}
use Rattle.transcript.specs.Formulas.{words_of, total_ending}
use Rattle.transcript.specs.Transcript.{seat_of}
use Rattle.transcript.specs.Steps.{Step, bits, product, further, opening, IsStep}
use Rattle.transcript.specs.Transcript.{IsTranscript}
use Rattle.transcript.specs.Laws.{step_length, LengthsAreSizes}
use Rattle.transcript.proofs.Shares.{message_of, fits_at, sent_chain_long}

sent_length : (s : Setup) (ms : List Message) (run : ℕ) (step : Step) (k : ℕ) → run < 2 → IsStep (count_of s.sizes) s.ending.further step → k < 3 → s.ending ≡ total_ending s.sizes → IsTranscript s ms
    → length (message_of s ms run step k).sent ≡ step_length s.sizes step
sent_length s ms run (bits j) k two h b total t = ap length (fits_at s ms run (bits j) k two t h b).words ∙ length-listed _ _
sent_length s ms run (product zero) k two h b total t = absurd (omega (arith, h.0))
sent_length s ms run (product (suc j)) k two h b total t = sent_chain_long s ms run (suc j) k two t h.1 b
sent_length s ms run (further e) k two h b total t = absurd (omega (arith, h.1, ap (λ (d : Ending). d.further) total))
sent_length s ms run opening k two h b total t =
    ap length ((fits_at s ms run opening k two t h b).words ∙ ap (λ (d : Ending). words_of s.sizes d run (seat_of s ms run k) opening) total)

pub lengths_are_sizes : LengthsAreSizes
lengths_are_sizes s ms run step k two h b total t =
    let sent = sent_length s ms run step k two h b total t in (sent, (fits_at s ms run step k two t h b).long ∙ sent)
