-- Both runs, one after the other.
use Rattle.std.proofs.Common.{◌≡◌, ℕ, ◌<◌, List, ◌++◌, length, refl, sym, ap, ◌∙◌, arith, length-append}
use Rattle.wire_line.specs.declared.message.Message.{Message}
use Rattle.wire_line.specs.Carried.{message_before}
use Rattle.scan_chunks.specs.Pieces.{Pieces}
use Rattle.query_plan.specs.Views.{View}
use Rattle.transcript.specs.Setup.{Sizes, Ending, count_of}
use Rattle.transcript.specs.Transcript.{IsPart, IsTranscript, opened_at}
use Rattle.server_rounds.specs.declared.way.Way.TheVariants.{ToServers}
use Rattle.server_rounds.specs.Groups.{IsGroup}
use Rattle.server_rounds.specs.Runs.{IsBefore, IsRunPart, IsRun, HaveRead, setup_of}
use Rattle.server_rounds.proofs.Extend.{extend_keys, opened_stays}

pub after_keys : (z : Sizes) (ending : Ending) (keys : ℕ → List ℕ) (read : List ℕ → View) (pieces : ℕ → Pieces) (views : ℕ → View) (ks : List Message)
    → IsGroup ToServers keys ks → HaveRead read views ks → IsBefore (setup_of z ending keys read pieces) 0 views ks
after_keys z ending keys read pieces views ks group h = record {
  part = extend_keys (setup_of z ending keys read pieces) ks keys (λ k b. refl) group;
  long = omega (arith, h.full);
  seen = h.seen;
}

pub after_run : (z : Sizes) (ending : Ending) (keys : ℕ → List ℕ) (read : List ℕ → View) (pieces : ℕ → Pieces) (views : ℕ → View) (earlier ms : List Message) (i total : ℕ)
    → IsBefore (setup_of z ending keys read pieces) 0 views earlier → IsRunPart z ending pieces 0 views ms → IsRun z ending pieces 0 views ms i total
    → IsBefore (setup_of z ending keys read pieces) 1 views (earlier ++ ms)
after_run z ending keys read pieces views earlier ms i total b part run = record {
  part = part keys read earlier b;
  long = omega (arith, length-append earlier ms, b.long, run.full);
  seen = λ k h. let early : k < length earlier = omega (arith, b.long) in b.seen k h ∙ ap (λ (m : Message). read m.received) (sym (message_before earlier ms k early));
}

pub whole_pair : (z : Sizes) (ending : Ending) (keys : ℕ → List ℕ) (read : List ℕ → View) (pieces : ℕ → Pieces) (views : ℕ → View) (ks ms ns : List Message) (i total weighted : ℕ) → 0 < count_of z
    → IsBefore (setup_of z ending keys read pieces) 0 views ks → IsBefore (setup_of z ending keys read pieces) 1 views (ks ++ ms)
    → IsRun z ending pieces 0 views ms i total → IsPart (setup_of z ending keys read pieces) ((ks ++ ms) ++ ns) → IsRun z ending pieces 1 views ns i weighted
    → IsTranscript (setup_of z ending keys read pieces) ((ks ++ ms) ++ ns)
    × (total ≡ opened_at (setup_of z ending keys read pieces) ((ks ++ ms) ++ ns) 0 i)
    × (weighted ≡ opened_at (setup_of z ending keys read pieces) ((ks ++ ms) ++ ns) 1 i)
whole_pair z ending keys read pieces views ks ms ns i total weighted some b0 b1 run0 part run1 = (
  record { part = part; full = omega (arith, length-append (ks ++ ms) ns, b1.long, run1.full) },
  run0.sum keys read ks b0 ∙ sym (opened_stays (setup_of z ending keys read pieces) (ks ++ ms) ns 0 i (omega (arith, b1.long)) some),
  run1.sum keys read (ks ++ ms) b1,
)
