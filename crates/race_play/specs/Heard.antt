-- What askers heard, joined in their order.
use Rattle.std.specs.Prelude.{◌≡◌, ◌⊎◌, Result, Ok, IfOk, IsErr, OnErr, List, ◌++◌}
use Rattle.report_lines.specs.declared.lines.Line.{Line}
use Rattle.ring128.specs.declared.memory.Memory.{Memory}
use Rattle.visit_trace.specs.Seen.{AllSeen, Grew, GrewPrefix}

-- the lines of one, and behind them those of others
abbrev pub JoinsSaid : Result (List Line) Memory → Result (List Line) Memory → List Line → Type 0
JoinsSaid first others said = (own : List Line) × (more : List Line) × (first ≡ Ok own) × (others ≡ Ok more) × (said ≡ own ++ more)

-- out of memory: the trace of one stays, where it was out of memory itself; or a prefix of the others' is noted behind it
abbrev pub JoinsFirst : Result (List Line) Memory → AllSeen → AllSeen → AllSeen → Type 0
JoinsFirst first own behind new = ((new ≡ own) × IsErr first) ⊎ ((said : List Line) × (first ≡ Ok said) × GrewPrefix own new behind)

-- the lines and the trace of one, those of others, and those of all
pub record JoinsHeard (own : AllSeen) (first : Result (List Line) Memory) (behind : AllSeen) (others : Result (List Line) Memory)
    (new : AllSeen) (result : Result (List Line) Memory) : Type 0 where
  pub said : IfOk result (JoinsSaid first others)
  pub trace : IfOk result (λ _. Grew own new behind)
  pub trace_first : OnErr result (JoinsFirst first own behind new)
