-- What the text of a schedule means.
use Rattle.std.specs.Prelude.{ℕ, ◌==◌, List, [], ◌∷◌, length, Option, Some, None, option_map, if◌then◌else◌, nat_le}
use Rattle.text_reading.specs.Cut.{cut_at, pieces}
use Rattle.waldo_words.specs.Values.{◌>>=◌, number_within}
use Rattle.waldo_words.specs.declared.schedule.Step.{Step}
use Rattle.waldo_words.specs.declared.schedule.Step.TheVariants.{Draw, Place, Look, Fix, Answer}

-- an actor
abbrev pub actor_of : List ℕ → Option ℕ
actor_of text = number_within 0 15 text

-- an actor and a number up to most, with a point between them
unfoldable pub pair_of : ℕ → List ℕ → Option (ℕ × ℕ)
pair_of most text =
    actor_of (cut_at 46 text).0 >>= λ actor.
    (cut_at 46 text).1 >>= λ rest.
    number_within 0 most rest >>= λ second.
    Some (actor, second)

-- the step of a token: d, p, l, f or a, an actor, and behind a point the server of p and l, the query of a
unfoldable pub step_of : List ℕ → Option Step
step_of [] = None
step_of (letter ∷ text) =
    if letter == 100 then option_map Draw (actor_of text)
    else if letter == 112 then option_map (λ p. Place p.0 p.1) (pair_of 2 text)
    else if letter == 108 then option_map (λ p. Look p.0 p.1) (pair_of 2 text)
    else if letter == 102 then option_map Fix (actor_of text)
    else if letter == 97 then option_map (λ p. Answer p.0 p.1) (pair_of 15 text)
    else None

-- the steps of tokens, where each of them is one
unfoldable pub steps_of : List (List ℕ) → Option (List Step)
steps_of [] = Some []
steps_of (token ∷ tokens) = step_of token >>= λ step. steps_of tokens >>= λ steps. Some (step ∷ steps)

-- the schedule of a text: at most 4096 tokens, each between single spaces. There is at least one piece, and the empty one is no token
unfoldable pub schedule_of : List ℕ → Option (List Step)
schedule_of text = if nat_le (length (pieces 32 text)) 4096 then steps_of (pieces 32 text) else None
