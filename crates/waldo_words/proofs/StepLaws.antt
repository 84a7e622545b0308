-- Laws of reading a schedule, token by token.
use Rattle.std.proofs.Common.{◌≡◌, ◌∙◌, refl, sym, ap, ℕ, suc, ◌<◌, ◌≤◌, List, [], ◌∷◌, ◌++◌, length, Option, Some, None, append_assoc, append-nil}
use Rattle.std.proofs.lemmas.Bool.{le-leb, lt-leb}
use Rattle.std.specs.Option.{option_and_then, option_map}
use Rattle.text_reading.specs.Cut.{cut_at, pieces, pieces_left}
use Rattle.text_reading.proofs.CutLaws.{pieces_cut}
use Rattle.waldo_words.specs.Steps.{schedule_of, step_of, steps_of}
use Rattle.waldo_words.specs.declared.schedule.Step.{Step}

-- steps with those of more tokens behind them
abbrev pub onto : List Step → Option (List Step) → Option (List Step)
onto steps more = option_map (λ (rest : List Step). steps ++ rest) more

-- ---- the whole text

pub too_many : (text : List ℕ) → 4096 < length (pieces 32 text) → schedule_of text ≡ None
unfolding schedule_of
too_many text h = rw (lt-leb (length (pieces 32 text)) 4096 h) refl

onto_none : (more : Option (List Step)) → onto [] more ≡ more
onto_none None = refl
onto_none (Some rest) = refl

pub few_enough : (text : List ℕ) → length (pieces 32 text) ≤ 4096 → onto [] (steps_of (pieces 32 text)) ≡ schedule_of text
unfolding schedule_of
few_enough text h = onto_none (steps_of (pieces 32 text)) ∙ sym (rw (le-leb (length (pieces 32 text)) 4096 h) refl)

-- ---- one token

pub bad_step : (steps : List Step) (bytes : List ℕ) → step_of (cut_at 32 bytes).0 ≡ None → onto steps (steps_of (pieces 32 bytes)) ≡ None
unfolding steps_of
bad_step steps bytes e = rw (pieces_cut 32 bytes, e) refl

behind : (steps : List Step) (s : Step) (more : Option (List Step)) → onto (steps ++ s ∷ []) more ≡ onto steps (onto (s ∷ []) more)
behind steps s None = refl
behind steps s (Some rest) = ap Some (append_assoc steps (s ∷ []) rest)

one_step : (s : Step) (tokens : List (List ℕ)) (token : List ℕ) → step_of token ≡ Some s → steps_of (token ∷ tokens) ≡ onto (s ∷ []) (steps_of tokens)
unfolding steps_of
one_step s tokens token e = rw e (by (steps_of tokens))
  where
    by : (more : Option (List Step)) → option_and_then (λ steps. Some (s ∷ steps)) more ≡ onto (s ∷ []) more
    by None = refl
    by (Some rest) = refl

pub good_step : (steps : List Step) (bytes : List ℕ) (s : Step) → step_of (cut_at 32 bytes).0 ≡ Some s
    → onto (steps ++ s ∷ []) (steps_of (pieces_left 32 (cut_at 32 bytes).1)) ≡ onto steps (steps_of (pieces 32 bytes))
good_step steps bytes s e =
    behind steps s (steps_of (pieces_left 32 (cut_at 32 bytes).1))
    ∙ ap (onto steps) (sym (rw (pieces_cut 32 bytes) (one_step s (pieces_left 32 (cut_at 32 bytes).1) (cut_at 32 bytes).0 e)))

pub none_left : (steps : List Step) → onto steps (steps_of []) ≡ Some steps
unfolding steps_of
none_left steps = rw append-nil refl

pub fewer_left : (bytes : List ℕ) → length (pieces 32 bytes) ≡ suc (length (pieces_left 32 (cut_at 32 bytes).1))
fewer_left bytes = ap length (pieces_cut 32 bytes)
