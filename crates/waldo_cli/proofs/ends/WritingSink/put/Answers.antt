use Rattle.std.proofs.Common.{◌≡◌, ℕ, ◌+◌, ◌-◌, List, [], ◌++◌, length, take, drop, sym, ap, ◌∙◌, subst, Result, Ok, Err, Option, append_assoc, take-append-drop}
use lib.Seq.{take-append-add}
use Rattle.std.proofs.lemmas.List.{take_rest}
use Rattle.std.specs.Io.KnownBytes.{Appends, WriteAppends}
use Rattle.std.proofs.KnownBytes.{Appends-nil, Appends-trans, Appends-kept}
use Rattle.waldo_cli.proofs.ends.WritingSink.put.Goals as goal

moves_front : (all done rest : List ℕ) (n : ℕ) → all ≡ done ++ rest → all ≡ (done ++ take n rest) ++ take (length rest - n) (drop n rest)
moves_front all done rest n e =
    e ∙ ap (λ l. done ++ l) (sym (take-append-drop n rest)) ∙ sym (append_assoc done (take n rest) (drop n rest)) ∙ ap (λ l. (done ++ take n rest) ++ l) (sym (take_rest rest n))

-- what a write took is a front of its bytes, and nothing where it failed
front_of_write : {E : Type 0} (a b : Option (List ℕ)) (r : Result ℕ E) (bytes : List ℕ) → WriteAppends a b r bytes → (n : ℕ) × Appends a b (take n bytes)
front_of_write a b (Ok n) bytes h = (n, h)
front_of_write a b (Err e) bytes h = (0, Appends-kept a a b [] (Appends-nil a) h)

front : (all done rest : List ℕ) (n : ℕ) → all ≡ done ++ rest → done ++ take n rest ≡ take (length done + n) all
front all done rest n e = sym (ap (take (length done + n)) e ∙ take-append-add done rest n)

pub loop-rest-preserved : goal.loop-rest-preserved
loop-rest-preserved g c =
    let (done, split, taken) = c.loop-rest.invariant.taken in
    let rest = c.loop-rest.rest.now in
    let n = c.in-Ok.count in
    record {
      taken = (done ++ take n rest, moves_front _ done rest n split, Appends-trans _ _ _ _ _ taken c.in-Ok.ensures.bytes);
      kept = c.loop-rest.invariant.kept;
    }

pub returns-in-Ok-eq0-clause-bytes : goal.returns-in-Ok-eq0-clause-bytes
returns-in-Ok-eq0-clause-bytes g c =
    let (done, split, taken) = c.loop-rest.invariant.taken in
    let rest = c.loop-rest.rest.now in
    let (n, now) = front_of_write _ _ _ rest c.write.ensures.bytes in
    (length done + n, subst (Appends _ _) (front _ done rest n split) (Appends-trans _ _ _ _ _ taken now))
