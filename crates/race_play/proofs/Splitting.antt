-- A job for each writer.
use Rattle.std.proofs.Common.{◌≡◌, ◌∙◌, sym, ap, subst, ℕ, suc, ◌+◌, ◌<◌, List, [], ◌∷◌, ◌++◌, length, All, take, drop, get_or, arith, length-append, append-nil}
use Rattle.std.proofs.lemmas.List.{drop_all, take_all}
use Rattle.std.proofs.lemmas.List.Elements.{All-push}
use Rattle.waldo_table.specs.Tables.{PassView, TableView, fresh_pass}
use Rattle.race_play.specs.Jobs.{AreNumbered, IsFresh, IsReady}
use Rattle.race_play.specs.declared.jobs.WriterJob.{WriterJob}

pub numbered_snoc : (w : ℕ) (js : List WriterJob) (j : WriterJob) → AreNumbered w js → j.number ≡ w + length js → AreNumbered w (js ++ j ∷ [])
numbered_snoc w [] j n e = (let z : w + 0 ≡ w = omega arith in e ∙ z, tt)
numbered_snoc w (x ∷ js) j n e = (n.0, numbered_snoc (suc w) js j n.1 (let z : w + suc (length js) ≡ suc w + length js = omega arith in e ∙ z))

pub numbered_push : (js new : List WriterJob) (j : WriterJob) → new ≡ js ++ j ∷ [] → AreNumbered 0 js → j.number ≡ length js → AreNumbered 0 new
numbered_push js new j is n e = subst (λ (l : List WriterJob). AreNumbered 0 l) (sym is) (numbered_snoc 0 js j n (let z : length js ≡ 0 + length js = omega arith in e ∙ z))

pub ready_push : (t : TableView) (n writers : ℕ) (js new : List WriterJob) (j : WriterJob) → new ≡ js ++ j ∷ [] → All (IsReady t n writers) js → IsReady t n writers j → All (IsReady t n writers) new
ready_push t n writers js new j is all one = subst (λ (l : List WriterJob). All (IsReady t n writers) l) (sym is) (All-push (IsReady t n writers) js j all one)

pub fresh_kept : (p q : PassView) → q.sight.own ≡ p.sight.own → q.floor ≡ p.floor → IsFresh p → IsFresh q
fresh_kept p q own floor f = record { own = own ∙ f.own; floor = floor ∙ f.floor }

pub fresh_given : (p q : PassView) (room : ℕ) → q ≡ fresh_pass p room → IsFresh p → IsFresh q
fresh_given p q room is f = record { own = ap (λ (x : PassView). x.sight.own) is; floor = ap (λ (x : PassView). x.floor) is ∙ f.floor }

pub long_push : (js new : List WriterJob) (j : WriterJob) (n : ℕ) → new ≡ js ++ j ∷ [] → length js ≡ n → length new ≡ n + 1
long_push js new j n is e = omega (arith, ap length is, length-append js (j ∷ []), e)

-- ---- a list whose elements were changed in place

pub whole_slice : {X : Type 0} (xs new : List X) (len : ℕ) → length new ≡ length xs → len ≡ length xs → take len (new ++ drop (length new) xs) ≡ new
whole_slice xs new len long is =
    ap (λ (n : ℕ). take len (new ++ drop n xs)) long ∙ ap (λ l. take len (new ++ l)) (drop_all (length xs) xs (omega arith)) ∙ ap (take len) (append-nil new) ∙ take_all len new (omega arith)

pub numbered_same : (w : ℕ) (old new : List WriterJob) → length new ≡ length old → ((i : ℕ) (d : WriterJob) → i < length old → (get_or new i d).number ≡ (get_or old i d).number) → AreNumbered w old → AreNumbered w new
numbered_same w [] [] long same n = tt
numbered_same w [] (y ∷ new) long same n = absurd (omega (arith, long))
numbered_same w (x ∷ old) [] long same n = absurd (omega (arith, long))
numbered_same w (x ∷ old) (y ∷ new) long same n = (same 0 x (omega arith) ∙ n.0, numbered_same (suc w) old new (omega (arith, long)) (λ i d lt. same (suc i) d (omega arith)) n.1)
