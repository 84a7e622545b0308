-- Laws of reading a query by a column.
use Rattle.std.proofs.lemmas.Bool.{le-leb}
use Rattle.std.specs.Option.{ok_or}
use Rattle.text_reading.specs.Reading.{◌>>=◌, guard}
use Rattle.std.proofs.Common.{append_assoc, ◌≡◌, ◌∙◌, refl, sym, ap, ℕ, zero, suc, ◌+◌, ◌-◌, ◌<◌, ◌≤◌, true, false, leb, List, [], ◌∷◌, ◌++◌, length, get_or, take, Some, None, Ok, Err, arith, length-append}
use Rattle.std.specs.Prelude.{codes, Result, Option}
use Rattle.std.specs.Str.{bytes_eq}
use Rattle.std.proofs.Math.Seq.{take-append_seam}
use Rattle.text_reading.specs.Cut.{pieces, pieces_left}
use Rattle.table_schema.specs.declared.schema.Column.{Column}
use Rattle.query_plan.specs.declared.query.Query.{Query}
use Rattle.query_plan.specs.declared.query.QueryFault.{QueryFault}
use Rattle.query_plan.specs.declared.group.GroupQuery.{GroupQuery}
use Rattle.query_plan.specs.declared.group.GroupFault.{GroupFault}
use Rattle.query_plan.specs.declared.group.GroupFault.TheVariants as fault
use Rattle.query_plan.specs.Reading.{column_named, query_of_pieces}
use Rattle.query_plan.specs.Grouping.{group_of, group_of_pieces, by_column}

-- what the pieces say, from the end
abbrev pub from_end : List Column → List (List ℕ) → List ℕ → List ℕ → Result GroupQuery GroupFault
from_end columns ps word name =
    guard (bytes_eq word (codes "by")) fault.By >>= λ _.
    ok_or (column_named name columns) fault.By >>= λ c.
    by_column c (query_of_pieces columns ps)

at_seam : (ps : List (List ℕ)) (x : List ℕ) (qs : List (List ℕ)) → get_or (ps ++ x ∷ qs) (length ps) [] ≡ x
at_seam [] x qs = refl
at_seam (p ∷ ps) x qs = at_seam ps x qs

pub split : (columns : List Column) (ps : List (List ℕ)) (word name : List ℕ) → group_of_pieces columns (ps ++ word ∷ name ∷ []) ≡ from_end columns ps word name
unfolding group_of_pieces
split columns ps word name =
    let all = ps ++ word ∷ name ∷ [] in
    let long : length all ≡ length ps + 2 = length-append ps (word ∷ name ∷ []) in
    let two : leb 2 (length all) ≡ true = le-leb 2 (length all) (omega arith) in
    let first : length all - 2 ≡ length ps = omega arith in
    let last : length all - 1 ≡ length (ps ++ word ∷ []) = omega (arith, length-append ps (word ∷ [])) in
    let joined : all ≡ (ps ++ word ∷ []) ++ name ∷ [] = sym (append_assoc ps (word ∷ []) (name ∷ [])) in
    let at_word : get_or all (length all - 2) [] ≡ word = ap (λ (n : ℕ). get_or all n []) first ∙ at_seam ps word (name ∷ []) in
    let at_name : get_or all (length all - 1) [] ≡ name =
    ap (λ (n : ℕ). get_or all n []) last ∙ ap (λ (l : List (List ℕ)). get_or l (length (ps ++ word ∷ [])) []) joined ∙ at_seam (ps ++ word ∷ []) name [] in
    let before : take (length all - 2) all ≡ ps = ap (λ (n : ℕ). take n all) first ∙ take-append_seam ps (word ∷ name ∷ []) in
    rw (two, at_word, at_name, before) refl

-- a text that is one piece
pub no_front : (columns : List Column) (text name : List ℕ) (front : Option (List ℕ)) → front ≡ None → pieces 32 text ≡ pieces_left 32 front ++ name ∷ []
    → group_of columns text ≡ Err fault.By
unfolding group_of_pieces
no_front columns text name front none e =
    let one : pieces 32 text ≡ name ∷ [] = e ∙ ap (λ (o : Option (List ℕ)). pieces_left 32 o ++ name ∷ []) none in
    ap (group_of_pieces columns) one

-- a text of two pieces or more
pub two_pieces : (columns : List Column) (text name middle word : List ℕ) (front before : Option (List ℕ)) → front ≡ Some middle
    → pieces 32 text ≡ pieces_left 32 front ++ name ∷ [] → pieces 32 middle ≡ pieces_left 32 before ++ word ∷ []
    → group_of columns text ≡ from_end columns (pieces_left 32 before) word name
two_pieces columns text name middle word front before some e f =
    let ps = pieces_left 32 before in
    let all : pieces 32 text ≡ ps ++ word ∷ name ∷ [] =
    e ∙ ap (λ (o : Option (List ℕ)). pieces_left 32 o ++ name ∷ []) some ∙ ap (λ (l : List (List ℕ)). l ++ name ∷ []) f ∙ append_assoc ps (word ∷ []) (name ∷ []) in
    ap (group_of_pieces columns) all ∙ split columns ps word name
