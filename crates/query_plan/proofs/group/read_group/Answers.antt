use Rattle.std.proofs.Common.{◌≡◌, ◌∙◌, ℕ, List, [], ◌∷◌, ◌++◌, Some, None, Ok, Err, true, false, ap, sym, refl}
use Rattle.std.specs.Prelude.{codes}
use Rattle.std.specs.Option.{option_copied}
use Rattle.std.specs.Str.{bytes_eq}
use Rattle.text_reading.specs.Cut.{pieces, pieces_left}
use Rattle.query_plan.specs.Reading.{column_named, query_of_pieces}
use Rattle.query_plan.specs.Grouping.{group_of}
use Rattle.query_plan.proofs.GroupLaws.{no_front, two_pieces, from_end}
use Rattle.query_plan.proofs.group.read_group.Goals as goal

pub returns-in_default-clause-exact : goal.returns-in_default-clause-exact
returns-in_default-clause-exact c =
    no_front c.args.schema.now c.args.text.now c.cut_last.result.1.now (option_copied c.cut_last.result.0) (ap option_copied c.in_default.is)
    (ap (pieces 32) (sym c.as_bytes.ensures.value) ∙ c.cut_last.ensures)

pub returns-then-not-is_by-clause-exact : goal.returns-then-not-is_by-clause-exact
returns-then-not-is_by-clause-exact c =
    let text = c.args.text.now in
    let name = c.cut_last.result.1.now in
    let word = c.cut_last-2.result.1.now in
    let before = option_copied c.cut_last-2.result.0 in
    let two = two_pieces c.args.schema.now text name c.in-Some.front.now word (option_copied c.cut_last.result.0) before (ap option_copied c.in-Some.is)
    (ap (pieces 32) (sym c.as_bytes.ensures.value) ∙ c.cut_last.ensures) c.cut_last-2.ensures in
    let no : bytes_eq word (codes "by") ≡ false = sym c.is_by.ensures ∙ c.if-not-is_by.true in
    two ∙ rw no refl

pub returns-in_default-named-clause-exact : goal.returns-in_default-named-clause-exact
returns-in_default-named-clause-exact c =
    let text = c.args.text.now in
    let name = c.cut_last.result.1.now in
    let word = c.cut_last-2.result.1.now in
    let before = option_copied c.cut_last-2.result.0 in
    let two = two_pieces c.args.schema.now text name c.in-Some.front.now word (option_copied c.cut_last.result.0) before (ap option_copied c.in-Some.is)
    (ap (pieces 32) (sym c.as_bytes.ensures.value) ∙ c.cut_last.ensures) c.cut_last-2.ensures in
    let yes : bytes_eq word (codes "by") ≡ true = sym c.is_by.ensures ∙ c.if-not-is_by.false in
    let none : column_named name c.args.schema.now ≡ None = sym c.named.ensures.value ∙ c.in_default-named.is in
    two ∙ rw (yes, none) refl

pub returns-in-Ok-clause-exact : goal.returns-in-Ok-clause-exact
returns-in-Ok-clause-exact c =
    let text = c.args.text.now in
    let name = c.cut_last.result.1.now in
    let word = c.cut_last-2.result.1.now in
    let before = option_copied c.cut_last-2.result.0 in
    let two = two_pieces c.args.schema.now text name c.in-Some.front.now word (option_copied c.cut_last.result.0) before (ap option_copied c.in-Some.is)
    (ap (pieces 32) (sym c.as_bytes.ensures.value) ∙ c.cut_last.ensures) c.cut_last-2.ensures in
    let yes : bytes_eq word (codes "by") ≡ true = sym c.is_by.ensures ∙ c.if-not-is_by.false in
    let some : column_named name c.args.schema.now ≡ Some c.in-Some-named.column = sym c.named.ensures.value ∙ c.in-Some-named.is in
    let read : query_of_pieces c.args.schema.now (pieces_left 32 before) ≡ Ok c.in-Ok.query = c.in-Ok.ensures.exact in
    two ∙ rw (yes, some, read) refl

pub returns-in-Err-clause-exact : goal.returns-in-Err-clause-exact
returns-in-Err-clause-exact c =
    let text = c.args.text.now in
    let name = c.cut_last.result.1.now in
    let word = c.cut_last-2.result.1.now in
    let before = option_copied c.cut_last-2.result.0 in
    let two = two_pieces c.args.schema.now text name c.in-Some.front.now word (option_copied c.cut_last.result.0) before (ap option_copied c.in-Some.is)
    (ap (pieces 32) (sym c.as_bytes.ensures.value) ∙ c.cut_last.ensures) c.cut_last-2.ensures in
    let yes : bytes_eq word (codes "by") ≡ true = sym c.is_by.ensures ∙ c.if-not-is_by.false in
    let some : column_named name c.args.schema.now ≡ Some c.in-Some-named.column = sym c.named.ensures.value ∙ c.in-Some-named.is in
    let read : query_of_pieces c.args.schema.now (pieces_left 32 before) ≡ Err c.in-Err.fault = c.in-Err.ensures.exact in
    two ∙ rw (yes, some, read) refl
