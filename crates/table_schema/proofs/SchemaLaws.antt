-- Laws of reading a schema's text, piece by piece.
use Rattle.std.proofs.Common.{◌≡◌, ◌∙◌, ◌&&◌, refl, sym, ap, ℕ, ◌+◌, ◌-◌, ◌<◌, ◌≤◌, Bool, true, false, cond, eqb, leb, List, [], ◌∷◌, ◌++◌, length, Option, Some, None, Result, Ok, Err, arith, All, length-append}
use Rattle.std.specs.Option.{ok_or}
use Rattle.std.proofs.lemmas.Bool.{le-ltb, lt-ltb, leb-true, eqb-false}
use Rattle.std.proofs.lemmas.List.Elements.{All-push}
use Rattle.text_reading.specs.Cut.{cut_at, pieces, pieces_left}
use Rattle.table_schema.specs.Column.{IsColumn}
use Rattle.table_schema.specs.Limits.{most_columns}
use Rattle.text_reading.specs.Number.{number_of}
use Rattle.text_reading.specs.Reading.{◌>>=◌, guard}
use Rattle.table_schema.specs.Schema.{bits_of, step_of, if_positive, column_of, columns_from, with_column, has_name, schema_of}
use Rattle.table_schema.specs.declared.schema.Column.{Column}
use Rattle.table_schema.specs.declared.faults.SchemaWhy.{SchemaWhy}
use Rattle.table_schema.specs.declared.faults.SchemaWhy.TheVariants.{Name, Bits, Start, Step}
use Rattle.table_schema.specs.declared.faults.SchemaFault.{SchemaFault}
use Rattle.table_schema.specs.declared.faults.SchemaFault.TheVariants as fault
use Rattle.text_reading.proofs.CutLaws.{pieces_cut, pieces_fewer}

-- ---- one piece

pub columns_next : (earlier : List Column) (text : List ℕ)
    → columns_from earlier (pieces 44 text) ≡ (with_column earlier (column_of (cut_at 44 text).0) >>= λ columns. columns_from columns (pieces_left 44 (cut_at 44 text).1))
unfolding columns_from
columns_next earlier text = rw (pieces_cut 44 text) refl

pub bad_piece : (earlier : List Column) (text : List ℕ) (why : SchemaWhy) → column_of (cut_at 44 text).0 ≡ Err why
    → columns_from earlier (pieces 44 text) ≡ Err (fault.Column (length earlier) why)
bad_piece earlier text why e = columns_next earlier text ∙ rw e refl

pub repeated_piece : (earlier : List Column) (text : List ℕ) (c : Column) → column_of (cut_at 44 text).0 ≡ Ok c → has_name c.name earlier ≡ true
    → columns_from earlier (pieces 44 text) ≡ Err (fault.Repeated (length earlier))
repeated_piece earlier text c e h = columns_next earlier text ∙ rw (e, h) refl

pub good_piece : (earlier : List Column) (text : List ℕ) (c : Column) → column_of (cut_at 44 text).0 ≡ Ok c → has_name c.name earlier ≡ false
    → columns_from (earlier ++ c ∷ []) (pieces_left 44 (cut_at 44 text).1) ≡ columns_from earlier (pieces 44 text)
good_piece earlier text c e h = sym (columns_next earlier text ∙ rw (e, h) refl)

-- ---- the whole text

pub few_pieces : (text : List ℕ) → length (pieces 44 text) ≤ most_columns → columns_from [] (pieces 44 text) ≡ schema_of text
unfolding schema_of
few_pieces text h = rw (le-ltb most_columns (length (pieces 44 text)) h) refl

pub many_pieces : (text : List ℕ) → most_columns < length (pieces 44 text) → schema_of text ≡ Err (fault.Count (length (pieces 44 text)))
unfolding schema_of
many_pieces text h = rw (lt-ltb most_columns (length (pieces 44 text)) h) refl

pub none_left : (columns : List Column) → columns_from columns [] ≡ Ok columns
unfolding columns_from
none_left columns = refl

-- ---- what columns keep

bits_fit : (text : List ℕ) (n : ℕ) → bits_of text ≡ Some n → (0 < n) × (n ≤ 8)
unfolding bits_of
bits_fit [] n e = absurd cc
bits_fit (b ∷ c ∷ bs) n e = absurd cc
bits_fit (b ∷ []) n e = by (leb 49 b) refl (leb b 56) refl e
  where
    by : (p : Bool) → leb 49 b ≡ p → (q : Bool) → leb b 56 ≡ q → cond (p && q) (Some (b - 48)) None ≡ Some n → (0 < n) × (n ≤ 8)
    by true p true q h = let k : b - 48 ≡ n = cc in let low = leb-true 49 b p in let high = leb-true b 56 q in (omega arith, omega arith)
    by true p false q h = absurd cc
    by false p q0 q h = absurd cc

positive_fits : (o : Option ℕ) (n : ℕ) → if_positive o ≡ Some n → 0 < n
positive_fits None n e = absurd cc
positive_fits (Some m) n e = by (eqb m 0) refl e
  where
    by : (p : Bool) → eqb m 0 ≡ p → cond p None (Some m) ≡ Some n → 0 < n
    by true p h = absurd cc
    by false p h = let k : m ≡ n = cc in let z = eqb-false m 0 p in omega (arith, z)

step_fit : (o : Option (List ℕ)) (n : ℕ) → step_of o ≡ Some n → 0 < n
step_fit None n e = let k : 1 ≡ n = cc in omega arith
step_fit (Some text) n e = positive_fits (number_of text) n e

abbrev made : Column → Result Column SchemaWhy
made c = Ok c

is_made : (c d : Column) → made c ≡ made d → c ≡ d
is_made c d e = cc

parts_of : (named : Bool) (b s t : Option ℕ) (name : List ℕ) (c : Column)
    → (guard named Name >>= λ _. ok_or b Bits >>= λ bits. ok_or s Start >>= λ start. ok_or t Step >>= λ step. made (record { name = name; bits = bits; start = start; step = step })) ≡ made c
    → (b ≡ Some c.bits) × (t ≡ Some c.step)
parts_of false b s t name c e = absurd cc
parts_of true None s t name c e = absurd cc
parts_of true (Some b) None t name c e = absurd cc
parts_of true (Some b) (Some s) None name c e = absurd cc
parts_of true (Some b) (Some s) (Some t) name c e =
    let same = is_made (record { name = name; bits = b; start = s; step = t }) c e in
    (ap (λ (d : Column). Some d.bits) same, ap (λ (d : Column). Some d.step) same)

pub column_fits : (piece : List ℕ) (c : Column) → column_of piece ≡ Ok c → IsColumn c
unfolding column_of
column_fits piece c e =
    let p = parts_of _ _ _ _ _ c e in
    let b = bits_fit _ c.bits p.0 in
    (b.0, b.1, step_fit _ c.step p.1)

-- ---- a step of the loop

pub step_on : (columns grown : List Column) (bytes front : List ℕ) (after : Option (List ℕ)) (c : Column) (whole : Result (List Column) SchemaFault)
    → front ≡ (cut_at 44 bytes).0 → after ≡ (cut_at 44 bytes).1 → column_of front ≡ Ok c → has_name c.name columns ≡ false → grown ≡ columns ++ c ∷ []
    → columns_from columns (pieces 44 bytes) ≡ whole → columns_from grown (pieces_left 44 after) ≡ whole
step_on columns grown bytes front after c whole f a read fresh g so_far =
    rw (g, a) (good_piece columns bytes c (rw f at read) fresh ∙ so_far)

pub step_fewer : (columns grown : List Column) (bytes : List ℕ) (after : Option (List ℕ)) (c : Column)
    → after ≡ (cut_at 44 bytes).1 → grown ≡ columns ++ c ∷ [] → length grown + length (pieces_left 44 after) ≡ length columns + length (pieces 44 bytes)
step_fewer columns grown bytes after c a g = rw (g, a) (omega (arith, pieces_fewer 44 bytes, length-append columns (c ∷ [])))

pub step_fits : (columns grown : List Column) (piece : List ℕ) (c : Column) → column_of piece ≡ Ok c → grown ≡ columns ++ c ∷ [] → All IsColumn columns → All IsColumn grown
step_fits columns grown piece c read g fit = rw g (All-push IsColumn columns c fit (column_fits piece c read))
