-- The words of a query's key message.
use Rattle.std.proofs.Common.{◌≡◌, refl, sym, ap, ℕ, ◌+◌, ◌*◌, ◌^◌, ◌≤◌, List, [], ◌∷◌, get_or, length, arith}
use Rattle.std.specs.Prelude.{sum_by}
use Rattle.std.proofs.lemmas.List.{length-take}
use Rattle.std.proofs.lemmas.List.Sums.{sum_by-cons}
use Rattle.query_plan.specs.KeyMessages.{message_length, part_length, parts_of}
use Rattle.query_plan.specs.PredicateKeys.{length_of}
use Rattle.query_plan.specs.Query.{Suits, shaped}
use Rattle.query_plan.specs.declared.query.Query.{Query}
use Rattle.table_schema.specs.Widths.{column_bits}
use Rattle.table_schema.specs.declared.shapes.Kind.{Kind}
use Rattle.table_schema.specs.declared.shapes.Kind.TheVariants.{Point, AtMost, Interval}
use Rattle.table_schema.specs.declared.shapes.Part.{Part}
use Rattle.table_schema.specs.declared.widths.Widths.{Widths}
use Rattle.waldo_run.proofs.Bits.{same_bits, small}

-- the columns past those that there are have no bits
same_part : (w : Widths) (p : Part) → part_length w.bits p ≡ part_length (column_bits w) p
same_part w p = ap (length_of p.kind) (sym (same_bits w p.column))

same_parts : (w : Widths) (ps : List Part) → sum_by (part_length w.bits) ps ≡ sum_by (part_length (column_bits w)) ps
same_parts w [] = refl
same_parts w (p ∷ ps) =
    omega (arith, sum_by-cons (part_length w.bits) p ps, sum_by-cons (part_length (column_bits w)) p ps, same_part w p, same_parts w ps)

pub same_words : (w : Widths) (query : Query) → message_length (shaped query) w.bits ≡ message_length (shaped query) (column_bits w)
same_words w query = ap (λ (n : ℕ). 4 + 2 * (2 * n)) (same_parts w (parts_of (shaped query)))

-- the key of a part over at most 8 bits, and those of four parts
few_of : (kind : Kind) (bits : ℕ) → bits ≤ 8 → length_of kind bits ≤ 70
few_of Point bits h = omega (arith, h)
few_of AtMost bits h = omega (arith, h)
few_of Interval bits h = omega (arith, h)

few_parts : (w : Widths) (ps : List Part) → sum_by (part_length w.bits) ps ≤ 70 * length ps
few_parts w [] = omega arith
few_parts w (p ∷ ps) =
    omega (arith, sum_by-cons (part_length w.bits) p ps, few_of p.kind (get_or w.bits p.column 0) (small w p.column), few_parts w ps)

pub few_words : (w : Widths) (query : Query) → Suits w.columns w.bits query → message_length (shaped query) w.bits ≤ 2 ^ 16
few_words w query suits =
    let parts : List Part = parts_of (shaped query) in
    let four : length parts ≤ 4 = omega (arith, length-take query.count (shaped query).parts, suits.few) in
    omega (arith, few_parts w parts, four)
