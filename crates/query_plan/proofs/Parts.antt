-- The parts of a shape that there are.
use Rattle.std.proofs.Common.{◌<◌, ℕ, All, sym, subst, arith}
use Rattle.std.proofs.lemmas.List.{get_or-take, length-take}
use Rattle.std.proofs.lemmas.List.Elements.{All-from_get_or}
use Rattle.table_schema.specs.declared.shapes.Part.{Part}
use Rattle.table_schema.specs.declared.shapes.Shape.{Shape}
use Rattle.table_schema.specs.declared.shapes.Kind.TheVariants.{Point}
use Rattle.query_plan.specs.KeyMessages.{HasColumn, part_at, parts_of}

-- each of them is on a column
pub all_there : (columns : ℕ) (shape : Shape) → ((j : ℕ) → j < shape.count → (part_at shape j).column < columns) → All (HasColumn columns) (parts_of shape)
all_there columns shape there =
    let none : Part = record { column = 0; kind = Point } in
    All-from_get_or (HasColumn columns) (parts_of shape) none
    (λ i h.
    let within : i < shape.count = omega (arith, h, length-take shape.count shape.parts) in
    subst (HasColumn columns) (sym (get_or-take shape.count shape.parts i none within)) (there i within))
