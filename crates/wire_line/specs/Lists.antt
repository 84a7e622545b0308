-- Lists of wires, and whose count of alterations rose.
use Rattle.std.specs.Prelude.{ℕ, zero, suc, ◌⊎◌, List, [], ◌∷◌}
use Rattle.wire_line.specs.Sights.{Sight, HasAltered}

-- the count of alterations of one of the wires rose
abbrev pub SomeRose : {W : Type 0} → Sight W → List W → List W → Type 0
SomeRose sight [] ws = ⊥
SomeRose sight (v ∷ vs) [] = ⊥
SomeRose sight (v ∷ vs) (w ∷ ws) = HasAltered sight v w ⊎ SomeRose sight vs ws

-- the count of the wire with this number rose
abbrev pub RoseAt : {W : Type 0} → Sight W → ℕ → List W → List W → Type 0
RoseAt sight number [] ws = ⊥
RoseAt sight number (v ∷ vs) [] = ⊥
RoseAt sight zero (v ∷ vs) (w ∷ ws) = HasAltered sight v w
RoseAt sight (suc number) (v ∷ vs) (w ∷ ws) = RoseAt sight number vs ws
