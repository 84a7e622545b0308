-- How a text is read from the left: steps that give a value or a fault.
use Rattle.std.specs.Prelude.{◌≡◌, ◌⊎◌, Bool, true, false, Result, Ok, Err}

infixl 10 ◌>>=◌
abbrev pub ◌>>=◌ : {A B E : Type 0} → Result A E → (A → Result B E) → Result B E
(Ok x) >>= f = f x
(Err e) >>= f = Err e

-- a test that has to hold
abbrev pub guard : {E : Type 0} → Bool → E → Result (Unit {0}) E
guard true e = Ok tt
guard false e = Err e

-- what a function gave, seen by view, is what reading gives
abbrev pub Reads : {X Y E : Type 0} → (X → Y) → Result X E → Result Y E → Type 0
Reads view (Ok x) read = read ≡ Ok (view x)
Reads view (Err e) read = read ≡ Err e

-- what a function gave that may run out of memory: that fault, or what reading gives
abbrev pub Gives : {X Y E : Type 0} → E → (X → Y) → Result X E → Result Y E → Type 0
Gives memory view (Ok x) read = read ≡ Ok (view x)
Gives memory view (Err e) read = (e ≡ memory) ⊎ (read ≡ Err e)
