-- What it means that plain data and values of the program are the same things.
use Rattle.std.specs.Prelude.{◌≡◌}

-- values that are seen alike are equal
abbrev pub IsOneToOne : {A B : Type 0} → (A → B) → Type 0
IsOneToOne {A} view = (a b : A) → view a ≡ view b → a ≡ b

-- all plain data is what some value is seen as
abbrev pub IsOnto : {A B : Type 0} → (A → B) → Type 0
IsOnto {A} {B} view = (b : B) → (a : A) × (view a ≡ b)
