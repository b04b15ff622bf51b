-- There and back, through an option or a list.
use Rattle.std.proofs.Common.{◌≡◌, refl, List, [], ◌∷◌, map, Option, Some, None}
use Rattle.std.specs.Option.{option_map}

pub round_option : {A B : Type 0} (f : A → B) (g : B → A) → ((b : B) → f (g b) ≡ b) → (o : Option B) → option_map f (option_map g o) ≡ o
round_option f g back None = refl
round_option f g back (Some b) = rw (back b) refl

pub round_list : {A B : Type 0} (f : A → B) (g : B → A) → ((b : B) → f (g b) ≡ b) → (all : List B) → map f (map g all) ≡ all
round_list f g back [] = refl
round_list f g back (b ∷ all) = rw (back b, round_list f g back all) refl
