-- Which methods one may override, but for where they stand, and which it overrides with others between (JLS 8.4.8.1).
use Rattle.std.specs.Prelude.{◌≡◌, ◌⊎◌, ℕ, zero, suc, Bool, false, not, ◌&&◌, ◌||◌, List, [], ◌∷◌, ◌++◌, filter, length, nat_eq}
use Rattle.std.specs.Option.{option_map_or}
use Rattle.jr_tree.specs.Rows.{Rows}
use Rattle.jr_defs.specs.Referents.{Table}
use Rattle.jr_defs.specs.Modifiers.{IsPublic, IsProtected}
use Rattle.jr_defs.specs.Packages.{SamePackage}
use Rattle.jr_defs.specs.Overriding.{IsAboveMethod}
use Rattle.jr_plain.specs.Declarations.{is_interface}
use Rattle.jr_plain.specs.Enclosing.{declaring_type}
use Rattle.jr_plain.specs.Supertypes.{is_above}
use Rattle.jr_plain.specs.Modifiers.{is_public, is_private, is_static, is_in_interface}
use Rattle.jr_plain.specs.Overriding.{is_above_method, is_reachable}

-- m is an instance method and k is not private, where it is told whether they have one signature; where an interface declares m, k is public
abbrev pub may_override : Rows → ℕ → ℕ → Bool → Bool
may_override p m k same = same && not (is_static p m) && not (is_private p k) && (not (is_in_interface p m) || is_public p k)

-- a call of m finds m itself
abbrev pub is_fixed : Rows → ℕ → Bool
is_fixed p m = is_private p m || is_static p m

-- m overrides k without another between
abbrev pub overrides_directly : Rows → Table → ℕ → ℕ → Bool
overrides_directly p t m k = is_reachable p m k && is_above_method p t m k

pub record OverridesDirectly (p : Rows) (t : Table) (m k : ℕ) : Type 0 where
  pub above : IsAboveMethod p t m k
  pub reach : IsPublic p k ⊎ IsProtected p k ⊎ SamePackage p m k

-- an interface above the class declares the method
abbrev pub is_of_interface_above : Rows → Table → ℕ → ℕ → Bool
is_of_interface_above p t c m = option_map_or (λ i. is_interface p i && is_above p t c i) (declaring_type p m) false

-- ---- a search from number to number

-- those that one leads to, and the others
abbrev pub next_of : (ℕ → ℕ → Bool) → ℕ → List ℕ → List ℕ
next_of test x left = filter (λ y. test x y) left

abbrev pub others_of : (ℕ → ℕ → Bool) → ℕ → List ℕ → List ℕ
others_of test x left = filter (λ y. not (test x y)) left

-- those that one leads to stand behind the ones that are met, and the others behind the rest
pub record Divides (test : ℕ → ℕ → Bool) (x : ℕ) (left met more rest others : List ℕ) : Type 0 where
  pub first : more ≡ met ++ next_of test x left
  pub second : others ≡ rest ++ others_of test x left

-- the first of those that are left are divided, and the rest are not yet
pub record IsDividing (test : ℕ → ℕ → Bool) (x : ℕ) (left met more rest others todo : List ℕ) : Type 0 where
  pub first : more ++ next_of test x todo ≡ met ++ next_of test x left
  pub second : others ++ others_of test x todo ≡ rest ++ others_of test x left

-- k is one of those that are met, or one of those that are left to which they lead, in so many turns
abbrev pub is_led_to : (ℕ → ℕ → Bool) → ℕ → ℕ → List ℕ → List ℕ → Bool
is_led_to test k zero met left = false
is_led_to test k (suc turns) [] left = false
is_led_to test k (suc turns) (x ∷ met) left = nat_eq x k || is_led_to test k turns (met ++ next_of test x left) (others_of test x left)

-- the search from here on finds what that from the start does
pub record IsSearching (test : ℕ → ℕ → Bool) (m k : ℕ) (like met left : List ℕ) (turns : ℕ) : Type 0 where
  pub same : is_led_to test k turns met left ≡ is_led_to test k (length like) (next_of test m like) (others_of test m like)
