-- An order of types, each behind its supertypes, as a test.
use Rattle.std.specs.Prelude.{◌≡◌, ℕ, Bool, true, not, ◌&&◌, ◌||◌, List, [], ◌∷◌, length, nat_eq}
use Rattle.jr_tree.specs.Rows.{Rows}
use Rattle.jr_defs.specs.Declarations.{IsInterface, IsObject}
use Rattle.jr_plain.specs.Search.{has}
use Rattle.jr_plain.specs.Declarations.{is_type, is_interface, is_object}
use Rattle.jr_places.specs.declared.chains.Entry.{Entry}
use Rattle.jr_places.specs.declared.stamps.Stamps.{Stamps}
use Rattle.jr_places.specs.Stamps.{is_stamped, IsStamping}
use Rattle.jr_supers.specs.Direct.{supers_in}
use Rattle.jr_supers.specs.Order.{IsSuperIn, IsOrderOf}

-- Object is a class without supertypes by these entries
abbrev pub ObjectIsTop : Rows → List Entry → Type 0
ObjectIsTop p supers = (c : ℕ) → IsObject p c → (IsInterface p c → ⊥) × ((s : ℕ) → IsSuperIn supers c s → ⊥)

pub record IsOrdered (p : Rows) (supers : List Entry) (order : List ℕ) : Type 0 where
  pub order_is : IsOrderOf p supers order
  pub top : ObjectIsTop p supers

-- ---- tests

abbrev pub is_passed : Rows → (ℕ → Bool) → ℕ → Bool
is_passed p passed n = not (is_type p n) || passed n

abbrev pub are_passed : Rows → (ℕ → Bool) → List ℕ → Bool
are_passed p passed [] = true
are_passed p passed (s ∷ more) = is_passed p passed s && are_passed p passed more

abbrev pub is_top : Rows → List ℕ → ℕ → Bool
is_top p all n = not (is_object p n) || (nat_eq (length all) 0 && not (is_interface p n))

abbrev pub is_behind : Rows → List Entry → (ℕ → Bool) → ℕ → Bool
is_behind p supers passed n = is_type p n && is_top p (supers_in supers n) n && are_passed p passed (supers_in supers n)

abbrev pub are_behind : Rows → List Entry → List ℕ → List ℕ → Bool
are_behind p supers done [] = true
are_behind p supers done (c ∷ more) = is_behind p supers (has done) c && are_behind p supers (c ∷ done) more

-- what the test of an order tells, and those of the order are in the set where it holds
pub record Passes (p : Rows) (supers : List Entry) (order : List ℕ) (is : Bool) (passed : Stamps) : Type 0 where
  pub told : is ≡ are_behind p supers [] order
  pub in_set : is ≡ true → (n : ℕ) → is_stamped passed n ≡ has order n

-- these were passed, and what is left is told as all is
pub record IsPassing (p : Rows) (supers : List Entry) (order : List ℕ) (passed : Stamps) (left : List ℕ) : Type 0 where
  pub done : List ℕ
  pub counted : IsStamping passed (length p)
  pub in_set : (n : ℕ) → is_stamped passed n ≡ has done n
  pub all : (n : ℕ) → (has done n || has left n) ≡ has order n
  pub rest : are_behind p supers done left ≡ are_behind p supers [] order
