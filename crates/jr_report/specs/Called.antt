-- The methods whose calls may run a method, as they are gathered.
use Rattle.std.specs.Prelude.{◌≡◌, ◌⊎◌, ℕ, ◌<◌, Bool, true, not, ◌&&◌, List, length, Decides, codes}
use Rattle.jr_tree.specs.declared.label.Role.TheVariants as role
use Rattle.jr_tree.specs.Rows.{Rows, name, role_at}
use Rattle.jr_defs.specs.Referents.{Table}
use Rattle.jr_defs.specs.Enclosing.{DeclaredIn}
use Rattle.jr_defs.specs.Overriding.{Dispatches}
use Rattle.jr_plain.specs.Declarations.{is_class}
use Rattle.jr_plain.specs.Modifiers.{is_in_interface}
use Rattle.jr_plain.specs.Search.{has, Lists}
use Rattle.jr_places.specs.declared.stamps.Stamps.{Stamps}
use Rattle.jr_places.specs.Stamps.{is_stamped, IsStamping}
use Rattle.jr_report.specs.Calls.{IsToString, MayRun}

-- a call of k finds m in some class
pub record IsFound (p : Rows) (t : Table) (k m : ℕ) : Type 0 where
  pub class : ℕ
  pub finds : Dispatches p t class k m

-- a class declares m, and no interface declares k
abbrev pub is_by_class : Rows → ℕ → ℕ → Bool
is_by_class p b k = is_class p b && not (is_in_interface p k)

-- in one of these
pub record IsFoundAmong (p : Rows) (t : Table) (classes : List ℕ) (k m : ℕ) : Type 0 where
  pub class : ℕ
  pub among : has classes class ≡ true
  pub finds : Dispatches p t class k m

-- it tells whether a call of another method finds m in some class
pub record TellsFound (p : Rows) (t : Table) (k m : ℕ) (is : Bool) : Type 0 where
  pub sound : is ≡ true → IsFound p t k m
  pub told : IsFound p t k m → (is ≡ true) ⊎ (k ≡ m)

-- the list has all methods of the name of m that types declare
pub record AreOfName (p : Rows) (m : ℕ) (all : List ℕ) : Type 0 where
  pub methods : (k : ℕ) → has all k ≡ true → role_at p k ≡ role.Method
  pub told : (k c : ℕ) → role_at p k ≡ role.Method → DeclaredIn p c k → name p k ≡ name p m → has all k ≡ true

-- m is stamped, and nothing else
pub record IsStampedAlone (p : Rows) (m : ℕ) (called : Stamps) : Type 0 where
  pub counted : IsStamping called (length p)
  pub own : is_stamped called m ≡ true
  pub only : (k : ℕ) → is_stamped called k ≡ true → m ≡ k

-- m is stamped, and methods whose calls find it: all of these but the rest
pub record IsGathering (p : Rows) (t : Table) (m : ℕ) (called : Stamps) (rest : List ℕ) : Type 0 where
  pub counted : IsStamping called (length p)
  pub own : is_stamped called m ≡ true
  pub sound : (k : ℕ) → is_stamped called k ≡ true → MayRun p t k m
  pub told : (k : ℕ) → IsFound p t k m → (is_stamped called k ≡ true) ⊎ (has rest k ≡ true)

-- the number at is stamped now, if it is such
pub record StampsIf (bound at : ℕ) (is : Bool) (old new : Stamps) : Type 0 where
  pub counted : IsStamping new bound
  pub out : (k : ℕ) → is_stamped new k ≡ true → (is_stamped old k ≡ true) ⊎ ((is ≡ true) × (at ≡ k))
  pub kept : (k : ℕ) → is_stamped old k ≡ true → is_stamped new k ≡ true
  pub added : at < bound → is ≡ true → is_stamped new at ≡ true

-- the stamped are those whose calls may run m
abbrev pub AreCalledAs : Rows → Table → ℕ → Stamps → Type 0
AreCalledAs p t m called = (k : ℕ) → Decides (is_stamped called k) (MayRun p t k m)

-- `toString` of Object is stamped
pub record IsShowing (p : Rows) (called : Stamps) : Type 0 where
  pub method : ℕ
  pub is : IsToString p method
  pub stamped : is_stamped called method ≡ true

-- it has the name `toString`, and is stamped
pub record IsNamedStamp (p : Rows) (called : Stamps) (k : ℕ) : Type 0 where
  pub stamped : is_stamped called k ≡ true
  pub named : name p k ≡ codes "toString"

-- one of the list has it, and is
pub record HasNamedStamp (p : Rows) (called : Stamps) (all : List ℕ) : Type 0 where
  pub method : ℕ
  pub among : has all method ≡ true
  pub is : IsNamedStamp p called method

-- the list has the methods that the type declares
abbrev pub AreDeclaredBy : Rows → ℕ → List ℕ → Type 0
AreDeclaredBy p c all = Lists all (λ k. (role_at p k ≡ role.Method) × DeclaredIn p c k)
