-- Methods that keep the rules over those of their signature right above them, and so over all (JLS 8.4.3.3, 8.4.5, 8.4.6, 8.4.8).
use Rattle.std.specs.Prelude.{◌≡◌, ◌⊎◌, ℕ, ◌<◌, Bool, true, false, not, ◌&&◌, ◌||◌, codes, List, Some}
use Rattle.jr_tree.specs.declared.label.Role.TheVariants as role
use Rattle.jr_tree.specs.Rows.{Rows, label, role_at}
use Rattle.jr_defs.specs.Referents.{Table}
use Rattle.jr_defs.specs.Declarations.{IsObject, IsPrelude}
use Rattle.jr_defs.specs.Enclosing.{DeclaredIn}
use Rattle.jr_defs.specs.Modifiers.{written}
use Rattle.jr_defs.specs.Supertypes.{Super, Above, AtOrAbove}
use Rattle.jr_defs.specs.Members.{SameMethods}
use Rattle.jr_defs.specs.MemberRules.{RedefinesMethod, Throws}
use Rattle.jr_plain.specs.Search.{has}
use Rattle.jr_plain.specs.Types.{is_same_signature}
use Rattle.jr_plain.specs.Overloads.{is_result_fit}
use Rattle.jr_places.specs.declared.chains.Entry.{Entry}
use Rattle.jr_members.specs.declared.members.World.{World}
use Rattle.jr_members.specs.Held.{Holds}
use Rattle.jr_members.specs.Keys.{signature_number}
use Rattle.jr_member_rules.specs.Redefining.{is_narrower}
use Rattle.jr_member_rules.specs.Throwing.{declares_more}
use Rattle.jr_member_faults.specs.Descent.{InterfacesStandBelowInterfaces, GoesDown, IsUnder}
use Rattle.jr_member_faults.specs.Redefined.{are_mixed}
use Rattle.jr_member_faults.specs.Views.{rows_of, table_of}

-- ---- one method over another

-- by its result, its access and its modifiers
abbrev pub breaks_form : Rows → Table → ℕ → ℕ → Bool
breaks_form p t m k = ((not (is_result_fit p t m k) || is_narrower p m k) || are_mixed p m k) || (written (label p k)).is_final

-- m breaks one of the rules 15 to 19 over k, if it overrides or hides k
abbrev pub breaks : Rows → Table → ℕ → ℕ → Bool
breaks p t m k = breaks_form p t m k || declares_more p t m k

abbrev pub Keeps : Rows → Table → ℕ → ℕ → Type 0
Keeps p t m k = breaks p t m k ≡ false

-- the same, of methods of one signature
abbrev pub breaks_same : Rows → Table → ℕ → ℕ → Bool
breaks_same p t m k = is_same_signature p t m k && breaks p t m k

-- ---- over those right above

-- m keeps the rules over the members of s that have its signature
abbrev pub KeepsAt : Rows → Table → ℕ → ℕ → Type 0
KeepsAt p t m s = (k : ℕ) → Holds p t s k → SameMethods p t m k → Keeps p t m k

-- the same, of the types of a list, and of the direct supertypes of c
abbrev pub KeepsAtAll : Rows → Table → ℕ → List ℕ → Type 0
KeepsAtAll p t m overs = (s : ℕ) → has overs s ≡ true → KeepsAt p t m s

abbrev pub KeepsRightAbove : Rows → Table → ℕ → ℕ → Type 0
KeepsRightAbove p t m c = (s : ℕ) → Super p t c s → KeepsAt p t m s

-- m keeps the rules over those that o declares, if that stands above c
abbrev pub KeepsAtObject : Rows → Table → ℕ → ℕ → ℕ → Type 0
KeepsAtObject p t m c o = Above p t c o → (k : ℕ) → DeclaredIn p o k → SameMethods p t m k → Keeps p t m k

abbrev pub KeepsOverObject : Rows → Table → ℕ → ℕ → Type 0
KeepsOverObject p t m c = (o : ℕ) → IsObject p o → KeepsAtObject p t m c o

-- m, a method of c, keeps the rules over those right above
pub record KeepsIn (p : Rows) (t : Table) (m c : ℕ) : Type 0 where
  pub near : KeepsRightAbove p t m c
  pub object : KeepsOverObject p t m c

abbrev pub KeepsAbove : Rows → Table → ℕ → Type 0
KeepsAbove p t m = (c : ℕ) → DeclaredIn p c m → KeepsIn p t m c

-- each class that m declares is Throwable or below it
abbrev pub ThrowsThrowables : Rows → Table → ℕ → Type 0
ThrowsThrowables p t m = (n c : ℕ) → Throws p t m n c → (s : ℕ) × IsPrelude p (codes "Throwable") s × AtOrAbove p t c s

-- m goes down to the types below its own, throws what may be thrown, and keeps the rules over those right above
pub record KeepsNear (p : Rows) (t : Table) (m : ℕ) : Type 0 where
  pub interfaces : InterfacesStandBelowInterfaces p t
  pub down : GoesDown p t m
  pub throws : ThrowsThrowables p t m
  pub above : KeepsAbove p t m

-- ---- the table

-- m is a method whose signature has the number x
pub record IsSigned (world : World) (m x : ℕ) : Type 0 where
  pub method : role_at (rows_of world) m ≡ role.Method
  pub number : signature_number world.members.now.callables.signatures m ≡ Some x

-- the methods of signatures that are not set apart do so
abbrev pub AreKept : World → List Entry → Type 0
AreKept world apart = (m x : ℕ) → IsSigned world m x → (IsUnder apart x → ⊥) → KeepsNear (rows_of world) (table_of world) m

-- those of the rows below n
abbrev pub AreKeptTo : World → ℕ → List Entry → Type 0
AreKeptTo world n apart = (m x : ℕ) → m < n → IsSigned world m x → (IsUnder apart x → ⊥) → KeepsNear (rows_of world) (table_of world) m

-- what was set apart is so still, and the signature of the row n, if it is a method that is not known to do so
pub record SetsApart (world : World) (n : ℕ) (old new : List Entry) : Type 0 where
  pub kept : (x : ℕ) → IsUnder old x → IsUnder new x
  pub told : (x : ℕ) → IsSigned world n x → (IsUnder new x → ⊥) → KeepsNear (rows_of world) (table_of world) n

-- the same, of a method whose signature has the number x
pub record SetsNumberApart (world : World) (x n : ℕ) (old new : List Entry) : Type 0 where
  pub kept : (y : ℕ) → IsUnder old y → IsUnder new y
  pub told : (IsUnder new x → ⊥) → KeepsNear (rows_of world) (table_of world) n

-- the signature of m has a number that is not set apart
abbrev pub IsKept : World → List Entry → ℕ → Type 0
IsKept world apart m = (x : ℕ) × (signature_number world.members.now.callables.signatures m ≡ Some x) × (IsUnder apart x → ⊥)

-- ---- what is enough

-- these are overridden or hidden by m, and over all others that are it breaks no rule
pub record AreTelling (p : Rows) (t : Table) (m : ℕ) (all : List ℕ) : Type 0 where
  pub part : (k : ℕ) → has all k ≡ true → RedefinesMethod p t m k
  pub rest : (k : ℕ) → RedefinesMethod p t m k → (has all k ≡ true) ⊎ Keeps p t m k
