-- Variables that are visible at a place as far in as a row: locals, parameters, and fields of the types round it (JLS 6.3, 6.3.1, 6.5.6.1).
use Rattle.std.specs.Prelude.{◌≡◌, ℕ, true, List, length, Option, Some, None}
use Rattle.jr_base.specs.declared.text.Text.{Text}
use Rattle.jr_tree.specs.Rows.{Rows}
use Rattle.jr_defs.specs.declared.referent.Space.TheVariants as space
use Rattle.jr_defs.specs.Referents.{Table}
use Rattle.jr_defs.specs.Enclosing.{InBody}
use Rattle.jr_defs.specs.Scope.{within, InScope, Visible}
use Rattle.jr_defs.specs.Lookup.{VisibleThrough}
use Rattle.jr_plain.specs.Search.{has, Lists}
use Rattle.jr_members.specs.declared.declared.MemberKind.TheVariants as kind
use Rattle.jr_members.specs.Each.{ListsEach}
use Rattle.jr_members.specs.Held.{IsMemberAs}
use Rattle.jr_lookup.specs.Levels.{HasMemberAs}
use Rattle.jr_lookup.specs.Outward.{IsInnermostSuch}
use Rattle.jr_lookup.specs.Sights.{IsStaticAt}

-- what is found are the variables that are visible at the place, all with this level
pub record AreVisibleThrough (p : Rows) (t : Table) (x : Text) (o : ℕ) (found : List ℕ) (level : Option ℕ) : Type 0 where
  pub sound : (d : ℕ) (l : Option ℕ) → has found d ≡ true → l ≡ level → VisibleThrough p t space.Variable x o d l
  pub whole : (d : ℕ) (l : Option ℕ) → VisibleThrough p t space.Variable x o d l → (has found d ≡ true) × (l ≡ level)

-- they are where one is visible as far in as a row, and so no imported one is; where nothing is found none is in scope so
pub record AreVariablesWithin (p : Rows) (t : Table) (x : Text) (o : ℕ) (found : List ℕ) (level : Option ℕ) : Type 0 where
  pub are : (d s : ℕ) → Visible p t space.Variable x o d (within s) → AreVisibleThrough p t x o found level
  pub none : length found ≡ 0 → (d s : ℕ) → InScope p t space.Variable x o d (within s) → ⊥

-- the fields with the number x of the innermost type round the place that has any; where nothing is found none has
pub record AreFieldsAt (p : Rows) (t : Table) (o x : ℕ) (found : List ℕ) (level : Option ℕ) : Type 0 where
  pub are : (c : ℕ) → IsInnermostSuch p (HasMemberAs p t kind.Field x) o c → ListsEach found (IsMemberAs p t kind.Field c x) × (level ≡ Some c)
  pub none : length found ≡ 0 → (c : ℕ) → InBody p c o → HasMemberAs p t kind.Field x c → ⊥

-- where no type round the place has such a field, those that static imports bring
pub record AreStaticFar (p : Rows) (t : Table) (o x : ℕ) (found : List ℕ) (level : Option ℕ) : Type 0 where
  pub are : ((c : ℕ) → InBody p c o → HasMemberAs p t kind.Field x c → ⊥) → Lists found (IsStaticAt p t kind.Field o x) × (level ≡ None)
