-- Members of the types round a place, from the innermost outwards (JLS 6.3, 15.12.1).
use Rattle.std.specs.Prelude.{◌≡◌, ℕ, List, [], Option, Some, None}
use Rattle.jr_tree.specs.Rows.{Rows}
use Rattle.jr_defs.specs.Referents.{Table}
use Rattle.jr_members.specs.declared.declared.MemberKind.{MemberKind}
use Rattle.jr_members.specs.declared.declared.MemberKind.TheVariants as kind
use Rattle.jr_members.specs.Each.{ListsEach}
use Rattle.jr_members.specs.Held.{IsMemberAs}
use Rattle.jr_lookup.specs.Outward.{IsInnermostSuch}

-- the type c has a member of the kind, whose name has this number
pub record HasMemberAs (p : Rows) (t : Table) (kind : MemberKind) (x c : ℕ) : Type 0 where
  pub some : ℕ
  pub is : IsMemberAs p t kind c x some

-- a field is found through the type that it is a member of
abbrev pub level_by : MemberKind → ℕ → Option ℕ
level_by kind.Field c = Some c
level_by _ c = None

-- the members of the innermost type round the place that has any of the kind and name, each once, with their level
pub record AreMembersAround (p : Rows) (t : Table) (kind : MemberKind) (o x : ℕ) (found : List ℕ) (level : Option ℕ) : Type 0 where
  pub some : (c : ℕ) → IsInnermostSuch p (HasMemberAs p t kind x) o c → ListsEach found (IsMemberAs p t kind c x) × (level ≡ level_by kind c)
  pub none : ((c : ℕ) → IsInnermostSuch p (HasMemberAs p t kind x) o c → ⊥) → (found ≡ []) × (level ≡ None)
