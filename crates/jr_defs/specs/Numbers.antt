-- The numbers of units, nodes, declarations and occurrences that rows stand for, and the tables of a program by those numbers.
use Rattle.std.specs.Prelude.{◌≡◌, ◌⊎◌, ℕ, zero, suc, ◌+◌, ◌-◌, ◌<◌, Bool, List, [], ◌∷◌, Option, Some, None, if◌then◌else◌, Contains}
use Rattle.jr_base.specs.declared.ids.DeclId.{DeclId}
use Rattle.jr_base.specs.declared.ids.OccId.{OccId}
use Rattle.jr_base.specs.declared.ids.NodeAt.{NodeAt}
use Rattle.jr_base.specs.declared.ids.TypeId.{TypeId}
use Rattle.jr_tree.specs.declared.label.Label.{Label}
use Rattle.jr_tree.specs.declared.label.Label.TheVariants as is
use Rattle.jr_tree.specs.declared.label.NamePlace.{NamePlace}
use Rattle.jr_tree.specs.declared.label.NamePlace.TheVariants as place
use Rattle.jr_tree.specs.Rows.{Rows, label, parent, end, nodes_before}
use Rattle.jr_defs.specs.declared.referent.Referent.{Referent}
use Rattle.jr_defs.specs.declared.referent.Referent.TheVariants as r
use Rattle.jr_defs.specs.declared.table.Target.{Target}
use Rattle.jr_defs.specs.declared.table.Target.TheVariants as target
use Rattle.jr_defs.specs.Referents.{Table}
use Rattle.jr_defs.specs.Declarations.{IsType, IsOccurrence, IsPart}
use Rattle.jr_defs.specs.Packages.{InUnit}

-- how many units begin in the first n rows; this is the number of the unit that begins there
abbrev pub one_if_unit : Label → ℕ
one_if_unit is.Unit = 1
one_if_unit _ = 0

abbrev pub units_before : Rows → ℕ → ℕ
units_before p zero = 0
units_before p (suc n) = units_before p n + one_if_unit (label p n)

-- of the nodes that a row stands for, which is that of its declaration or occurrence
abbrev pub name_offset : NamePlace → ℕ
name_offset place.Expression = 1
name_offset place.Receiver = 1
name_offset _ = 0

abbrev pub offset : Label → ℕ
offset (is.Name kind at is_qualified) = name_offset at
offset (is.Class modifiers is_member) = if is_member then 1 else 0
offset (is.Interface modifiers is_member) = if is_member then 1 else 0
offset _ = 0

-- a default constructor has the number of its class, the call of super() that of its constructor
abbrev pub numbered_by : Label → Rows → ℕ → ℕ
numbered_by is.DefaultConstructor p n = parent p (parent p n)
numbered_by _ p n = n

abbrev pub numbered_at : Label → Rows → ℕ → ℕ
numbered_at is.DefaultConstructor p n = parent p (parent p n)
numbered_at is.ImplicitCall p n = numbered_by (label p (parent p n)) p (parent p n)
numbered_at _ p n = n

-- how many nodes stand before that of the row; a qualifier belongs to the name that was begun last
abbrev pub nodes_to_by : Label → Rows → ℕ → ℕ
nodes_to_by (is.Name kind place.Qualifier is_qualified) p n = nodes_before p n - 1
nodes_to_by other p n = nodes_before p n + offset other

abbrev pub nodes_to : Rows → ℕ → ℕ
nodes_to p n = nodes_to_by (label p n) p n

-- the unit and the node of the row
pub record IsNodeAt (p : Rows) (n : ℕ) (at : NodeAt) : Type 0 where
  pub unit : ℕ
  pub holds : InUnit p unit n
  pub in_unit : at.cu.0 ≡ units_before p unit
  pub is_node : at.node.0 + nodes_before p unit ≡ nodes_to p (numbered_at (label p n) p n)

abbrev pub declaration_part : Label → ℕ
declaration_part is.DefaultConstructor = 1
declaration_part _ = 0

-- the declaration that the row is
pub record IsDeclaration (p : Rows) (d : ℕ) (decl : DeclId) : Type 0 where
  pub node : IsNodeAt p d decl.at
  pub part_is : decl.part ≡ declaration_part (label p d)

pub record IsTypeId (p : Rows) (c : ℕ) (id : TypeId) : Type 0 where
  pub type : IsType p c
  pub declaration : IsDeclaration p c id.0

-- identifiers of a name are counted from its first, so by those that stand below
abbrev pub occurrence_part : Label → Rows → ℕ → ℕ
occurrence_part (is.Name kind at is_qualified) p o = end p o - (o + 1)
occurrence_part is.ImplicitCall p o = 1
occurrence_part _ p o = 0

-- the occurrence that the row is
pub record IsOccurrenceId (p : Rows) (o : ℕ) (occ : OccId) : Type 0 where
  pub occurs : IsOccurrence p o
  pub node : IsNodeAt p o occ.at
  pub part_is : occ.part ≡ occurrence_part (label p o) p o

pub data IsLevel (p : Rows) : Option ℕ → Option TypeId → Type 0 where
  none : IsLevel p None None
  some : {c : ℕ} {id : TypeId} → IsTypeId p c id → IsLevel p (Some c) (Some id)

-- what the row o refers to, by the numbers of nodes; packages and types inside a longer reference are parts of it
pub data IsTarget (p : Rows) (t : Table) (o : ℕ) : Target → Type 0 where
  unbound : t o ≡ r.Unbound → IsTarget p t o target.Unbound
  ambiguous : t o ≡ r.Ambiguous → IsTarget p t o target.Ambiguous
  array_length : t o ≡ r.ArrayLength → IsTarget p t o target.ArrayLength
  whole_package : t o ≡ r.Package → (IsPart p t o → ⊥) → IsTarget p t o target.Package
  package_part : t o ≡ r.Package → IsPart p t o → IsTarget p t o target.PackagePart
  type_part : {d : ℕ} {level : Option ℕ} {id : TypeId} → t o ≡ r.Declared d level → IsPart p t o → IsTypeId p d id → IsTarget p t o (target.TypePart id)
  declared : {d : ℕ} {level : Option ℕ} {decl : DeclId} {through : Option TypeId} → t o ≡ r.Declared d level → (IsPart p t o → ⊥) → IsDeclaration p d decl
      → IsLevel p level through → IsTarget p t o (target.Decl decl through)

-- the targets are those of the table, one for each occurrence
pub record AreTargets (p : Rows) (t : Table) (targets : List (OccId × Target)) : Type 0 where
  pub every : (o : ℕ) → IsOccurrence p o → (occ : OccId) × (a : Target) × IsOccurrenceId p o occ × IsTarget p t o a × Contains targets (occ, a)
  pub only : (occ : OccId) (a : Target) → Contains targets (occ, a) → (o : ℕ) × IsOccurrenceId p o occ × IsTarget p t o a

-- occurrences by their units, then by their nodes, then by their parts; so the call in a default constructor, which is numbered by its class,
-- comes before the names of the header of that class, and its row comes after theirs
abbrev pub ComesBefore : OccId → OccId → Type 0
ComesBefore a b = (a.at.cu.0 < b.at.cu.0) ⊎ ((a.at.cu.0 ≡ b.at.cu.0) × (a.at.node.0 < b.at.node.0))
    ⊎ ((a.at ≡ b.at) × (a.part < b.part))

pub data AreRising : List (OccId × Target) → Type 0 where
  none : AreRising []
  last : {e : OccId × Target} → AreRising (e ∷ [])
  more : {e f : OccId × Target} {es : List (OccId × Target)} → ComesBefore e.0 f.0 → AreRising (f ∷ es) → AreRising (e ∷ (f ∷ es))

-- the table of bindings of the program
pub record IsTableOf (p : Rows) (t : Table) (targets : List (OccId × Target)) : Type 0 where
  pub are : AreTargets p t targets
  pub rising : AreRising targets
