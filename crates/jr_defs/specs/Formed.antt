-- What rows of a program have besides being those of a tree: which rows stand below which.
use Rattle.std.specs.Prelude.{◌≡◌, ◌⊎◌, ℕ, ◌+◌, ◌<◌, Bool, true, false, Option, Some, None}
use Rattle.jr_tree.specs.declared.label.Label.{Label}
use Rattle.jr_tree.specs.declared.label.Label.TheVariants as is
use Rattle.jr_tree.specs.declared.label.ImportKind.{ImportKind}
use Rattle.jr_tree.specs.declared.label.NameKind.{NameKind}
use Rattle.jr_tree.specs.declared.label.NameKind.TheVariants as kind
use Rattle.jr_tree.specs.declared.label.Sought.{Sought}
use Rattle.jr_tree.specs.declared.label.Sought.TheVariants as sought
use Rattle.jr_tree.specs.Exprs.{left_kind}
use Rattle.jr_tree.specs.Rows.{Rows, label, parent, end, sought_at}
use Rattle.jr_tree.specs.Tree.{IsTree}
use Rattle.jr_defs.specs.Declarations.{IsType, IsObject}
use Rattle.jr_defs.specs.Enclosing.{InTopLevel, InBody, DeclaredIn}
use Rattle.jr_defs.specs.Headers.{NamesHeader, IsIdentifierOf}

-- a name that stands for a type, or is a qualifier of one
abbrev pub SeeksType : Sought → Type 0
SeeksType (sought.Simple kind.Type) = Unit {0}
SeeksType (sought.Simple kind.PackageOrType) = Unit {0}
SeeksType (sought.Qualified kind.Type) = Unit {0}
SeeksType (sought.Qualified kind.PackageOrType) = Unit {0}
SeeksType _ = ⊥

abbrev pub IsNameLabel : Label → Type 0
IsNameLabel (is.Name kind place is_qualified) = Unit {0}
IsNameLabel _ = ⊥

-- an identifier of a name of this kind
pub data SeeksKind (k : NameKind) : Sought → Type 0 where
  simple : SeeksKind k (sought.Simple k)
  qualified : SeeksKind k (sought.Qualified k)

-- labels whose first child, if they have one, is the name of a type
pub data NamesTypeFirst : Label → Type 0 where
  type_use : {dims : ℕ} → NamesTypeFirst (is.TypeUse None dims)
  created : NamesTypeFirst is.New
  array : {lengths extra : ℕ} → NamesTypeFirst (is.NewArray None lengths extra)
  this : NamesTypeFirst (is.This true)
  import : {form : ImportKind} → NamesTypeFirst (is.Import form)

pub record IsFormed (p : Rows) : Type 0 where
  pub tree : IsTree p
  pub header : (c n : ℕ) → NamesHeader p c n → IsType p c
  pub header_name : (c n : ℕ) → NamesHeader p c n → SeeksType (sought_at p n)
  pub first_name : (n : ℕ) → NamesTypeFirst (label p n) → SeeksType (sought_at p (n + 1))
  pub qualifier : (n : ℕ) (k : NameKind) → sought_at p n ≡ sought.Qualified k → SeeksKind (left_kind k) (sought_at p (n + 1))
  pub simple_leaf : (n : ℕ) (k : NameKind) → sought_at p n ≡ sought.Simple k → parent p (n + 1) ≡ n → ⊥
  pub name_below : (n m : ℕ) → IsNameLabel (label p n) → parent p m ≡ n → n < m → IsNameLabel (label p m)
  pub import_name : (i : ℕ) (form : ImportKind) → label p i ≡ is.Import form → i + 1 < end p i
  -- types stand behind imports, and not in them
  pub imports_apart : (i o k : ℕ) (form : ImportKind) → label p i ≡ is.Import form → i < o → o < end p i → InTopLevel p k o → ⊥
  pub import_outside : (i o e : ℕ) (form : ImportKind) → label p i ≡ is.Import form → i < o → o < end p i → InBody p e o → ⊥
  -- below the name of a type stand its qualifiers alone, and its first identifier stands last
  pub identifier : (n m : ℕ) → SeeksType (sought_at p n) → IsIdentifierOf p n m → SeeksType (sought_at p m)
  pub first_last : (n m : ℕ) (k : NameKind) → SeeksType (sought_at p n) → IsIdentifierOf p n m → sought_at p m ≡ sought.Simple k → end p n ≡ m + 1
  -- a header stands in the bodies that hold its type
  pub header_place : (c n m e : ℕ) → NamesHeader p c n → IsIdentifierOf p n m → InBody p e m → InBody p e c
  pub body_chain : (c e : ℕ) → IsType p c → InBody p e c → DeclaredIn p e c ⊎ ((f : ℕ) × DeclaredIn p f c × InBody p e f)
  -- Object names nothing in its header
  pub object_bare : (c n : ℕ) → IsObject p c → NamesHeader p c n → ⊥
