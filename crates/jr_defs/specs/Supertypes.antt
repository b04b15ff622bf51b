-- Supertypes and subtyping (JLS 8.1.4, 8.1.5, 9.1.3, 4.10).
use Rattle.std.specs.Prelude.{◌≡◌, ◌⊎◌, ℕ, suc, ◌+◌, ◌<◌, Bool, Option}
use Rattle.jr_tree.specs.declared.label.Label.{Label}
use Rattle.jr_tree.specs.declared.label.Label.TheVariants as is
use Rattle.jr_tree.specs.declared.label.NamePlace.TheVariants as place
use Rattle.jr_tree.specs.Rows.{Rows, label, parent}
use Rattle.jr_defs.specs.declared.referent.Element.{Element}
use Rattle.jr_defs.specs.declared.referent.Element.TheVariants as element
use Rattle.jr_defs.specs.declared.referent.RowType.{RowType}
use Rattle.jr_defs.specs.declared.referent.Referent.TheVariants.{Declared}
use Rattle.jr_defs.specs.Referents.{Table}
use Rattle.jr_defs.specs.Declarations.{IsType, IsClass, IsInterface, IsObject}
use Rattle.jr_defs.specs.Types.{array, plain, class_type}

abbrev pub IsSuperclassLabel : Label → Type 0
IsSuperclassLabel (is.Name kind place.Superclass is_qualified) = Unit {0}
IsSuperclassLabel _ = ⊥

abbrev pub IsSuperinterfaceLabel : Label → Type 0
IsSuperinterfaceLabel (is.Name kind place.Superinterface is_qualified) = Unit {0}
IsSuperinterfaceLabel _ = ⊥

-- the row n is the superclass of c by its name, or one of its superinterfaces
pub record NamesSuperclass (p : Rows) (c n : ℕ) : Type 0 where
  pub names : IsSuperclassLabel (label p n)
  pub inside : parent p n ≡ c

pub record NamesSuperinterface (p : Rows) (c n : ℕ) : Type 0 where
  pub names : IsSuperinterfaceLabel (label p n)
  pub inside : parent p n ≡ c

-- a class that names no superclass has Object; Object itself has none (JLS 8.1.4)
pub record HasImpliedSuperclass (p : Rows) (c : ℕ) : Type 0 where
  pub class : IsClass p c
  pub unnamed : (n : ℕ) → NamesSuperclass p c n → ⊥
  pub below : IsObject p c → ⊥

-- a direct supertype s of c, in the order of the rows n: the superclass first, then the superinterfaces as written
pub data SuperAt (p : Rows) (t : Table) (c : ℕ) : ℕ → ℕ → Type 0 where
  class : {n s : ℕ} {level : Option ℕ} → NamesSuperclass p c n → t n ≡ Declared s level → SuperAt p t c n s
  implied : {s : ℕ} → HasImpliedSuperclass p c → IsObject p s → SuperAt p t c c s
  interface : {n s : ℕ} {level : Option ℕ} → NamesSuperinterface p c n → t n ≡ Declared s level → SuperAt p t c n s

pub record Super (p : Rows) (t : Table) (c s : ℕ) : Type 0 where
  pub place : ℕ
  pub at : SuperAt p t c place s

-- the superclass
pub data Superclass (p : Rows) (t : Table) (c : ℕ) : ℕ → Type 0 where
  named : {n s : ℕ} {level : Option ℕ} → NamesSuperclass p c n → t n ≡ Declared s level → Superclass p t c s
  implied : {s : ℕ} → HasImpliedSuperclass p c → IsObject p s → Superclass p t c s

-- s is strictly above c; Object is above every interface too (JLS 4.10.2)
pub data Above (p : Rows) (t : Table) : ℕ → ℕ → Type 0 where
  direct : {c s : ℕ} → Super p t c s → Above p t c s
  further : {c r s : ℕ} → Super p t c r → Above p t r s → Above p t c s
  object : {c s : ℕ} → IsInterface p c → IsObject p s → Above p t c s

-- c itself, or above it
abbrev pub AtOrAbove : Rows → Table → ℕ → ℕ → Type 0
AtOrAbove p t c s = (c ≡ s) ⊎ Above p t c s

-- ---- types

-- one step of widening between primitive types (JLS 4.10.1): byte, short, int, long, and char below int
pub data Wider : Element → Element → Type 0 where
  byte : Wider element.Byte element.Short
  short : Wider element.Short element.Int
  char : Wider element.Char element.Int
  int : Wider element.Int element.Long

pub data Widens : Element → Element → Type 0 where
  step : {a b : Element} → Wider a b → Widens a b
  steps : {a b c : Element} → Wider a b → Widens b c → Widens a c

-- class, interface and array types (JLS 4.3)
pub data IsReferenceType : RowType → Type 0 where
  class : {c : ℕ} → IsReferenceType (class_type c)
  array_type : {e : Element} {dims : ℕ} → IsReferenceType (array e (suc dims))

-- a is b or a subtype of b (JLS 4.10)
pub data Subtype (p : Rows) (t : Table) : RowType → RowType → Type 0 where
  same : {a : RowType} → Subtype p t a a
  primitive : {a b : Element} → Widens a b → Subtype p t (plain a) (plain b)
  null : {b : RowType} → IsReferenceType b → Subtype p t (plain element.Null) b
  class : {c s : ℕ} → Above p t c s → Subtype p t (class_type c) (class_type s)
  array_object : {e : Element} {dims s : ℕ} → IsObject p s → Subtype p t (array e (suc dims)) (class_type s)
  array_array : {a b : Element} {m n : ℕ} → IsReferenceType (array a m) → IsReferenceType (array b n) → Subtype p t (array a m) (array b n)
      → Subtype p t (array a (suc m)) (array b (suc n))
