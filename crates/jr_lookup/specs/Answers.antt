-- What an occurrence refers to where nothing stands before a dot and no arguments are given (JLS 6.5.2, 8.8, 14.15, 15.11.2).
use Rattle.std.specs.Prelude.{◌≡◌, ℕ, true, if◌then◌else◌, List, Option, None}
use Rattle.jr_base.specs.declared.text.Text.{Text}
use Rattle.jr_tree.specs.declared.tree.ThisOrSuper.{ThisOrSuper}
use Rattle.jr_tree.specs.declared.tree.ThisOrSuper.TheVariants as which
use Rattle.jr_tree.specs.declared.label.NameKind.{NameKind}
use Rattle.jr_tree.specs.Rows.{Rows, parent}
use Rattle.jr_defs.specs.declared.referent.Space.TheVariants as space
use Rattle.jr_defs.specs.declared.referent.RowType.{RowType}
use Rattle.jr_defs.specs.declared.referent.Referent.{Referent}
use Rattle.jr_defs.specs.declared.referent.Referent.TheVariants.{Unbound, Package}
use Rattle.jr_defs.specs.Referents.{Table, IsAnswer}
use Rattle.jr_defs.specs.Enclosing.{BodyOf, ConstructorOf}
use Rattle.jr_defs.specs.Supertypes.{Superclass}
use Rattle.jr_defs.specs.Members.{MemberNamed}
use Rattle.jr_defs.specs.Scope.{Depth, InScope}
use Rattle.jr_defs.specs.Lookup.{SuperOf, NewLevel, CalledClass}
use Rattle.jr_defs.specs.Overloads.{Choice}
use Rattle.jr_plain.specs.Search.{has}
use Rattle.jr_plain.specs.Lookup.{may_be_package}
use Rattle.jr_members.specs.declared.members.World.{World}
use Rattle.jr_members.specs.Held.{ObjectIsBare}
use Rattle.jr_lookup.specs.Choices.{AreResults}

-- these are all candidates, all with one level
pub record AreAllThrough (C : ℕ → Option ℕ → Type 0) (found : List ℕ) (level : Option ℕ) : Type 0 where
  pub sound : (d : ℕ) → has found d ≡ true → C d level
  pub whole : (d : ℕ) (l : Option ℕ) → C d l → (has found d ≡ true) × (l ≡ level)

-- the answer of the candidates, or this where there is none
abbrev pub IsAnswerOr : (ℕ → Option ℕ → Type 0) → Referent → Referent → Type 0
IsAnswerOr C otherwise a = IsAnswer C (λ b. b ≡ otherwise) a

abbrev pub simple_otherwise : NameKind → Referent
simple_otherwise k = if may_be_package k then Package else Unbound

-- the class in whose body a constructor stands
pub record IsOwnClass (p : Rows) (o c : ℕ) (level : Option ℕ) : Type 0 where
  pub body : BodyOf p c (parent p o)
  pub free : level ≡ None

-- a label in scope
pub record IsLabelAt (p : Rows) (t : Table) (x : Text) (o d : ℕ) (level : Option ℕ) : Type 0 where
  pub depth : Depth
  pub in_scope : InScope p t space.Label x o d depth
  pub free : level ≡ None

-- a field of the superclass
pub record IsSuperField (p : Rows) (t : Table) (x : Text) (o d : ℕ) (level : Option ℕ) : Type 0 where
  pub class : ℕ
  pub super_of : SuperOf p t o class
  pub member : MemberNamed p t space.Variable x class d
  pub free : level ≡ None

-- ---- calls, where the types of the arguments are known (JLS 15.9.3, 15.12)

-- Object is bare, and results of methods have the same types under the table of the world
pub record CanChoose (t : Table) (world : World) : Type 0 where
  pub bare : ObjectIsBare world.under.rows.now
  pub results : AreResults t world

-- such a one, found through no level
pub record IsFree (P : ℕ → Type 0) (d : ℕ) (level : Option ℕ) : Type 0 where
  pub is : P d
  pub free : level ≡ None

-- such a one, found through this level
pub record IsThrough (P : ℕ → Type 0) (through : Option ℕ) (d : ℕ) (level : Option ℕ) : Type 0 where
  pub is : P d
  pub through_is : level ≡ through

-- a constructor that a creation of an object of the class chooses
pub record IsCreated (p : Rows) (t : Table) (o c : ℕ) (arguments : List RowType) (d : ℕ) (level : Option ℕ) : Type 0 where
  pub level_is : NewLevel p t o c level
  pub chosen : Choice p t c o None arguments (ConstructorOf p c) d

-- a constructor that this(..) or super(..) chooses
pub record IsCalled (p : Rows) (t : Table) (o : ℕ) (w : ThisOrSuper) (arguments : List RowType) (d : ℕ) (level : Option ℕ) : Type 0 where
  pub class : ℕ
  pub called : CalledClass p t o w class
  pub chosen : Choice p t class o None arguments (ConstructorOf p class) d
  pub free : level ≡ None

-- the class itself, or its superclass
abbrev pub IsClassBy : Rows → Table → ℕ → ThisOrSuper → ℕ → Type 0
IsClassBy p t c which.This d = c ≡ d
IsClassBy p t c which.Super d = Superclass p t c d
