-- Laws of the definitions.
use Rattle.std.specs.Prelude.{◌≡◌, ℕ, Bool, IsTrue, List, Option}
use Rattle.std.specs.List.{AllByRecursion}
use Rattle.jr_base.specs.declared.text.Text.{Text}
use Rattle.jr_tree.specs.declared.label.Sought.{Sought}
use Rattle.jr_tree.specs.declared.tree.Unit as declared_unit
use Rattle.jr_tree.specs.Shape.{IsShaped}
use Rattle.jr_tree.specs.Rows.{Rows, program_rows}
use Rattle.jr_defs.specs.declared.referent.Referent.{Referent}
use Rattle.jr_defs.specs.declared.referent.Referent.TheVariants.{Declared}
use Rattle.jr_defs.specs.Referents.{Table}
use Rattle.jr_defs.specs.Declarations.{IsType, IsObject}
use Rattle.jr_defs.specs.Lookup.{LookFor}
use Rattle.jr_defs.specs.Enclosing.{DeclaredIn}
use Rattle.jr_defs.specs.Headers.{NamesHeader, Meets, IsSettled}
use Rattle.jr_defs.specs.Binding.{IsBound, IsBinding, OfHeaders, HasCycle}
use Rattle.jr_defs.specs.Formed.{IsFormed}
use Rattle.jr_defs.specs.Correspondence.{Corresponds, moved}

-- the numbers that a test picks
abbrev pub Picked : (ℕ → Bool) → ℕ → Type 0
Picked test n = IsTrue (test n)

-- lookup has at most one answer
abbrev pub OneAnswer : Type 0
OneAnswer = (p : Rows) (t : Table) (k : ℕ → Bool) (o : ℕ) (x : Text) (s : Sought) (a b : Referent) → LookFor p t (Picked k) o x s a → LookFor p t (Picked k) o x s b → a ≡ b

-- what corresponding occurrences refer to corresponds
abbrev pub LookCarries : Type 0
LookCarries = (p q : Rows) (t u : Table) (k l c d : ℕ → Bool) (f g : ℕ → ℕ) (o o' : ℕ) (x : Text) (s : Sought) (a : Referent)
    → Corresponds p t (Picked k) q u (Picked l) f g (Picked c) (Picked d) o o' s
    → Corresponds q u (Picked l) p t (Picked k) g f (Picked d) (Picked c) o' o s
    → LookFor p t (Picked k) o x s a → LookFor q u (Picked l) o' x s (moved f a)

-- the tables agree on the names in headers, and there name types
pub record SameHeaders (p : Rows) (t u : Table) : Type 0 where
  pub at : (c n : ℕ) → NamesHeader p c n → t n ≡ u n
  pub types : (c n s : ℕ) (l : Option ℕ) → NamesHeader p c n → t n ≡ Declared s l → IsType p s

-- tables that agree with themselves, and with each other on headers, are one
abbrev pub BindingsAgree : Type 0
BindingsAgree = (p : Rows) (t u : Table) → IsFormed p → IsBound p t → IsBound p u → SameHeaders p t u → (o : ℕ) → t o ≡ u o

-- a program has at most one binding
abbrev pub OneBinding : Type 0
OneBinding = (p : Rows) (t u : Table) → IsFormed p → IsBinding p t → IsBinding p u → (o : ℕ) → t o ≡ u o

-- Object names nothing in its header, as in the prelude
abbrev pub HasBareObject : Rows → Type 0
HasBareObject p = (c n : ℕ) → IsObject p c → NamesHeader p c n → ⊥

-- rows of shaped units are formed
abbrev pub ProgramsAreFormed : Type 0
ProgramsAreFormed = (units : List declared_unit.Unit) → AllByRecursion IsShaped units → HasBareObject (program_rows units) → IsFormed (program_rows units)

-- so a program of shaped units has at most one binding
abbrev pub OneBindingOfUnits : Type 0
OneBindingOfUnits = (units : List declared_unit.Unit) (t u : Table) → AllByRecursion IsShaped units → HasBareObject (program_rows units)
    → IsBinding (program_rows units) t → IsBinding (program_rows units) u → (o : ℕ) → t o ≡ u o

-- two types whose headers meet each other are a cycle
abbrev pub MutualHeadersAreCycle : Type 0
MutualHeadersAreCycle = (p : Rows) (t : Table) (a b : ℕ) (h : OfHeaders p t) → IsType p a → Meets p t h.settled_part a b → Meets p t h.settled_part b a → HasCycle p

-- a type whose header names nothing is settled where its enclosing types are
abbrev pub BareTypeIsSettled : Type 0
BareTypeIsSettled = (p : Rows) (t u : Table) (c : ℕ) → ((n : ℕ) → NamesHeader p c n → ⊥) → ((e : ℕ) → DeclaredIn p e c → IsSettled p t u e) → IsSettled p t u c
