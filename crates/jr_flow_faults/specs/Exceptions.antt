-- Exceptions: what is thrown at a row, which `try` catches it, which member lets it out, and where the rules on them are broken (JLS 8.4.6, 8.6, 8.7, 8.8.5, 11.2, 14.18, 14.20).
use Rattle.std.specs.Prelude.{◌≡◌, ◌⊎◌, ℕ, ◌+◌, ◌<◌, Bool, true, false, Option, codes}
use Rattle.jr_tree.specs.declared.label.Label.{Label}
use Rattle.jr_tree.specs.declared.label.Label.TheVariants as is
use Rattle.jr_tree.specs.declared.label.Role.TheVariants as role
use Rattle.jr_tree.specs.Rows.{Rows, label, parent, role_at}
use Rattle.jr_defs.specs.declared.referent.Referent.TheVariants.{Declared}
use Rattle.jr_defs.specs.Referents.{Table}
use Rattle.jr_defs.specs.Declarations.{IsPrelude}
use Rattle.jr_defs.specs.Enclosing.{holder}
use Rattle.jr_defs.specs.MemberRules.{Throws, IsChecked, Allows}
use Rattle.jr_defs.specs.Modifiers.{IsStatic}
use Rattle.jr_defs.specs.Supertypes.{AtOrAbove}
use Rattle.jr_defs.specs.Types.{class_type, HasType}
use Rattle.jr_rules.specs.Statements.{IsMethodOrConstructor}
use Rattle.jr_rules.specs.Typed.{FirstOf}
use Rattle.jr_flow_faults.specs.Known.{IsLastBlock}

-- ---- what is thrown (11.2.1, 11.2.2, 14.18)

-- a call of a method, a creation, or a call of a constructor, written or implied (8.8.7)
abbrev pub IsInvocation : Label → Type 0
IsInvocation (is.Call receiver) = Unit {0}
IsInvocation is.New = Unit {0}
IsInvocation (is.ConstructorCall which) = Unit {0}
IsInvocation is.ImplicitCall = Unit {0}
IsInvocation _ = ⊥

-- the class c is thrown at the row n: it is that of the value of a `throw`, or what is called or created declares it
pub data ThrownAt (p : Rows) (t : Table) (n c : ℕ) : Type 0 where
  value : label p n ≡ is.Throw → FirstOf p t n (class_type c) → ThrownAt p t n c
  declared : {m k : ℕ} {level : Option ℕ} → IsInvocation (label p n) → t n ≡ Declared m level → Throws p t m k c → ThrownAt p t n c

-- ---- what catches it (14.20)

-- the row k is a catch of the `try` n, of the class c
pub record IsCatchOf (p : Rows) (t : Table) (n k c : ℕ) : Type 0 where
  pub catch : label p k ≡ is.Catch
  pub inside : parent p k ≡ n
  pub type : HasType p t (k + 1) (class_type c)

-- a catch of the `try` n, before the row k, is of the class c or of one above it
pub record CatchesBefore (p : Rows) (t : Table) (n k c : ℕ) : Type 0 where
  pub row : ℕ
  pub class : ℕ
  pub catch : IsCatchOf p t n row class
  pub before : row < k
  pub above : AtOrAbove p t c class

-- a catch of the `try` n is of the class c or of one above it
pub record Catches (p : Rows) (t : Table) (n c : ℕ) : Type 0 where
  pub row : ℕ
  pub class : ℕ
  pub catch : IsCatchOf p t n row class
  pub above : AtOrAbove p t c class

-- ---- how it goes outwards (11.2.2, 14.20.1, 14.20.2); `completes` tells of each row whether it can complete normally (14.21)

abbrev pub IsTry : Label → Type 0
IsTry (is.Try has_finally) = Unit {0}
IsTry _ = ⊥

-- a method, a constructor, an initializer, or a field with its initializer: what is thrown there goes no further
abbrev pub IsCode : Label → Type 0
IsCode (is.Method modifiers is_void has_body) = Unit {0}
IsCode (is.Constructor modifiers) = Unit {0}
IsCode is.DefaultConstructor = Unit {0}
IsCode (is.Initializer is_static) = Unit {0}
IsCode (is.Field modifiers dims) = Unit {0}
IsCode _ = ⊥

-- the block k is the body of the `try` n
pub record IsTryBlock (p : Rows) (n k : ℕ) : Type 0 where
  pub statement : IsTry (label p n)
  pub block : label p k ≡ is.Block
  pub inside : parent p k ≡ n
  pub first : k ≡ n + 1

-- the `finally` of the `try` n can complete normally, if there is one: else what was thrown before it is lost
abbrev pub FinallyCompletes : Rows → (ℕ → Bool) → ℕ → Type 0
FinallyCompletes p completes n = (k : ℕ) → IsLastBlock p n k → completes k ≡ true

-- the class c, thrown inside the row k, is thrown out of the row round k too: out of what is no `try`; out of a `try` from its body, where no catch catches it, and from a catch, where the `finally` can complete;
-- and from the `finally`
pub data GoesOn (p : Rows) (t : Table) (completes : ℕ → Bool) (c k : ℕ) : Type 0 where
  of_part : (IsCode (label p k) → ⊥) → (IsTry (label p (parent p k)) → ⊥) → GoesOn p t completes c k
  of_body : IsTryBlock p (parent p k) k → (Catches p t (parent p k) c → ⊥) → FinallyCompletes p completes (parent p k) → GoesOn p t completes c k
  of_catch : IsTry (label p (parent p k)) → label p k ≡ is.Catch → FinallyCompletes p completes (parent p k) → GoesOn p t completes c k
  of_finally : IsLastBlock p (parent p k) k → GoesOn p t completes c k

-- the class c, thrown at the row n, is thrown out of the row k, which is n or round it
pub data ComesTo (p : Rows) (t : Table) (completes : ℕ → Bool) (c : ℕ) : ℕ → ℕ → Type 0 where
  here : {n : ℕ} → ComesTo p t completes c n n
  further : {n k : ℕ} → GoesOn p t completes c n → ComesTo p t completes c (parent p n) k → ComesTo p t completes c n k

-- the checked class d, thrown inside the body of the `try` n, is thrown out of that body
pub record BodyThrows (p : Rows) (t : Table) (completes : ℕ → Bool) (n d : ℕ) : Type 0 where
  pub row : ℕ
  pub thrown : ThrownAt p t row d
  pub checked : IsChecked p t d
  pub body : IsTryBlock p n (n + 1)
  pub comes : ComesTo p t completes d row (n + 1)

-- ---- which member lets it out (8.3.2, 8.4.6, 8.6, 8.7, 8.8.5, 11.2.3)

-- an initializer that is not static, or the initializer of a field that is not: each constructor runs it
pub data IsOfInstances (p : Rows) (m : ℕ) : Type 0 where
  initializer : label p m ≡ is.Initializer false → IsOfInstances p m
  field : role_at p m ≡ role.Field → (IsStatic p m → ⊥) → IsOfInstances p m

-- the constructor k stands in the body in which the member m does
pub record IsConstructorBeside (p : Rows) (m k : ℕ) : Type 0 where
  pub constructor : role_at p k ≡ role.Constructor
  pub beside : parent p k ≡ holder (role_at p m) p m

-- the member m lets the class c out: it declares it or one above it, or the constructors do, of which there is one, and which all declare it or one above it
pub data LetsOut (p : Rows) (t : Table) (c m : ℕ) : Type 0 where
  declared : IsMethodOrConstructor (role_at p m) → Allows p t m c → LetsOut p t c m
  by_constructors : {one : ℕ} → IsOfInstances p m → IsConstructorBeside p m one → ((k : ℕ) → IsConstructorBeside p m k → Allows p t k c) → LetsOut p t c m

-- ---- the rules

-- rule 41: a checked class, thrown at the row n, comes to a member that does not let it out (11.2.3)
pub record IsUncaught (p : Rows) (t : Table) (completes : ℕ → Bool) (n : ℕ) : Type 0 where
  pub class : ℕ
  pub thrown : ThrownAt p t n class
  pub checked : IsChecked p t class
  pub member : ℕ
  pub is_code : IsCode (label p member)
  pub comes : ComesTo p t completes class n member
  pub kept : LetsOut p t class member → ⊥

-- rule 42: the row n is a catch of a checked class other than Exception and Throwable, and the body throws neither a class at or below it nor one above it (11.2.3)
pub record IsUnthrown (p : Rows) (t : Table) (completes : ℕ → Bool) (n : ℕ) : Type 0 where
  pub class : ℕ
  pub catch : IsCatchOf p t (parent p n) n class
  pub checked : IsChecked p t class
  pub no_exception : IsPrelude p (codes "Exception") class → ⊥
  pub no_throwable : IsPrelude p (codes "Throwable") class → ⊥
  pub unthrown : (d : ℕ) → BodyThrows p t completes (parent p n) d → AtOrAbove p t d class ⊎ AtOrAbove p t class d → ⊥

-- rule 43: the row n is a catch of a class that an earlier catch of the same `try` catches (11.2.3)
pub record IsCovered (p : Rows) (t : Table) (n : ℕ) : Type 0 where
  pub class : ℕ
  pub catch : IsCatchOf p t (parent p n) n class
  pub earlier : CatchesBefore p t (parent p n) n class
