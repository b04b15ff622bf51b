-- Rules 23, 28, 29, 31 and 34: thrown classes, conditions, switches, returns and jumps (JLS 8.4.6, 14.9 to 14.18, 14.20).
use Rattle.std.specs.Prelude.{◌≡◌, ℕ, ◌+◌, ◌<◌, true, false, codes, Option, Some}
use Rattle.jr_base.specs.declared.constant.Const.{Const}
use Rattle.jr_tree.specs.declared.label.Label.{Label}
use Rattle.jr_tree.specs.declared.label.Label.TheVariants as is
use Rattle.jr_tree.specs.declared.label.Role.{Role}
use Rattle.jr_tree.specs.declared.label.Role.TheVariants as role
use Rattle.jr_tree.specs.Rows.{Rows, label, parent, end, role_at}
use Rattle.jr_defs.specs.declared.referent.Element.{Element}
use Rattle.jr_defs.specs.declared.referent.Element.TheVariants as element
use Rattle.jr_defs.specs.declared.referent.RowType.{RowType}
use Rattle.jr_defs.specs.declared.referent.Referent.TheVariants.{Declared}
use Rattle.jr_defs.specs.Referents.{Table}
use Rattle.jr_defs.specs.Declarations.{IsPrelude}
use Rattle.jr_defs.specs.Types.{plain, class_type, HasType}
use Rattle.jr_defs.specs.Supertypes.{Subtype}
use Rattle.jr_defs.specs.Operators.{assigned_to}
use Rattle.jr_defs.specs.Constants.{HasConstantForm, Constant}
use Rattle.jr_defs.specs.Conversions.{IsAssignable}
use Rattle.jr_defs.specs.MemberRules.{IsOtherName, IsInitializer}
use Rattle.jr_rules.specs.Typed.{Typed, FirstOf, IsIntLike, InMember}

-- ---- thrown classes

-- Throwable or below, or the type of null (JLS 11.1.1, 14.18)
pub record IsThrowable (p : Rows) (t : Table) (a : RowType) : Type 0 where
  pub throwable : ℕ
  pub named : IsPrelude p (codes "Throwable") throwable
  pub below : Subtype p t a (class_type throwable)

abbrev pub IsMethodOrConstructor : Role → Type 0
IsMethodOrConstructor role.Method = Unit {0}
IsMethodOrConstructor role.Constructor = Unit {0}
IsMethodOrConstructor _ = ⊥

-- rule 23: a thrown value, the parameter of a catch, or a class that a method or constructor declares is not Throwable or below
pub data IsNotThrowable (p : Rows) (t : Table) (n : ℕ) : Type 0 where
  of_throw : {a : RowType} → label p n ≡ is.Throw → FirstOf p t n a → (IsThrowable p t a → ⊥) → IsNotThrowable p t n
  of_catch : {a : RowType} → label p (parent p n) ≡ is.Catch → HasType p t n a → (IsThrowable p t a → ⊥) → IsNotThrowable p t n
  of_header : {c : ℕ} {level : Option ℕ} → IsMethodOrConstructor (role_at p (parent p n)) → IsOtherName (label p n) → t n ≡ Declared c level
      → (IsThrowable p t (class_type c) → ⊥) → IsNotThrowable p t n

-- ---- conditions

-- what has its condition first, and second
abbrev pub TestsFirst : Label → Type 0
TestsFirst is.If = Unit {0}
TestsFirst is.While = Unit {0}
TestsFirst is.Conditional = Unit {0}
TestsFirst (is.For false true) = Unit {0}
TestsFirst _ = ⊥

abbrev pub TestsSecond : Label → Type 0
TestsSecond is.Do = Unit {0}
TestsSecond (is.For true true) = Unit {0}
TestsSecond _ = ⊥

-- the expression n is the condition of an `if`, a loop or of ?:
pub data IsCondition (p : Rows) (n : ℕ) : Type 0 where
  as_first : TestsFirst (label p (parent p n)) → n ≡ parent p n + 1 → IsCondition p n
  as_second : TestsSecond (label p (parent p n)) → n ≡ end p (parent p n + 1) → IsCondition p n

-- rule 28: a condition is not boolean
pub record ConditionIsNotBoolean (p : Rows) (t : Table) (n : ℕ) : Type 0 where
  pub condition : IsCondition p n
  pub type : RowType
  pub typed : Typed p t n type
  pub other : type ≡ plain element.Boolean → ⊥

-- ---- switches

-- the switch of a label: the label stands below a group, and that below the switch
abbrev pub switch_of : Rows → ℕ → ℕ
switch_of p n = parent p (parent p n)

-- the value of the label `case`, as one of the type of its switch
pub record CaseValue (p : Rows) (t : Table) (n : ℕ) (v : Const) : Type 0 where
  pub case : label p n ≡ is.Case
  pub element : Element
  pub type : FirstOf p t (switch_of p n) (plain element)
  pub value : Const
  pub constant : Constant p t (n + 1) value
  pub fits : assigned_to element value ≡ Some v

-- rule 29: a switch on another type than char, byte, short and int; a label that is not constant, not assignable or repeated; a second default
pub data SwitchDoesNotFit (p : Rows) (t : Table) (n : ℕ) : Type 0 where
  of_type : {a : RowType} → label p n ≡ is.Switch → FirstOf p t n a → (IsIntLike a → ⊥) → SwitchDoesNotFit p t n
  not_constant : label p n ≡ is.Case → ((v : Const) → Constant p t (n + 1) v → ⊥) → SwitchDoesNotFit p t n
  not_assignable : {a b : RowType} → label p n ≡ is.Case → FirstOf p t (switch_of p n) a → FirstOf p t n b → (IsAssignable p t (HasConstantForm p t) (n + 1) b a → ⊥)
      → SwitchDoesNotFit p t n
  repeated : {m : ℕ} {v : Const} → CaseValue p t m v → CaseValue p t n v → switch_of p m ≡ switch_of p n → m < n → SwitchDoesNotFit p t n
  two_defaults : {m : ℕ} → label p m ≡ is.Default → label p n ≡ is.Default → switch_of p m ≡ switch_of p n → m < n → SwitchDoesNotFit p t n

-- ---- returns

-- a method without result, or a constructor
abbrev pub GivesNothing : Label → Type 0
GivesNothing (is.Method modifiers is_void has_body) = is_void ≡ true
GivesNothing (is.Constructor modifiers) = Unit {0}
GivesNothing _ = ⊥

-- a method with a result
abbrev pub GivesResult : Label → Type 0
GivesResult (is.Method modifiers is_void has_body) = is_void ≡ false
GivesResult _ = ⊥

-- rule 31: a return in an initializer, with a value where none is given, without one where a result is given, or with a value that is not assignable to the result
pub data ReturnDoesNotFit (p : Rows) (t : Table) (n : ℕ) : Type 0 where
  in_initializer : {c m : ℕ} → label p n ≡ is.Return → InMember p n c m → IsInitializer (label p m) → ReturnDoesNotFit p t n
  with_value : {c m : ℕ} → label p n ≡ is.Return → InMember p n c m → GivesNothing (label p m) → parent p (n + 1) ≡ n → ReturnDoesNotFit p t n
  without_value : {c m : ℕ} → label p n ≡ is.Return → InMember p n c m → GivesResult (label p m) → (parent p (n + 1) ≡ n → ⊥) → ReturnDoesNotFit p t n
  with_other_value : {c m : ℕ} {a b : RowType} → label p n ≡ is.Return → InMember p n c m → GivesResult (label p m) → HasType p t m a → FirstOf p t n b
      → (IsAssignable p t (HasConstantForm p t) (n + 1) b a → ⊥) → ReturnDoesNotFit p t n

-- ---- jumps

abbrev pub IsLoop : Label → Type 0
IsLoop is.Do = Unit {0}
IsLoop is.While = Unit {0}
IsLoop (is.For has_first has_condition) = Unit {0}
IsLoop _ = ⊥

-- what a `break` without label leaves
abbrev pub IsLoopOrSwitch : Label → Type 0
IsLoopOrSwitch is.Switch = Unit {0}
IsLoopOrSwitch l = IsLoop l

-- such a statement is round the place
pub record IsRound (p : Rows) (P : Label → Type 0) (o s : ℕ) : Type 0 where
  pub statement : P (label p s)
  pub after : s < o
  pub before : o < end p s

-- the label d stands right before a loop (JLS 14.16)
pub record LabelsLoop (p : Rows) (d : ℕ) : Type 0 where
  pub inside : parent p (d + 1) ≡ d
  pub loop : IsLoop (label p (d + 1))

-- rule 34: a `break` in no loop or switch, a `continue` in no loop or to a label of none
pub data HasNoTarget (p : Rows) (t : Table) (n : ℕ) : Type 0 where
  of_break : label p n ≡ is.Break false → ((s : ℕ) → IsRound p IsLoopOrSwitch n s → ⊥) → HasNoTarget p t n
  of_continue : label p n ≡ is.Continue false → ((s : ℕ) → IsRound p IsLoop n s → ⊥) → HasNoTarget p t n
  of_label : {d : ℕ} {level : Option ℕ} → label p n ≡ is.Continue true → t n ≡ Declared d level → (LabelsLoop p d → ⊥) → HasNoTarget p t n
