-- Rules 25, 30 and 33: values and their places, void calls and arrays (JLS 5.2, 8.3.2, 10.6, 14.4, 14.8, 14.14.1, 15.10, 15.13, 15.26.1).
use Rattle.std.specs.Prelude.{◌≡◌, ℕ, suc, ◌+◌}
use Rattle.jr_base.specs.declared.kind.Symbol.TheVariants as y
use Rattle.jr_tree.specs.declared.label.Label.{Label}
use Rattle.jr_tree.specs.declared.label.Label.TheVariants as is
use Rattle.jr_tree.specs.declared.label.ReceiverKind.{ReceiverKind}
use Rattle.jr_tree.specs.Rows.{Rows, label, parent, end}
use Rattle.jr_defs.specs.declared.referent.Element.{Element}
use Rattle.jr_defs.specs.declared.referent.Element.TheVariants as element
use Rattle.jr_defs.specs.declared.referent.RowType.{RowType}
use Rattle.jr_defs.specs.Referents.{Table}
use Rattle.jr_defs.specs.Declarations.{IsVariable}
use Rattle.jr_defs.specs.Types.{array, plain, HasType}
use Rattle.jr_defs.specs.Constants.{HasConstantForm}
use Rattle.jr_defs.specs.Conversions.{IsAssignable}
use Rattle.jr_rules.specs.Typed.{Typed, FirstOf, IsIntLike}
use Rattle.jr_rules.specs.Statements.{IsCondition}

abbrev pub IsNewArray : Label → Type 0
IsNewArray (is.NewArray base lengths more) = Unit {0}
IsNewArray _ = ⊥

-- the initializer n stands for a value of the type: that of the variable, that of the created array, or the component type of the list round it
pub data Initializes (p : Rows) (t : Table) : ℕ → RowType → Type 0 where
  of_variable : {n : ℕ} {a : RowType} → IsVariable p (parent p n) → HasType p t (parent p n) a → Initializes p t n a
  of_creation : {n : ℕ} {a : RowType} → IsNewArray (label p (parent p n)) → Typed p t (parent p n) a → Initializes p t n a
  of_item : {n dims : ℕ} {e : Element} → label p (parent p n) ≡ is.List → Initializes p t (parent p n) (array e (suc dims)) → Initializes p t n (array e dims)

-- the value n stands in a place of the type: on the right of a plain assignment, or as an initializer
pub data PlaceOf (p : Rows) (t : Table) (n : ℕ) : RowType → Type 0 where
  assigned_to : {a : RowType} → label p (parent p n) ≡ is.Assign y.Assign → n ≡ end p (parent p n + 1) → FirstOf p t (parent p n) a → PlaceOf p t n a
  initial : {a : RowType} → label p (parent p n) ≡ is.Value → Initializes p t (parent p n) a → PlaceOf p t n a

-- rule 25: a value that is not assignable to its place
pub record ValueDoesNotFit (p : Rows) (t : Table) (n : ℕ) : Type 0 where
  pub place : RowType
  pub type : RowType
  pub stands : PlaceOf p t n place
  pub typed : Typed p t n type
  pub not_assignable : IsAssignable p t (HasConstantForm p t) n type place → ⊥

-- expressions whose value is not used
abbrev pub DropsValues : Label → Type 0
DropsValues is.Eval = Unit {0}
DropsValues is.ForExprs = Unit {0}
DropsValues _ = ⊥

abbrev pub IsFor : Label → Type 0
IsFor (is.For has_first has_condition) = Unit {0}
IsFor _ = ⊥

-- the expression n stands as a statement, or in the first part or the update of a `for`
pub data StandsAlone (p : Rows) (n : ℕ) : Type 0 where
  as_statement : DropsValues (label p (parent p n)) → StandsAlone p n
  as_update : IsFor (label p (parent p n)) → (IsCondition p n → ⊥) → StandsAlone p n

-- rule 30: a call of a void method that is used as a value
pub record VoidIsUsed (p : Rows) (t : Table) (n : ℕ) : Type 0 where
  pub receiver : ReceiverKind
  pub call : label p n ≡ is.Call receiver
  pub void : Typed p t n (plain element.Void)
  pub used : StandsAlone p n → ⊥

-- rule 33: an index or a length that is no int, an index of no array, and a list in a place of no array type
pub data ArrayDoesNotFit (p : Rows) (t : Table) (n : ℕ) : Type 0 where
  of_index : {a : RowType} → label p (parent p n) ≡ is.Index → n ≡ end p (parent p n + 1) → Typed p t n a → (IsIntLike a → ⊥) → ArrayDoesNotFit p t n
  of_indexed : {a : RowType} → label p (parent p n) ≡ is.Index → n ≡ parent p n + 1 → Typed p t n a → a.dims ≡ 0 → ArrayDoesNotFit p t n
  of_length : {a : RowType} → IsNewArray (label p (parent p n)) → Typed p t n a → (IsIntLike a → ⊥) → ArrayDoesNotFit p t n
  of_list : {a : RowType} → label p n ≡ is.List → Initializes p t n a → a.dims ≡ 0 → ArrayDoesNotFit p t n
