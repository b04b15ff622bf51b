-- Expressions with their types, as children of a row, and the member whose code a place is in (JLS 8.1.6, 15).
use Rattle.std.specs.Prelude.{◌≡◌, ℕ, ◌+◌, ◌<◌, ◌≤◌}
use Rattle.jr_tree.specs.Rows.{Rows, parent, end}
use Rattle.jr_defs.specs.declared.referent.Element.{Element}
use Rattle.jr_defs.specs.declared.referent.RowType.{RowType}
use Rattle.jr_defs.specs.Referents.{Table}
use Rattle.jr_defs.specs.Enclosing.{BodyOf, Innermost}
use Rattle.jr_defs.specs.Types.{plain, TypeAt}
use Rattle.jr_defs.specs.Constants.{HasConstantForm}
use Rattle.jr_defs.specs.Conversions.{IsIntegral}
use Rattle.jr_defs.specs.Typing.{TypeOf}

-- the expression n has the type in the program
abbrev pub Typed : Rows → Table → ℕ → RowType → Type 0
Typed p t n a = TypeOf p t (HasConstantForm p t) n a

-- the row m is a child of n, and an expression of the type
pub record ChildOf (p : Rows) (t : Table) (n m : ℕ) (a : RowType) : Type 0 where
  pub inside : parent p m ≡ n
  pub typed : Typed p t m a

-- the first, second and third child of n is an expression of the type
abbrev pub FirstOf : Rows → Table → ℕ → RowType → Type 0
FirstOf p t n a = ChildOf p t n (n + 1) a

abbrev pub SecondOf : Rows → Table → ℕ → RowType → Type 0
SecondOf p t n a = ChildOf p t n (end p (n + 1)) a

abbrev pub ThirdOf : Rows → Table → ℕ → RowType → Type 0
ThirdOf p t n a = ChildOf p t n (end p (end p (n + 1))) a

-- the row m is a child of n, and a type is written there
pub record TypeBelow (p : Rows) (t : Table) (n m : ℕ) (a : RowType) : Type 0 where
  pub inside : parent p m ≡ n
  pub written : TypeAt p t m a

-- a type that promotes to int: byte, short, char or int (JLS 5.6.1)
pub record IsIntLike (a : RowType) : Type 0 where
  pub element : Element
  pub is_plain : a ≡ plain element
  pub integral : IsIntegral element

-- the place stands in m, which is right below the body of the innermost type c: a member, a constructor, an initializer or a declaration of fields
pub record InMember (p : Rows) (o c m : ℕ) : Type 0 where
  pub innermost : Innermost p o c
  pub inside : BodyOf p c (parent p m)
  pub from : m ≤ o
  pub before : o < end p m
