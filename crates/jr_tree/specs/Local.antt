-- What each row of a program has above it and right below it.
use Rattle.std.specs.Prelude.{◌≡◌, ℕ, ◌+◌, ◌<◌, Bool, true, false, List, Option, Some, None, length}
use Rattle.std.specs.List.{AllByRecursion}
use Rattle.jr_tree.specs.declared.tree.Unit as declared_unit
use Rattle.jr_tree.specs.Shape.{IsShaped}
use Rattle.jr_tree.specs.declared.label.Label.{Label}
use Rattle.jr_tree.specs.declared.label.Label.TheVariants as is
use Rattle.jr_tree.specs.Exprs.{left_kind}
use Rattle.jr_tree.specs.Rows.{Rows, label, parent, end, program_rows}
use Rattle.jr_tree.specs.Tree.{IsTree}
use Rattle.jr_tree.specs.Below.{Under, IsQualifierOf, IsTypeName}

-- below a qualified name stands its qualifier alone
pub record HasQualifier (p : Rows) (n : ℕ) : Type 0 where
  pub inside : parent p (n + 1) ≡ n
  pub whole : end p (n + 1) ≡ end p n

-- the name of a type stands first below it
pub record HasTypeName (p : Rows) (n : ℕ) : Type 0 where
  pub inside : parent p (n + 1) ≡ n
  pub named : IsTypeName (label p (n + 1))

abbrev pub StartsAt : Rows → ℕ → Label → Type 0
StartsAt p n (is.Name k at true) = HasQualifier p n × IsQualifierOf (left_kind k) (label p (n + 1))
StartsAt p n (is.Name k at false) = end p n ≡ n + 1
StartsAt p n (is.TypeUse None dims) = HasTypeName p n
StartsAt p n is.New = HasTypeName p n
StartsAt p n (is.NewArray None lengths extra) = HasTypeName p n
StartsAt p n (is.This true) = HasTypeName p n
StartsAt p n (is.Import form) = HasTypeName p n
StartsAt p n _ = Unit {0}

pub record IsLocal (p : Rows) : Type 0 where
  pub tree : IsTree p
  pub program : label p 0 ≡ is.Program
  pub some : 0 < length p
  pub under : (n : ℕ) → 0 < n → n < length p → Under (label p (parent p n)) (label p n)
  pub starts : (n : ℕ) → 0 < n → n < length p → StartsAt p n (label p n)

-- the law
abbrev pub EachProgramIsLocal : Type 0
EachProgramIsLocal = (units : List declared_unit.Unit) → AllByRecursion IsShaped units → IsLocal (program_rows units)
