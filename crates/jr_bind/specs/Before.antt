-- What stands before the dot of a name, by the type of the row there, and what else is asked of types behind a row (JLS 6.5, 15.11, 15.12).
use Rattle.std.specs.Prelude.{◌≡◌, ℕ, ◌+◌, List, Option}
use Rattle.jr_tree.specs.declared.label.Sought.{Sought}
use Rattle.jr_tree.specs.declared.label.Sought.TheVariants as sought
use Rattle.jr_tree.specs.Rows.{Rows, parent}
use Rattle.jr_defs.specs.declared.referent.RowType.{RowType}
use Rattle.jr_defs.specs.Referents.{Table}
use Rattle.jr_defs.specs.Constants.{HasConstantForm}
use Rattle.jr_defs.specs.Typing.{TypeOf}
use Rattle.jr_plain.specs.Search.{Finds}
use Rattle.jr_lookup.specs.declared.qualified.Left.{Left}
use Rattle.jr_lookup.specs.declared.qualified.Left.TheVariants as left
use Rattle.jr_lookup.specs.Behind.{type_in, left_by, NeedsValue, RefersByNames}
use Rattle.jr_lookup.specs.Calls.{NeedsTypes}

-- where it is neither a package nor a type, an expression of this type, or nothing
abbrev pub with_type : Left → Option RowType → Left
with_type (left.Package number) a = left.Package number
with_type (left.OfType c) a = left.OfType c
with_type _ a = left_by a

-- the type of what stands before the dot of a row is known
pub record IsTypedBefore (p : Rows) (t : Table) (types : List (Option RowType)) (n : ℕ) : Type 0 where
  pub refers : RefersByNames p t
  pub typed : parent p (n + 1) ≡ n → Finds (type_in types (n + 1)) (λ a. TypeOf p t (HasConstantForm p t) (n + 1) a)

-- a name behind a dot asks for the type of what stands before it alone
abbrev pub NeedsBefore : Sought → Type 0
NeedsBefore (sought.Qualified k) = NeedsValue k
NeedsBefore _ = ⊥

-- what else asks for types asks for those of all that stands behind it
abbrev pub NeedsBehind : Sought → Type 0
NeedsBehind (sought.Qualified k) = ⊥
NeedsBehind s = NeedsTypes s
