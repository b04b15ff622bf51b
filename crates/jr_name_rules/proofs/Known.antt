-- The types of expressions of a program are those that are computed.
use Rattle.std.proofs.Common.{ℕ, ◌+◌}
use Rattle.jr_base.specs.declared.constant.Const.{Const}
use Rattle.jr_tree.specs.Rows.{Rows, end}
use Rattle.jr_defs.specs.Referents.{Table}
use Rattle.jr_defs.specs.Constants.{HasConstantForm, ConstantOf, ConstantVariable}
use Rattle.jr_defs.specs.Laws.{Picked}
use Rattle.jr_defs.specs.Typing.{TypeOf}
use Rattle.jr_plain.specs.Search.{Finds}
use Rattle.jr_plain.specs.Constants.{constants, has_constant_form}
use Rattle.jr_plain.specs.Typing.{IsTypable}
use Rattle.jr_plain.proofs.Finding.{like_finds}
use Rattle.jr_plain.proofs.Valued.{form_constants_find}
use Rattle.jr_plain.proofs.Expressions.{expression_finds}
use Rattle.jr_name_rules.specs.Computed.{types}

module _ (p : Rows) (t : Table) (typable : IsTypable p t) where
  values_find : (n : ℕ) → Finds (constants p t (has_constant_form p t) n) (λ v. ConstantOf p t (HasConstantForm p t) n v)
  values_find n = form_constants_find p t typable n

  pub types_find : (n : ℕ) → Finds (types p t n) (λ a. TypeOf p t (HasConstantForm p t) n a)
  types_find = expression_finds p t typable (HasConstantForm p t) (constants p t (has_constant_form p t)) values_find
