use Rattle.std.proofs.Common.{◌≡◌, ◌+◌, arith, sym, subst}
use Rattle.jr_defs.specs.Referents.{entries}
use Rattle.jr_constants.specs.Values.{value_in_if}
use Rattle.jr_constants.specs.Tables.{IsInIf, picks, values_in, valued_by}
use Rattle.jr_constants.proofs.Parts.{part_inside, cast_row, cast_inside, conditional_row, conditional_inside, unary_inside}
use Rattle.jr_constants.proofs.row_value.plain_row.Goals as goal

pub returns-in-Paren-clause-inside : goal.returns-in-Paren-clause-inside
returns-in-Paren-clause-inside c = λ texts small few known are. subst (IsInIf texts) (sym (c.first.ensures small)) (part_inside texts c.args.under.rows.now c.args.values.now c.args.at (c.args.at + 1) are)

pub returns-in-Cast-clause-exact : goal.returns-in-Cast-clause-exact
returns-in-Cast-clause-exact c = λ texts lt few plain. subst (λ l. value_in_if texts c.cast_value.result ≡ valued_by c.args.under.rows.now (entries c.args.under.table.now) (picks c.args.constant.now) (values_in texts c.args.variables.now) (values_in texts c.args.values.now) c.args.at l)
    (sym c.in-Cast.is) (cast_row texts c.args.under.rows.now (entries c.args.under.table.now) (picks c.args.constant.now) (values_in texts c.args.variables.now) c.args.values.now c.args.at c.cast_value.result lt (c.cast_value.ensures (omega arith) few))

pub returns-in-Cast-clause-inside : goal.returns-in-Cast-clause-inside
returns-in-Cast-clause-inside c = λ texts small few known are. cast_inside texts c.args.under.rows.now (entries c.args.under.table.now) (picks c.args.constant.now) (values_in texts c.args.variables.now) c.args.values.now c.args.at c.cast_value.result (c.cast_value.ensures small few) are

pub returns-in-Unary-clause-inside : goal.returns-in-Unary-clause-inside
returns-in-Unary-clause-inside c = λ texts small few known are. unary_inside texts c.args.under.rows.now (entries c.args.under.table.now) (picks c.args.constant.now) (values_in texts c.args.variables.now) c.args.values.now c.args.at c.unary.result _ (c.unary.ensures small) are

pub returns-in-Conditional-clause-exact : goal.returns-in-Conditional-clause-exact
returns-in-Conditional-clause-exact c = λ texts lt few plain. subst (λ l. value_in_if texts c.chosen_value.result ≡ valued_by c.args.under.rows.now (entries c.args.under.table.now) (picks c.args.constant.now) (values_in texts c.args.variables.now) (values_in texts c.args.values.now) c.args.at l)
    (sym c.in-Conditional.is) (conditional_row texts c.args.under.rows.now (entries c.args.under.table.now) (picks c.args.constant.now) (values_in texts c.args.variables.now) c.args.values.now c.args.at c.chosen_value.result lt (c.chosen_value.ensures (omega arith)))

pub returns-in-Conditional-clause-inside : goal.returns-in-Conditional-clause-inside
returns-in-Conditional-clause-inside c = λ texts small few known are. conditional_inside texts c.args.under.rows.now (entries c.args.under.table.now) (picks c.args.constant.now) (values_in texts c.args.variables.now) c.args.values.now c.args.at c.chosen_value.result (c.chosen_value.ensures small) are
