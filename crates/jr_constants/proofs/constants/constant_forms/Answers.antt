use Rattle.std.proofs.Common.{arith}
use Rattle.jr_defs.specs.Referents.{entries}
use Rattle.jr_plain.specs.Constants.{has_constant_form}
use Rattle.jr_constants.proofs.Forming.{forming_start, forming_next, forming_end}
use Rattle.jr_constants.proofs.constants.constant_forms.Goals as goal

pub loop-at-init : goal.loop-at-init
loop-at-init c = λ few. forming_start (has_constant_form c.args.under.rows.now (entries c.args.under.table.now)) _ c.new-all.ensures.items

pub loop-at-preserved : goal.loop-at-preserved
loop-at-preserved c = λ few. forming_next (has_constant_form c.args.under.rows.now (entries c.args.under.table.now)) _ _ c.loop-at.at _ (c.loop-at.invariant few) c.in_ok-push.ensures.items (c.has_constant_form.ensures few)

pub returns : goal.returns
returns c = λ few. forming_end c.args.under.rows.now (entries c.args.under.table.now) _ c.loop-at.at (c.loop-at.invariant few) (omega arith)
