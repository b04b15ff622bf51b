use Rattle.std.proofs.Common.{◌^◌, ◌<◌, length}
use Rattle.jr_defs.specs.Referents.{entries}
use Rattle.jr_plain.specs.Constants.{has_constant_form}
use Rattle.jr_constants.proofs.Forming.{IsForming}
use Rattle.jr_constants.proofs.constants.constant_forms.Given as goal

abbrev pub invariant-loop-at : goal.invariant-loop-at
invariant-loop-at l = length l.under.rows.now < 2 ^ 32 → IsForming (has_constant_form l.under.rows.now (entries l.under.table.now)) l.all.items l.at
