use Rattle.std.proofs.Common.{◌≡◌, ◌∙◌, ap, arith, length}
use Rattle.jr_name_faults.specs.Imports.{rows_of}
use Rattle.jr_name_faults.proofs.Bringing.{statics_end}
use Rattle.jr_name_faults.proofs.statics.Statics.add_rows.Goals as goal

pub loop-at-preserved : goal.loop-at-preserved
loop-at-preserved c = λ world h. c.in_ok-add_row.ensures world (c.loop-at.invariant world h)

pub returns : goal.returns
returns c = λ world h. let whole : c.loop-at.at ≡ length (rows_of c.args.self.now.world.now) = omega arith in statics_end _ (whole ∙ ap (λ w. length (rows_of w)) h.world_is) (c.loop-at.invariant world h)
