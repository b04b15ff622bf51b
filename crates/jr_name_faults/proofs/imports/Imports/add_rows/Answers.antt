use Rattle.std.proofs.Common.{◌≡◌, ◌∙◌, ap, subst, arith, length, ◌<◌}
use Rattle.jr_name_faults.specs.Imports.{rows_of}
use Rattle.jr_name_faults.proofs.Importing.{tops_end}
use Rattle.jr_name_faults.proofs.imports.Imports.add_rows.Goals as goal

pub loop-at-preserved : goal.loop-at-preserved
loop-at-preserved c = λ p t h. let inside : c.loop-at.at < length (rows_of c.args.self.now.world.now) = omega arith in
    c.in_ok-add_top.ensures p t (subst (λ q. c.loop-at.at < length q) h.rows_are inside) (c.loop-at.invariant p t h)

pub returns : goal.returns
returns c = λ p t h. let whole : c.loop-at.at ≡ length (rows_of c.args.self.now.world.now) = omega arith in tops_end _ (whole ∙ ap length h.rows_are) (c.loop-at.invariant p t h)
