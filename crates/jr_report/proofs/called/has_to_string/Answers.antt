use Rattle.std.proofs.Common.{◌∙◌, sym, subst}
use Rattle.jr_report.specs.Called.{AreDeclaredBy}
use Rattle.jr_report.specs.Listed.{rows_in}
use Rattle.jr_report.proofs.Gathering.{object_here, object_away, no_showing, showing_if}
use Rattle.jr_report.proofs.called.has_to_string.Goals as goal

pub returns-in_ok-methods-in-Some : goal.returns-in_ok-methods-in-Some
returns-in_ok-methods-in-Some c = λ whole. let is = object_here (rows_in c.args.world.now) c.in-Some.object whole.world_is.seen.above.well (sym whole.world_is.seen.above.object ∙ sym c.object.ensures ∙ c.in-Some.is) in
    showing_if (rows_in c.args.world.now) c.args.called.now c.in-Some.object _ _ is (λ o of. whole.world_is.seen.above.well.one o c.in-Some.object of is)
    (subst (AreDeclaredBy (rows_in c.args.world.now) c.in-Some.object) (sym c.deref.ensures.value) (c.in_ok-methods-in-Some.ensures whole)) c.has_stamped.ensures

pub returns-in-None : goal.returns-in-None
returns-in-None c = λ whole. no_showing (rows_in c.args.world.now) c.args.called.now (object_away (rows_in c.args.world.now) whole.world_is.seen.above.well (sym whole.world_is.seen.above.object ∙ sym c.object.ensures ∙ c.in-None.is))
