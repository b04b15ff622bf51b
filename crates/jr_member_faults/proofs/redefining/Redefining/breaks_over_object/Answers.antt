use Rattle.std.proofs.Common.{sym, ◌∙◌, subst}
use Rattle.std.proofs.lemmas.Option.{none-some, same_Some}
use Rattle.std.proofs.lemmas.Result.{IfOk-weaker}
use Rattle.jr_member_faults.specs.Nearest.{KeepsAtObject}
use Rattle.jr_member_faults.specs.Views.{rows_of, table_of}
use Rattle.jr_member_faults.proofs.Named.{the_object}
use Rattle.jr_member_faults.proofs.redefining.Redefining.breaks_over_object.Goals as goal

pub returns-in-Some : goal.returns-in-Some
returns-in-Some c = λ h th m. let w = c.args.self.now.world.now in IfOk-weaker c.breaks_at_object.result _ _
    (λ is told e o object. subst (λ x. KeepsAtObject (rows_of w) (table_of w) c.args.method c.args.at x) (same_Some c.in-Some.object o (sym c.in-Some.is ∙ c.object.ensures ∙ the_object w h o object)) (told e)) (c.breaks_at_object.ensures h th m)

pub returns-in-None : goal.returns-in-None
returns-in-None c = λ h th m e o object. let w = c.args.self.now.world.now in absurd (none-some o (sym c.in-None.is ∙ c.object.ensures ∙ the_object w h o object))
