use Rattle.std.proofs.Common.{◌∙◌, sym, subst}
use Rattle.jr_run.specs.Starting.{IsStartIn, IsStartOf, rows_in, table_in}
use Rattle.jr_run.proofs.Started.{no_memory}
use Rattle.jr_run.proofs.start.start_of_class.Goals as goal

pub returns-then-is_in_prelude : goal.returns-then-is_in_prelude
returns-then-is_in_prelude c = λ read ordered name named. IsStartOf.in_prelude named (sym (c.is_in_prelude.ensures ordered) ∙ c.if-is_in_prelude.true)

pub returns-in-Some : goal.returns-in-Some
returns-in-Some c = λ read ordered name named. IsStartOf.start named (sym (c.is_in_prelude.ensures ordered) ∙ c.if-is_in_prelude.false)
    (subst (IsStartIn (rows_in c.args.project.now.view.sight.world) (table_in c.args.project.now.view.sight.world) c.args.class) c.in-Some.is (c.in_ok-found.ensures read))

pub returns-in-None : goal.returns-in-None
returns-in-None c = λ read ordered name named. IsStartOf.no_main named (sym (c.is_in_prelude.ensures ordered) ∙ c.if-is_in_prelude.false)
    (subst (IsStartIn (rows_in c.args.project.now.view.sight.world) (table_in c.args.project.now.view.sight.world) c.args.class) c.in-None.is (c.in_ok-found.ensures read))

pub returns-in_err-found : goal.returns-in_err-found
returns-in_err-found c = λ read ordered name named. no_memory c.args.project.now name c.from_residual.result c.from_residual.ensures.1
