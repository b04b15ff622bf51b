use Rattle.std.proofs.Common.{subst}
use Rattle.jr_run.specs.Runs.{IsRunText}
use Rattle.jr_run.specs.Starting.{IsReadWorld, IsStartOf}
use Rattle.jr_run.proofs.Ran.{no_start}
use Rattle.jr_run.proofs.run.run_text.Goals as goal

pub returns-then-not-are_few : goal.returns-then-not-are_few
returns-then-not-are_few c = λ read. IsRunText.no_memory

pub returns-in-Ok : goal.returns-in-Ok
returns-in-Ok c = λ read.
    let world : IsReadWorld c.args.project.now.view.sight.world = record { whole = read.whole; sized = read.sized; few = c.are_few.ensures.0 c.if-not-are_few.false } in
    c.run_from.ensures world c.args.class.now (subst (IsStartOf c.args.project.now c.args.class.now) c.in-Ok.is (c.start_of.ensures world read.ordered))

pub returns-in-Err : goal.returns-in-Err
returns-in-Err c = λ read.
    let world : IsReadWorld c.args.project.now.view.sight.world = record { whole = read.whole; sized = read.sized; few = c.are_few.ensures.0 c.if-not-are_few.false } in
    no_start c.args.project.now c.args.class.now c.args.steps _ (subst (IsStartOf c.args.project.now c.args.class.now) c.in-Err.is (c.start_of.ensures world read.ordered))
