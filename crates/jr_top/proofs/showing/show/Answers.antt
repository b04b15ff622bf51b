use Rattle.std.proofs.Common.{Err, subst}
use Rattle.jr_top.specs.Showing.{AnsweredAs, IsWorkspaceOf}
use Rattle.jr_top.specs.declared.showing.Unanswered.{Unanswered}
use Rattle.jr_top.proofs.showing.show.Goals as goal

pub returns-in-Ok-answered : goal.returns-in-Ok-answered
returns-in-Ok-answered c = λ asked is.
    let of : IsWorkspaceOf c.args.files.now c.in-Ok.workspace = record { reads = c.in-Ok.ensures.ok; compiles = c.in-Ok.ensures.compiles; indexed = c.in-Ok.ensures.indexed; bound = c.in-Ok.ensures.bound } in
    (c.in-Ok.ensures.checked, c.in-Ok-answered.ensures asked c.args.files.now is of)

pub returns-in-Err-Bad : goal.returns-in-Err-Bad
returns-in-Err-Bad c = λ asked is.
    let of : IsWorkspaceOf c.args.files.now c.in-Ok.workspace = record { reads = c.in-Ok.ensures.ok; compiles = c.in-Ok.ensures.compiles; indexed = c.in-Ok.ensures.indexed; bound = c.in-Ok.ensures.bound } in
    (c.in-Ok.ensures.checked, subst (λ (f : Unanswered). AnsweredAs asked c.args.files.now (Err f)) c.in-Err-Bad.field-0-is (c.in-Err-Bad.ensures asked c.args.files.now is of))
