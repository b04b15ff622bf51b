use Rattle.std.proofs.Common.{◌∙◌, sym, subst}
use Rattle.jr_plain.specs.Types.{parameters}
use Rattle.jr_supers.specs.Signatures.{AreSignatures}
use Rattle.jr_run.specs.Starting.{rows_in}
use Rattle.jr_run.proofs.Called.{method_callable}
use Rattle.jr_run.proofs.Started.{strings_more, strings_none, strings_there}
use Rattle.jr_run.proofs.start.takes_strings.Goals as goal

pub returns-then-not-has_one : goal.returns-then-not-has_one
returns-then-not-has_one c = λ t signed method. let own = subst (AreSignatures (rows_in c.args.world.now) t) (sym c.signatures-signatures.ensures) signed in
    strings_more (rows_in c.args.world.now) (parameters (rows_in c.args.world.now) t c.args.at) (sym c.if-not-has_one.true ∙ c.has_one.ensures (rows_in c.args.world.now) t own method)

pub returns-else-not-has_one : goal.returns-else-not-has_one
returns-else-not-has_one c = λ t signed method. let own = subst (AreSignatures (rows_in c.args.world.now) t) (sym c.signatures-signatures.ensures) signed in
    c.is_array_of_strings.ensures ∙ strings_there (rows_in c.args.world.now) (parameters (rows_in c.args.world.now) t c.args.at) _
    (c.in-Some.ensures (rows_in c.args.world.now) t own (method_callable (rows_in c.args.world.now) c.args.at method)) (sym c.if-not-has_one.false ∙ c.has_one.ensures (rows_in c.args.world.now) t own method)

pub returns-in-None : goal.returns-in-None
returns-in-None c = λ t signed method. let own = subst (AreSignatures (rows_in c.args.world.now) t) (sym c.signatures-signatures.ensures) signed in
    strings_none (rows_in c.args.world.now) (parameters (rows_in c.args.world.now) t c.args.at) (c.in-None.ensures (rows_in c.args.world.now) t own (method_callable (rows_in c.args.world.now) c.args.at method))
