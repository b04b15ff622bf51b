use Rattle.std.proofs.Common.{◌∙◌, sym, ap, subst, Err}
use Rattle.std.proofs.lemmas.Result.{err_from_is_err_and}
use Rattle.jr_headed.specs.Founded.{IsProgram}
use Rattle.jr_index.specs.Marking.{Marked}
use Rattle.jr_front.specs.Refusing.{IsRefusal, no_memory}
use Rattle.jr_front.specs.Tested.{HasNoTopFault}
use Rattle.jr_front.specs.declared.fault.FrontFault.TheVariants.{OutOfMemory}
use Rattle.jr_front.proofs.Bound.{bound_in, program_so}
use Rattle.jr_front.proofs.Refused.{err_is}
use Rattle.jr_front.proofs.Refusals.{made_of, ordered_so, names_refused, cycle_refused}
use Rattle.jr_front.proofs.front.bound_program.Goals as goal

pub returns-clause-bound : goal.returns-clause-bound
returns-clause-bound c = bound_in _ c.of-marks.result.rows.now c.deref-2.result.now c.deref-3.result.now c.deref-4.result.now (c.of-marks.ensures.rows ∙ ap (λ (m : Marked). m.rows) c.deref.ensures) c.deref-2.ensures c.deref-3.ensures c.deref-4.ensures
    c.in_ok-places.ensures.tables c.in_ok-scopes.ensures.scopes c.in_ok-scopes.ensures.tops c.in_ok-bound.ensures.binding

pub returns-clause-names : goal.returns-clause-names
returns-clause-names c = subst (λ r. IsProgram r → HasNoTopFault r) (c.of-marks.ensures.rows ∙ ap (λ (m : Marked). m.rows) c.deref.ensures) c.in_ok-places.ensures.names

pub returns-in_err-places-clause-err : goal.returns-in_err-places-clause-err
returns-in_err-places-clause-err c = λ is begins indexed placed.
    let p = err_from_is_err_and c.from_residual.result c.from_residual.ensures.1 in
    let made = made_of c.args.program c.args.index.value c.deref.result.now c.of-marks.result c.deref.ensures c.of-marks.ensures.made indexed in
    let ordered = ordered_so c.args.program c.args.index.value c.of-marks.result indexed made in
    err_is (IsRefusal c.args.program) c.from_residual.result c.in_err-places.field-0.0 (p.1 ∙ ap Err p.2)
    (names_refused c.args.program c.of-marks.result made placed
    c.in_err-places.field-0.0 (c.in_err-places.ensures.err ordered (subst IsProgram (sym (c.of-marks.ensures.rows ∙ ap (λ (m : Marked). m.rows) c.deref.ensures)) is)))

pub returns-in_err-scopes-clause-err : goal.returns-in_err-scopes-clause-err
returns-in_err-scopes-clause-err c = λ is begins indexed placed.
    let p = err_from_is_err_and c.from_residual-in_err-scopes.result c.from_residual-in_err-scopes.ensures.1 in
    err_is (IsRefusal c.args.program) c.from_residual-in_err-scopes.result OutOfMemory (p.1 ∙ ap Err p.2) no_memory

pub returns-in_err-bound-clause-err : goal.returns-in_err-bound-clause-err
returns-in_err-bound-clause-err c = λ is begins indexed placed.
    let p = err_from_is_err_and c.from_residual-in_err-bound.result c.from_residual-in_err-bound.ensures.1 in
    let made = made_of c.args.program c.args.index.value c.deref.result.now c.of-marks.result c.deref.ensures c.of-marks.ensures.made indexed in
    let ordered = ordered_so c.args.program c.args.index.value c.of-marks.result indexed made in
    let one = c.of-marks.ensures.rows ∙ ap (λ (m : Marked). m.rows) c.deref.ensures in
    err_is (IsRefusal c.args.program) c.from_residual-in_err-bound.result c.in_err-bound.field-0.0 (p.1 ∙ ap Err p.2)
    (cycle_refused c.args.program c.of-marks.result made
    (record { placed = placed; names = subst HasNoTopFault (one ∙ indexed.rows) (c.in_ok-places.ensures.names (subst IsProgram (sym one) is)) })
    c.in_err-bound.field-0.0 (c.in_err-bound.ensures.err ordered
    (program_so c.args.index.value.rows c.of-marks.result.rows.now c.in_ok-places.places.value c.deref-2.result.now c.deref-3.result.now c.in_ok-scopes.scopes.value c.deref-4.result.now one c.deref-2.ensures c.deref-3.ensures c.deref-4.ensures
    is begins c.in_ok-places.ensures.tables c.in_ok-scopes.ensures.scopes c.in_ok-scopes.ensures.tops)))
