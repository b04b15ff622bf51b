use Rattle.std.proofs.Common.{◌∙◌, sym, ap, subst, map, Err, OnOk}
use Rattle.std.proofs.lemmas.Result.{err_from_is_err_and}
use Rattle.jr_defs.specs.declared.program.UnitAt.{UnitAt}
use Rattle.jr_prelude.specs.Begins.{BeginsWithLang}
use Rattle.jr_front.specs.Refusing.{IsRefusal, no_memory}
use Rattle.jr_front.specs.Tested.{HasNoTopFault}
use Rattle.jr_front.specs.declared.fault.FrontFault.TheVariants.{OutOfMemory}
use Rattle.jr_front.proofs.Refused.{err_is}
use Rattle.jr_front.proofs.front.tables_of.Goals as goal

pub returns-clause-names : goal.returns-clause-names
returns-clause-names c = subst (λ r. OnOk c.bound_program.result (HasNoTopFault r)) c.in_ok-index.ensures.rows
    (c.bound_program.ensures.names (record { units = map (λ (u : UnitAt). u.unit) c.args.program.units; shaped = c.requires; rows_are = c.in_ok-index.ensures.rows }))

pub returns-clause-err : goal.returns-clause-err
returns-clause-err c = λ begins apart placed. c.bound_program.ensures.err (record { units = map (λ (u : UnitAt). u.unit) c.args.program.units; shaped = c.requires; rows_are = c.in_ok-index.ensures.rows })
    (subst BeginsWithLang (sym c.in_ok-index.ensures.rows) begins)
    (record { shaped = c.requires; apart = apart; rows = c.in_ok-index.ensures.rows; marks = c.in_ok-index.ensures.marks }) placed

pub returns-in_err-index-clause-err : goal.returns-in_err-index-clause-err
returns-in_err-index-clause-err c = λ begins apart placed.
    let p = err_from_is_err_and c.from_residual.result c.from_residual.ensures.1 in
    err_is (IsRefusal c.args.program) c.from_residual.result OutOfMemory (p.1 ∙ ap Err p.2) no_memory
