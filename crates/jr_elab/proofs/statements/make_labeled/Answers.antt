use Rattle.std.proofs.Common.{refl}
use Rattle.std.proofs.lemmas.Result.{on_ok_weaker}
use Rattle.jr_codes.specs.Reads.{facts}
use Rattle.jr_expressions.specs.Statements.{return_made, plain_made}
use Rattle.jr_elab.proofs.Made.{plain_does, does_along, labeled_does, other_statement}
use Rattle.jr_elab.proofs.Stacking.{default_does}
use Rattle.jr_elab.proofs.statements.make_labeled.Goals as goal

pub returns-in-Return-clause-made : goal.returns-in-Return-clause-made
returns-in-Return-clause-made c = on_ok_weaker c.returned.result (λ becomes. labeled_does _ c.in-Return.is (plain_does (return_made _ (facts c.args.source.now) c.args.at) becomes (record { label = refl; group = refl; catch = refl }))) c.returned.ensures

pub returns-in-Case-clause-made : goal.returns-in-Case-clause-made
returns-in-Case-clause-made c = on_ok_weaker c.switch_case.result (λ does. labeled_does _ c.in-Case.is (does _ _)) c.switch_case.ensures

pub returns-in-Default-clause-made : goal.returns-in-Default-clause-made
returns-in-Default-clause-made c = on_ok_weaker c.switch_default.result (λ pushed. labeled_does _ c.in-Default.is (default_does _ _ _ pushed)) c.switch_default.ensures

pub returns-in-Group-clause-made : goal.returns-in-Group-clause-made
returns-in-Group-clause-made c = on_ok_weaker c.group.result (λ does. labeled_does _ c.in-Group.is (does _)) c.group.ensures

pub returns-in-Switch-clause-made : goal.returns-in-Switch-clause-made
returns-in-Switch-clause-made c = on_ok_weaker c.switch.result (λ does. labeled_does _ c.in-Switch.is (does _ _)) c.switch.ensures

pub returns-in-Catch-clause-made : goal.returns-in-Catch-clause-made
returns-in-Catch-clause-made c = on_ok_weaker c.catch.result (λ does. labeled_does _ c.in-Catch.is (does _ _)) c.catch.ensures

pub returns-in-Try-clause-made : goal.returns-in-Try-clause-made
returns-in-Try-clause-made c = on_ok_weaker c.try_catch.result (λ does. labeled_does _ c.in-Try.is (does _ _)) c.try_catch.ensures

pub returns-in_default-clause-made : goal.returns-in_default-clause-made
returns-in_default-clause-made c = on_ok_weaker c.plain_statement.result (λ becomes. does_along (λ parts. other_statement c.args.label.now (facts c.args.source.now) _ c.args.at parts c.in_default.not-Return c.in_default.not-Case c.in_default.not-Default c.in_default.not-Group c.in_default.not-Switch c.in_default.not-Catch c.in_default.not-Try) (plain_does (plain_made c.args.label.now (facts c.args.source.now) c.args.at) becomes (record { label = refl; group = refl; catch = refl }))) c.plain_statement.ensures
