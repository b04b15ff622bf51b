use Rattle.std.proofs.Common.{◌≡◌, subst}
use Rattle.std.specs.Prelude.{IfSome}
use Rattle.std.proofs.lemmas.Result.{IfErr-weaker}
use Rattle.jr_spell.proofs.Spelled.{none_refused, one_spelled, no_memory}
use Rattle.jr_spell.proofs.speller.Speller.spell_reference.Goals as goal

pub returns-in-Some-clause-spelled : goal.returns-in-Some-clause-spelled
returns-in-Some-clause-spelled c = λ whole sought all. c.add.ensures.spelled (one_spelled c.args.self.now c.args.reference.now.row c.in-Some.spelling c.in-Some.is (subst (λ o. IfSome o (λ a. a.row ≡ c.args.reference.now.row)) c.in-Some.is c.in-Ok.ensures.row) (λ named. c.in-Ok.ensures.first whole sought named)) all

pub returns-in-Some-clause-told : goal.returns-in-Some-clause-told
returns-in-Some-clause-told c = λ whole sought. let row = subst (λ o. IfSome o (λ a. a.row ≡ c.args.reference.now.row)) c.in-Some.is c.in-Ok.ensures.row in
    c.add.ensures.told whole sought row (one_spelled c.args.self.now c.args.reference.now.row c.in-Some.spelling c.in-Some.is row (λ named. c.in-Ok.ensures.first whole sought named))

pub returns-in-Some-clause-fault : goal.returns-in-Some-clause-fault
returns-in-Some-clause-fault c = λ whole sought. IfErr-weaker c.add.result _ _ (λ fault e. no_memory c.args.self.now e) c.add.ensures.fault

pub returns-in-None-clause-fault : goal.returns-in-None-clause-fault
returns-in-None-clause-fault c = λ whole sought. none_refused c.args.self.now c.args.reference.now.row c.refused.result c.refused.ensures c.in-None.is (λ named. c.in-Ok.ensures.first whole sought named)
