use Rattle.std.proofs.Common.{Some}
use Rattle.jr_defs.specs.Lookup.{MethodCandidate}
use Rattle.jr_defs.specs.declared.referent.Referent.TheVariants.{Unbound}
use Rattle.jr_lookup.proofs.Referring.{answer_all}
use Rattle.jr_lookup.proofs.Calling.{method_some, method_none}
use Rattle.jr_lookup.proofs.simple.Sight.method.Goals as goal

pub returns-in_ok-rows-in-Some : goal.returns-in_ok-rows-in-Some
returns-in_ok-rows-in-Some c = λ t x sight can number. let p = c.args.self.now.world.under.rows.now in
    answer_all (λ d l. MethodCandidate p t x c.args.place c.args.arguments.now d l) c.in_ok-rows-in-Some.rows.items (Some c.in-Some.over) Unbound _
    (method_some p t x c.args.place c.args.arguments.now c.in_ok-level.level (c.in_ok-level.ensures t x sight.world number) c.in-Some.over c.in-Some.is c.in_ok-rows-in-Some.rows.items (c.in_ok-rows-in-Some.ensures t x sight.world can number)) c.answer.ensures

pub returns-in_ok-rows-in-None : goal.returns-in_ok-rows-in-None
returns-in_ok-rows-in-None c = λ t x sight can number. let p = c.args.self.now.world.under.rows.now in
    answer_all (λ d l. MethodCandidate p t x c.args.place c.args.arguments.now d l) c.in_ok-rows-in-None.rows.items c.in_ok-level.level Unbound _
    (method_none p t x c.args.place c.args.arguments.now c.in_ok-level.level (c.in_ok-level.ensures t x sight.world number) c.in-None.is c.in_ok-rows-in-None.rows.items (c.in_ok-rows-in-None.ensures t x sight can number)) c.answer-in-None.ensures
