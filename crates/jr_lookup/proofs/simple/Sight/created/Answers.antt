use Rattle.std.proofs.Common.{None}
use Rattle.jr_defs.specs.Enclosing.{ConstructorOf}
use Rattle.jr_defs.specs.Overloads.{Choice}
use Rattle.jr_defs.specs.declared.referent.Referent.TheVariants.{Unbound}
use Rattle.jr_lookup.specs.Answers.{IsThrough}
use Rattle.jr_lookup.proofs.Referring.{answer_all}
use Rattle.jr_lookup.proofs.Calling.{all_through}
use Rattle.jr_lookup.proofs.simple.Sight.created.Goals as goal

pub returns : goal.returns
returns c = λ t world can. let p = c.args.self.now.world.under.rows.now in
    answer_all (IsThrough (Choice p t c.args.class c.args.place None c.args.arguments.now (ConstructorOf p c.args.class)) c.args.level) c.in_ok-rows.rows.items c.args.level Unbound _
    (all_through (Choice p t c.args.class c.args.place None c.args.arguments.now (ConstructorOf p c.args.class)) c.in_ok-rows.rows.items c.args.level (c.in_ok-rows.ensures t world can)) c.answer.ensures
