use Rattle.std.proofs.Common.{refl}
use Rattle.jr_defs.specs.declared.referent.Space.TheVariants as space
use Rattle.jr_defs.specs.declared.referent.Referent.TheVariants.{Unbound}
use Rattle.jr_defs.specs.Members.{MemberNamed}
use Rattle.jr_defs.specs.Overloads.{Choice}
use Rattle.jr_lookup.specs.Answers.{IsFree}
use Rattle.jr_lookup.proofs.Referring.{answer_all}
use Rattle.jr_lookup.proofs.Calling.{all_free}
use Rattle.jr_lookup.proofs.simple.Sight.method_of.Goals as goal

pub returns : goal.returns
returns c = λ t x world can number. let p = c.args.self.now.world.under.rows.now in
    answer_all (IsFree (Choice p t c.args.receiver.class c.args.place c.args.receiver.ty c.args.arguments.now (MemberNamed p t space.Method x c.args.receiver.class))) c.in_ok-rows.rows.items _ Unbound _
    (all_free (Choice p t c.args.receiver.class c.args.place c.args.receiver.ty c.args.arguments.now (MemberNamed p t space.Method x c.args.receiver.class)) c.in_ok-rows.rows.items _ (c.in_ok-rows.ensures t x world can number) refl) c.answer.ensures
