use Rattle.std.proofs.Common.{sym, subst}
use Rattle.jr_members.specs.declared.declared.MemberKind.TheVariants as kind
use Rattle.jr_members.specs.Keys.{AreDeclared}
use Rattle.jr_report.specs.Listed.{rows_in}
use Rattle.jr_report.proofs.Gathering.{are_declared_by}
use Rattle.jr_report.proofs.Referring.{if_ok_so}
use Rattle.jr_report.proofs.called.declared_by.Goals as goal

pub returns : goal.returns
returns c = λ whole. if_ok_so c.declared_by.result (λ all h. are_declared_by (rows_in c.args.world.now) c.args.over all.items h)
    (c.declared_by.ensures (rows_in c.args.world.now) kind.Method (subst (λ n. AreDeclared (rows_in c.args.world.now) kind.Method n.declared) (sym c.kind-methods.ensures) whole.world_is.members_are.kinds_are.methods.declared_is))
