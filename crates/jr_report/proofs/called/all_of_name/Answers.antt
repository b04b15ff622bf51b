use Rattle.std.proofs.Common.{subst, sym}
use Rattle.jr_members.specs.declared.declared.MemberKind.TheVariants as kind
use Rattle.jr_members.specs.Keys.{AreDeclared}
use Rattle.jr_report.specs.Listed.{rows_in}
use Rattle.jr_report.proofs.Gathering.{are_of_name, method_below}
use Rattle.jr_report.proofs.Referring.{if_ok_so}
use Rattle.jr_report.proofs.called.all_of_name.Goals as goal

pub returns : goal.returns
returns c = λ whole method. if_ok_so c.all_of_name.result (λ all h. are_of_name (rows_in c.args.world.now) c.args.method _ all.items (c.name-name.ensures (rows_in c.args.world.now) whole.world_is.seen.placed.are (method_below (rows_in c.args.world.now) c.args.method method)) h)
    (c.all_of_name.ensures (rows_in c.args.world.now) kind.Method (subst (λ n. AreDeclared (rows_in c.args.world.now) kind.Method n.declared) (sym c.kind-methods.ensures) whole.world_is.members_are.kinds_are.methods.declared_is))
