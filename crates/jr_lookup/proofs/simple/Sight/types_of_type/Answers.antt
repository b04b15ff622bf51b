use Rattle.std.proofs.Common.{sym, subst}
use Rattle.std.proofs.lemmas.Result.{IfOk-weaker}
use Rattle.jr_defs.specs.Referents.{entries}
use Rattle.jr_members.specs.declared.declared.MemberKind.TheVariants as kind
use Rattle.jr_members.specs.Keys.{AreDeclared}
use Rattle.jr_lookup.proofs.Demanding.{declared_some, declared_none}
use Rattle.jr_lookup.proofs.simple.Sight.types_of_type.Goals as goal

pub returns-in-Some : goal.returns-in-Some
returns-in-Some c = λ t world. let p = c.args.self.now.world.under.rows.now in IfOk-weaker c.own.result _ _
    (λ found is. declared_some p c.args.name (entries c.args.self.now.world.under.table.now c.args.target) _ c.in-Some.over c.referred_type.ensures c.in-Some.is found.items is)
    (c.own.ensures p kind.Type (subst (λ types. AreDeclared p kind.Type types.declared) (sym c.kind-types.ensures) world.members_are.kinds_are.types.declared_is))

pub returns-in-None : goal.returns-in-None
returns-in-None c = λ t world. declared_none c.args.self.now.world.under.rows.now c.args.name (entries c.args.self.now.world.under.table.now c.args.target) _ c.referred_type.ensures c.in-None.is _ c.new.ensures.items
