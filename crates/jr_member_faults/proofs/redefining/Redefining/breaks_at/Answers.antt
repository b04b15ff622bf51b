use Rattle.std.proofs.Common.{sym, ◌∙◌, subst}
use Rattle.jr_plain.specs.Search.{Lists}
use Rattle.jr_members.specs.declared.declared.MemberKind.TheVariants as kinds
use Rattle.jr_members.specs.Held.{IsHeldAs}
use Rattle.jr_members.specs.Sources.{AreNamed}
use Rattle.jr_members.proofs.Objects.{kind_named, named_climb}
use Rattle.jr_member_rules.proofs.Redefined.{method_row}
use Rattle.jr_member_faults.specs.Views.{rows_of, table_of}
use Rattle.jr_member_faults.proofs.Nearing.{kept_at, held_methods}
use Rattle.jr_member_faults.proofs.redefining.Redefining.breaks_at.Goals as goal

pub returns : goal.returns
returns c = λ h th m e. let w = c.args.self.now.world.now in let p = rows_of w in let t = table_of w in let S = w.supers.now in let world = h.whole.world_is in
    let named : AreNamed p t S kinds.Method c.kind-methods.result.now = subst (λ n. AreNamed p t S kinds.Method n) (sym c.kind-methods.ensures) (kind_named p t S w.members.now world.members_are.kinds_are kinds.Method) in
    let found = c.in_ok-held.ensures t kinds.Method world.seen named.declared_is (named_climb p t S kinds.Method c.kind-methods.result.now c.args.over named) named.near in
    let listed = subst (λ xs. Lists xs (IsHeldAs p t kinds.Method c.args.over c.name-name.result)) (sym c.deref.ensures.value) found.lists in
    kept_at p t world.seen.above.well.headed c.args.method c.args.over c.name-name.result _ _ (sym (c.name-name.ensures p world.seen.placed.are (method_row p c.args.method m))) listed
    (c.in_ok-is.ensures h th m (held_methods p t c.args.over c.name-name.result _ listed)) e
