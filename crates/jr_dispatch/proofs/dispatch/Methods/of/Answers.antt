use Rattle.std.proofs.Common.{◌∙◌, ap, subst, sym}
use Rattle.jr_supers.specs.Signatures.{AreSignatures}
use Rattle.jr_members.specs.declared.declared.MemberKind.TheVariants as kind
use Rattle.jr_members.specs.Keys.{AreCallables, AreDeclared}
use Rattle.jr_dispatch.proofs.dispatch.Methods.of.Goals as goal

pub returns-clause-methods : goal.returns-clause-methods
returns-clause-methods c = λ t h. let p = c.args.world.now.under.rows.now in let seen = h.world_is.seen in let members = h.world_is.members_are in record {
  local = seen.placed.local;
  packages = seen.placed.packages;
  bare = h.bare;
  class = h.world_is.class;
  places = seen.placed.are;
  supers = seen.above;
  signatures = subst (λ s. AreSignatures p t s.signatures) (sym c.callables.ensures) members.signatures_are;
  callables = subst (λ s. AreCallables p s) (sym c.callables.ensures) members.callables_are;
  declared = subst (λ s. AreDeclared p kind.Method s) (sym (c.in_bodies.ensures ∙ ap (λ n. n.declared) c.kind.ensures)) members.kinds_are.methods.declared_is;
}
