use Rattle.std.proofs.Common.{subst, sym}
use Rattle.jr_flow.specs.Linked.{AreLinked}
use Rattle.jr_flow.specs.Woven.{IsWeb, definitions_of, uses_of}
use Rattle.jr_flow.proofs.webs.web_of.Goals as goal

pub returns-clause-lists : goal.returns-clause-lists
returns-clause-lists c = let locals = c.args.locals.now in subst (IsWeb (definitions_of locals) (uses_of locals) c.args.steps.now) (sym c.in_ok-new.ensures.ok) (record {
  definitions_are = c.in_ok-definitions.ensures.linked;
  uses_are = subst (λ xs. AreLinked xs c.in_ok-uses.uses) c.in_ok-definitions.ensures.uses c.in_ok-uses.ensures.linked;
  behind_are = c.in_ok-behind.ensures;
  before_are = c.in_ok-before.ensures;
})
