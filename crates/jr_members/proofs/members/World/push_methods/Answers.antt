use Rattle.std.proofs.Common.{◌≡◌, sym, ◌∙◌, subst}
use Rattle.std.proofs.lemmas.Result.{IfOk-weaker}
use Rattle.jr_defs.specs.Supertypes.{AtOrAbove}
use Rattle.jr_plain.specs.Search.{Lists}
use Rattle.jr_members.proofs.Objects.{adds_none, adds_by, no_items}
use Rattle.jr_members.proofs.members.World.push_methods.Goals as goal

pub returns-then-is_empty : goal.returns-then-is_empty
returns-then-is_empty c = λ t h rows once. adds_none c.args.self.under.rows.now t c.args.over c.args.own.now c.args.found.now.items (no_items c.args.own.now (sym c.is_empty.ensures ∙ c.if-is_empty.true)) once

pub returns : goal.returns
returns c = λ t h rows once. let p = c.args.self.under.rows.now in
    IfOk-weaker c.push_left.result _ _ (λ u is. adds_by p t c.args.over c.args.own.now c.args.found.now.items _ c.deref.result.now (subst (λ xs. Lists xs (AtOrAbove p t c.args.over)) (sym c.deref.ensures.value) (c.in_ok-above.ensures t h.seen.above).has) is)
    (c.push_left.ensures t h rows once)
