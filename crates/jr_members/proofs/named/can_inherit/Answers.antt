use Rattle.std.proofs.Common.{◌≡◌, sym, ◌∙◌, ap, subst, Decides}
use Rattle.jr_defs.specs.Members.{CanInherit}
use Rattle.jr_plain.specs.Members.{can_inherit}
use Rattle.jr_plain.proofs.Membership.{can_inherit_tells}
use Rattle.jr_members.specs.Named.{is_open}
use Rattle.jr_members.specs.Sources.{ArePlaced}
use Rattle.jr_members.proofs.named.can_inherit.Goals as goal

pub returns : goal.returns
returns c = record {
  plain = λ placed. c.is_open.ensures ∙ ap (is_open c.args.under.rows.now c.args.at) (c.is_one_package-is_same.ensures c.args.under.rows.now placed.are placed.local placed.packages);
  inherits = λ placed. subst (λ b. Decides b (CanInherit c.args.under.rows.now c.args.over c.args.at))
      (sym (c.is_open.ensures ∙ ap (is_open c.args.under.rows.now c.args.at) (c.is_one_package-is_same.ensures c.args.under.rows.now placed.are placed.local placed.packages))) (can_inherit_tells c.args.under.rows.now c.args.over c.args.at);
}
