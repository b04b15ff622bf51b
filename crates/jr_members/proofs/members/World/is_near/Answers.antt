use Rattle.std.proofs.Common.{sym, ◌∙◌, ap, cond}
use Rattle.jr_plain.specs.Enclosing.{is_same_top_level}
use Rattle.jr_plain.specs.Packages.{is_same_package}
use Rattle.jr_members.proofs.members.World.is_near.Goals as goal

pub returns-then-is_private : goal.returns-then-is_private
returns-then-is_private c = λ t h. let p = c.args.self.under.rows.now in c.is_one_top.ensures p h.placed.are h.above.well.headed.tree h.placed.local
    ∙ ap (λ b. cond b (is_same_top_level p c.args.at c.args.place) (is_same_package p c.args.at c.args.place)) (sym c.if-is_private.true ∙ c.is_private.ensures)

pub returns : goal.returns
returns c = λ t h. let p = c.args.self.under.rows.now in c.is_one_package.ensures p h.placed.are h.placed.local h.placed.packages
    ∙ ap (λ b. cond b (is_same_top_level p c.args.at c.args.place) (is_same_package p c.args.at c.args.place)) (sym c.if-is_private.false ∙ c.is_private.ensures)
