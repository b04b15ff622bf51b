use Rattle.std.proofs.Common.{refl, sym, ◌∙◌, ap₂, true, false, ◌||◌}
use Rattle.jr_plain.specs.Access.{is_by_protected, is_by_super_call}
use Rattle.jr_members.specs.Near.{is_near}
use Rattle.jr_members.proofs.Accessing.{accessible_is}
use Rattle.jr_members.proofs.members.World.is_accessible.Goals as goal

pub returns-then-is_open : goal.returns-then-is_open
returns-then-is_open c = λ t h. let p = c.args.self.under.rows.now in accessible_is p t h.above.well.headed c.args.at c.args.place c.args.receiver true (is_near p c.args.at c.args.place) (is_by_protected p t c.args.at c.args.place c.args.receiver || is_by_super_call p c.args.at c.args.place)
    (sym c.if-is_open.true ∙ c.is_open.ensures) refl refl

pub returns-then-is_near : goal.returns-then-is_near
returns-then-is_near c = λ t h. let p = c.args.self.under.rows.now in accessible_is p t h.above.well.headed c.args.at c.args.place c.args.receiver false true (is_by_protected p t c.args.at c.args.place c.args.receiver || is_by_super_call p c.args.at c.args.place)
    (sym c.if-is_open.false ∙ c.is_open.ensures) (sym c.if-is_near.true ∙ c.is_near.ensures t h) refl

pub returns : goal.returns
returns c = λ t h. let p = c.args.self.under.rows.now in c.either.ensures ∙ accessible_is p t h.above.well.headed c.args.at c.args.place c.args.receiver false false (c.is_by_protected-by_protected.result || c.is_by_super_call-by_call.result)
    (sym c.if-is_open.false ∙ c.is_open.ensures) (sym c.if-is_near.false ∙ c.is_near.ensures t h) (ap₂ (λ a b. a || b) (c.is_by_protected-by_protected.ensures t h) c.is_by_super_call-by_call.ensures)
