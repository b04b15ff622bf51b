use Rattle.std.proofs.Common.{refl, sym, ◌∙◌, arith}
use Rattle.jr_name_faults.proofs.Scoped.{row_inside, few_rows, entered_none, entered_block, beside_below}
use Rattle.jr_name_faults.proofs.locals.Locals.enter.Goals as goal

pub returns-then-not-is_block : goal.returns-then-not-is_block
returns-then-not-is_block c = λ p lt h. entered_none c.args.self.now h (sym c.is_block.ensures ∙ c.if-not-is_block.true)

pub returns : goal.returns
returns c = λ p lt h. let inside = row_inside c.args.self.now h c.args.at lt in let few = few_rows c.args.self.now h in
    entered_block c.args.self.now _ c.parent_at-over.result c.end_at-end.result c.deref.result.now h (sym c.is_block.ensures ∙ c.if-not-is_block.false) c.parent_at-over.ensures (c.end_at-end.ensures (omega arith)) (c.deref.ensures.value ∙ c.in_ok-beside.ensures) refl refl refl refl refl
    (c.open_all.ensures p h.placed.are (beside_below c.args.self.now _ _ h (c.deref.ensures.value ∙ c.in_ok-beside.ensures)))
