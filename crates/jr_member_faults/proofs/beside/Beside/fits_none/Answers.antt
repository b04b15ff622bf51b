use Rattle.std.proofs.Common.{sym, ◌∙◌, ap, ap₂, not, ◌&&◌, ◌||◌}
use Rattle.jr_plain.specs.Modifiers.{is_abstract}
use Rattle.jr_member_faults.specs.declared.beside.Clash.TheVariants as clash
use Rattle.jr_member_faults.specs.Beside.{has_clashing}
use Rattle.jr_member_faults.specs.Views.{rows_of, table_of}
use Rattle.jr_member_faults.proofs.beside.Beside.fits_none.Goals as goal

pub returns-then-not-are_same : goal.returns-then-not-are_same
returns-then-not-are_same c = λ h. let w = c.args.self.world.now in sym (ap (λ a. not a || (is_abstract (rows_of w) c.args.other && has_clashing (rows_of w) (table_of w) clash.Results c.args.self.over c.args.all.now c.args.other)) (sym (c.are_same.ensures h.right) ∙ c.if-not-are_same.true))

pub returns-then-not-is_abstract : goal.returns-then-not-is_abstract
returns-then-not-is_abstract c = λ h. let w = c.args.self.world.now in sym (ap₂ (λ a b. not a || (b && has_clashing (rows_of w) (table_of w) clash.Results c.args.self.over c.args.all.now c.args.other)) (sym (c.are_same.ensures h.right) ∙ c.if-not-are_same.false) (sym c.is_abstract.ensures ∙ c.if-not-is_abstract.true))

pub returns : goal.returns
returns c = λ h. let w = c.args.self.world.now in c.in_ok-is.ensures h ∙ sym (ap₂ (λ a b. not a || (b && has_clashing (rows_of w) (table_of w) clash.Results c.args.self.over c.args.all.now c.args.other)) (sym (c.are_same.ensures h.right) ∙ c.if-not-are_same.false) (sym c.is_abstract.ensures ∙ c.if-not-is_abstract.false))
