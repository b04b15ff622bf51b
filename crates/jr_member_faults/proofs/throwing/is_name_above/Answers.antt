use Rattle.std.proofs.Common.{sym, ◌∙◌}
use Rattle.jr_plain.specs.Supertypes.{is_at_or_above}
use Rattle.jr_member_faults.specs.Views.{rows_of, table_of}
use Rattle.jr_member_faults.proofs.Checked.{above_is, no_declaration, one_declaration}
use Rattle.jr_member_faults.proofs.throwing.is_name_above.Goals as goal

pub returns-in-Some : goal.returns-in-Some
returns-in-Some c = λ h. let w = c.args.world.now in one_declaration (table_of w c.args.name) c.in-Some.over _ (λ s. is_at_or_above (rows_of w) (table_of w) c.args.class s) (sym c.declared.ensures ∙ c.in-Some.is)
    (above_is (rows_of w) (table_of w) h.whole.world_is.seen.above.well.headed c.args.class c.in-Some.over _ (c.is_at_or_above.ensures (table_of w) h.whole.world_is.seen.above))

pub returns-in-None : goal.returns-in-None
returns-in-None c = λ h. no_declaration (table_of c.args.world.now c.args.name) _ (sym c.declared.ensures ∙ c.in-None.is)
