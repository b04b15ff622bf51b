use Rattle.std.proofs.Common.{◌∙◌, ap}
use Rattle.std.specs.List.{list_any}
use Rattle.jr_plain.specs.Supertypes.{is_at_or_above}
use Rattle.jr_member_faults.specs.Views.{rows_of, table_of}
use Rattle.jr_member_faults.proofs.Checked.{checked_is}
use Rattle.jr_member_faults.proofs.throwing.Thrown.is_checked.Goals as goal

pub returns : goal.returns
returns c = λ h th. let w = c.args.world.now in c.is_first_alone.ensures ∙ checked_is (rows_of w) (table_of w) c.args.self.now th c.args.class _ _ _
    (c.is_below-is_throwable.ensures h ∙ ap (list_any (λ s. is_at_or_above (rows_of w) (table_of w) c.args.class s)) c.deref.ensures.value)
    (c.is_below-is_error.ensures h ∙ ap (list_any (λ s. is_at_or_above (rows_of w) (table_of w) c.args.class s)) c.deref-2.ensures.value)
    (c.is_below-is_runtime.ensures h ∙ ap (list_any (λ s. is_at_or_above (rows_of w) (table_of w) c.args.class s)) c.deref-3.ensures.value)
