use Rattle.std.proofs.Common.{subst, sym, ◌∙◌, ap}
use Rattle.jr_dispatch.specs.Methods.{AreMethods}
use Rattle.jr_member_faults.specs.Views.{rows_of, table_of}
use Rattle.jr_member_faults.proofs.Overridden.{hides_by, overrides_by, overriding_in}
use Rattle.jr_member_faults.proofs.redefining.redefines.Goals as goal

pub returns-then-is_static : goal.returns-then-is_static
returns-then-is_static c = λ h same. hides_by (rows_of c.args.world.now) (table_of c.args.world.now) h.whole.world_is.seen.above.well.headed c.args.method c.args.other same _ (sym c.is_static.ensures ∙ c.if-is_static.true) (c.is_reached.ensures h)

pub returns : goal.returns
returns c = λ h same. let w = c.args.world.now in overrides_by (rows_of w) (table_of w) h.whole.world_is.seen.above.well.headed c.args.method c.args.other same _ (sym c.is_static.ensures ∙ c.if-is_static.false)
    (overriding_in (table_of w) c.of.result (rows_of w) (ap (λ u. u.rows.now) c.of.ensures.under) (subst (λ q. AreMethods q (table_of w) c.of.result) (sym (ap (λ u. u.rows.now) c.of.ensures.under)) (c.of.ensures.methods (table_of w) h.whole)) c.args.method c.args.other same _
    (λ a m k. c.in_ok-is.ensures (table_of w) a m k))
