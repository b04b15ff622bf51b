use Rattle.std.proofs.Common.{sym, ◌∙◌, ap, ◌&&◌}
use Rattle.jr_member_faults.specs.Unfound.{leaves_of}
use Rattle.jr_member_faults.specs.Views.{rows_of, table_of}
use Rattle.jr_member_faults.proofs.unfound.Unfound.leaves_at.Goals as goal

pub returns-then-not-is_above : goal.returns-then-not-is_above
returns-then-not-is_above c = λ h are class. let w = c.args.world.now in
    sym (ap (λ b. b && leaves_of (rows_of w) (table_of w) c.args.self.now.abstracts c.args.class c.args.over) (sym (c.is_above.ensures.plain (table_of w) h.whole.world_is.seen.above) ∙ c.if-not-is_above.true))

pub returns : goal.returns
returns c = λ h are class. let w = c.args.world.now in c.in_ok-is.ensures h are class ((c.is_above.ensures.above (table_of w) h.whole.world_is.seen.above).0 c.if-not-is_above.false)
    ∙ sym (ap (λ b. b && leaves_of (rows_of w) (table_of w) c.args.self.now.abstracts c.args.class c.args.over) (sym (c.is_above.ensures.plain (table_of w) h.whole.world_is.seen.above) ∙ c.if-not-is_above.false))
