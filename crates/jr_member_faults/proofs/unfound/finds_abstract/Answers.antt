use Rattle.std.proofs.Common.{ap}
use Rattle.jr_member_faults.specs.Views.{rows_of, table_of}
use Rattle.jr_member_faults.proofs.Abstracts.{found_is, found_in}
use Rattle.jr_member_faults.proofs.unfound.finds_abstract.Goals as goal

pub returns : goal.returns
returns c = λ h class had. let w = c.args.world.now in found_is (rows_of w) (table_of w) h.whole.world_is.seen.above.well c.args.class c.args.method _ _ class had
    (found_in (table_of w) c.of.result (rows_of w) (ap (λ u. u.rows.now) c.of.ensures.under) (c.of.ensures.methods (table_of w) h.whole) c.args.class c.args.method _ (λ a. c.in_ok-found.ensures (table_of w) a))
    c.is_found_abstract.ensures
