use Rattle.std.proofs.Common.{◌≡◌, true}
use Rattle.jr_kept.proofs.Moved.{row_told, no_row_told}
use Rattle.jr_kept.proofs.returning.put_from.Goals as goal

pub returns-in-Some : goal.returns-in-Some
returns-in-Some c = row_told c.args.row c.in-Some.row c.args.lost.now c.put_unless.new.lost c.args.is_such (λ n. c.args.is_such ≡ true) c.in-Some.is (λ e. e, λ e. e) c.put_unless.ensures

pub returns-in-None : goal.returns-in-None
returns-in-None c = no_row_told c.args.row c.args.lost.now (λ n. c.args.is_such ≡ true) c.in-None.is
