use Rattle.jr_edges.proofs.Losing.{told_so}
use Rattle.jr_edges.proofs.dispatched.lost_dispatch.Goals as goal

pub returns : goal.returns
returns c = λ t l old new. told_so c.args.new.under.rows.now l c.args.copy.now c.args.old.under.rows.now t c.in-Ok.end c.lost_before.result c.in-Ok.ensures.1 (c.lost_before.ensures t l old new)
