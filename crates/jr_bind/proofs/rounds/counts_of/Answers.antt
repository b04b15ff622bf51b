use Rattle.std.proofs.Common.{sym}
use Rattle.jr_bind.proofs.LeftOut.{leaving_start, leaving_counts, counts_tell}
use Rattle.jr_bind.proofs.rounds.counts_of.Goals as goal

pub returns : goal.returns
returns c = λ edges_are. counts_tell c.args.edges.now c.args.bound _ _ _ edges_are (c.in_ok-leave_out_all.ensures c.args.bound (leaving_counts c.args.edges.now c.args.bound _ _ _ _ c.deref.ensures.value
    (c.in_ok-find_free.ensures c.args.bound (leaving_counts c.args.edges.now c.args.bound _ _ _ _ (sym c.deref.ensures.value)
    (leaving_start c.args.edges.now c.args.bound _ _ _ c.in_ok-met.ensures c.new-free.ensures.items c.in_ok-counts.ensures.size c.in_ok-counts.ensures.enough)))))
