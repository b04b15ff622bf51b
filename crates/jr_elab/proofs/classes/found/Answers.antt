use Rattle.std.proofs.Common.{sym, subst}
use Rattle.jr_dispatch.specs.Dispatching.{AreFoundIn}
use Rattle.jr_codes.specs.Reads.{rows_of, table_of, facts}
use Rattle.jr_elab.proofs.Classed.{found_are}
use Rattle.jr_elab.proofs.classes.found.Goals as goal

pub returns : goal.returns
returns c = λ whole. found_are (facts c.args.source.now) c.args.at _ _
    (subst (λ edges. AreFoundIn (rows_of c.args.source.now) (table_of c.args.source.now) c.args.at edges) (sym c.deref.ensures.value) (c.in_ok-edges.ensures whole)) c.in_ok-all.ensures
