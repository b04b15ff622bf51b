use Rattle.std.proofs.Common.{◌∙◌, ap, sym, subst}
use Rattle.jr_supers.specs.Signatures.{AreSignatures}
use Rattle.jr_supers.specs.Tabled.{is_callable}
use Rattle.jr_report.specs.Listed.{rows_in, table_in}
use Rattle.jr_report.proofs.Finding.{tells_unlike}
use Rattle.jr_report.proofs.called.is_found_by.Goals as goal

pub returns-then-not-are_same : goal.returns-then-not-are_same
returns-then-not-are_same c = λ whole here below method other. tells_unlike (rows_in c.args.world.now) (table_in c.args.world.now) c.args.other c.args.method whole.world_is.seen.placed.local.tree
    (sym c.if-not-are_same.true ∙ c.are_same.ensures (rows_in c.args.world.now) (table_in c.args.world.now)
    (subst (AreSignatures (rows_in c.args.world.now) (table_in c.args.world.now)) (sym c.signatures.ensures) whole.world_is.members_are.signatures_are) (ap is_callable method) (ap is_callable other))

pub returns : goal.returns
returns c = λ whole here below method other. c.is_found.ensures whole here below
