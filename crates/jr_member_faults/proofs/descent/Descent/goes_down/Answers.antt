use Rattle.std.proofs.Common.{sym, ◌∙◌}
use Rattle.std.proofs.lemmas.Bool.{false≢true}
use Rattle.jr_plain.proofs.Modified.{private_tells}
use Rattle.jr_member_faults.specs.Views.{rows_of}
use Rattle.jr_member_faults.proofs.Chained.{refutes}
use Rattle.jr_member_faults.proofs.descent.Descent.goes_down.Goals as goal

pub returns-then-is_private : goal.returns-then-is_private
returns-then-is_private c = λ h d e. absurd (false≢true e)

pub returns : goal.returns
returns c = λ h d e. record { open_member = refutes (private_tells (rows_of c.args.world.now) c.args.method) (sym c.is_private.ensures ∙ c.if-is_private.false); reached = c.is_reached.ensures h d e }
