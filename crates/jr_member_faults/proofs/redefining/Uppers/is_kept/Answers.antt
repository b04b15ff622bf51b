use Rattle.std.proofs.Common.{sym, ◌∙◌, ap}
use Rattle.std.proofs.lemmas.Bool.{false≢true}
use Rattle.jr_members.specs.Keys.{signature_number}
use Rattle.jr_member_faults.proofs.Descending.{none_under}
use Rattle.jr_member_faults.proofs.Nearing.{not_so}
use Rattle.jr_member_faults.proofs.redefining.Uppers.is_kept.Goals as goal

pub returns-in-Some : goal.returns-in-Some
returns-in-Some c = λ e. (
  c.in-Some.number,
  ap (λ s. signature_number s c.args.method) (sym c.signatures.ensures) ∙ sym c.number.ensures ∙ c.in-Some.is,
  none_under c.args.self.now.apart c.in-Some.number (sym c.is_apart.ensures ∙ not_so c.is_apart.result e),
)

pub returns-in-None : goal.returns-in-None
returns-in-None c = λ e. absurd (false≢true e)
