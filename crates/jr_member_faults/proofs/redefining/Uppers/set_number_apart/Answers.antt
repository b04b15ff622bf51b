use Rattle.std.proofs.Common.{refl, sym, ◌∙◌}
use Rattle.jr_member_faults.proofs.Descending.{there_under, kept_under, put_under}
use Rattle.jr_member_faults.proofs.Nearing.{number_there, number_keeps}
use Rattle.jr_member_faults.proofs.redefining.Uppers.set_number_apart.Goals as goal

pub returns-then-is_apart-clause-signed : goal.returns-then-is_apart-clause-signed
returns-then-is_apart-clause-signed c = refl

pub returns-then-is_apart-clause-kept : goal.returns-then-is_apart-clause-kept
returns-then-is_apart-clause-kept c = λ h th d m. number_there c.args.redefining.world.now c.args.number c.args.row _ (there_under _ c.args.number (sym c.is_apart.ensures ∙ c.if-is_apart.true))

pub returns-then-keeps-clause-signed : goal.returns-then-keeps-clause-signed
returns-then-keeps-clause-signed c = refl

pub returns-then-keeps-clause-kept : goal.returns-then-keeps-clause-kept
returns-then-keeps-clause-kept c = λ h th d m. number_keeps c.args.redefining.world.now c.args.number c.args.row _ (c.in_ok-keeps.ensures h th d m c.if-keeps.true)

pub returns-clause-signed : goal.returns-clause-signed
returns-clause-signed c = refl

pub returns-clause-kept : goal.returns-clause-kept
returns-clause-kept c = λ h th d m. record { kept = kept_under _ _ c.args.number c.args.row c.in_ok-add.ensures; told = λ apart. absurd (apart (put_under _ _ c.args.number c.args.row c.in_ok-add.ensures)) }
