use Rattle.jr_member_faults.proofs.descent.Descent.of.Goals as goal

pub returns : goal.returns
returns c = λ h. record { interfaces = c.in_ok-has_class_above.ensures h; packages = c.in_ok-open_all.ensures h }
