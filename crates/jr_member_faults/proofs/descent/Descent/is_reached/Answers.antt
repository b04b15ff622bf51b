use Rattle.std.proofs.Common.{sym, ◌∙◌, inl, inr}
use Rattle.std.proofs.lemmas.Bool.{false≢true}
use Rattle.jr_plain.proofs.Enclosed.{declaring_finds}
use Rattle.jr_plain.proofs.Modified.{public_tells, protected_tells}
use Rattle.jr_member_faults.specs.Views.{rows_of}
use Rattle.jr_member_faults.proofs.descent.Descent.is_reached.Goals as goal

pub returns-then-is_public : goal.returns-then-is_public
returns-then-is_public c = λ h d e. inl ((public_tells (rows_of c.args.world.now) c.args.method).0 (sym c.is_public.ensures ∙ c.if-is_public.true))

pub returns-then-is_protected : goal.returns-then-is_protected
returns-then-is_protected c = λ h d e. inr (inl ((protected_tells (rows_of c.args.world.now) c.args.method).0 (sym c.is_protected.ensures ∙ c.if-is_protected.true)))

pub returns-in-Some : goal.returns-in-Some
returns-in-Some c = λ h d e. inr (inr (c.stays_inside.ensures h d ((declaring_finds (rows_of c.args.world.now) c.args.method c.in-Some.over).0 (sym c.declaring_type.ensures ∙ c.in-Some.is)) e))

pub returns-in-None : goal.returns-in-None
returns-in-None c = λ h d e. absurd (false≢true e)
