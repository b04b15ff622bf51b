use Rattle.std.proofs.Common.{sym, ◌∙◌, ap, subst}
use Rattle.jr_supers.specs.Signatures.{AreSignatures}
use Rattle.jr_supers.specs.Tabled.{is_callable}
use Rattle.jr_member_faults.specs.Views.{rows_of, table_of}
use Rattle.jr_member_faults.proofs.Nearing.{same_not, same_so}
use Rattle.jr_member_faults.proofs.redefining.Redefining.breaks_same.Goals as goal

pub returns-then-not-are_same : goal.returns-then-not-are_same
returns-then-not-are_same c = λ h th m k. let w = c.args.self.now.world.now in same_not (rows_of w) (table_of w) c.args.method c.args.other
    (sym (c.are_same.ensures (rows_of w) (table_of w) (subst (λ s. AreSignatures (rows_of w) (table_of w) s) (sym c.signatures.ensures) h.whole.world_is.members_are.signatures_are) (ap is_callable m) (ap is_callable k)) ∙ c.if-not-are_same.true)

pub returns : goal.returns
returns c = λ h th m k. let w = c.args.self.now.world.now in same_so (rows_of w) (table_of w) c.args.method c.args.other _
    (sym (c.are_same.ensures (rows_of w) (table_of w) (subst (λ s. AreSignatures (rows_of w) (table_of w) s) (sym c.signatures.ensures) h.whole.world_is.members_are.signatures_are) (ap is_callable m) (ap is_callable k)) ∙ c.if-not-are_same.false)
    (c.in_ok-is.ensures h th m k)
