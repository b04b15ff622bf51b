use Rattle.std.proofs.Common.{subst, sym, ◌∙◌, ap}
use Rattle.jr_supers.specs.Signatures.{AreSignatures}
use Rattle.jr_supers.specs.Tabled.{is_callable}
use Rattle.jr_member_faults.specs.Views.{rows_of, table_of}
use Rattle.jr_member_faults.proofs.Lefts.{same_told}
use Rattle.jr_member_faults.proofs.beside.are_same.Goals as goal

pub returns : goal.returns
returns c = λ h. let w = c.args.world.now in c.are_all.ensures ∙ same_told (rows_of w) (table_of w) c.args.method c.args.other _ _ _ c.is_method-is_one.ensures c.is_method-is_other.ensures
    (λ m k. c.are_same-is_same.ensures (rows_of w) (table_of w) (subst (λ s. AreSignatures (rows_of w) (table_of w) s) (sym c.signatures.ensures) h.whole.world_is.members_are.signatures_are) (ap is_callable m) (ap is_callable k))
