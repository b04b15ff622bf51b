use Rattle.std.proofs.Common.{sym, ◌∙◌}
use Rattle.jr_faults.proofs.Told.{only_kept}
use Rattle.jr_member_faults.specs.Faults.{is_on_members}
use Rattle.jr_member_faults.proofs.Passed.{declared_past, headers_past}
use Rattle.jr_member_faults.proofs.Told.{row_passed}
use Rattle.jr_member_faults.proofs.faults.any_row_faults.Goals as goal

pub returns-then-not-is_of_members-clause-declared : goal.returns-then-not-is_of_members-clause-declared
returns-then-not-is_of_members-clause-declared c = λ lt h. declared_past c.args.view.now.sight.world c.args.at c.args.declared.now (sym c.is_of_members.ensures ∙ c.if-not-is_of_members.true) h

pub returns-then-not-is_of_members-clause-headers : goal.returns-then-not-is_of_members-clause-headers
returns-then-not-is_of_members-clause-headers c = λ h. headers_past _ c.args.at (sym c.is_of_members.ensures ∙ c.if-not-is_of_members.true) _ c.args.headers.now.superinterfaces h

pub returns-then-not-is_of_members-clause-found : goal.returns-then-not-is_of_members-clause-found
returns-then-not-is_of_members-clause-found c = λ lt few methods d h. row_passed c.args.view.now c.args.at c.args.out.now.items lt (sym c.is_of_members.ensures ∙ c.if-not-is_of_members.true)

pub returns-then-not-is_of_members-clause-only : goal.returns-then-not-is_of_members-clause-only
returns-then-not-is_of_members-clause-only c = only_kept is_on_members c.args.out.now.items
