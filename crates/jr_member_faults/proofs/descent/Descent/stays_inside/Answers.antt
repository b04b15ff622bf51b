use Rattle.std.proofs.Common.{sym, ◌∙◌}
use Rattle.std.proofs.lemmas.Bool.{false≢true}
use Rattle.jr_plain.proofs.Packaged.{same_package_tells}
use Rattle.jr_member_faults.proofs.Descending.{none_under, stays_told}
use Rattle.jr_member_faults.proofs.Nearing.{not_so}
use Rattle.jr_member_faults.specs.Views.{rows_of, table_of}
use Rattle.jr_member_faults.proofs.descent.Descent.stays_inside.Goals as goal

pub returns-then-not-is_one_package : goal.returns-then-not-is_one_package
returns-then-not-is_one_package c = λ h d own e. absurd (false≢true e)

pub returns-in-Some : goal.returns-in-Some
returns-in-Some c = λ h d own e. let w = c.args.world.now in let placed = h.whole.world_is.seen.placed in
    stays_told w h c.args.self.now d c.args.over c.args.method c.in-Some.number own
    ((same_package_tells (rows_of w) c.args.over c.args.method).0 (sym (c.is_one_package.ensures (rows_of w) placed.are placed.local placed.packages) ∙ c.if-not-is_one_package.false))
    (sym c.package.ensures ∙ c.in-Some.is) (none_under c.args.self.now.open_packages c.in-Some.number (sym c.is_open.ensures ∙ not_so c.is_open.result e))

pub returns-in-None : goal.returns-in-None
returns-in-None c = λ h d own e. absurd (false≢true e)
