use Rattle.std.proofs.Common.{◌≡◌, sym, ◌∙◌, ap, subst, not, Bool}
use Rattle.std.specs.Result.{IfOk}
use Rattle.jr_member_faults.specs.declared.beside.Clash.{Clash}
use Rattle.jr_member_faults.specs.Beside.{do_clash}
use Rattle.jr_member_faults.specs.Views.{rows_of, table_of}
use Rattle.jr_member_faults.proofs.beside.Beside.do_clash.Goals as goal

pub returns-in-Results : goal.returns-in-Results
returns-in-Results c = λ h m k. let w = c.args.self.world.now in ap not (c.is_result_fit.ensures h.right) ∙ sym (ap (λ (q : Clash). do_clash (rows_of w) (table_of w) q c.args.method c.args.other) c.in-Results.is)

pub returns-in-Throws : goal.returns-in-Throws
returns-in-Throws c = λ h m k. let w = c.args.self.world.now in
    subst (λ (q : Clash). IfOk c.declares_more.result (λ (is : Bool). is ≡ do_clash (rows_of w) (table_of w) q c.args.method c.args.other)) (sym c.in-Throws.is) (c.declares_more.ensures h.right h.thrown_are m k)
