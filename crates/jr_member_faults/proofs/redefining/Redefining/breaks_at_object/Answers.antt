use Rattle.std.proofs.Common.{sym, ◌∙◌, ap, subst, length}
use Rattle.jr_defs.specs.Enclosing.{DeclaredIn}
use Rattle.jr_defs.specs.Members.{SameMethods}
use Rattle.jr_plain.specs.Search.{Lists}
use Rattle.jr_supers.specs.Tabled.{is_callable}
use Rattle.jr_member_faults.specs.Views.{rows_of, table_of}
use Rattle.jr_member_faults.proofs.Chained.{refutes}
use Rattle.jr_member_faults.proofs.Lefts.{same_back}
use Rattle.jr_member_faults.proofs.Nearing.{kept_in, like_methods}
use Rattle.jr_member_faults.proofs.Overridden.{like_listed}
use Rattle.jr_member_faults.proofs.redefining.Redefining.breaks_at_object.Goals as goal

pub returns-then-not-is_above : goal.returns-then-not-is_above
returns-then-not-is_above c = λ h th m e above. absurd (refutes (c.is_above.ensures.above (table_of c.args.self.now.world.now) h.whole.world_is.seen.above) c.if-not-is_above.true above)

pub returns : goal.returns
returns c = λ h th m e above k declared same. let w = c.args.self.now.world.now in let p = rows_of w in let t = table_of w in let world = h.whole.world_is in let headed = world.seen.above.well.headed in
    let listed = subst (λ xs. Lists xs (λ d. DeclaredIn p c.args.object d × SameMethods p t d c.args.method)) (sym (c.deref.ensures.value ∙ c.in_ok-like.ensures p t world.members_are.callables_are world.members_are.signatures_are (ap is_callable m))) (like_listed p t headed c.args.object c.args.method m) in
    kept_in p t headed c.args.method _ _ k (c.in_ok-is.ensures h th m (like_methods p t c.args.object c.args.method _ listed)) e ((listed k).1 (declared, same_back p t c.args.method k same)) same
