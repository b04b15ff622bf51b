use Rattle.std.proofs.Common.{◌≡◌, ◌∙◌, ap, arith, length}
use Rattle.jr_plain.specs.Declarations.{is_prelude}
use Rattle.jr_plain.specs.Search.{all_such}
use Rattle.jr_member_faults.proofs.Checked.{such_more}
use Rattle.jr_member_faults.proofs.throwing.of_prelude.Goals as goal

pub loop-at-preserved : goal.loop-at-preserved
loop-at-preserved c = such_more (is_prelude c.args.rows.now c.args.name.now) c.loop-at.at _ _ _ c.loop-at.invariant c.is_of_prelude.ensures c.in_ok-push_if.ensures

pub returns : goal.returns
returns c = let end : c.loop-at.at ≡ length c.args.rows.now = omega arith in c.loop-at.invariant ∙ ap (λ n. all_such n (is_prelude c.args.rows.now c.args.name.now)) end
