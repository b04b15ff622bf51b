use Rattle.std.proofs.Common.{◌∙◌}
use Rattle.jr_member_faults.specs.Views.{rows_of, table_of}
use Rattle.jr_member_faults.proofs.Told.{methods_only}
use Rattle.jr_member_faults.proofs.Methodical.{methods_told, over_same, results_is, access_is, statics_is, throws_is, finals_is}
use Rattle.jr_member_faults.proofs.faults.method_faults.Goals as goal

pub returns-clause-others : goal.returns-clause-others
returns-clause-others c = methods_only c.in_ok-rule_if.ensures.others c.in_ok-rule_if-2.ensures.others c.in_ok-rule_if-3.ensures.others c.in_ok-rule_if-4.ensures.others c.in_ok-rule_if-5.ensures.others c.in_ok-rule_if-6.ensures.others

pub returns-clause-found : goal.returns-clause-found
returns-clause-found c = λ can told. let w = c.args.redefining.world.now in let p = rows_of w in let t = table_of w in let n = c.args.at in let headed = can.right.whole.world_is.seen.above.well.headed in let over = c.args.over.now in
    methods_told w n c.in_ok-rule_if.ensures.found c.in_ok-rule_if.ensures.others c.in_ok-rule_if-2.ensures.found c.in_ok-rule_if-2.ensures.others c.in_ok-rule_if-3.ensures.found c.in_ok-rule_if-3.ensures.others
    c.in_ok-rule_if-4.ensures.found c.in_ok-rule_if-4.ensures.others c.in_ok-rule_if-5.ensures.found c.in_ok-rule_if-5.ensures.others c.in_ok-rule_if-6.ensures.found c.in_ok-rule_if-6.ensures.others
    told.left_is.abstracts
    (c.is_either-results.ensures ∙ results_is p t headed n over told.over_are c.args.left told.left_is _ (c.has_other_result-is_other.ensures can.right))
    (c.is_either-access.ensures ∙ access_is p t headed n over told.over_are c.args.left told.left_is _ c.is_narrowed-is_narrower.ensures)
    (c.is_either-statics.ensures ∙ statics_is p t headed n over told.over_are c.args.left told.left_is _ c.is_mixed-is_other_kind.ensures)
    (finals_is p t headed n over told.over_are _ c.is_over_final-is_final.ensures)
    (c.is_either-throws.ensures ∙ throws_is p t headed n over told.over_are c.args.left told.left_is _ (c.in_ok-throws_more.ensures can.right can.thrown_are (over_same p t headed n over told.over_are)))
