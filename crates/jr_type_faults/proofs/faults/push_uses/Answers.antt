use Rattle.std.proofs.Common.{◌∙◌, sym}
use Rattle.jr_rule.specs.declared.Rule.TheVariants as rule
use Rattle.jr_type_facts.specs.Facts.{rows_of, table_of, types_of, constants_of}
use Rattle.jr_type_faults.proofs.Told.{adds, adds_then, only, only_then, switch_at, void_at, return_at, abstract_at, array_at, branches_at}
use Rattle.jr_type_faults.proofs.faults.push_uses.Goals as goal

pub returns-clause-exact : goal.returns-clause-exact
returns-clause-exact c = λ can small. let right = can.right in (adds_then (adds c.args.facts.now.view rule.Switch _ c.args.at c.in_ok-push_if.ensures (λ e. c.switch_does_not_fit.ensures right.seen small can.repeated ∙ sym (switch_at (rows_of c.args.facts.now) (table_of c.args.facts.now) (constants_of c.args.facts.now) (types_of c.args.facts.now) c.args.at)))
    (adds_then (adds c.args.facts.now.view rule.VoidValue _ c.args.at c.in_ok-push_if-2.ensures (λ e. c.void_is_used.ensures right.seen ∙ sym (void_at (rows_of c.args.facts.now) (table_of c.args.facts.now) (constants_of c.args.facts.now) (types_of c.args.facts.now) c.args.at)))
    (adds_then (adds c.args.facts.now.view rule.Return _ c.args.at c.in_ok-push_if-3.ensures (λ e. c.return_does_not_fit.ensures right ∙ sym (return_at (rows_of c.args.facts.now) (table_of c.args.facts.now) (constants_of c.args.facts.now) (types_of c.args.facts.now) c.args.at)))
    (adds_then (adds c.args.facts.now.view rule.Abstract _ c.args.at c.in_ok-push_if-4.ensures (λ e. c.abstract_is_used.ensures right.seen ∙ sym (abstract_at (rows_of c.args.facts.now) (table_of c.args.facts.now) (constants_of c.args.facts.now) (types_of c.args.facts.now) c.args.at)))
    (adds_then (adds c.args.facts.now.view rule.Index _ c.args.at c.in_ok-push_if-5.ensures (λ e. c.array_does_not_fit.ensures right ∙ sym (array_at (rows_of c.args.facts.now) (table_of c.args.facts.now) (constants_of c.args.facts.now) (types_of c.args.facts.now) c.args.at)))
    (adds c.args.facts.now.view rule.Branches _ c.args.at c.in_ok-push_if-6.ensures (λ e. c.branches_are_unrelated.ensures right.seen ∙ sym (branches_at (rows_of c.args.facts.now) (table_of c.args.facts.now) (constants_of c.args.facts.now) (types_of c.args.facts.now) c.args.at))))))))

pub returns-clause-only : goal.returns-clause-only
returns-clause-only c = (only_then (only rule.Switch _ c.args.at c.in_ok-push_if.ensures)
    (only_then (only rule.VoidValue _ c.args.at c.in_ok-push_if-2.ensures)
    (only_then (only rule.Return _ c.args.at c.in_ok-push_if-3.ensures)
    (only_then (only rule.Abstract _ c.args.at c.in_ok-push_if-4.ensures)
    (only_then (only rule.Index _ c.args.at c.in_ok-push_if-5.ensures)
    (only rule.Branches _ c.args.at c.in_ok-push_if-6.ensures))))))
