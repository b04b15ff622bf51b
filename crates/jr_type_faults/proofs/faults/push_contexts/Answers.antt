use Rattle.std.proofs.Common.{◌∙◌, sym}
use Rattle.jr_rule.specs.declared.Rule.TheVariants as rule
use Rattle.jr_type_facts.specs.Facts.{rows_of, table_of, types_of, constants_of}
use Rattle.jr_type_faults.proofs.Told.{adds, adds_then, only, only_then, object_at, early_at, round_at, throwable_at}
use Rattle.jr_type_faults.proofs.faults.push_contexts.Goals as goal

pub returns-clause-exact : goal.returns-clause-exact
returns-clause-exact c = λ can. let right = can.right in (adds_then (adds c.args.facts.now.view rule.StaticContext _ c.args.at c.in_ok-push_if.ensures (λ e. c.lacks_object.ensures right ∙ sym (object_at (rows_of c.args.facts.now) (table_of c.args.facts.now) (constants_of c.args.facts.now) (types_of c.args.facts.now) c.args.at)))
    (adds_then (adds c.args.facts.now.view rule.ForwardReference _ c.args.at c.in_ok-push_if-2.ensures (λ e. c.is_used_too_early.ensures right ∙ sym (early_at (rows_of c.args.facts.now) (table_of c.args.facts.now) (constants_of c.args.facts.now) (types_of c.args.facts.now) c.args.at)))
    (adds_then (adds c.args.facts.now.view rule.ConstructorCycle _ c.args.at c.in_ok-push_if-3.ensures (λ e. c.calls_itself_round.ensures ∙ can.rounds c.args.at ∙ sym (round_at (rows_of c.args.facts.now) (table_of c.args.facts.now) (constants_of c.args.facts.now) (types_of c.args.facts.now) c.args.at)))
    (adds c.args.facts.now.view rule.Throwable _ c.args.at c.in_ok-push_if-4.ensures (λ e. c.is_not_throwable.ensures right can.throwable ∙ sym (throwable_at (rows_of c.args.facts.now) (table_of c.args.facts.now) (constants_of c.args.facts.now) (types_of c.args.facts.now) c.args.at))))))

pub returns-clause-only : goal.returns-clause-only
returns-clause-only c = (only_then (only rule.StaticContext _ c.args.at c.in_ok-push_if.ensures)
    (only_then (only rule.ForwardReference _ c.args.at c.in_ok-push_if-2.ensures)
    (only_then (only rule.ConstructorCycle _ c.args.at c.in_ok-push_if-3.ensures)
    (only rule.Throwable _ c.args.at c.in_ok-push_if-4.ensures))))
