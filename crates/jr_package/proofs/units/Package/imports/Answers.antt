use Rattle.std.proofs.Common.{rules, arith, sym, subst, ◌∙◌, ◌≡◌, [], All, ◌+◌, ◌<◌, ◌^◌}
use Rattle.jr_package.specs.Repackaging.{imports_package}
use Rattle.jr_package.proofs.Steps.{such_start, such_step, such_end, within_more}
use Rattle.jr_package.proofs.units.Package.imports.Goals as goal

pub loop-at-init : goal.loop-at-init
loop-at-init c = let empty : c.new-all.result.items ≡ [] = search rules in record {
  none = λ lt. empty;
  such = empty ∙ sym (such_start c.args.head.imports (imports_package c.args.self.now.marks.now.rows.now c.args.self.now.table.now c.args.self.now.from.now));
  within = subst (All (λ k. k + 1 < 2 ^ 32)) (sym empty) (λ k d lt. absurd (omega arith));
}

pub loop-at-preserved : goal.loop-at-preserved
loop-at-preserved c = record {
  none = λ lt. absurd (omega arith);
  such = such_step c.args.head.imports (imports_package c.args.self.now.marks.now.rows.now c.args.self.now.table.now c.args.self.now.from.now) c.loop-at.at _ _ _ (omega arith)
      c.loop-at.invariant.such (c.in_ok-is_one.ensures (omega arith)) c.in_ok-push_if.ensures;
  within = within_more _ c.loop-at.at _ _ c.loop-at.invariant.within (omega arith) c.in_ok-push_if.ensures;
}

pub returns-clause-all : goal.returns-clause-all
returns-clause-all c = such_end c.args.head.imports (imports_package c.args.self.now.marks.now.rows.now c.args.self.now.table.now c.args.self.now.from.now) c.args.head.types c.loop-at.at _
    c.loop-at.invariant.none c.loop-at.invariant.such (omega arith) (λ le. omega arith)
