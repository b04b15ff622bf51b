use Rattle.std.proofs.Common.{◌≡◌, ℕ, List, length}
use Rattle.jr_thin.specs.Binding.{IsLast, last_of, KeepsRuleBelow, AreTargets}
use Rattle.jr_thin.proofs.binding.targets.Given as goal

abbrev pub invariant-loop-index : goal.invariant-loop-index
invariant-loop-index l = record {
  size : length l.targets.items ≡ l.index;
  each : AreTargets l.sites l.targets.items l.index;
  kept : KeepsRuleBelow l.sites l.index;
  lasts : (text : List ℕ) → IsLast l.sites text l.index (last_of l.declared text);
}
