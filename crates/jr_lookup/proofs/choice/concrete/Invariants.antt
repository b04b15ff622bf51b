use Rattle.std.proofs.Common.{◌≡◌, ◌++◌, drop, filter, not}
use Rattle.jr_plain.specs.Modifiers.{is_abstract}
use Rattle.jr_lookup.specs.Within.{IsWithin}
use Rattle.jr_lookup.proofs.choice.concrete.Given as goal

abbrev pub invariant-loop-method : goal.invariant-loop-method
invariant-loop-method l = IsWithin l.methods l.all.items × (l.all.items ++ filter (λ m. not (is_abstract l.world.under.rows.now m)) (drop l.method-index l.methods) ≡ filter (λ m. not (is_abstract l.world.under.rows.now m)) l.methods)
