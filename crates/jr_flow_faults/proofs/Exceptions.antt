-- Faults of the rules on exceptions alone.
use Rattle.std.proofs.Common.{◌≡◌, Bool, true, false, ◌||◌, List, Result, Ok, Err, OnOk}
use Rattle.std.proofs.lemmas.Bool.{or_parts}
use Rattle.jr_rule.specs.declared.Fault.{Fault}
use Rattle.jr_rule.specs.declared.Rule.TheVariants as rule
use Rattle.jr_faults.specs.Added.{is_rule, AreOnly}
use Rattle.jr_flow_faults.specs.Faults.{is_followed, is_of_exceptions}

-- two facts of a call that went well
pub on_ok_both : {T E P Q R : Type 0} (r : Result T E) → (P → Q → R) → OnOk r P → OnOk r Q → OnOk r R
on_ok_both (Ok x) both p q = both p q
on_ok_both (Err e) both p q = tt

or_none : (a b : Bool) → a ≡ false → b ≡ false → (a || b) ≡ false
or_none true b e f = e
or_none false b e f = f

module _ {old new : List Fault} where
  pub followed_added : AreOnly is_followed old new → AreOnly is_of_exceptions old new
  followed_added h = record { others = λ one apart. let parts = or_parts (is_rule rule.UncaughtException one) _ apart in let rest = or_parts (is_rule rule.UnthrownCatch one) _ parts.1 in h.others one (or_none (is_rule rule.UncaughtException one) (is_rule rule.UnthrownCatch one) parts.0 rest.0) }

  pub uncaught_followed : AreOnly (is_rule rule.UncaughtException) old new → AreOnly is_followed old new
  uncaught_followed h = record { others = λ one apart. h.others one (or_parts (is_rule rule.UncaughtException one) _ apart).0 }

  pub unthrown_followed : AreOnly (is_rule rule.UnthrownCatch) old new → AreOnly is_followed old new
  unthrown_followed h = record { others = λ one apart. h.others one (or_parts (is_rule rule.UncaughtException one) _ apart).1 }

  pub covered_added : AreOnly (is_rule rule.CoveredCatch) old new → AreOnly is_of_exceptions old new
  covered_added h = record { others = λ one apart. h.others one (or_parts (is_rule rule.UnthrownCatch one) _ (or_parts (is_rule rule.UncaughtException one) _ apart).1).1 }
