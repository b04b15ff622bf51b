use Rattle.std.proofs.Common.{◌≤◌, ℕ, List, length, subst, ◌∙◌}
use Rattle.std.specs.FinMap as map
use Rattle.std.specs.List.{AllByRecursion}
use Rattle.jr_commit.specs.Sizes.{content_bytes}
use Rattle.test_store.specs.Names.{names}
use Rattle.jr_store.specs.Image.{AreJava}
use Rattle.test_store.proofs.limits.are_within_limits.Goals as goal

pub returns-then-len-le4096-clause-java : goal.returns-then-len-le4096-clause-java
returns-then-len-le4096-clause-java c = λ yes. subst (λ (fs : List (List ℕ × List ℕ)). AreJava (names fs)) c.entries.ensures (c.fit.ensures.java yes)

pub returns-then-len-le4096-clause-within : goal.returns-then-len-le4096-clause-within
returns-then-len-le4096-clause-within c = λ yes. record {
  count = subst (λ (n : ℕ). n ≤ 4096) (c.len.ensures ∙ map.len-entries c.args.files.now) c.if-len-le4096.true;
  paths = subst (λ (fs : List (List ℕ × List ℕ)). AllByRecursion (λ p. length p ≤ 1024) (names fs)) c.entries.ensures (c.fit.ensures.short yes);
  contents = subst (λ (fs : List (List ℕ × List ℕ)). content_bytes fs ≤ 16777216) c.entries.ensures (c.fit.ensures.bytes yes);
}
