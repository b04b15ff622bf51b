use Rattle.std.proofs.Common.{◌≡◌, ◌≤◌, ℕ, List, length, subst, sym, refl, rules, arith}
use Rattle.std.specs.Prelude.{IsTrue}
use Rattle.std.proofs.lemmas.Grind.{common_steps}
use Rattle.jr_base.specs.Paths.{is_java}
use Rattle.jr_thin.specs.Renaming.{IsDone}
use Rattle.jr_top.proofs.Held.{first_is}
use Rattle.jr_top.proofs.decide.decide_bytes.Goals as goal

pub returns-then-eq : goal.returns-then-eq
returns-then-eq c =
    let old = c.args.found.bytes.items in
    let new = c.args.bytes.items in
    let same : new ≡ old = first_of (search rules, grind (arith, common_steps)) in
    (refl, subst (λ (b : List ℕ). IsDone old c.args.at c.args.name.now b) same c.requires.done)

pub plan_of-requires-clause-java : goal.plan_of-requires-clause-java
plan_of-requires-clause-java c =
    let path = c.requires.path in
    subst (λ (p : List ℕ). IsTrue (is_java p)) (sym (first_is c.args.found.paths.items path.file c.index.result.now path.one.is c.index.ensures)) path.one.java

pub plan_of-requires-clause-short : goal.plan_of-requires-clause-short
plan_of-requires-clause-short c =
    let path = c.requires.path in
    subst (λ (p : List ℕ). length p ≤ 1024) (sym (first_is c.args.found.paths.items path.file c.index.result.now path.one.is c.index.ensures)) path.short

pub returns-then-len-gt1048576 : goal.returns-then-len-gt1048576
returns-then-len-gt1048576 c = (refl, (c.args.bytes, c.requires.done, omega (arith, c.len.ensures, c.args.bytes.ok.0)))
