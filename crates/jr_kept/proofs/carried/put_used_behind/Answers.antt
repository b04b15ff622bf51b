use Rattle.std.proofs.Common.{◌≡◌, ◌<◌, sym, subst, arith, ℕ, length}
use Rattle.std.specs.List.{Contains}
use Rattle.jr_flow.specs.Reached.{steps_of}
use Rattle.jr_kept.specs.Listed.{under_in}
use Rattle.jr_kept.specs.Named.{origin_in}
use Rattle.jr_kept.specs.Carried.{AreDefined, OnlyDefines, IsCopyOfOne}
use Rattle.jr_kept.proofs.Carrying.{none_behind}
use Rattle.jr_kept.proofs.Leaving.{all_early, linked_copy}
use Rattle.jr_kept.proofs.carried.put_used_behind.Goals as goal

pub returns-clause-checks : goal.returns-clause-checks
returns-clause-checks c = λ within are none. let graph = c.args.flows.now.after.now in let points = graph.points.items in let mid = c.in_ok-made.made in let made = c.put_values.new.made in let hub = c.in_ok-hub.hub in
    let copies = under_in c.args.copies.now in let origin = origin_in c.args.flows.now.origin.now in let values = c.args.values.now in let pairs = c.in_ok-pairs.pairs.items in
    let len = c.len.ensures in let ok = graph.points.ok.0 in let same = c.in_ok-hub.ensures in let size : hub ≡ length points = omega (arith, len, ok, same) in
    let checks = c.put_all_late.ensures.none none in
    let early : (x : ℕ × ℕ) → Contains pairs x → x.0 < length points =
    subst (λ xs. (x : ℕ × ℕ) → Contains xs x → x.0 < length points) c.deref.ensures.value (subst (λ n. (x : ℕ × ℕ) → Contains c.deref.result.now x → x.0 < n) size checks.1) in
    let defined : AreDefined made (length mid.points.items) (length points) values copies origin = subst (λ n. AreDefined made (length mid.points.items) n values copies origin) size c.in_ok-put_values.ensures.every.1 in
    (checks.0, none_behind points (steps_of graph) mid made c.args.method c.args.is_throw origin values copies pairs within c.in_ok-made.ensures.grows c.in_ok-made.ensures.hub c.in_ok-put_values.ensures.every.0 defined are c.in_ok-pairs.ensures.pairs early)

pub returns-clause-kept : goal.returns-clause-kept
returns-clause-kept c = λ within only none unused. let graph = c.args.flows.now.after.now in let points = graph.points.items in let mid = c.in_ok-made.made in let made = c.put_values.new.made in let hub = c.in_ok-hub.hub in
    let copies = under_in c.args.copies.now in let origin = origin_in c.args.flows.now.origin.now in let values = c.args.values.now in let pairs = c.in_ok-pairs.pairs.items in
    let len = c.len.ensures in let ok = graph.points.ok.0 in let same = c.in_ok-hub.ensures in let size : hub ≡ length points = omega (arith, len, ok, same) in
    let defines : OnlyDefines mid made (length points) (IsCopyOfOne values copies origin) = subst (λ n. OnlyDefines mid made n (IsCopyOfOne values copies origin)) size c.in_ok-put_values.ensures.only in
    let early : (x : ℕ × ℕ) → Contains pairs x → x.0 < length points =
    all_early graph mid made c.args.method c.args.is_throw (IsCopyOfOne values copies origin) within c.in_ok-made.ensures.grows c.in_ok-made.ensures.hub c.in_ok-made.ensures.only c.in_ok-put_values.ensures.every.0 defines
    pairs c.in_ok-pairs.ensures.pairs origin values (linked_copy values copies origin only) unused in
    c.put_all_late.ensures.kept none (subst (λ n. (x : ℕ × ℕ) → Contains c.deref.result.now x → x.0 < n) (sym size) (subst (λ xs. (x : ℕ × ℕ) → Contains xs x → x.0 < length points) (sym c.deref.ensures.value) early))
