use Rattle.std.proofs.Common.{◌≡◌, ◌<◌, subst, arith, ℕ, true, false, length}
use Rattle.std.specs.List.{Contains}
use Rattle.jr_places.specs.Stamps.{is_stamped}
use Rattle.jr_flow.specs.Reached.{steps_of}
use Rattle.jr_kept.specs.Listed.{under_in}
use Rattle.jr_kept.specs.Spread.{AreSpread, OnlySpread}
use Rattle.jr_kept.specs.Disturbed.{AreSuch}
use Rattle.jr_kept.proofs.Disturbing.{are_between, only_between}
use Rattle.jr_kept.proofs.dropped.points_between.Goals as goal

pub returns-clause-every : goal.returns-clause-every
returns-clause-every c = λ within. let graph = c.args.graph.now in let points = graph.points.items in let steps = steps_of graph in let d = c.args.local in
    let definitions = c.in_ok-definitions.definitions.items in let uses = c.in_ok-uses.uses.items in let barred = c.in_ok-barred.barred in let ways = c.in_ok-ways.ways in let back = c.in_ok-back.back in
    let count : c.len-count.result ≡ length points = omega (arith, c.len-count.ensures, graph.points.ok.0) in
    are_between points steps d within definitions uses
    (subst (λ ps. AreSuch ps true d (length ps) definitions) c.as_slice.ensures.value c.in_ok-definitions.ensures)
    (subst (λ ps. AreSuch ps false d (length ps) uses) c.as_slice-2.ensures.value c.in_ok-uses.ensures)
    barred (subst (λ xs. (n : ℕ) → is_stamped barred n ≡ true → Contains xs n) c.as_slice-3.ensures.value c.in_ok-barred.ensures.only)
    ways back c.in_ok-behind.behind c.in_ok-before.before c.in_ok-ways.ensures c.in_ok-back.ensures
    (subst (λ n. AreSpread (under_in ways) definitions barred n c.in_ok-behind.behind) count (subst (λ xs. AreSpread (under_in ways) xs barred c.len-count.result c.in_ok-behind.behind) c.as_slice-4.ensures.value c.in_ok-behind.ensures.every))
    (subst (λ n. AreSpread (under_in back) uses barred n c.in_ok-before.before) count (subst (λ xs. AreSpread (under_in back) xs barred c.len-count.result c.in_ok-before.before) c.as_slice-5.ensures.value c.in_ok-before.ensures.every))

pub returns-clause-only : goal.returns-clause-only
returns-clause-only c = λ within. let graph = c.args.graph.now in let points = graph.points.items in let steps = steps_of graph in let d = c.args.local in
    let definitions = c.in_ok-definitions.definitions.items in let uses = c.in_ok-uses.uses.items in let barred = c.in_ok-barred.barred in let ways = c.in_ok-ways.ways in let back = c.in_ok-back.back in
    let count : c.len-count.result ≡ length points = omega (arith, c.len-count.ensures, graph.points.ok.0) in
    only_between points steps d within definitions uses
    (subst (λ ps. AreSuch ps true d (length ps) definitions) c.as_slice.ensures.value c.in_ok-definitions.ensures)
    (subst (λ ps. AreSuch ps false d (length ps) uses) c.as_slice-2.ensures.value c.in_ok-uses.ensures)
    barred (subst (λ xs. (n : ℕ) → is_stamped barred n ≡ true → Contains xs n) c.as_slice-3.ensures.value c.in_ok-barred.ensures.only)
    (subst (λ m. (n : ℕ) → Contains definitions n → n < m → is_stamped barred n ≡ true) count (subst (λ xs. (n : ℕ) → Contains xs n → n < c.len-count.result → is_stamped barred n ≡ true) c.as_slice-3.ensures.value c.in_ok-barred.ensures.every))
    ways back c.in_ok-behind.behind c.in_ok-before.before c.in_ok-ways.ensures c.in_ok-back.ensures
    (subst (λ n. OnlySpread (under_in ways) definitions barred n c.in_ok-behind.behind) count (subst (λ xs. OnlySpread (under_in ways) xs barred c.len-count.result c.in_ok-behind.behind) c.as_slice-4.ensures.value c.in_ok-behind.ensures.only))
    (subst (λ n. OnlySpread (under_in back) uses barred n c.in_ok-before.before) count (subst (λ xs. OnlySpread (under_in back) xs barred c.len-count.result c.in_ok-before.before) c.as_slice-5.ensures.value c.in_ok-before.ensures.only))
