use Rattle.std.proofs.Common.{◌≡◌, ◌∙◌, ap, subst, IfOk, IfSome, MatchOption}
use Rattle.jr_defs.specs.Referents.{entries}
use Rattle.jr_places.specs.Places.{ArePlaces}
use Rattle.jr_supers.specs.Supers.{HasNoCycle}
use Rattle.jr_lookup.specs.Imports.{AreImports}
use Rattle.jr_lookup.specs.Scopes.{AreScopes, AreTops}
use Rattle.jr_bind.specs.Exact.{IsExact}
use Rattle.jr_index.specs.Marking.{Marked}
use Rattle.jr_engine.proofs.Stepping.{bound_so}
use Rattle.jr_engine.proofs.locked.locked_rows.Goals as goal

pub returns-clause-bound : goal.returns-clause-bound
returns-clause-bound c = let rows = c.rows-rows.ensures.rows ∙ ap (λ (v : Marked). v.rows) c.deref.ensures in
    let placed = subst (λ r. IfOk r (λ p. ArePlaces c.rows-rows.result.now p)) c.in_ok-places.ensures c.of.ensures.tables in
    let table = subst (λ o. IfSome o (λ all. all.table ≡ c.in_ok-table.table)) c.in-Some.is c.in_ok-bound.ensures.table in
    let exact = subst (λ o. IfSome o (IsExact c.rows-rows.result.now c.deref-4.result.now)) c.in-Some.is c.in_ok-bound.ensures.exact in
    let locks = ap (λ v. v.items) table ∙ c.in_ok-table.ensures.items_if_clones_equal (λ x y e. e) ∙ c.deref-3.ensures.value in
    bound_so _ c.rows-rows.result.now c.deref-2.result.now c.deref-4.result.now c.in-Some.bound rows c.deref-2.ensures c.deref-4.ensures c.in_ok-bound-2.ensures.ok locks placed
    (λ at. subst (λ r. IfOk r (λ s. AreScopes c.rows-rows.result.now s)) c.in_ok-scopes.ensures (c.of-2.ensures.scopes at))
    (λ at. subst (λ r. IfOk r (λ s. AreTops c.rows-rows.result.now c.deref-2.result.now s)) c.in_ok-scopes.ensures (c.of-2.ensures.tops at))
    (λ at. subst (λ o. IfSome o (λ all. AreImports c.rows-rows.result.now (entries all.table.items) all.imports.value)) c.in-Some.is (c.in_ok-bound.ensures.imports at)) exact
    (λ well bare. subst (λ o. MatchOption o (HasNoCycle c.rows-rows.result.now (entries c.in_ok-table.table.items) → ⊥) (λ all. HasNoCycle c.rows-rows.result.now (entries all.table.items))) c.in-Some.is (c.in_ok-bound.ensures.cycle well bare))
