use Rattle.std.proofs.Common.{◌≡◌, ◌∙◌, ap, subst, IfSome, MatchOption}
use Rattle.jr_defs.specs.Referents.{entries}
use Rattle.jr_supers.specs.Supers.{HasNoCycle}
use Rattle.jr_lookup.specs.Imports.{AreImports}
use Rattle.jr_bind.specs.Exact.{IsExact}
use Rattle.jr_bind.specs.Rebound.{AreRebound}
use Rattle.jr_bind.proofs.Confirmed.{program_in}
use Rattle.jr_bind.proofs.Locked.{locked_by}
use Rattle.jr_bind.proofs.rebinding.rebind.Goals as goal

pub returns-in_ok-all-in-Some : goal.returns-in_ok-all-in-Some
returns-in_ok-all-in-Some c = λ of are. let well = c.are_countable.ensures c.if-not-are_countable.false in let program = program_in c.args.rows.now c.args.places.now c.args.scopes.now of well.0 in
    let table = subst (λ o. IfSome o (λ all. all.table ≡ c.in_ok-table.table)) c.in-Some.is c.in_ok-bound.ensures.table in
    let exact = subst (λ o. IfSome o (IsExact c.args.rows.now c.args.places.now)) c.in-Some.is c.in_ok-bound.ensures.exact in
    let acyclic = subst (λ o. MatchOption o (HasNoCycle c.args.rows.now (entries c.in_ok-table.table.items) → ⊥) (λ all. HasNoCycle c.args.rows.now (entries all.table.items))) c.in-Some.is (c.in_ok-bound.ensures.cycle program.well program.bare) in
    let locks = ap (λ v. v.items) table ∙ c.in_ok-table.ensures.items_if_clones_equal (λ x y e. e) in
    record {
      acyclic = subst (λ t. HasNoCycle c.args.rows.now (entries t)) locks acyclic;
      are = subst (λ t. AreRebound c.args.rows.now (entries t) c.in_ok-all-in-Some.all.items) locks (c.in_ok-all-in-Some.ensures (locked_by (record { rows = c.args.rows; places = c.args.places; scopes = c.args.scopes }) c.in-Some.bound c.args.locks.now locks of well are acyclic
          (λ placed. subst (λ o. IfSome o (λ all. AreImports c.args.rows.now (entries all.table.items) all.imports.value)) c.in-Some.is (c.in_ok-bound.ensures.imports placed)) exact));
    }

pub returns-in-None : goal.returns-in-None
returns-in-None c = λ of are. let well = c.are_countable.ensures c.if-not-are_countable.false in let program = program_in c.args.rows.now c.args.places.now c.args.scopes.now of well.0 in
    subst (λ t. HasNoCycle c.args.rows.now (entries t) → ⊥) (c.in_ok-table.ensures.items_if_clones_equal (λ x y e. e))
    (subst (λ o. MatchOption o (HasNoCycle c.args.rows.now (entries c.in_ok-table.table.items) → ⊥) (λ all. HasNoCycle c.args.rows.now (entries all.table.items))) c.in-None.is (c.in_ok-bound.ensures.cycle program.well program.bare))
