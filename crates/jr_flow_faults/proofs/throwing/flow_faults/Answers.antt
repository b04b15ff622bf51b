use Rattle.std.proofs.Common.{refl}
use Rattle.std.proofs.lemmas.Result.{on_ok_weaker}
use Rattle.jr_flow_faults.specs.Computed.{rows_in, facts_in}
use Rattle.jr_flow_faults.proofs.Added.{faults_told, reach_told, flow_only, covered_told, thrown_told, around_told}
use Rattle.jr_flow_faults.proofs.throwing.flow_faults.Goals as goal

pub returns-clause-exact : goal.returns-clause-exact
returns-clause-exact c = λ known. on_ok_weaker c.throw_faults.result
    (λ h. reach_told (rows_in c.args.view.now) (facts_in c.args.view.now) c.args.facts.now _ _ _ known
    (faults_told (rows_in c.args.view.now) c.args.facts.now _ _ _ c.in_ok-all.all.items _ _ c.in_ok-found.found.items _ _ _ refl refl refl
    c.in_ok-all.ensures c.deref.ensures.value c.deref-2.ensures.value c.in_ok-found.ensures c.deref-3.ensures.value c.in_ok-reach_faults.ensures) h) c.throw_faults.ensures.only

pub returns-clause-only : goal.returns-clause-only
returns-clause-only c = on_ok_weaker c.throw_faults.result
    (λ h. flow_only (rows_in c.args.view.now) c.args.facts.now _ _ _
    (faults_told (rows_in c.args.view.now) c.args.facts.now _ _ _ c.in_ok-all.all.items _ _ c.in_ok-found.found.items _ _ _ refl refl refl
    c.in_ok-all.ensures c.deref.ensures.value c.deref-2.ensures.value c.in_ok-found.ensures c.deref-3.ensures.value c.in_ok-reach_faults.ensures) h) c.throw_faults.ensures.only

pub returns-clause-covered : goal.returns-clause-covered
returns-clause-covered c = λ sized above. on_ok_weaker c.throw_faults.result
    (λ h. covered_told (rows_in c.args.view.now) c.args.facts.now _ _ _ _
    (faults_told (rows_in c.args.view.now) c.args.facts.now _ _ _ c.in_ok-all.all.items _ _ c.in_ok-found.found.items _ _ _ refl refl refl
    c.in_ok-all.ensures c.deref.ensures.value c.deref-2.ensures.value c.in_ok-found.ensures c.deref-3.ensures.value c.in_ok-reach_faults.ensures) h) (c.throw_faults.ensures.covered sized above)

pub returns-clause-thrown : goal.returns-clause-thrown
returns-clause-thrown c = λ right known. on_ok_weaker c.throw_faults.result
    (λ h. thrown_told c.args.view.now c.args.facts.now _ _ _
    (faults_told (rows_in c.args.view.now) c.args.facts.now _ _ _ c.in_ok-all.all.items _ _ c.in_ok-found.found.items _ _ _ refl refl refl
    c.in_ok-all.ensures c.deref.ensures.value c.deref-2.ensures.value c.in_ok-found.ensures c.deref-3.ensures.value c.in_ok-reach_faults.ensures) h)
    (let around = around_told c.args.view.now c.args.facts.now _ c.in_ok-all.all.items _ _ known refl c.in_ok-all.ensures refl c.deref-4.ensures.value in
    c.throw_faults.ensures.thrown right (record { rows_are = refl; facts_are = around.0; all_are = around.1 }))
