use Rattle.std.proofs.Common.{◌≡◌, arith, sym, ◌∙◌, ◌<◌, ap, subst, length, Some, IfSome, ◌⊎◌, inl, inr}
use Rattle.std.proofs.lemmas.Option.{same_Some}
use Rattle.std.proofs.lemmas.Result.{IfOk-weaker}
use Rattle.std.proofs.lemmas.Result.{err_from_is_err_and}
use Rattle.jr_tree.specs.Rows.{parent}
use Rattle.jr_flow_defs.specs.Edges.{body_flow}
use Rattle.jr_flow_defs.specs.Kept.{KeepsControl, KeepsBody, IsDisturbed}
use Rattle.jr_locks.specs.Origins.{origin_of, row_by}
use Rattle.jr_kept.specs.Named.{origin_in}
use Rattle.jr_kept.specs.Courses.{IsBodyRound, HasLarge, dropped_by}
use Rattle.jr_kept.proofs.Large.{only_where, large_err}
use Rattle.jr_kept.proofs.Rounding.{rows_few, one_round}
use Rattle.jr_kept.proofs.kept.lost_by_inlining.Goals as goal

pub returns-in_default-clause-control : goal.returns-in_default-clause-control
returns-in_default-clause-control c = λ m w seen other none. absurd (c.lost_at.ensures.control none)

pub returns-in_default-clause-uses : goal.returns-in_default-clause-uses
returns-in_default-clause-uses c = λ m w seen other none no_use. absurd (c.lost_at.ensures.control none)

pub returns-clause-control : goal.returns-clause-control
returns-clause-control c = λ m w seen other. let p = c.args.old.now.marks.rows.now in let q = c.args.locked.now.marks.rows.now in let origin = c.args.locks.now.origin.items in let copies = c.args.locks.now.copy.items in
    let local = c.args.local in let statement = c.args.statement in let body = c.in-Some.body in let after = c.in-Some-row_among.copy in
    let found : IsBodyRound p local body × (parent p local ≡ statement) = subst (λ o. IfSome o (λ k. IsBodyRound p local k × (parent p local ≡ statement))) c.in-Some.is (c.in_ok-body.ensures.round (rows_few c.args.old.now m seen)) in let round = found.0 in
    let copy : (row_by (origin_of copies body) ≡ Some after) × (after < length q) = subst (λ o. IfSome o (λ k. (row_by (origin_of copies body) ≡ Some k) × (k < length q))) c.in-Some-row_among.is (subst (λ xs. IfSome c.row_among.result (λ k. (row_by (origin_of xs body) ≡ Some k) × (k < length q))) c.deref.ensures.value c.row_among.ensures.some) in
    let before_graph = c.in_ok-before.ensures.graph m seen round.is.few in let after_graph = c.in_ok-after.ensures.graph w other copy.1 in
    IfOk-weaker c.lost_in_inlined.result _ _ (λ lost keeps none. record {
      body = body;
      after = after;
      round = round;
      is_copy = copy.0;
      few = copy.1;
      declared = found.1;
      kept = subst (λ d. KeepsControl p q (body_flow p m body) (body_flow q w after) body after d (origin_in origin)) (c.dropped.ensures ∙ ap (λ xs. dropped_by (row_by (origin_of xs statement)) statement) c.deref-2.ensures.value)
          (subst (λ os. KeepsControl p q (body_flow p m body) (body_flow q w after) body after c.dropped.result (origin_in os)) c.as_slice.ensures.value
          (subst (λ n. KeepsControl p q (body_flow p m body) (body_flow q w n) body n c.dropped.result (origin_in c.as_slice.result.now)) after_graph.0
          (subst (λ n. KeepsControl p q (body_flow p m n) (body_flow q w c.in_ok-after.after.body) n c.in_ok-after.after.body c.dropped.result (origin_in c.as_slice.result.now)) before_graph.0 (keeps none))));
    }) (c.lost_in_inlined.ensures.control m w before_graph.1 after_graph.1)

pub returns-clause-uses : goal.returns-clause-uses
returns-clause-uses c = λ m w seen other. let p = c.args.old.now.marks.rows.now in let q = c.args.locked.now.marks.rows.now in let origin = c.args.locks.now.origin.items in let copies = c.args.locks.now.copy.items in
    let local = c.args.local in let statement = c.args.statement in let body = c.in-Some.body in let after = c.in-Some-row_among.copy in
    let found : IsBodyRound p local body × (parent p local ≡ statement) = subst (λ o. IfSome o (λ k. IsBodyRound p local k × (parent p local ≡ statement))) c.in-Some.is (c.in_ok-body.ensures.round (rows_few c.args.old.now m seen)) in let round = found.0 in
    let copy : (row_by (origin_of copies body) ≡ Some after) × (after < length q) = subst (λ o. IfSome o (λ k. (row_by (origin_of copies body) ≡ Some k) × (k < length q))) c.in-Some-row_among.is (subst (λ xs. IfSome c.row_among.result (λ k. (row_by (origin_of xs body) ≡ Some k) × (k < length q))) c.deref.ensures.value c.row_among.ensures.some) in
    let before_graph = c.in_ok-before.ensures.graph m seen round.is.few in let after_graph = c.in_ok-after.ensures.graph w other copy.1 in
    let few = rows_few c.args.old.now m seen in let last = seen.tree.last body round.is.few in let to = round.to in
    IfOk-weaker c.lost_in_inlined.result _ _ (λ lost keeps none no_use.
    let both = keeps none no_use in
    let kept : KeepsBody p q (body_flow p m body) (body_flow q w after) body after (dropped_by (row_by (origin_of copies statement)) statement) (origin_in origin) =
    subst (λ d. KeepsBody p q (body_flow p m body) (body_flow q w after) body after d (origin_in origin)) (c.dropped.ensures ∙ ap (λ xs. dropped_by (row_by (origin_of xs statement)) statement) c.deref-2.ensures.value)
    (subst (λ os. KeepsBody p q (body_flow p m body) (body_flow q w after) body after c.dropped.result (origin_in os)) c.as_slice.ensures.value
    (subst (λ n. KeepsBody p q (body_flow p m body) (body_flow q w n) body n c.dropped.result (origin_in c.as_slice.result.now)) after_graph.0
    (subst (λ n. KeepsBody p q (body_flow p m n) (body_flow q w c.in_ok-after.after.body) n c.in_ok-after.after.body c.dropped.result (origin_in c.as_slice.result.now)) before_graph.0 both.0))) in
    let calm : IsDisturbed p (body_flow p m body) local → ⊥ = subst (λ n. IsDisturbed p (body_flow p m n) local → ⊥) before_graph.0 (both.1 (omega (arith, few, last, to))) in
    record {
      body = body;
      after = after;
      round = round;
      is_copy = copy.0;
      few = copy.1;
      declared = found.1;
      inlined = record { kept = kept; undisturbed = calm };
    }) (c.lost_in_inlined.ensures.uses m w before_graph.1 after_graph.1)

pub returns-in_default-clause-only_control : goal.returns-in_default-clause-only_control
returns-in_default-clause-only_control c = λ m w seen other free keeps. absurd (c.in_ok-body.ensures.none (rows_few c.args.old.now m seen) c.in_default.is keeps.declared keeps.body keeps.round)

pub returns-in_default-clause-only_uses : goal.returns-in_default-clause-only_uses
returns-in_default-clause-only_uses c = λ m w seen other keeps. c.lost_at.ensures.def_use

pub returns-in_default-row_among-clause-only_control : goal.returns-in_default-row_among-clause-only_control
returns-in_default-row_among-clause-only_control c = λ m w seen other free keeps. let p = c.args.old.now.marks.rows.now in let local = c.args.local in let copies = c.args.locks.now.copy.items in
    let found : IsBodyRound p local c.in-Some.body × (parent p local ≡ c.args.statement) = subst (λ o. IfSome o (λ k. IsBodyRound p local k × (parent p local ≡ c.args.statement))) c.in-Some.is (c.in_ok-body.ensures.round (rows_few c.args.old.now m seen)) in
    let same = one_round p local keeps.body c.in-Some.body keeps.round found.0 in
    absurd (c.row_among.ensures.none keeps.after c.in_default-row_among.is
    (subst (λ xs. row_by (origin_of xs c.in-Some.body) ≡ Some keeps.after) (sym c.deref.ensures.value) (subst (λ k. row_by (origin_of copies k) ≡ Some keeps.after) same keeps.is_copy)) keeps.few)

pub returns-clause-only_control : goal.returns-clause-only_control
returns-clause-only_control c = λ m w seen other free. let p = c.args.old.now.marks.rows.now in let q = c.args.locked.now.marks.rows.now in let origin = c.args.locks.now.origin.items in let copies = c.args.locks.now.copy.items in
    let local = c.args.local in let statement = c.args.statement in let body = c.in-Some.body in let after = c.in-Some-row_among.copy in let now = c.in_ok-after.after.body in
    let found : IsBodyRound p local body × (parent p local ≡ statement) = subst (λ o. IfSome o (λ k. IsBodyRound p local k × (parent p local ≡ statement))) c.in-Some.is (c.in_ok-body.ensures.round (rows_few c.args.old.now m seen)) in let round = found.0 in
    let copy : (row_by (origin_of copies body) ≡ Some after) × (after < length q) = subst (λ o. IfSome o (λ k. (row_by (origin_of copies body) ≡ Some k) × (k < length q))) c.in-Some-row_among.is (subst (λ xs. IfSome c.row_among.result (λ k. (row_by (origin_of xs body) ≡ Some k) × (k < length q))) c.deref.ensures.value c.row_among.ensures.some) in
    let before_graph = c.in_ok-before.ensures.graph m seen round.is.few in let after_graph = c.in_ok-after.ensures.graph w other copy.1 in
    IfOk-weaker c.lost_in_inlined.result _ _ (λ lost only keeps.
    let same = one_round p local keeps.body body keeps.round round in
    let same_after = same_Some keeps.after after (sym (subst (λ k. row_by (origin_of copies k) ≡ Some keeps.after) same keeps.is_copy) ∙ copy.0) in
    only (subst (λ n. KeepsControl p q (body_flow p m n) (body_flow q w now) n now c.dropped.result (origin_in c.as_slice.result.now)) (same ∙ sym before_graph.0)
    (subst (λ n. KeepsControl p q (body_flow p m keeps.body) (body_flow q w n) keeps.body n c.dropped.result (origin_in c.as_slice.result.now)) (same_after ∙ sym after_graph.0)
    (subst (λ os. KeepsControl p q (body_flow p m keeps.body) (body_flow q w keeps.after) keeps.body keeps.after c.dropped.result (origin_in os)) (sym c.as_slice.ensures.value)
    (subst (λ d. KeepsControl p q (body_flow p m keeps.body) (body_flow q w keeps.after) keeps.body keeps.after d (origin_in origin)) (sym (c.dropped.ensures ∙ ap (λ xs. dropped_by (row_by (origin_of xs statement)) statement) c.deref-2.ensures.value)) keeps.kept)))))
    (c.lost_in_inlined.ensures.only_control m w seen before_graph.1 after_graph.1 free)

pub returns-clause-only_uses : goal.returns-clause-only_uses
returns-clause-only_uses c = λ m w seen other. let p = c.args.old.now.marks.rows.now in let q = c.args.locked.now.marks.rows.now in let origin = c.args.locks.now.origin.items in let copies = c.args.locks.now.copy.items in
    let local = c.args.local in let statement = c.args.statement in let body = c.in-Some.body in let after = c.in-Some-row_among.copy in let now = c.in_ok-after.after.body in
    let found : IsBodyRound p local body × (parent p local ≡ statement) = subst (λ o. IfSome o (λ k. IsBodyRound p local k × (parent p local ≡ statement))) c.in-Some.is (c.in_ok-body.ensures.round (rows_few c.args.old.now m seen)) in let round = found.0 in
    let copy : (row_by (origin_of copies body) ≡ Some after) × (after < length q) = subst (λ o. IfSome o (λ k. (row_by (origin_of copies body) ≡ Some k) × (k < length q))) c.in-Some-row_among.is (subst (λ xs. IfSome c.row_among.result (λ k. (row_by (origin_of xs body) ≡ Some k) × (k < length q))) c.deref.ensures.value c.row_among.ensures.some) in
    let before_graph = c.in_ok-before.ensures.graph m seen round.is.few in let after_graph = c.in_ok-after.ensures.graph w other copy.1 in
    let few = rows_few c.args.old.now m seen in let last = seen.tree.last body round.is.few in let to = round.to in let from = round.from in let graph_is = before_graph.0 in
    IfOk-weaker c.lost_in_inlined.result _ _ (λ lost only keeps.
    let same = one_round p local keeps.body body keeps.round round in
    let same_after = same_Some keeps.after after (sym (subst (λ k. row_by (origin_of copies k) ≡ Some keeps.after) same keeps.is_copy) ∙ copy.0) in
    only (subst (λ n. KeepsBody p q (body_flow p m n) (body_flow q w now) n now c.dropped.result (origin_in c.as_slice.result.now)) (same ∙ sym before_graph.0)
    (subst (λ n. KeepsBody p q (body_flow p m keeps.body) (body_flow q w n) keeps.body n c.dropped.result (origin_in c.as_slice.result.now)) (same_after ∙ sym after_graph.0)
    (subst (λ os. KeepsBody p q (body_flow p m keeps.body) (body_flow q w keeps.after) keeps.body keeps.after c.dropped.result (origin_in os)) (sym c.as_slice.ensures.value)
    (subst (λ d. KeepsBody p q (body_flow p m keeps.body) (body_flow q w keeps.after) keeps.body keeps.after d (origin_in origin)) (sym (c.dropped.ensures ∙ ap (λ xs. dropped_by (row_by (origin_of xs statement)) statement) c.deref-2.ensures.value)) keeps.inlined.kept))))
    (subst (λ n. IsDisturbed p (body_flow p m n) local → ⊥) (same ∙ sym before_graph.0) keeps.inlined.undisturbed))
    (c.lost_in_inlined.ensures.only_uses m w before_graph.1 after_graph.1 (omega (arith, few, last, to)) (omega (arith, graph_is, from)))

pub returns-in_err-before-clause-large : goal.returns-in_err-before-clause-large
returns-in_err-before-clause-large c = λ m w seen other. let p = c.args.old.now.marks.rows.now in let local = c.args.local in let statement = c.args.statement in
    let found : IsBodyRound p local c.in-Some.body × (parent p local ≡ statement) = subst (λ o. IfSome o (λ k. IsBodyRound p local k × (parent p local ≡ statement))) c.in-Some.is (c.in_ok-body.ensures.round (rows_few c.args.old.now m seen)) in
    let q = err_from_is_err_and c.from_residual-in_err-before.result c.from_residual-in_err-before.ensures.1 in rw (q.1, q.2) (only_where (HasLarge c.args.old.now.marks.rows.now m) (HasLarge c.args.old.now.marks.rows.now m ⊎ HasLarge c.args.locked.now.marks.rows.now w) c.in_err-before.field-0.0 (λ h. inl h) (c.in_err-before.ensures.large m seen found.0.is.few))

pub returns-in_err-after-clause-large : goal.returns-in_err-after-clause-large
returns-in_err-after-clause-large c = λ m w seen other. let q = c.args.locked.now.marks.rows.now in let copies = c.args.locks.now.copy.items in let body = c.in-Some.body in
    let copy : (row_by (origin_of copies body) ≡ Some c.in-Some-row_among.copy) × (c.in-Some-row_among.copy < length q) = subst (λ o. IfSome o (λ k. (row_by (origin_of copies body) ≡ Some k) × (k < length q))) c.in-Some-row_among.is (subst (λ xs. IfSome c.row_among.result (λ k. (row_by (origin_of xs body) ≡ Some k) × (k < length q))) c.deref.ensures.value c.row_among.ensures.some) in
    let q = err_from_is_err_and c.from_residual-in_err-after.result c.from_residual-in_err-after.ensures.1 in rw (q.1, q.2) (only_where (HasLarge c.args.locked.now.marks.rows.now w) (HasLarge c.args.old.now.marks.rows.now m ⊎ HasLarge c.args.locked.now.marks.rows.now w) c.in_err-after.field-0.0 (λ h. inr h) (c.in_err-after.ensures.large w other copy.1))

pub returns-clause-large : goal.returns-clause-large
returns-clause-large c = λ m w seen other. large_err c.lost_in_inlined.result (HasLarge c.args.old.now.marks.rows.now m) (HasLarge c.args.old.now.marks.rows.now m ⊎ HasLarge c.args.locked.now.marks.rows.now w) (λ h. inl h) (c.lost_in_inlined.ensures.large m seen)
