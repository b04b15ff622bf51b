use Rattle.std.proofs.Common.{◌≡◌, ◌<◌, sym, ◌∙◌, subst, length, Some, IfSome, None, ◌⊎◌, inl, inr}
use Rattle.std.proofs.lemmas.Bool.{false≢true}
use Rattle.std.proofs.lemmas.Option.{same_Some}
use Rattle.std.proofs.lemmas.Result.{IfOk-weaker}
use Rattle.std.proofs.lemmas.Result.{err_from_is_err_and}
use Rattle.jr_flow_defs.specs.Edges.{body_flow}
use Rattle.jr_flow_defs.specs.Kept.{KeepsControl, KeepsBody}
use Rattle.jr_locks.specs.Origins.{origin_of, row_by}
use Rattle.jr_kept.specs.Courses.{HasLarge}
use Rattle.jr_kept.specs.Named.{origin_in}
use Rattle.jr_kept.proofs.Large.{only_where, large_err}
use Rattle.jr_kept.proofs.raising.lost_by_moving.Goals as goal

pub returns-then-not-is_row-clause-control : goal.returns-then-not-is_row-clause-control
returns-then-not-is_row-clause-control c = λ m w seen other none. absurd (c.lost_at.ensures.control none)

pub returns-then-not-is_row-clause-uses : goal.returns-then-not-is_row-clause-uses
returns-then-not-is_row-clause-uses c = λ m w seen other none no_use. absurd (c.lost_at.ensures.control none)

pub returns-in_default-clause-control : goal.returns-in_default-clause-control
returns-in_default-clause-control c = λ m w seen other none. absurd (c.lost_at-in_default.ensures.control none)

pub returns-in_default-clause-uses : goal.returns-in_default-clause-uses
returns-in_default-clause-uses c = λ m w seen other none no_use. absurd (c.lost_at-in_default.ensures.control none)

pub returns-clause-control : goal.returns-clause-control
returns-clause-control c = λ m w seen other. let p = c.args.old.now.marks.rows.now in let q = c.args.locked.now.marks.rows.now in let origin = c.args.locks.now.origin.items in let copies = c.args.locks.now.copy.items in
    let body = c.args.method in let after = c.in-Some.copy in let few = c.is_row.ensures.0 c.if-not-is_row.false in
    let copy : (row_by (origin_of copies body) ≡ Some after) × (after < length q) = subst (λ o. IfSome o (λ k. (row_by (origin_of copies body) ≡ Some k) × (k < length q))) c.in-Some.is (subst (λ xs. IfSome c.row_among.result (λ k. (row_by (origin_of xs body) ≡ Some k) × (k < length q))) c.deref.ensures.value c.row_among.ensures.some) in
    let before_graph = c.in_ok-before.ensures.graph m seen few in let after_graph = c.in_ok-after.ensures.graph w other copy.1 in
    IfOk-weaker c.lost_in_moved.result _ _ (λ lost keeps none. record {
      after = after;
      few = few;
      is_copy = copy.0;
      few_after = copy.1;
      kept = subst (λ os. KeepsControl p q (body_flow p m body) (body_flow q w after) body after None (origin_in os)) c.as_slice.ensures.value
          (subst (λ n. KeepsControl p q (body_flow p m body) (body_flow q w n) body n None (origin_in c.as_slice.result.now)) after_graph.0
          (subst (λ n. KeepsControl p q (body_flow p m n) (body_flow q w c.in_ok-after.after.body) n c.in_ok-after.after.body None (origin_in c.as_slice.result.now)) before_graph.0 (keeps none)));
    }) (c.lost_in_moved.ensures.control m w before_graph.1 after_graph.1)

pub returns-clause-uses : goal.returns-clause-uses
returns-clause-uses c = λ m w seen other. let p = c.args.old.now.marks.rows.now in let q = c.args.locked.now.marks.rows.now in let origin = c.args.locks.now.origin.items in let copies = c.args.locks.now.copy.items in
    let body = c.args.method in let after = c.in-Some.copy in let few = c.is_row.ensures.0 c.if-not-is_row.false in
    let copy : (row_by (origin_of copies body) ≡ Some after) × (after < length q) = subst (λ o. IfSome o (λ k. (row_by (origin_of copies body) ≡ Some k) × (k < length q))) c.in-Some.is (subst (λ xs. IfSome c.row_among.result (λ k. (row_by (origin_of xs body) ≡ Some k) × (k < length q))) c.deref.ensures.value c.row_among.ensures.some) in
    let before_graph = c.in_ok-before.ensures.graph m seen few in let after_graph = c.in_ok-after.ensures.graph w other copy.1 in
    IfOk-weaker c.lost_in_moved.result _ _ (λ lost keeps none no_use. record {
      after = after;
      few = few;
      is_copy = copy.0;
      few_after = copy.1;
      kept = subst (λ os. KeepsBody p q (body_flow p m body) (body_flow q w after) body after None (origin_in os)) c.as_slice.ensures.value
          (subst (λ n. KeepsBody p q (body_flow p m body) (body_flow q w n) body n None (origin_in c.as_slice.result.now)) after_graph.0
          (subst (λ n. KeepsBody p q (body_flow p m n) (body_flow q w c.in_ok-after.after.body) n c.in_ok-after.after.body None (origin_in c.as_slice.result.now)) before_graph.0 (keeps none no_use)));
    }) (c.lost_in_moved.ensures.uses m w before_graph.1 after_graph.1)

pub returns-then-not-is_row-clause-only_control : goal.returns-then-not-is_row-clause-only_control
returns-then-not-is_row-clause-only_control c = λ m w seen other keeps. absurd (false≢true (sym c.if-not-is_row.true ∙ c.is_row.ensures.1 keeps.few))

pub returns-then-not-is_row-clause-only_uses : goal.returns-then-not-is_row-clause-only_uses
returns-then-not-is_row-clause-only_uses c = λ m w seen other keeps. c.lost_at.ensures.def_use

pub returns-in_default-clause-only_control : goal.returns-in_default-clause-only_control
returns-in_default-clause-only_control c = λ m w seen other keeps. absurd (c.row_among.ensures.none keeps.after c.in_default.is
    (subst (λ xs. row_by (origin_of xs c.args.method) ≡ Some keeps.after) (sym c.deref.ensures.value) keeps.is_copy) keeps.few_after)

pub returns-in_default-clause-only_uses : goal.returns-in_default-clause-only_uses
returns-in_default-clause-only_uses c = λ m w seen other keeps. c.lost_at-in_default.ensures.def_use

pub returns-clause-only_control : goal.returns-clause-only_control
returns-clause-only_control c = λ m w seen other. let p = c.args.old.now.marks.rows.now in let q = c.args.locked.now.marks.rows.now in let origin = c.args.locks.now.origin.items in let copies = c.args.locks.now.copy.items in
    let body = c.args.method in let after = c.in-Some.copy in let few = c.is_row.ensures.0 c.if-not-is_row.false in let now = c.in_ok-after.after.body in
    let copy : (row_by (origin_of copies body) ≡ Some after) × (after < length q) = subst (λ o. IfSome o (λ k. (row_by (origin_of copies body) ≡ Some k) × (k < length q))) c.in-Some.is (subst (λ xs. IfSome c.row_among.result (λ k. (row_by (origin_of xs body) ≡ Some k) × (k < length q))) c.deref.ensures.value c.row_among.ensures.some) in
    let before_graph = c.in_ok-before.ensures.graph m seen few in let after_graph = c.in_ok-after.ensures.graph w other copy.1 in
    IfOk-weaker c.lost_in_moved.result _ _ (λ lost only keeps. only
    (subst (λ n. KeepsControl p q (body_flow p m n) (body_flow q w now) n now None (origin_in c.as_slice.result.now)) (sym before_graph.0)
    (subst (λ n. KeepsControl p q (body_flow p m body) (body_flow q w n) body n None (origin_in c.as_slice.result.now)) (same_Some keeps.after after (sym keeps.is_copy ∙ copy.0) ∙ sym after_graph.0)
    (subst (λ os. KeepsControl p q (body_flow p m body) (body_flow q w keeps.after) body keeps.after None (origin_in os)) (sym c.as_slice.ensures.value) keeps.kept))))
    (c.lost_in_moved.ensures.only_control m w before_graph.1 after_graph.1)

pub returns-clause-only_uses : goal.returns-clause-only_uses
returns-clause-only_uses c = λ m w seen other. let p = c.args.old.now.marks.rows.now in let q = c.args.locked.now.marks.rows.now in let origin = c.args.locks.now.origin.items in let copies = c.args.locks.now.copy.items in
    let body = c.args.method in let after = c.in-Some.copy in let few = c.is_row.ensures.0 c.if-not-is_row.false in let now = c.in_ok-after.after.body in
    let copy : (row_by (origin_of copies body) ≡ Some after) × (after < length q) = subst (λ o. IfSome o (λ k. (row_by (origin_of copies body) ≡ Some k) × (k < length q))) c.in-Some.is (subst (λ xs. IfSome c.row_among.result (λ k. (row_by (origin_of xs body) ≡ Some k) × (k < length q))) c.deref.ensures.value c.row_among.ensures.some) in
    let before_graph = c.in_ok-before.ensures.graph m seen few in let after_graph = c.in_ok-after.ensures.graph w other copy.1 in
    IfOk-weaker c.lost_in_moved.result _ _ (λ lost only keeps. only
    (subst (λ n. KeepsBody p q (body_flow p m n) (body_flow q w now) n now None (origin_in c.as_slice.result.now)) (sym before_graph.0)
    (subst (λ n. KeepsBody p q (body_flow p m body) (body_flow q w n) body n None (origin_in c.as_slice.result.now)) (same_Some keeps.after after (sym keeps.is_copy ∙ copy.0) ∙ sym after_graph.0)
    (subst (λ os. KeepsBody p q (body_flow p m body) (body_flow q w keeps.after) body keeps.after None (origin_in os)) (sym c.as_slice.ensures.value) keeps.kept))))
    (c.lost_in_moved.ensures.only_uses m w before_graph.1 after_graph.1)

pub returns-in_err-before-clause-large : goal.returns-in_err-before-clause-large
returns-in_err-before-clause-large c = λ m w seen other. let q = err_from_is_err_and c.from_residual.result c.from_residual.ensures.1 in rw (q.1, q.2) (only_where (HasLarge c.args.old.now.marks.rows.now m) (HasLarge c.args.old.now.marks.rows.now m ⊎ HasLarge c.args.locked.now.marks.rows.now w) c.in_err-before.field-0.0 (λ h. inl h) (c.in_err-before.ensures.large m seen (c.is_row.ensures.0 c.if-not-is_row.false)))

pub returns-in_err-after-clause-large : goal.returns-in_err-after-clause-large
returns-in_err-after-clause-large c = λ m w seen other. let q = c.args.locked.now.marks.rows.now in let copies = c.args.locks.now.copy.items in let body = c.args.method in
    let copy : (row_by (origin_of copies body) ≡ Some c.in-Some.copy) × (c.in-Some.copy < length q) = subst (λ o. IfSome o (λ k. (row_by (origin_of copies body) ≡ Some k) × (k < length q))) c.in-Some.is (subst (λ xs. IfSome c.row_among.result (λ k. (row_by (origin_of xs body) ≡ Some k) × (k < length q))) c.deref.ensures.value c.row_among.ensures.some) in
    let q = err_from_is_err_and c.from_residual-in_err-after.result c.from_residual-in_err-after.ensures.1 in rw (q.1, q.2) (only_where (HasLarge c.args.locked.now.marks.rows.now w) (HasLarge c.args.old.now.marks.rows.now m ⊎ HasLarge c.args.locked.now.marks.rows.now w) c.in_err-after.field-0.0 (λ h. inr h) (c.in_err-after.ensures.large w other copy.1))

pub returns-clause-large : goal.returns-clause-large
returns-clause-large c = λ m w seen other. large_err c.lost_in_moved.result ⊥ (HasLarge c.args.old.now.marks.rows.now m ⊎ HasLarge c.args.locked.now.marks.rows.now w) (λ h. absurd h) c.lost_in_moved.ensures.large
