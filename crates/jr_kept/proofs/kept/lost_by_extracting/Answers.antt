use Rattle.std.proofs.Common.{◌≡◌, ℕ, ◌<◌, ◌≤◌, arith, sym, ◌∙◌, subst, length, Some, IfSome, None, ◌⊎◌, inl, inr}
use Rattle.std.proofs.lemmas.Bool.{false≢true}
use Rattle.std.proofs.lemmas.Option.{same_Some}
use Rattle.std.proofs.lemmas.Result.{IfOk-weaker}
use Rattle.std.proofs.lemmas.Result.{err_from_is_err_and}
use Rattle.jr_flow_defs.specs.Edges.{body_flow, IsGraph}
use Rattle.jr_flow_defs.specs.Kept.{KeepsControl, KeepsDefinitions, Hands, IsHanding, IsAssigned, IsReturned, IsLost, joined_flow, statement_round}
use Rattle.jr_flow.specs.Reached.{steps_of}
use Rattle.jr_locks.specs.Origins.{origin_of, row_by}
use Rattle.jr_kept.specs.Named.{origin_in}
use Rattle.jr_kept.specs.Courses.{IsBodyRound, HasLarge}
use Rattle.jr_kept.proofs.Large.{only_where, large_err}
use Rattle.jr_kept.specs.Handed.{HandsOnce}
use Rattle.jr_kept.proofs.Handover.{hands_once}
use Rattle.jr_kept.specs.Returned.{ReturnAtOnce}
use Rattle.jr_kept.proofs.Crossing.{statement_before}
use Rattle.jr_kept.proofs.Rounding.{rows_few, rows_numbered, parent_before, one_round}
use Rattle.jr_kept.proofs.kept.lost_by_extracting.Goals as goal

pub returns-in_default-clause-control : goal.returns-in_default-clause-control
returns-in_default-clause-control c = λ m w seen other none. absurd (c.lost_at.ensures.control none)

pub returns-in_default-clause-uses : goal.returns-in_default-clause-uses
returns-in_default-clause-uses c = λ m w seen other none no_use. absurd (c.lost_at.ensures.control none)

pub returns-then-not-is_apart-clause-control : goal.returns-then-not-is_apart-clause-control
returns-then-not-is_apart-clause-control c = λ m w seen other none. absurd (c.lost_at-then-not-is_apart.ensures.control none)

pub returns-then-not-is_apart-clause-uses : goal.returns-then-not-is_apart-clause-uses
returns-then-not-is_apart-clause-uses c = λ m w seen other none no_use. absurd (c.lost_at-then-not-is_apart.ensures.control none)

pub returns-clause-control : goal.returns-clause-control
returns-clause-control c = λ m w seen other. let p = c.args.old.now.marks.rows.now in let q = c.args.locked.now.marks.rows.now in let origin = c.args.locks.now.origin.items in
    let call = c.args.call in let method = c.args.method in let after = c.in-Some.copy in let body = c.in-Some-row_among.body in let joined = c.in_ok-after.after in
    let round : IsBodyRound q call after = subst (λ o. IfSome o (λ k. IsBodyRound q call k)) c.in-Some.is (c.in_ok-copy.ensures.round (rows_few c.args.locked.now w other)) in
    let copy : (row_by (origin_of origin after) ≡ Some body) × (body < length p) = subst (λ o. IfSome o (λ k. (row_by (origin_of origin after) ≡ Some k) × (k < length p))) c.in-Some-row_among.is (subst (λ xs. IfSome c.row_among.result (λ k. (row_by (origin_of xs after) ≡ Some k) × (k < length p))) c.deref.ensures.value c.row_among.ensures.some) in
    let is_row = c.is_apart.ensures.row c.if-not-is_apart.false in let few = rows_few c.args.locked.now w other in let other_body = c.is_apart.ensures.apart c.if-not-is_apart.false in
    let before_graph = c.in_ok-before.ensures.graph m seen copy.1 in
    let after_graph = c.in_ok-after.ensures.graph w method other round.is.few (c.in_ok-inner.ensures.graph w other is_row) other_body in
    IfOk-weaker c.lost_in_extracted.result _ _ (λ lost keeps none.
    let both = keeps none in
    record {
      body = body;
      after = after;
      round = round;
      is_copy = copy.0;
      few = copy.1;
      is_method = is_row;
      apart = other_body;
      kept = subst (λ os. KeepsControl p q (body_flow p m body) (joined_flow q w after call method) body after None (origin_in os)) c.as_slice.ensures.value
          (subst (λ n. KeepsControl p q (body_flow p m body) (joined_flow q w n call method) body n None (origin_in c.as_slice.result.now)) after_graph.0
          (subst (λ n. KeepsControl p q (body_flow p m n) (joined_flow q w joined.body call method) n joined.body None (origin_in c.as_slice.result.now)) before_graph.0 both.0));
      returns = subst (λ os. ReturnAtOnce p q m body method (origin_in os)) c.as_slice.ensures.value both.1;
    }) (c.lost_in_extracted.ensures.control m w before_graph.1
    (subst (λ n. IsGraph (joined_flow q w n call method) n joined.points.items (steps_of joined)) (sym after_graph.0) after_graph.1)
    (record { tree = seen.tree; few = rows_few c.args.old.now m seen; row = copy.1; same = before_graph.0 }) (omega (arith, few, is_row)))

pub returns-clause-uses : goal.returns-clause-uses
returns-clause-uses c = λ m w seen other. let p = c.args.old.now.marks.rows.now in let q = c.args.locked.now.marks.rows.now in let origin = c.args.locks.now.origin.items in
    let call = c.args.call in let method = c.args.method in let after = c.in-Some.copy in let body = c.in-Some-row_among.body in let joined = c.in_ok-after.after in
    let round : IsBodyRound q call after = subst (λ o. IfSome o (λ k. IsBodyRound q call k)) c.in-Some.is (c.in_ok-copy.ensures.round (rows_few c.args.locked.now w other)) in
    let copy : (row_by (origin_of origin after) ≡ Some body) × (body < length p) = subst (λ o. IfSome o (λ k. (row_by (origin_of origin after) ≡ Some k) × (k < length p))) c.in-Some-row_among.is (subst (λ xs. IfSome c.row_among.result (λ k. (row_by (origin_of xs after) ≡ Some k) × (k < length p))) c.deref.ensures.value c.row_among.ensures.some) in
    let before_graph = c.in_ok-before.ensures.graph m seen copy.1 in let is_row = c.is_apart.ensures.row c.if-not-is_apart.false in
    let alone = c.in_ok-inner.ensures.graph w other is_row in let after_graph = c.in_ok-after.ensures.graph w method other round.is.few alone (c.is_apart.ensures.apart c.if-not-is_apart.false) in
    let few = rows_few c.args.locked.now w other in let last = other.tree.last after round.is.few in let to = round.to in
    let up : statement_round q call call ≤ call = statement_before q (parent_before q other.tree) call call in
    IfOk-weaker c.lost_in_extracted.result _ _ (λ lost keeps none no_use.
    let both = keeps none no_use in
    record {
      body = body;
      after = after;
      round = round;
      is_copy = copy.0;
      few = copy.1;
      is_method = is_row;
      apart = c.is_apart.ensures.apart c.if-not-is_apart.false;
      extracted = record {
        control = subst (λ os. KeepsControl p q (body_flow p m body) (joined_flow q w after call method) body after None (origin_in os)) c.as_slice.ensures.value
            (subst (λ n. KeepsControl p q (body_flow p m body) (joined_flow q w n call method) body n None (origin_in c.as_slice.result.now)) after_graph.0
            (subst (λ n. KeepsControl p q (body_flow p m n) (joined_flow q w joined.body call method) n joined.body None (origin_in c.as_slice.result.now)) before_graph.0 both.0));
        definitions = subst (λ os. KeepsDefinitions (body_flow p m body) (joined_flow q w after call method) (IsHanding q (joined_flow q w after call method) call method) (Hands q (joined_flow q w after call method) call method (origin_in os)) (origin_in os)) c.as_slice.ensures.value
            (subst (λ n. KeepsDefinitions (body_flow p m body) (joined_flow q w n call method) (IsHanding q (joined_flow q w n call method) call method) (Hands q (joined_flow q w n call method) call method (origin_in c.as_slice.result.now)) (origin_in c.as_slice.result.now)) after_graph.0
            (subst (λ n. KeepsDefinitions (body_flow p m n) (joined_flow q w joined.body call method) (IsHanding q (joined_flow q w joined.body call method) call method) (Hands q (joined_flow q w joined.body call method) call method (origin_in c.as_slice.result.now)) (origin_in c.as_slice.result.now)) before_graph.0 both.1));
        unlost = subst (λ os. IsLost q w (joined_flow q w after call method) call method (origin_in os) → ⊥) c.as_slice.ensures.value
            (subst (λ n. IsLost q w (joined_flow q w n call method) call method (origin_in c.as_slice.result.now) → ⊥) after_graph.0 both.2);
        returns = subst (λ os. ReturnAtOnce p q m body method (origin_in os)) c.as_slice.ensures.value both.3;
      };
    }) (c.lost_in_extracted.ensures.uses m w before_graph.1
    (subst (λ n. IsGraph (joined_flow q w n call method) n joined.points.items (steps_of joined)) (sym after_graph.0) after_graph.1) alone
    (record { tree = seen.tree; few = rows_few c.args.old.now m seen; row = copy.1; same = before_graph.0 })
    (omega (arith, few, last, to)) (omega (arith, few, is_row)) (omega (arith, few, last, to, up)))

pub returns-in_default-clause-only_control : goal.returns-in_default-clause-only_control
returns-in_default-clause-only_control c = λ m w seen other keeps. absurd (c.in_ok-copy.ensures.none (rows_few c.args.locked.now w other) c.in_default.is keeps.after keeps.round)

pub returns-in_default-row_among-clause-only_control : goal.returns-in_default-row_among-clause-only_control
returns-in_default-row_among-clause-only_control c = λ m w seen other keeps. let q = c.args.locked.now.marks.rows.now in let call = c.args.call in let after = c.in-Some.copy in
    let round : IsBodyRound q call after = subst (λ o. IfSome o (λ k. IsBodyRound q call k)) c.in-Some.is (c.in_ok-copy.ensures.round (rows_few c.args.locked.now w other)) in
    absurd (c.row_among.ensures.none keeps.body c.in_default-row_among.is
    (subst (λ xs. row_by (origin_of xs after) ≡ Some keeps.body) (sym c.deref.ensures.value) (subst (λ k. row_by (origin_of c.args.locks.now.origin.items k) ≡ Some keeps.body) (one_round q call keeps.after after keeps.round round) keeps.is_copy)) keeps.few)

pub returns-then-not-is_apart-clause-only_control : goal.returns-then-not-is_apart-clause-only_control
returns-then-not-is_apart-clause-only_control c = λ m w seen other keeps. let q = c.args.locked.now.marks.rows.now in let call = c.args.call in let after = c.in-Some.copy in
    let round : IsBodyRound q call after = subst (λ o. IfSome o (λ k. IsBodyRound q call k)) c.in-Some.is (c.in_ok-copy.ensures.round (rows_few c.args.locked.now w other)) in
    absurd (false≢true (sym c.if-not-is_apart.true ∙ c.is_apart.ensures.all keeps.is_method (λ e. keeps.apart (one_round q call keeps.after after keeps.round round ∙ e))))

pub returns-clause-only_control : goal.returns-clause-only_control
returns-clause-only_control c = λ m w seen other. let p = c.args.old.now.marks.rows.now in let q = c.args.locked.now.marks.rows.now in let origin = c.args.locks.now.origin.items in
    let call = c.args.call in let method = c.args.method in let after = c.in-Some.copy in let body = c.in-Some-row_among.body in let joined = c.in_ok-after.after in
    let round : IsBodyRound q call after = subst (λ o. IfSome o (λ k. IsBodyRound q call k)) c.in-Some.is (c.in_ok-copy.ensures.round (rows_few c.args.locked.now w other)) in
    let copy : (row_by (origin_of origin after) ≡ Some body) × (body < length p) = subst (λ o. IfSome o (λ k. (row_by (origin_of origin after) ≡ Some k) × (k < length p))) c.in-Some-row_among.is (subst (λ xs. IfSome c.row_among.result (λ k. (row_by (origin_of xs after) ≡ Some k) × (k < length p))) c.deref.ensures.value c.row_among.ensures.some) in
    let is_row = c.is_apart.ensures.row c.if-not-is_apart.false in let few = rows_few c.args.locked.now w other in let other_body = c.is_apart.ensures.apart c.if-not-is_apart.false in
    let before_graph = c.in_ok-before.ensures.graph m seen copy.1 in
    let after_graph = c.in_ok-after.ensures.graph w method other round.is.few (c.in_ok-inner.ensures.graph w other is_row) other_body in
    IfOk-weaker c.lost_in_extracted.result _ _ (λ lost only keeps.
    let same = one_round q call keeps.after after keeps.round round in
    let same_body = same_Some keeps.body body (sym (subst (λ k. row_by (origin_of origin k) ≡ Some keeps.body) same keeps.is_copy) ∙ copy.0) in
    only (subst (λ n. KeepsControl p q (body_flow p m n) (joined_flow q w joined.body call method) n joined.body None (origin_in c.as_slice.result.now)) (same_body ∙ sym before_graph.0)
    (subst (λ n. KeepsControl p q (body_flow p m keeps.body) (joined_flow q w n call method) keeps.body n None (origin_in c.as_slice.result.now)) (same ∙ sym after_graph.0)
    (subst (λ os. KeepsControl p q (body_flow p m keeps.body) (joined_flow q w keeps.after call method) keeps.body keeps.after None (origin_in os)) (sym c.as_slice.ensures.value) keeps.kept)))
    (subst (λ n. ReturnAtOnce p q m n method (origin_in c.as_slice.result.now)) same_body (subst (λ os. ReturnAtOnce p q m keeps.body method (origin_in os)) (sym c.as_slice.ensures.value) keeps.returns)))
    (c.lost_in_extracted.ensures.only_control m w before_graph.1
    (subst (λ n. IsGraph (joined_flow q w n call method) n joined.points.items (steps_of joined)) (sym after_graph.0) after_graph.1)
    (record { tree = seen.tree; few = rows_few c.args.old.now m seen; row = copy.1; same = before_graph.0 }) (omega (arith, few, is_row)))

pub returns-in_default-clause-only_uses : goal.returns-in_default-clause-only_uses
returns-in_default-clause-only_uses c = λ m w seen other hands keeps. c.lost_at.ensures.def_use

pub returns-then-not-is_apart-clause-only_uses : goal.returns-then-not-is_apart-clause-only_uses
returns-then-not-is_apart-clause-only_uses c = λ m w seen other hands keeps. c.lost_at-then-not-is_apart.ensures.def_use

pub returns-clause-only_uses : goal.returns-clause-only_uses
returns-clause-only_uses c = λ m w seen other hands. let p = c.args.old.now.marks.rows.now in let q = c.args.locked.now.marks.rows.now in let origin = c.args.locks.now.origin.items in
    let call = c.args.call in let method = c.args.method in let after = c.in-Some.copy in let body = c.in-Some-row_among.body in let joined = c.in_ok-after.after in
    let round : IsBodyRound q call after = subst (λ o. IfSome o (λ k. IsBodyRound q call k)) c.in-Some.is (c.in_ok-copy.ensures.round (rows_few c.args.locked.now w other)) in
    let copy : (row_by (origin_of origin after) ≡ Some body) × (body < length p) = subst (λ o. IfSome o (λ k. (row_by (origin_of origin after) ≡ Some k) × (k < length p))) c.in-Some-row_among.is (subst (λ xs. IfSome c.row_among.result (λ k. (row_by (origin_of xs after) ≡ Some k) × (k < length p))) c.deref.ensures.value c.row_among.ensures.some) in
    let is_row = c.is_apart.ensures.row c.if-not-is_apart.false in let few = rows_few c.args.locked.now w other in let other_body = c.is_apart.ensures.apart c.if-not-is_apart.false in
    let before_graph = c.in_ok-before.ensures.graph m seen copy.1 in
    let after_graph = c.in_ok-after.ensures.graph w method other round.is.few (c.in_ok-inner.ensures.graph w other is_row) other_body in
    let last = other.tree.last after round.is.few in let to = round.to in
    let up : statement_round q call call ≤ call = statement_before q (parent_before q other.tree) call call in
    let is_few = round.is.few in
    let graph : IsGraph (joined_flow q w after call method) after joined.points.items (steps_of joined) = after_graph.1 in
    let here = one_round q call hands.after after hands.round round in
    let start = c.rows_of.ensures.first in let start_other = c.rows_of-2.ensures.first in
    let stop = c.rows_of.ensures.end (omega (arith, few, is_few)) in let stop_other = c.rows_of-2.ensures.end (omega (arith, few, is_row)) in
    let first = c.both.ensures.first in let end_is = c.both.ensures.end in
    let low = first.0 in let low_other = first.1 in let high = end_is.0 in let high_other = end_is.1 in
    let once = hands_once q (joined_flow q w after call method) after joined.points.items (steps_of joined) graph call method (origin_in origin) other.tree (rows_numbered c.args.locked.now w other) round.is.few is_row round.from round.to
    c.both.result (omega (arith, low, start), omega (arith, high, stop)) (omega (arith, low_other, start_other), omega (arith, high_other, stop_other)) (subst (λ n. n < statement_round q call call) here hands.behind) up hands.apart
    (subst (λ n. (d : ℕ) → IsAssigned q (joined_flow q w n call method) call d → (k : ℕ) × IsReturned q (joined_flow q w n call method) method (origin_in origin) k) here hands.returned)
    (subst (λ n. (j k : ℕ) → IsReturned q (joined_flow q w n call method) method (origin_in origin) j → IsReturned q (joined_flow q w n call method) method (origin_in origin) k → j ≡ k) here hands.one) in
    IfOk-weaker c.lost_in_extracted.result _ _ (λ lost only keeps.
    let same = one_round q call keeps.after after keeps.round round in
    let same_body = same_Some keeps.body body (sym (subst (λ k. row_by (origin_of origin k) ≡ Some keeps.body) same keeps.is_copy) ∙ copy.0) in
    only (subst (λ n. KeepsDefinitions (body_flow p m n) (joined_flow q w joined.body call method) (IsHanding q (joined_flow q w joined.body call method) call method) (Hands q (joined_flow q w joined.body call method) call method (origin_in c.as_slice.result.now)) (origin_in c.as_slice.result.now)) (same_body ∙ sym before_graph.0)
    (subst (λ n. KeepsDefinitions (body_flow p m keeps.body) (joined_flow q w n call method) (IsHanding q (joined_flow q w n call method) call method) (Hands q (joined_flow q w n call method) call method (origin_in c.as_slice.result.now)) (origin_in c.as_slice.result.now)) (same ∙ sym after_graph.0)
    (subst (λ os. KeepsDefinitions (body_flow p m keeps.body) (joined_flow q w keeps.after call method) (IsHanding q (joined_flow q w keeps.after call method) call method) (Hands q (joined_flow q w keeps.after call method) call method (origin_in os)) (origin_in os)) (sym c.as_slice.ensures.value) keeps.extracted.definitions)))
    (subst (λ n. IsLost q w (joined_flow q w n call method) call method (origin_in c.as_slice.result.now) → ⊥) (same ∙ sym after_graph.0)
    (subst (λ os. IsLost q w (joined_flow q w keeps.after call method) call method (origin_in os) → ⊥) (sym c.as_slice.ensures.value) keeps.extracted.unlost)))
    (c.lost_in_extracted.ensures.only_uses m w before_graph.1
    (subst (λ n. IsGraph (joined_flow q w n call method) n joined.points.items (steps_of joined)) (sym after_graph.0) after_graph.1) (c.in_ok-inner.ensures.graph w other is_row) (λ e. other_body (sym after_graph.0 ∙ e))
    (omega (arith, few, last, to)) (omega (arith, few, is_row)) (omega (arith, few, last, to, up)) (subst (λ os. HandsOnce c.both.result q joined.points.items call method (origin_in os)) (sym c.as_slice.ensures.value) once))

pub returns-in_err-before-clause-large : goal.returns-in_err-before-clause-large
returns-in_err-before-clause-large c = λ m w seen other. let p = c.args.old.now.marks.rows.now in let origin = c.args.locks.now.origin.items in let after = c.in-Some.copy in
    let copy : (row_by (origin_of origin after) ≡ Some c.in-Some-row_among.body) × (c.in-Some-row_among.body < length p) = subst (λ o. IfSome o (λ k. (row_by (origin_of origin after) ≡ Some k) × (k < length p))) c.in-Some-row_among.is (subst (λ xs. IfSome c.row_among.result (λ k. (row_by (origin_of xs after) ≡ Some k) × (k < length p))) c.deref.ensures.value c.row_among.ensures.some) in
    let q = err_from_is_err_and c.from_residual-in_err-before.result c.from_residual-in_err-before.ensures.1 in rw (q.1, q.2) (only_where (HasLarge c.args.old.now.marks.rows.now m) (HasLarge c.args.old.now.marks.rows.now m ⊎ HasLarge c.args.locked.now.marks.rows.now w) c.in_err-before.field-0.0 (λ h. inl h) (c.in_err-before.ensures.large m seen copy.1))

pub returns-in_err-inner-clause-large : goal.returns-in_err-inner-clause-large
returns-in_err-inner-clause-large c = λ m w seen other. let q = err_from_is_err_and c.from_residual-in_err-inner.result c.from_residual-in_err-inner.ensures.1 in rw (q.1, q.2) (only_where (HasLarge c.args.locked.now.marks.rows.now w) (HasLarge c.args.old.now.marks.rows.now m ⊎ HasLarge c.args.locked.now.marks.rows.now w) c.in_err-inner.field-0.0 (λ h. inr h) (c.in_err-inner.ensures.large w other (c.is_apart.ensures.row c.if-not-is_apart.false)))

pub returns-in_err-after-clause-large : goal.returns-in_err-after-clause-large
returns-in_err-after-clause-large c = λ m w seen other. let q = c.args.locked.now.marks.rows.now in let call = c.args.call in
    let round : IsBodyRound q call c.in-Some.copy = subst (λ o. IfSome o (λ k. IsBodyRound q call k)) c.in-Some.is (c.in_ok-copy.ensures.round (rows_few c.args.locked.now w other)) in
    let q = err_from_is_err_and c.from_residual-in_err-after.result c.from_residual-in_err-after.ensures.1 in rw (q.1, q.2) (only_where (HasLarge c.args.locked.now.marks.rows.now w) (HasLarge c.args.old.now.marks.rows.now m ⊎ HasLarge c.args.locked.now.marks.rows.now w) c.in_err-after.field-0.0 (λ h. inr h) (c.in_err-after.ensures.large w other round.is.few))

pub returns-clause-large : goal.returns-clause-large
returns-clause-large c = λ m w seen other. large_err c.lost_in_extracted.result ⊥ (HasLarge c.args.old.now.marks.rows.now m ⊎ HasLarge c.args.locked.now.marks.rows.now w) (λ h. absurd h) c.lost_in_extracted.ensures.large
