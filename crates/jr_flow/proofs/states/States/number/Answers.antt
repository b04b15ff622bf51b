use Rattle.std.proofs.Common.{◌≡◌, None, sym, ◌∙◌}
use Rattle.jr_flow_defs.specs.States.{at}
use Rattle.jr_flow.specs.Pended.{lists_of}
use Rattle.jr_flow.specs.Stated.{IsPlaced}
use Rattle.jr_tree.specs.Rows.{end}
use Rattle.std.proofs.Common.{length, map, ◌<◌, ◌++◌, ◌∷◌, []}
use Rattle.jr_flow.proofs.Departing.{body_near}
use Rattle.jr_flow.proofs.Stating.{state_known, state_numbered, right_tells}
use Rattle.std.proofs.lemmas.Result.{err_from_is_err_and}
use Rattle.jr_flow.specs.Coded.{IsTooLarge}
use Rattle.jr_flow.specs.Numbered.{count_points}
use Rattle.jr_flow.specs.Stated.{point_of, states_of}
use Rattle.jr_flow.proofs.Limiting.{only_where, one_too_many}
use Rattle.jr_flow.proofs.states.States.number.Goals as goal

pub returns-in-Some-clause-done : goal.returns-in-Some-clause-done
returns-in-Some-clause-done c = λ m coded h reached. state_known c.args.rows.now m c.args.code.now.body c.args.self.now c.args.state c.in-Some.known h (sym c.find.ensures ∙ c.in-Some.is)

pub returns-clause-done : goal.returns-clause-done
returns-clause-done c = λ m coded h reached. let p = c.args.rows.now in let body = c.args.code.now.body in let old = c.args.self.now in let a = c.args.state in
    let tests = right_tells a.row body (end p body) a.list (length (lists_of old.pending)) (sym (c.is_right.ensures (body_near p m c.args.code.now coded)) ∙ c.if-not-is_right.false) in
    let absent : c.find.result ≡ None = search in
    state_numbered p m body old c.add.new.self c.add-2.new.self a c.in_ok-number.number c.point_at.result h (record { fits = tests.2; from = tests.0; to = tests.1; reached = reached })
    (c.in_ok-number.ensures h.located (sym c.find.ensures ∙ absent)) (c.point_at.ensures p m coded tests.0 tests.1) (λ all are adds. c.in_ok-add.ensures.added body all are adds)

pub returns-in_err-add-clause-large : goal.returns-in_err-add-clause-large
returns-in_err-add-clause-large c = λ m coded h reached. let p = c.args.rows.now in let body = c.args.code.now.body in let old = c.args.self.now in let a = c.args.state in
    let tests = right_tells a.row body (end p body) a.list (length (lists_of old.pending)) (sym (c.is_right.ensures (body_near p m c.args.code.now coded)) ∙ c.if-not-is_right.false) in
    let absent : c.find.result ≡ None = search in let found = map (point_of p m body) (states_of old) in
    let q = err_from_is_err_and c.from_residual-in_err-add.result c.from_residual-in_err-add.ensures.1 in rw (q.1, q.2)
    (only_where (65536 < count_points (found ++ c.point_at.result ∷ [])) (IsTooLarge p m body) c.in_err-add.field-0.0
    (one_too_many p m body old c.add.new.self a c.in_ok-number.number c.point_at.result h (record { fits = tests.2; from = tests.0; to = tests.1; reached = reached }) (c.in_ok-number.ensures h.located (sym c.find.ensures ∙ absent)) (c.point_at.ensures p m coded tests.0 tests.1))
    (c.in_err-add.ensures.large body found h.pointed))
