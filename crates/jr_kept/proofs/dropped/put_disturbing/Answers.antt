use Rattle.std.proofs.Common.{◌≡◌, sym, subst, length, true}
use Rattle.std.proofs.lemmas.Result.{on_ok_weaker}
use Rattle.jr_kept.specs.Disturbed.{MayThrow, HasThrow, AreHeld, OnlyHeld, NoneDisturbs}
use Rattle.jr_kept.proofs.Disturbing.{undisturbed, none_disturbs}
use Rattle.jr_kept.proofs.dropped.put_disturbing.Goals as goal

pub returns-clause-checks : goal.returns-clause-checks
returns-clause-checks c = λ within. let p = c.args.rows.now in let graph = c.args.graph.now in let points = graph.points.items in let steps = graph.steps.items in let d = c.args.local in
    let range = c.rows_of-range.result in let throwing = c.may_throw-throwing.result in let held = c.in_ok-held.held in let behind = c.in_ok-between.between.behind in let before = c.in_ok-between.between.before in
    let may : MayThrow d range.end points steps (length steps) throwing =
    subst (λ f. MayThrow f range.end points steps (length steps) throwing) c.rows_of-range.ensures.first (subst (λ ps. MayThrow range.first range.end ps steps (length steps) throwing) c.as_slice.ensures.value (subst (λ ss. MayThrow range.first range.end c.as_slice.result.now ss (length ss) throwing) c.as_slice-2.ensures.value c.may_throw-throwing.ensures.none)) in
    let are : AreHeld d range.end throwing points (length points) held =
    subst (λ f. AreHeld f range.end throwing points (length points) held) c.rows_of-range.ensures.first (subst (λ ps. AreHeld range.first range.end throwing ps (length ps) held) c.as_slice-3.ensures.value c.in_ok-held.ensures.every) in
    on_ok_weaker c.put_all.result
    (λ tells none. let both = tells.none none in (
      both.0,
      λ few. undisturbed p points steps d range.end throwing held behind before (c.rows_of-range.ensures.end few) may are (c.in_ok-between.ensures.every within)
          (subst (λ f. NoneDisturbs f range.end held behind before points (length points)) c.rows_of-range.ensures.first (subst (λ ps. NoneDisturbs range.first range.end held behind before ps (length ps)) c.as_slice-4.ensures.value both.1)),
    ))
    c.put_all.ensures

pub returns-clause-kept : goal.returns-clause-kept
returns-clause-kept c = λ within. let p = c.args.rows.now in let graph = c.args.graph.now in let points = graph.points.items in let steps = graph.steps.items in let d = c.args.local in
    let range = c.rows_of-range.result in let throwing = c.may_throw-throwing.result in let held = c.in_ok-held.held in let behind = c.in_ok-between.between.behind in let before = c.in_ok-between.between.before in
    let may : throwing ≡ true → HasThrow d range.end points steps =
    subst (λ f. throwing ≡ true → HasThrow f range.end points steps) c.rows_of-range.ensures.first (subst (λ ps. throwing ≡ true → HasThrow range.first range.end ps steps) c.as_slice.ensures.value (subst (λ ss. throwing ≡ true → HasThrow range.first range.end c.as_slice.result.now ss) c.as_slice-2.ensures.value c.may_throw-throwing.ensures.some)) in
    let only : OnlyHeld d range.end throwing points held =
    subst (λ f. OnlyHeld f range.end throwing points held) c.rows_of-range.ensures.first (subst (λ ps. OnlyHeld range.first range.end throwing ps held) c.as_slice-3.ensures.value c.in_ok-held.ensures.only) in
    on_ok_weaker c.put_all.result
    (λ tells none few calm. tells.kept none
    (subst (λ ps. NoneDisturbs range.first range.end held behind before ps (length ps)) (sym c.as_slice-4.ensures.value) (subst (λ f. NoneDisturbs f range.end held behind before points (length points)) (sym c.rows_of-range.ensures.first)
    (none_disturbs p points steps d range.end throwing held behind before (c.rows_of-range.ensures.end few) may only (c.in_ok-between.ensures.only within) calm))))
    c.put_all.ensures
