use Rattle.std.proofs.Common.{◌∙◌, refl, sym, length}
use Rattle.jr_marks.proofs.Firsts.{first_none, first_some}
use Rattle.jr_run.specs.Starting.{is_class_named}
use Rattle.jr_run.proofs.Searched.{fails_more, inside, none_before, passed}
use Rattle.jr_run.proofs.start.find_class.Goals as goal

pub loop-at-init : goal.loop-at-init
loop-at-init c = λ placed few. none_before (is_class_named c.args.under.now.rows.now c.args.name.now)

pub loop-at-preserved : goal.loop-at-preserved
loop-at-preserved c = λ placed few. fails_more (is_class_named c.args.under.now.rows.now c.args.name.now) c.loop-at.at (c.loop-at.invariant placed few) (sym (c.in_ok-is_such.ensures placed few) ∙ c.if-is_such.false)

pub returns-then-is_such : goal.returns-then-is_such
returns-then-is_such c = λ placed few. sym (first_some (is_class_named c.args.under.now.rows.now c.args.name.now) (length c.args.under.now.rows.now) c.loop-at.at
    (inside c.args.under.now.rows.now _ _ c.loop-at.at refl c.row_count-count.ensures few c.loop-at-test.true) (sym (c.in_ok-is_such.ensures placed few) ∙ c.if-is_such.true) (c.loop-at.invariant placed few))

pub returns : goal.returns
returns c = λ placed few. sym (first_none (is_class_named c.args.under.now.rows.now c.args.name.now) (length c.args.under.now.rows.now)
    (λ k lt. c.loop-at.invariant placed few k (passed c.args.under.now.rows.now _ _ k c.loop-at.at refl c.row_count-count.ensures few c.loop-at-test.false lt)))
