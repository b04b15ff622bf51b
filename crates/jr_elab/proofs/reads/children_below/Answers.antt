use Rattle.std.proofs.Common.{sym, subst}
use Rattle.jr_codes.specs.Reads.{rows_of}
use Rattle.jr_elab.proofs.Children.{ChildrenSo, children_none, children_more, children_found, children_all}
use Rattle.jr_elab.proofs.reads.children_below.Goals as goal

pub loop-turn-init : goal.loop-turn-init
loop-turn-init c = subst (λ all. ChildrenSo (rows_of c.args.source.now) c.args.at c.args.count 0 c.first-child.result all) (sym c.new-all.ensures.items) (children_none _ _ _ _ c.ranges.count.fits c.first-child.ensures)

pub loop-turn-preserved : goal.loop-turn-preserved
loop-turn-preserved c = children_more _ _ _ _ _ c.parent.result _ _ _ c.loop-turn.invariant c.ranges.count.fits c.loop-turn-test.true c.parent.ensures c.if-parent-at.false c.in_ok-add_row.ensures c.end-child.ensures

pub returns-then-parent-at : goal.returns-then-parent-at
returns-then-parent-at c = λ counted inside. children_found _ _ _ _ _ c.parent.result _ c.loop-turn.invariant c.loop-turn-test.true c.parent.ensures c.if-parent-at.true counted inside

pub returns : goal.returns
returns c = λ counted inside. children_all _ _ _ _ _ _ c.loop-turn.invariant c.loop-turn-test.false counted inside
