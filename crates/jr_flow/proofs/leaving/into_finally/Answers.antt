use Rattle.std.proofs.Common.{◌∙◌, sym, subst, ap}
use Rattle.jr_flow.specs.Pended.{lists_of, IsState}
use Rattle.jr_flow.specs.Places.{list_seen}
use Rattle.jr_flow.specs.Seen.{completion_seen}
use Rattle.jr_flow_defs.specs.States.{into_finally}
use Rattle.jr_flow.proofs.Departing.{into_block, out_of_try}
use Rattle.jr_flow.proofs.leaving.into_finally.Goals as goal

pub returns-then-of : goal.returns-then-of
returns-then-of c = λ right fits p block. subst (λ b. IsState c.args.pending.now c.with.new.self c.before-then-of.result (into_finally p c.args.of.row b (completion_seen c.args.completion) (list_seen (lists_of c.with.new.self) c.args.list))) (sym c.if-of.true)
    (into_block c.args.pending.now c.with.new.self p c.args.of.row c.args.of.last c.args.list _ c.args.completion c.before-then-of.result (c.in_ok-inner.ensures right fits) block (c.before-then-of.ensures (lists_of c.with.new.self)))

pub returns : goal.returns
returns c = λ right fits p block. subst (λ b. IsState c.args.pending.now c.args.pending.now c.left.result (into_finally p c.args.of.row b (completion_seen c.args.completion) (list_seen (lists_of c.args.pending.now) c.args.list))) (sym c.if-of.false)
    (out_of_try c.args.pending.now p c.args.of.row c.args.list c.args.completion c.left.result right (c.left.ensures (lists_of c.args.pending.now)))
