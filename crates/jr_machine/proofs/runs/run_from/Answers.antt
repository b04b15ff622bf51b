use Rattle.std.proofs.Common.{◌≡◌, sym, ◌∙◌, ◌<◌, ◌≤◌, arith}
use Rattle.jr_machine.proofs.Running.{on_the_way, ended_run, stuck_run, whole_run}
use Rattle.jr_machine.proofs.runs.run_from.Goals as goal

pub returns-then-not-is_running : goal.returns-then-not-is_running
returns-then-not-is_running c =
    ended_run c.args.program.now c.args.state c.args.n c.loop-i.i c.loop-i.state c.into_ran.result (sym c.if-not-is_running.ensures) c.loop-i.invariant
    c.into_ran.ensures.end c.into_ran.ensures.printed c.into_ran.ensures.steps

pub returns-then-not-branch : goal.returns-then-not-branch
returns-then-not-branch c =
    let went = rw c.in_ok-advance.was at c.advance.ensures in
    let stuck = rw c.if-not-branch.true at went in
    stuck_run c.args.program.now c.args.state c.args.n c.loop-i.i c.loop-i.state c.advance.new.state c.into_ran-then-not-branch.result c.loop-i-test.true (sym c.if-not-is_running.ensures) stuck.0 stuck.1 c.loop-i.invariant
    c.into_ran-then-not-branch.ensures.end c.into_ran-then-not-branch.ensures.printed c.into_ran-then-not-branch.ensures.steps

pub loop-i-preserved : goal.loop-i-preserved
loop-i-preserved c =
    let went = rw c.in_ok-advance.was at c.advance.ensures in
    on_the_way c.args.program.now c.args.state c.args.n c.loop-i.i c.loop-i.state c.advance.new.state c.loop-i-test.true (sym c.if-not-is_running.ensures) (rw c.if-not-branch.false at went) c.loop-i.invariant

pub returns : goal.returns
returns c =
    whole_run c.args.program.now c.args.state c.args.n c.loop-i.i c.loop-i.state c.into_ran-2.result (omega arith) (omega arith) c.loop-i.invariant
    c.into_ran-2.ensures.end c.into_ran-2.ensures.printed c.into_ran-2.ensures.steps
