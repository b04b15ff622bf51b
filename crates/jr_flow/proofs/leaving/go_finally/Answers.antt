use Rattle.jr_flow.specs.Pended.{lists_of}
use Rattle.std.proofs.lemmas.Result.{on_ok_weaker}
use Rattle.jr_flow.proofs.Departing.{go_ended}
use Rattle.jr_flow.proofs.leaving.go_finally.Goals as goal

pub returns : goal.returns
returns c = λ right fits p block. on_ok_weaker c.go.result (λ ways. go_ended c.args.pending.now c.into_finally.new.pending c.args.out.now.items _ c.args.body _ c.ending.result _ (c.in_ok-to.ensures right fits p block) (c.ending.ensures (lists_of c.into_finally.new.pending)) ways)
    (c.go.ensures (lists_of c.into_finally.new.pending))
