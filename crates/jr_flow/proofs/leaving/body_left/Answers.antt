use Rattle.std.proofs.lemmas.Result.{on_ok_weaker}
use Rattle.jr_flow.specs.Seen.{completion_seen}
use Rattle.jr_flow.specs.Places.{list_seen}
use Rattle.jr_flow.specs.Pended.{lists_of}
use Rattle.jr_flow.proofs.Departing.{adds_body}
use Rattle.jr_flow.proofs.leaving.body_left.Goals as goal

pub returns : goal.returns
returns c = λ lt right fits block. on_ok_weaker c.go_finally.result
    (λ ways. adds_body c.args.pending.now c.go_finally.new.pending c.args.out.now.items c.go_caught.new.out.items c.go_finally.new.out.items c.args.rows.now c.args.body c.args.of.row c.args.of.has_finally (completion_seen c.args.completion)
    (list_seen (lists_of c.go_finally.new.pending) c.args.list) (c.in_ok-go_caught.ensures lt (lists_of c.go_finally.new.pending)) ways)
    (c.go_finally.ensures right fits c.args.rows.now block)
