use Rattle.std.proofs.Common.{◌∙◌, sym, ap}
use Rattle.std.proofs.lemmas.Result.{on_ok_weaker}
use Rattle.jr_flow.specs.Seen.{completion_seen}
use Rattle.jr_flow.specs.Places.{list_seen}
use Rattle.jr_flow.specs.Pended.{lists_of}
use Rattle.jr_flow_defs.specs.States.{left}
use Rattle.jr_flow.proofs.Departing.{block_left, nothing_left}
use Rattle.jr_flow.proofs.leaving.finally_left.Goals as goal

pub returns-in-Some : goal.returns-in-Some
returns-in-Some c = λ right. let lists = lists_of c.args.pending.now in on_ok_weaker c.go.result
    (λ ways. block_left c.args.pending.now c.args.out.now.items c.go.new.out.items c.args.body c.args.row c.args.list (completion_seen c.args.completion) c.in-Some.waiting c.left.result c.ending.result right
    (sym c.innermost.ensures ∙ c.in-Some.is) (c.left.ensures lists ∙ ap (λ r. left c.args.row r (list_seen lists c.in-Some.waiting.outer)) c.reason_of-reason.ensures) (c.ending.ensures lists) ways)
    (c.go.ensures lists)

pub returns-in-None : goal.returns-in-None
returns-in-None c = λ right. nothing_left c.args.pending.now c.args.out.now.items c.args.body c.args.row c.args.list (completion_seen c.args.completion) (sym c.innermost.ensures ∙ c.in-None.is)
