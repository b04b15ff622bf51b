use Rattle.std.proofs.Common.{◌∙◌, ap, ◌++◌, option_map, arith}
use Rattle.std.proofs.lemmas.Result.{on_ok_weaker}
use Rattle.jr_flow.specs.Seen.{act_seen}
use Rattle.jr_flow.specs.Places.{ways_seen, list_seen}
use Rattle.jr_flow.proofs.Departing.{hops_are}
use Rattle.jr_flow.proofs.leaving.before_ways.Goals as goal

pub returns : goal.returns
returns c = λ lists. on_ok_weaker c.found_ways.result
    (λ ways. ways ∙ ap (λ xs. ways_seen lists c.args.out.now.items ++ xs) (hops_are (option_map act_seen c.args.found) c.args.row c.args.act c.in-Some.behind c.args.count (list_seen lists c.args.list) (omega arith)))
    (c.found_ways.ensures lists)
