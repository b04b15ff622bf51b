use Rattle.std.proofs.Common.{map}
use Rattle.std.proofs.lemmas.Result.{on_ok_weaker}
use Rattle.jr_flow.specs.Woven.{pair_before}
use Rattle.jr_flow.proofs.webs.Finder.find_live.Goals as goal

pub returns-clause-live : goal.returns-clause-live
returns-clause-live c = λ bound definitions uses steps web is.
    on_ok_weaker c.run.result (λ live. record { walls = c.in_ok-put_list.ensures bound definitions web.definitions_are is.walls; live = live; behind = is.behind }) (c.run.ensures bound uses (map pair_before steps) web.uses_are web.before_are is.live)
