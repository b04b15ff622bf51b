use Rattle.std.proofs.lemmas.Result.{IfOk-weaker}
use Rattle.jr_members.proofs.Each.{stamped_new}
use Rattle.jr_members.proofs.lists.push_new.Goals as goal

pub returns : goal.returns
returns c = λ bound h lt. IfOk-weaker c.push_if.result _ _ (λ u is. stamped_new bound c.args.stamps.now c.add-is_new.new.self c.args.all.now.items c.push_if.new.all.items c.args.at lt h c.add-is_new.result (c.add-is_new.ensures bound h.counted) is) c.push_if.ensures
