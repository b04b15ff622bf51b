use Rattle.std.proofs.Common.{◌≡◌, subst, ◌<◌, length}
use Rattle.std.proofs.lemmas.Result.{IfOk-weaker}
use Rattle.jr_defs.specs.Referents.{entries}
use Rattle.jr_bind.specs.Confirmed.{rows_of, table_of}
use Rattle.jr_bind.specs.Rebound.{AreRebound, AreReboundTo}
use Rattle.jr_bind.proofs.Locked.{can_look_under, rebound_from_sight, end_is}
use Rattle.jr_bind.proofs.rebinding.rebound_under.Goals as goal

pub returns : goal.returns
returns c = λ locked. let setting = c.args.setting in let bound = c.args.bound.now in let sight = c.sight_of-sight.result in IfOk-weaker c.all_rebound.result
    (λ all. AreReboundTo (rows_of sight) (table_of sight) c.in-Ok.end all.items)
    (λ all. AreRebound setting.rows.now (entries bound.table.items) all.items)
    (λ all so. rebound_from_sight setting bound sight c.deref.result.now c.sight_of-sight.ensures c.deref.ensures.value locked all.items (subst (λ n. AreReboundTo (rows_of sight) (table_of sight) n all.items) all_rows so))
    (c.all_rebound.ensures (λ n lt. can_look_under setting bound sight c.deref.result.now c.sight_of-sight.ensures c.deref.ensures.value locked n (subst (λ m. n < m) all_rows lt)))
  where
    all_rows : c.in-Ok.end ≡ length (rows_of c.sight_of-sight.result)
    all_rows = let x = c.in-Ok.ensures in end_is c.args.setting c.args.bound.now c.sight_of-sight.result c.sight_of-sight.ensures c.in-Ok.end x.1
