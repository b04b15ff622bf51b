use Rattle.std.proofs.Common.{◌≡◌, true}
use Rattle.std.proofs.lemmas.Result.{IfOk-weaker}
use Rattle.jr_bind.specs.Confirmed.{rows_of, table_of, IsBindingUnder, IsBindingOf}
use Rattle.jr_bind.proofs.Locked.{program_seen, tables_seen, types_seen, binding_seen}
use Rattle.jr_bind.proofs.binder.is_binding_of.Goals as goal

pub returns : goal.returns
returns c = λ tables by_types of. let setting = c.args.setting in let bound = c.args.bound.now in let sight = c.sight_of-sight.result in let types = c.deref.result.now in IfOk-weaker c.is_binding.result
    (λ is. is ≡ true → IsBindingUnder (rows_of sight) (table_of sight) sight.world.under.places.now sight.world.supers.now sight.world.members.now bound.constants.value types)
    (λ is. is ≡ true → IsBindingOf setting.rows.now setting.places.now bound)
    (λ is told yes. binding_seen setting bound sight types c.sight_of-sight.ensures c.deref.ensures.value tables of (told yes))
    (c.is_binding.ensures bound.constants.value (program_seen setting bound sight types c.sight_of-sight.ensures c.deref.ensures.value of) (tables_seen setting bound sight types c.sight_of-sight.ensures c.deref.ensures.value tables)
    (types_seen setting bound sight types c.sight_of-sight.ensures c.deref.ensures.value by_types))
