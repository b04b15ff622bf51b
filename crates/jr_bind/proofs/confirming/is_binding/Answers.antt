use Rattle.std.proofs.Common.{◌≡◌, true}
use Rattle.std.proofs.lemmas.Result.{IfOk-weaker}
use Rattle.jr_supers.specs.Supers.{HasNoCycle}
use Rattle.jr_headed.specs.Founded.{AreWell}
use Rattle.jr_bind.specs.Confirmed.{rows_of, table_of, CanConfirmTypes, IsBindingUnder}
use Rattle.jr_bind.specs.Ranked.{AllSettled}
use Rattle.jr_bind.proofs.Confirmed.{direct_supers, can_confirm_types, binding_under}
use Rattle.jr_bind.proofs.confirming.is_binding.Goals as goal

pub returns : goal.returns
returns c found of tables by_types = IfOk-weaker c.are_settled.result
    (λ is. is ≡ true → AllSettled (rows_of c.args.sight) (table_of c.args.sight))
    (λ is. is ≡ true → IsBindingUnder (rows_of c.args.sight) (table_of c.args.sight) c.args.sight.world.under.places.now c.args.sight.world.supers.now c.args.sight.world.members.now found c.args.types.now)
    (λ is told yes. binding_under c.args.sight found c.args.types.now of tables well acyclic (c.are_countable.ensures c.if-not-are_countable.false).1 by_types (c.in_ok-are_types_confirmed.ensures can c.if-not-branch-2.false) (told yes))
    (c.are_settled.ensures can.sight_is)
  where
    well : AreWell (rows_of c.args.sight)
    well = (c.are_countable.ensures c.if-not-are_countable.false).0

    acyclic : HasNoCycle (rows_of c.args.sight) (table_of c.args.sight)
    acyclic = let direct = direct_supers c.args.sight found c.args.types.now of tables well in c.in_ok-has_no_cycle.ensures.none (table_of c.args.sight) direct.0 direct.1 c.if-not-branch.false

    can : CanConfirmTypes c.args.sight
    can = can_confirm_types c.args.sight found c.args.types.now of tables well acyclic
