use Rattle.std.proofs.Common.{subst, arith}
use Rattle.std.specs.Prelude.{IfErr, OnOk}
use Rattle.std.proofs.lemmas.List.{take_all}
use Rattle.jr_spell.specs.Shaping.{AreSpelled, AreTold, HasNone}
use Rattle.jr_spell.proofs.Spelled.{none_spelled}
use Rattle.jr_spell.proofs.Staying.{none_told, more_told, when_ok}
use Rattle.jr_spell.proofs.speller.Speller.spell_all.Goals as goal

pub loop-row-init : goal.loop-row-init
loop-row-init c = λ whole. (none_spelled c.args.self.now _ c.new-all.ensures.items, none_told c.args.self.now _)

pub loop-row-preserved : goal.loop-row-preserved
loop-row-preserved c = λ whole. let s = c.args.self.now in let so_far = c.loop-row.invariant whole in let new = c.spell_row.new.all.items in (
  subst (λ r. OnOk r (AreSpelled s new)) c.in-Ok.is (c.spell_row.ensures.spelled whole so_far.0),
  more_told s c.args.order.now c.loop-row.row-index _ c.loop-row.all.items new (omega arith) so_far.1 (when_ok _ c.in-Ok.is c.spell_row.ensures.keeps)
      (when_ok _ c.in-Ok.is (c.spell_row.ensures.told whole)),
)

pub returns-in-Err-clause-fault : goal.returns-in-Err-clause-fault
returns-in-Err-clause-fault c = λ whole. subst (λ r. IfErr r (λ fault. HasNone c.args.self.now fault)) c.in-Err.is (c.spell_row.ensures.fault whole)

pub returns-clause-spelled : goal.returns-clause-spelled
returns-clause-spelled c = λ whole. (c.loop-row.invariant whole).0

pub returns-clause-told : goal.returns-clause-told
returns-clause-told c = λ whole. subst (λ xs. AreTold c.args.self.now xs c.loop-row.all.items) (take_all c.loop-row.row-index c.args.order.now (omega arith)) (c.loop-row.invariant whole).1
