use Rattle.jr_spell.proofs.ByObject.{super_first}
use Rattle.jr_spell.proofs.Tracing.{seen_of}
use Rattle.jr_spell.proofs.speller.Speller.through_super.Goals as goal

pub returns : goal.returns
returns c = λ given whole sought. let s = c.args.self.now in let r = c.args.reference.now in
    super_first s r sought.at_row.lock_is given c.level.result _ c.fit_of.result (c.in_ok-found.ensures given whole sought) c.new-trace.ensures.items
    c.level.ensures c.super_way-way.ensures (c.fit_of.ensures (seen_of whole) sought.at_row)
