use Rattle.jr_spell.proofs.ByObject.{object_first}
use Rattle.jr_spell.proofs.Tracing.{seen_of}
use Rattle.jr_spell.proofs.speller.Speller.through.Goals as goal

pub returns : goal.returns
returns c = λ given whole sought gives. let s = c.args.self.now in let r = c.args.reference.now in
    object_first s r sought.at_row.lock_is given c.args.shape c.args.class c.level.result _ c.fit_of.result (c.in_ok-found.ensures given c.args.shape c.args.trace.items whole sought gives)
    c.level.ensures c.object_way-way.ensures (c.fit_of.ensures (seen_of whole) sought.at_row)
