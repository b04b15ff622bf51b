use Rattle.std.proofs.Common.{◌∙◌}
use Rattle.jr_lookup.proofs.Instancing.{around_is}
use Rattle.jr_spell.specs.Spellers.{rows_of, table_of}
use Rattle.jr_spell.proofs.ByObject.{round_some, round_none}
use Rattle.jr_spell.proofs.speller.Speller.instance_round.Goals as goal

pub returns-in-Some : goal.returns-in-Some
returns-in-Some c = λ seen. let p = rows_of c.args.self.now in
    c.only_if.ensures ∙ round_some p (table_of c.args.self.now) c.args.place c.around.result c.in-Some.class c.has_instance-has.result (c.around.ensures ∙ around_is p _ seen.seen.placed c.args.place) c.in-Some.is (c.has_instance-has.ensures seen.seen.placed)

pub returns-in-None : goal.returns-in-None
returns-in-None c = λ seen. let p = rows_of c.args.self.now in round_none p (table_of c.args.self.now) c.args.place c.around.result (c.around.ensures ∙ around_is p _ seen.seen.placed c.args.place) c.in-None.is
