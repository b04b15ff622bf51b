use Rattle.std.proofs.Common.{◌∙◌}
use Rattle.jr_lookup.proofs.Calling.{called_some, called_none}
use Rattle.jr_lookup.proofs.Instancing.{around_is}
use Rattle.jr_spell.specs.Spellers.{rows_of, table_of}
use Rattle.jr_spell.proofs.speller.Speller.called_class.Goals as goal

pub returns-in-Some : goal.returns-in-Some
returns-in-Some c = λ seen. let p = rows_of c.args.self.now in called_some p (table_of c.args.self.now) c.args.place c.in-Some.around c.args.which _ _
    (c.around.ensures ∙ around_is p _ seen.seen.placed c.args.place) c.in-Some.is (c.class_by.ensures seen)

pub returns-in-None : goal.returns-in-None
returns-in-None c = λ seen. let p = rows_of c.args.self.now in called_none p (table_of c.args.self.now) c.args.place c.args.which _ (c.around.ensures ∙ around_is p _ seen.seen.placed c.args.place) c.in-None.is
