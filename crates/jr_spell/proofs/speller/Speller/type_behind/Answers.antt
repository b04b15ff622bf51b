use Rattle.std.proofs.Common.{◌∙◌}
use Rattle.jr_spell.specs.Spellers.{rows_of, types_of}
use Rattle.jr_spell.proofs.AsItStands.{type_below, no_type_below}
use Rattle.jr_spell.proofs.speller.Speller.type_behind.Goals as goal

pub returns-in-Some : goal.returns-in-Some
returns-in-Some c = λ seen. let s = c.args.self.now in
    c.type_at.ensures ∙ type_below (rows_of s) (types_of s) c.args.row c.in-Some.child c.first_child.result (c.first_child.ensures seen.few) c.in-Some.is

pub returns-in-None : goal.returns-in-None
returns-in-None c = λ seen. let s = c.args.self.now in no_type_below (rows_of s) (types_of s) c.args.row c.first_child.result (c.first_child.ensures seen.few) c.in-None.is
