use Rattle.std.proofs.Common.{subst, IfOk, ap, sym, ◌∙◌, None}
use Rattle.jr_spelling_rules.specs.Candidates.{level_of}
use Rattle.jr_spell.specs.Shaping.{IsFirstOf, IsFitOf}
use Rattle.jr_spell.specs.Spellers.{rows_of, table_of}
use Rattle.jr_spell.proofs.ByObject.{outer_is, outer_none, level_within}
use Rattle.jr_spell.proofs.Tracing.{seen_of}
use Rattle.jr_spell.proofs.speller.Speller.on_outer.Goals as goal

pub returns-in-Some : goal.returns-in-Some
returns-in-Some c = λ given whole sought gives. let s = c.args.self.now in let p = rows_of s in let t = table_of s in let r = c.args.reference.now in let is = c.instance_level.ensures (seen_of whole) sought.at_row in
    subst (λ all. IfOk c.by_added.result (λ o. IsFirstOf s r.row all o)) (outer_is p t given r.row c.instance_level.result is c.in-Some.level c.in-Some.is)
    (c.by_added.ensures given whole sought gives (sought.level_there c.in-Some.level (ap level_of sought.at_row.lock_is ∙ level_within p t r.row c.in-Some.level (sym is ∙ c.in-Some.is))))

pub returns-in-None : goal.returns-in-None
returns-in-None c = λ given whole sought gives. let s = c.args.self.now in let r = c.args.reference.now in
    subst (λ all. IsFirstOf s r.row all None) (outer_none (rows_of s) (table_of s) given r.row c.instance_level.result (c.instance_level.ensures (seen_of whole) sought.at_row) c.in-None.is) IsFitOf.none
