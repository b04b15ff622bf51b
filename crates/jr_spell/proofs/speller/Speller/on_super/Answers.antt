use Rattle.std.proofs.Common.{subst, IfOk, ap, ◌∙◌, None}
use Rattle.jr_spelling_rules.specs.Candidates.{is_call}
use Rattle.jr_spell.specs.Shaping.{IsFirstOf, IsFitOf}
use Rattle.jr_spell.specs.Spellers.{rows_of, table_of}
use Rattle.jr_spell.proofs.ByObject.{super_is, super_away, super_called}
use Rattle.jr_spell.proofs.Tracing.{seen_of}
use Rattle.jr_spell.proofs.speller.Speller.on_super.Goals as goal

pub returns-then-is_call : goal.returns-then-is_call
returns-then-is_call c = λ given whole sought. let s = c.args.self.now in let r = c.args.reference.now in
    subst (λ all. IsFirstOf s r.row all None) (super_called (rows_of s) (table_of s) given r.row _ (c.is_call.ensures ∙ ap is_call sought.at_row.sought_is) c.if-is_call.true) IsFitOf.none

pub returns-in-Some : goal.returns-in-Some
returns-in-Some c = λ given whole sought. let s = c.args.self.now in let p = rows_of s in let t = table_of s in let r = c.args.reference.now in
    subst (λ all. IfOk c.through_super.result (λ o. IsFirstOf s r.row all o))
    (super_is p t given r.row _ c.innermost_level.result (c.is_call.ensures ∙ ap is_call sought.at_row.sought_is) c.if-is_call.false (c.innermost_level.ensures (seen_of whole) sought.at_row) _ c.in-Some.is)
    (c.through_super.ensures given whole sought)

pub returns-in-None : goal.returns-in-None
returns-in-None c = λ given whole sought. let s = c.args.self.now in let p = rows_of s in let t = table_of s in let r = c.args.reference.now in
    subst (λ all. IsFirstOf s r.row all None)
    (super_away p t given r.row _ c.innermost_level.result (c.is_call.ensures ∙ ap is_call sought.at_row.sought_is) c.if-is_call.false (c.innermost_level.ensures (seen_of whole) sought.at_row) c.in-None.is) IsFitOf.none
