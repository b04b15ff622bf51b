use Rattle.std.proofs.Common.{◌∙◌, sym, subst, ap, option_map}
use Rattle.std.proofs.lemmas.Result.{IfOk-weaker}
use Rattle.jr_spelling_rules.specs.Candidates.{texts}
use Rattle.jr_spell.specs.Adding.{AreNumbersOf, AreWithin}
use Rattle.jr_spell.specs.Spellers.{rows_of, table_of}
use Rattle.jr_spell.specs.Spelling.{ArePartsNamedSo}
use Rattle.jr_spell.proofs.Keeping.{numbered_some, parts_within}
use Rattle.jr_spell.proofs.Staying.{no_parts, kept_are}
use Rattle.jr_spell.proofs.speller.Speller.are_parts_named_so.Goals as goal

pub returns-then-not-is_names : goal.returns-then-not-is_names
returns-then-not-is_names c = λ whole sought parts e. let s = c.args.self.now in let r = c.args.reference.now in
    no_parts (rows_of s) (table_of s) r.row r.lock (sym sought.dot_is ∙ sym c.is_names.ensures ∙ c.if-not-is_names.true)

pub returns-in-Some : goal.returns-in-Some
returns-in-Some c = λ whole sought parts. let s = c.args.self.now in let p = rows_of s in let t = table_of s in let r = c.args.reference.now in
    let kept = numbered_some (c.in_ok-kept.ensures whole sought.at_row) c.in-Some.names.items (ap (λ o. option_map (λ all. all.items) o) c.in-Some.is) in
    IfOk-weaker c.are_numbers_back.result _ _ (λ b h e. subst (ArePartsNamedSo p t r.row) (sym sought.at_row.lock_is) (kept_are p t r.row kept.0 kept.1 ∙ h e ∙ ap (λ xs. texts p xs) parts))
    (c.are_numbers_back.ensures kept.0 whole (subst (AreWithin p) (sym parts) (parts_within p t r.row)) (subst (AreNumbersOf p kept.0) (sym c.deref.ensures.value) kept.2))
