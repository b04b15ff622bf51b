use Rattle.std.proofs.Common.{sym, ◌∙◌, ap, subst, IfOk, None, option_map}
use Rattle.jr_shapes.specs.declared.spelling.Shape.TheVariants as shape
use Rattle.jr_spell.specs.Packaging.{AreNumbers}
use Rattle.jr_spell.specs.Shaping.{AreLooked}
use Rattle.jr_spell.specs.Spellers.{rows_of, table_of}
use Rattle.jr_spell.specs.Standing.{texts_of}
use Rattle.jr_spell.proofs.Keeping.{numbered_some, numbered_none}
use Rattle.jr_spell.proofs.Shaped.{kept_is, kept_is_none}
use Rattle.jr_spell.proofs.speller.Speller.look_kept_names.Goals as goal

pub returns-in-Some : goal.returns-in-Some
returns-in-Some c = λ given whole sought gives. let s = c.args.self.now in let p = rows_of s in let t = table_of s in let r = c.args.reference.now in
    let it = numbered_some (c.in_ok-kept.ensures whole sought.at_row) c.in-Some.names.items (ap (option_map (λ all. all.items)) c.in-Some.is) in
    subst (λ all. IfOk c.look_behind_names.result (λ o. AreLooked s r.row shape.Kept o all))
    (kept_is p t given r.row it.0 it.1 _ (ap (texts_of p) c.deref.ensures.value ∙ it.2.spells))
    (c.look_behind_names.ensures given shape.Kept whole sought gives (subst (AreNumbers p) (sym c.deref.ensures.value) it.2.numbers))

pub returns-in-None : goal.returns-in-None
returns-in-None c = λ given whole sought gives. let s = c.args.self.now in let p = rows_of s in let t = table_of s in let r = c.args.reference.now in
    subst (AreLooked s r.row shape.Kept None) (kept_is_none p t given r.row (numbered_none (c.in_ok-kept.ensures whole sought.at_row) (ap (option_map (λ all. all.items)) c.in-None.is))) AreLooked.none
