use Rattle.std.proofs.Common.{◌∙◌, ap}
use Rattle.jr_shapes.specs.Names.{kept}
use Rattle.jr_shapes.specs.Parts.{type_of}
use Rattle.jr_spell.specs.Adding.{loses}
use Rattle.jr_spell.specs.Spellers.{rows_of, table_of}
use Rattle.jr_spell.proofs.Keeping.{kept_none, kept_given}
use Rattle.jr_spell.proofs.speller.Speller.kept_names.Goals as goal

pub returns-then-loses : goal.returns-then-loses
returns-then-loses c = λ whole at. let s = c.args.self.now in let p = rows_of s in let t = table_of s in let lock = c.args.reference.now.lock in
    kept_none p t c.args.reference.now.row lock at.lock_is c.in_ok-parts.parts.items c.in_ok-parts.ensures c.in_ok-loses.loses
    (c.in_ok-loses.ensures ∙ ap (λ xs. loses p t (type_of p lock) xs) c.deref.ensures.value) c.if-loses.true

pub returns : goal.returns
returns c = λ whole at. let s = c.args.self.now in let p = rows_of s in let t = table_of s in let lock = c.args.reference.now.lock in
    kept_given p t c.args.reference.now.row lock at.lock_is c.in_ok-parts.parts.items c.in_ok-parts.ensures c.in_ok-loses.loses
    (c.in_ok-loses.ensures ∙ ap (λ xs. loses p t (type_of p lock) xs) c.deref.ensures.value) whole.sight_is.world.seen.placed.local.tree c.if-loses.false
    _ c.in_ok-names.names.items (c.deref-3.ensures.value ∙ c.in_ok-rows.ensures ∙ ap (λ xs. kept p t (type_of p lock) xs) c.deref-2.ensures.value) (λ within. c.in_ok-names.ensures whole within)
