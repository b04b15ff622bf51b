use Rattle.std.proofs.Common.{◌∙◌, ◌+◌, sym, ap, arith, drop, get_or}
use Rattle.std.proofs.lemmas.List.{drop_more, drop_all}
use Rattle.std.proofs.lemmas.Result.{IfOk-weaker}
use Rattle.jr_defs.specs.Referents.{entries}
use Rattle.jr_shapes.specs.Parts.{type_of}
use Rattle.jr_spell.specs.Adding.{loses}
use Rattle.jr_spell.proofs.Keeping.{loses_later, loses_here}
use Rattle.jr_spell.proofs.kept.loses_package.Goals as goal

pub loop-at-init : goal.loop-at-init
loop-at-init c = ap (λ o. loses c.args.rows.now (entries c.args.table.now) o c.args.parts.now) (sym c.type_of-behind.ensures)

pub loop-at-preserved : goal.loop-at-preserved
loop-at-preserved c = let p = c.args.rows.now in let t = entries c.args.table.now in let i = c.loop-at.at-index in let all = c.args.parts.now in
    loses_later p t c.loop-at.behind (get_or all i 0) (drop (i + 1) all) c.in-Some.class (c.loop-at.invariant ∙ ap (loses p t c.loop-at.behind) (drop_more all i 0 (omega arith)))
    (ap (type_of p) (sym c.referent_at.ensures) ∙ sym c.type_of.ensures ∙ c.in-Some.is)

pub returns-in-None : goal.returns-in-None
returns-in-None c = let p = c.args.rows.now in let t = entries c.args.table.now in let i = c.loop-at.at-index in let all = c.args.parts.now in
    let here = loses_here p t c.loop-at.behind (get_or all i 0) (drop (i + 1) all) (c.loop-at.invariant ∙ ap (loses p t c.loop-at.behind) (drop_more all i 0 (omega arith)))
    (ap (type_of p) (sym c.referent_at.ensures) ∙ sym c.type_of.ensures ∙ c.in-None.is) in
    IfOk-weaker c.is_unnamed.result _ _ (λ b h. h ∙ sym here) (c.is_unnamed.ensures (get_or all i 0) (drop (i + 1) all))

pub returns : goal.returns
returns c = let p = c.args.rows.now in let t = entries c.args.table.now in let i = c.loop-at.at-index in let all = c.args.parts.now in
    sym (c.loop-at.invariant ∙ ap (loses p t c.loop-at.behind) (drop_all i all (omega arith)))
