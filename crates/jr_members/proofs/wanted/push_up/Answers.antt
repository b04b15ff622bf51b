use Rattle.std.proofs.Common.{◌≡◌, sym, ◌∙◌, subst}
use Rattle.jr_defs.specs.Supertypes.{AtOrAbove}
use Rattle.jr_supers.specs.Supers.{ListsOnce}
use Rattle.jr_members.proofs.Adding.{up_more}
use Rattle.jr_members.proofs.wanted.push_up.Goals as goal

pub returns : goal.returns
returns c = λ t right. up_more c.args.rows.now t c.args.linked c.args.from c.args.all.now.items _ c.deref.result.now (sym c.is_the.ensures ∙ c.if-is_the.false)
    (subst (λ xs. ListsOnce xs (AtOrAbove c.args.rows.now t c.args.from)) (sym c.deref.ensures.value) (c.in_ok-above.ensures t right)) c.in_ok-extend_from_slice.ensures.items
