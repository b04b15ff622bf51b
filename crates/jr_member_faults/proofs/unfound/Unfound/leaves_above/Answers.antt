use Rattle.std.proofs.Common.{refl, sym, ◌∙◌, ap, length}
use Rattle.jr_supers.specs.Direct.{supers_in}
use Rattle.jr_member_faults.specs.Views.{rows_of}
use Rattle.jr_member_faults.proofs.Abstracts.{none_unfound, stamped_unfound}
use Rattle.jr_member_faults.proofs.unfound.Unfound.leaves_above.Goals as goal

pub returns-then-not-is_below_abstract : goal.returns-then-not-is_below_abstract
returns-then-not-is_below_abstract c = λ h type are stamped. let w = c.args.world.now in
    none_unfound w h c.args.over _ are stamped _ (c.deref.ensures.value ∙ c.in_ok-supers.ensures ∙ ap (λ l. supers_in l c.args.over) c.direct.ensures) (sym c.is_below_abstract.ensures ∙ c.if-not-is_below_abstract.true)

pub returns : goal.returns
returns c = λ h type are stamped. let w = c.args.world.now in
    stamped_unfound w h c.args.over _ are stamped type _ _ _ (c.in_ok-is.ensures h are.abstracts_are) refl (c.add.ensures (length (rows_of w)) are.counted)
