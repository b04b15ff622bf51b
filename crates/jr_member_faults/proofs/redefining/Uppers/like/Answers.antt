use Rattle.std.proofs.Common.{sym, ◌∙◌, ap}
use Rattle.jr_members.specs.Keys.{signature_number}
use Rattle.jr_member_faults.specs.Views.{rows_of, table_of}
use Rattle.jr_member_faults.proofs.Overridden.{like_unsigned}
use Rattle.jr_member_faults.proofs.redefining.Uppers.like.Goals as goal

pub returns-in-Some : goal.returns-in-Some
returns-in-Some c = λ h up m. c.like_by.ensures h up m (ap (λ s. signature_number s c.args.method) (sym c.signatures.ensures) ∙ sym c.number.ensures ∙ c.in-Some.is)

pub returns-in-None : goal.returns-in-None
returns-in-None c = λ h up m. let w = c.args.world.now in like_unsigned (rows_of w) (table_of w) h.whole.world_is.seen.above.well.headed w.members.now.callables.signatures h.whole.world_is.members_are.signatures_are c.args.method m _
    (ap (λ s. signature_number s c.args.method) (sym c.signatures.ensures) ∙ sym c.number.ensures ∙ c.in-None.is) c.new.ensures.items
