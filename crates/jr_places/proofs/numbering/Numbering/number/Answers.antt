use Rattle.std.proofs.Common.{◌≡◌, None, sym, ◌∙◌, refl, arith}
use Rattle.jr_places.proofs.Numbered.{adds_known, adds_next}
use Rattle.jr_places.proofs.numbering.Numbering.number.Goals as goal

pub returns-in-Some : goal.returns-in-Some
returns-in-Some c = λ h. adds_known _ c.args.list c.args.item c.in-Some.known h (sym c.find.ensures ∙ c.in-Some.is)

pub returns : goal.returns
returns c = λ h. let absent : c.find.result ≡ None = search in
    adds_next c.args.self.now (record { steps = c.insert.new.self; count = c.in-Some-checked_add.next }) c.args.list c.args.item c.in-Some-checked_add.next h (sym c.find.ensures ∙ absent) (omega arith) refl (λ other more. c.in_ok-insert.ensures.updates.0 (other, more))
