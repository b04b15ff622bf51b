use Rattle.std.proofs.Common.{subst, IfOk}
use Rattle.jr_spell.specs.Adding.{IsAdded}
use Rattle.jr_spell.proofs.Tracing.{seen_of, added_if, added_unless}
use Rattle.jr_spell.proofs.speller.Speller.added.Goals as goal

pub returns-then-not-is_accessible : goal.returns-then-not-is_accessible
returns-then-not-is_accessible c = λ whole lt inside. added_unless c.args.self.now c.args.place c.args.kind c.args.class c.is_accessible.result (c.is_accessible.ensures (seen_of whole)) c.if-not-is_accessible.true

pub returns : goal.returns
returns c = λ whole lt inside. subst (λ b. IfOk c.first_suffix.result (λ o. IsAdded o b))
    (added_if c.args.self.now c.args.place c.args.kind c.args.class c.is_accessible.result (c.is_accessible.ensures (seen_of whole)) c.if-not-is_accessible.false) (c.first_suffix.ensures whole lt inside)
