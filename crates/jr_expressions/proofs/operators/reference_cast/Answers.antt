use Rattle.std.proofs.Common.{sym, ◌∙◌}
use Rattle.std.proofs.lemmas.Result.{on_ok_weaker}
use Rattle.jr_expressions.proofs.Operated.{widens_becomes, narrows_becomes}
use Rattle.jr_expressions.proofs.operators.reference_cast.Goals as goal

pub returns-then-is_subtype : goal.returns-then-is_subtype
returns-then-is_subtype c = on_ok_weaker c.hand_on.result (widens_becomes c.args.to c.in_ok-from.ensures (λ read. sym (c.is_subtype.ensures read.supers) ∙ c.if-is_subtype.true)) c.hand_on.ensures

pub returns : goal.returns
returns c = on_ok_weaker c.push.result (λ pushed. narrows_becomes c.args.to c.in_ok-from.ensures (λ read. sym (c.is_subtype.ensures read.supers) ∙ c.if-is_subtype.false) c.in_ok-value.ensures (rw c.in_ok-ty.ensures at pushed)) c.push.ensures
