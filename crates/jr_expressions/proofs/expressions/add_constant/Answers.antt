use Rattle.std.proofs.Common.{refl, sym, ◌∙◌, ap, cond, Some, is_some}
use Rattle.std.proofs.lemmas.Result.{on_ok_weaker}
use Rattle.jr_core.specs.declared.code.Code.TheVariants as v
use Rattle.jr_constants.specs.Values.{value_in}
use Rattle.jr_codes.specs.Making.{code, nothing, of_none}
use Rattle.jr_codes.specs.Reads.{value_at, texts_of}
use Rattle.jr_expressions.proofs.Standing.{along}
use Rattle.jr_expressions.proofs.Named.{nothing_becomes, some_in}
use Rattle.jr_expressions.proofs.expressions.add_constant.Goals as goal

pub returns-then-is_some : goal.returns-then-is_some
returns-then-is_some c = along (λ b parts. cond b nothing (of_none parts (code (v.Lit (Some (value_in (texts_of c.args.source.now) c.args.value)))))) (some_in (texts_of c.args.source.now) _ ∙ ap (λ k. is_some (value_at c.args.source.now k)) (sym c.parent.ensures) ∙ ap is_some (sym c.value.ensures) ∙ sym c.is_some.ensures ∙ c.if-is_some.true) (nothing_becomes (λ parts. refl))

pub returns : goal.returns
returns c = on_ok_weaker c.constant.result (along (λ b parts. cond b nothing (of_none parts (code (v.Lit (Some (value_in (texts_of c.args.source.now) c.args.value)))))) (some_in (texts_of c.args.source.now) _ ∙ ap (λ k. is_some (value_at c.args.source.now k)) (sym c.parent.ensures) ∙ ap is_some (sym c.value.ensures) ∙ sym c.is_some.ensures ∙ c.if-is_some.false)) c.constant.ensures
