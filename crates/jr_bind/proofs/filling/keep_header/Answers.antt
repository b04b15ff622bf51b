use Rattle.std.proofs.Common.{refl, sym, ◌∙◌}
use Rattle.std.proofs.lemmas.Bool.{false≢true}
use Rattle.jr_bind.proofs.Clearing.{header_kept, header_passed}
use Rattle.jr_bind.proofs.filling.keep_header.Goals as goal

pub returns-then-not-is_of : goal.returns-then-not-is_of
returns-then-not-is_of c = λ so. header_passed c.args.stages.now c.args.table.now c.args.at c.args.kept.now.items c.args.kept.now.items so (λ of. false≢true (sym c.if-not-is_of.true ∙ c.is_of.ensures.1 of)) refl

pub returns : goal.returns
returns c = λ so. header_kept c.args.stages.now c.args.table.now c.args.at c.args.kept.now.items _ so _ (c.is_of.ensures.0 c.if-not-is_of.false) c.referent_at.ensures c.put_referent.ensures
