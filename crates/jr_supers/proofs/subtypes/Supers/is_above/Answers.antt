use Rattle.jr_plain.proofs.Supertyped.{above_tells}
use Rattle.jr_supers.proofs.Subtyped.{one_test}
use Rattle.jr_supers.proofs.subtypes.Supers.is_above.Goals as goal

pub returns : goal.returns
returns c = record {
  plain = λ t h. one_test _ _ _ (c.is_above.ensures.above t h.well.headed h.well.one h.above) (above_tells c.args.rows.now t h.well.headed c.args.at c.args.over);
  above = λ t h. c.is_above.ensures.above t h.well.headed h.well.one h.above;
}
