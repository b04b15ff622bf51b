use Rattle.std.proofs.Common.{◌∙◌, sym, subst, Decides}
use Rattle.jr_defs.specs.Supertypes.{Subtype}
use Rattle.jr_plain.proofs.Supertyped.{subtype_tells}
use Rattle.jr_supers.proofs.Subtyped.{subtype_is}
use Rattle.jr_supers.proofs.subtypes.Supers.is_subtype.Goals as goal

pub returns : goal.returns
returns c = record {
  plain = λ t h. c.is_subtype_where.ensures ∙ subtype_is c.args.rows.now t c.args.low c.args.high c.is_above_element-above.result (c.is_above_element-above.ensures t h);
  subtype = λ t h. subst (λ b. Decides b (Subtype c.args.rows.now t c.args.low c.args.high)) (sym (c.is_subtype_where.ensures ∙ subtype_is c.args.rows.now t c.args.low c.args.high c.is_above_element-above.result (c.is_above_element-above.ensures t h)))
      (subtype_tells c.args.rows.now t h.well.headed c.args.low c.args.high);
}
