use Rattle.std.proofs.Common.{refl, ◌∙◌, ap₂}
use Rattle.jr_tree.specs.Rows.{label}
use Rattle.jr_defs.specs.Referents.{entries}
use Rattle.jr_constants.specs.Tables.{picks, values_in, valued_by}
use Rattle.jr_constants.proofs.Knowing.{set_read}
use Rattle.jr_constants.proofs.constants.Constants.set.Goals as goal

pub returns-clause-known : goal.returns-clause-known
returns-clause-known c = λ sized known. set_read c.args.under.rows.now (entries c.args.under.table.now) (picks c.args.constant.now) c.args.self.now.variables.items c.args.self.now.values.items _ _ c.args.at _ _ _ _
    known c.deref.ensures.value c.deref-2.ensures.value c.in_ok-value.ensures.grown (c.in_ok-value.ensures.exact sized.few) (c.in_ok-value.ensures.inside sized.few) c.set_value.ensures

pub returns-clause-row : goal.returns-clause-row
returns-clause-row c = λ few. record {
  value = _;
  is = c.in_ok-value.ensures.exact few ∙ ap₂ (λ a b. valued_by c.args.under.rows.now (entries c.args.under.table.now) (picks c.args.constant.now) (values_in c.args.self.now.texts a) (values_in c.args.self.now.texts b) c.args.at
      (label c.args.under.rows.now c.args.at)) c.deref.ensures.value c.deref-2.ensures.value;
  set = c.set_value.ensures;
  kept = refl;
  grown = c.in_ok-value.ensures.grown;
}
