use Rattle.std.proofs.Common.{◌≡◌, refl, sym, ◌∙◌, ap}
use Rattle.std.proofs.lemmas.Result.{on_ok_weaker}
use Rattle.jr_tree.specs.Rows.{label}
use Rattle.jr_constants.specs.Values.{value_in_if}
use Rattle.jr_codes.specs.Reads.{rows_of, texts_of}
use Rattle.jr_elab.proofs.Made.{constant_does, label_does, past_does}
use Rattle.jr_elab.proofs.statements.make_row.Goals as goal

pub returns-in-Some-clause-made : goal.returns-in-Some-clause-made
returns-in-Some-clause-made c = on_ok_weaker c.add_constant.result (λ becomes. constant_does _ (ap (value_in_if (texts_of c.args.source.now)) (sym c.value.ensures ∙ c.in-Some.is)) becomes (record { label = refl; group = refl; catch = refl })) c.add_constant.ensures

pub returns-in-Some-label_of-clause-made : goal.returns-in-Some-label_of-clause-made
returns-in-Some-label_of-clause-made c =
    let named : label (rows_of c.args.source.now) c.args.at ≡ _ = rw c.in-Some-label_of.is at c.label_of.ensures in
    on_ok_weaker c.make_labeled.result (λ does. label_does _ (ap (value_in_if (texts_of c.args.source.now)) (sym c.value.ensures ∙ c.in-None.is)) named does) c.make_labeled.ensures.made

pub returns-in-None-label_of-clause-made : goal.returns-in-None-label_of-clause-made
returns-in-None-label_of-clause-made c = past_does (rw c.in-None-label_of.is at c.label_of.ensures)
