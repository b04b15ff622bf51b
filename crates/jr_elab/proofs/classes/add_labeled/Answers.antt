use Rattle.std.proofs.Common.{◌∙◌, ap, sym, [], ◌∷◌}
use Rattle.std.proofs.lemmas.Result.{on_ok_weaker}
use Rattle.jr_codes.specs.Reads.{facts}
use Rattle.jr_elab.specs.Cores.{members_by}
use Rattle.jr_elab.proofs.Classed.{other_fields}
use Rattle.jr_elab.proofs.Each.{tail_same}
use Rattle.jr_elab.proofs.classes.add_labeled.Goals as goal

pub returns-in-Initializer : goal.returns-in-Initializer
returns-in-Initializer c = on_ok_weaker c.add.result (λ added. tail_same _ _ _ _ added (ap (λ x. x ∷ []) c.decl.ensures ∙ ap (λ l. members_by l (facts c.args.source.now) c.args.row) (sym c.in-Initializer.is))) c.add.ensures

pub returns-in_default : goal.returns-in_default
returns-in_default c = on_ok_weaker c.add_fields_below.result (λ added. tail_same _ _ _ _ added (other_fields c.args.label.now (facts c.args.source.now) c.args.row c.in_default.not-Initializer)) c.add_fields_below.ensures
