use Rattle.std.proofs.Common.{◌≡◌, sym, ap}
use Rattle.std.proofs.lemmas.Result.{on_ok_weaker}
use Rattle.jr_tree.specs.Rows.{label}
use Rattle.jr_codes.specs.Reads.{rows_of, facts}
use Rattle.jr_expressions.specs.Bodies.{BodyAt}
use Rattle.jr_elab.specs.Cores.{declares_body}
use Rattle.jr_elab.proofs.Each.{may_add}
use Rattle.jr_elab.proofs.bodies.add_body.Goals as goal

pub returns-in-Some : goal.returns-in-Some
returns-in-Some c =
    let named : label (rows_of c.args.source.now) c.args.at ≡ _ = rw c.in-Some.is at c.label_of.ensures in
    on_ok_weaker c.add_labeled.result (λ adds reads inside. may_add (BodyAt (facts c.args.source.now) c.args.at) _ _ _ _ (ap declares_body (sym named)) (adds named reads inside)) c.add_labeled.ensures
