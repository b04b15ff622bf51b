use Rattle.std.proofs.Common.{◌≡◌, sym, ap}
use Rattle.std.proofs.lemmas.Result.{on_ok_weaker}
use Rattle.jr_tree.specs.Rows.{label}
use Rattle.jr_codes.specs.Reads.{rows_of, facts}
use Rattle.jr_elab.specs.Cores.{members_by}
use Rattle.jr_elab.proofs.Each.{tail_same}
use Rattle.jr_elab.proofs.classes.add_members_at.Goals as goal

pub returns-in-Some : goal.returns-in-Some
returns-in-Some c =
    let named : label (rows_of c.args.source.now) c.args.row ≡ _ = rw c.in-Some.is at c.label_of.ensures in
    on_ok_weaker c.add_labeled.result (λ added. tail_same _ _ _ _ added (ap (λ l. members_by l (facts c.args.source.now) c.args.row) (sym named))) c.add_labeled.ensures
