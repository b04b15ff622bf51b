use Rattle.std.proofs.Common.{◌∙◌, ap, subst, sym, ◌++◌, ◌+◌, ◌<◌, ◌^◌, length}
use Rattle.std.proofs.lemmas.Result.{on_ok_weaker}
use Rattle.jr_members.specs.Sources.{ArePlaced}
use Rattle.jr_run.specs.Names.{canonical_name}
use Rattle.jr_run.proofs.report.add_name.Goals as goal

pub returns : goal.returns
returns c = λ source. on_ok_weaker c.add_canonical_name.result (λ h. h ∙ ap (λ u. c.args.text.now.items ++ canonical_name u.rows.now c.args.row) c.under-under.ensures)
    (c.add_canonical_name.ensures (subst (λ u. ArePlaced u.rows.now u.places.now) (sym c.under-under.ensures) source.placed) (subst (λ u. length u.rows.now + 3 < 2 ^ 32) (sym c.under-under.ensures) source.few))
