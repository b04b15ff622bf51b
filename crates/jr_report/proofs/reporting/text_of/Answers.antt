use Rattle.std.proofs.Common.{◌∙◌, ap, subst}
use Rattle.jr_report.specs.Reports.{ArePlacesOf, report_text}
use Rattle.jr_report.proofs.reporting.text_of.Goals as goal

pub returns : goal.returns
returns c = λ ordered whole has. record {
  rows = c.in_ok-rows.rows.items;
  each = c.in_ok-rows.ensures whole has;
  places = c.in_ok-places.places.items;
  shown = subst (λ rows. ArePlacesOf c.args.project.now.marks rows c.in_ok-places.places.items) c.deref.ensures.value (c.in_ok-places.ensures ordered);
  text_is = c.new.ensures ∙ c.in_ok-lines_of.ensures ∙ ap (report_text c.args.project.now.marks.units.now) c.deref-2.ensures.value;
}
