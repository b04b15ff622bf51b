use Rattle.std.proofs.Common.{arith}
use Rattle.std.proofs.lemmas.List.{drop_all}
use Rattle.jr_lookup.specs.Labels.{is_label_over}
use Rattle.jr_members.proofs.Each.{filter_end}
use Rattle.jr_lookup.proofs.simple.labels_among.Goals as goal

pub returns : goal.returns
returns c = λ placed. filter_end (is_label_over c.args.under.rows.now c.args.place c.args.name) c.args.over.now _ c.loop-at.found.items (drop_all c.loop-at.at-index c.args.over.now (omega arith)) (c.loop-at.invariant placed)
