use Rattle.std.proofs.Common.{◌∙◌, ap, filter}
use Rattle.jr_plain.proofs.Headed.{headed_from_local}
use Rattle.jr_places.proofs.Holding.{holders_tell}
use Rattle.jr_lookup.specs.Labels.{is_label_over}
use Rattle.jr_lookup.proofs.Labeling.{labels_at}
use Rattle.jr_lookup.proofs.simple.Sight.labels.Goals as goal

pub returns-clause-rows : goal.returns-clause-rows
returns-clause-rows c = λ t x world lt number. let p = c.args.self.now.world.under.rows.now in let rows = world.seen.placed.local in
    labels_at p t (headed_from_local p rows) x c.args.name c.args.place c.in_ok-over.over.items c.in_ok-rows.rows.items (holders_tell p rows.tree) lt number c.in_ok-over.ensures
    (c.in_ok-rows.ensures world.seen.placed.are ∙ ap (filter (is_label_over p c.args.place c.args.name)) c.deref.ensures.value)
