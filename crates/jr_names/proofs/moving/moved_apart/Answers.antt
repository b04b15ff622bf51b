use Rattle.std.proofs.Common.{◌∙◌, ap}
use Rattle.jr_text.specs.Spans.{part}
use Rattle.jr_names.proofs.Moved.{apart_as}
use Rattle.jr_names.proofs.moving.moved_apart.Goals as goal

pub returns-clause-ok : goal.returns-clause-ok
returns-clause-ok c = apart_as c.args.marks.now c.args.of.now.row c.args.of.now.named.now _ c.args.of.now.head _ _ c.extent-span.ensures
    (λ ordered. c.part-declaration.ensures.exact ∙ ap (λ xs. part xs c.extent-span.result) (c.unit_bytes.ensures ordered)) c.to_own_file.ensures.ok
