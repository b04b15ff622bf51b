use Rattle.std.proofs.Common.{◌+◌}
use Rattle.std.proofs.lemmas.List.{drop_all}
use Rattle.serde_json.specs.View.{items_view}
use Rattle.jr_request.proofs.Elements.{begins, ends}
use Rattle.jr_request.proofs.batch.read_elements.Goals as goal

pub loop-element-init : goal.loop-element-init
loop-element-init c = begins (items_view c.args.elements.now) c.new-requests.result.items c.new-requests.ensures.items

pub returns : goal.returns
returns c =
    let loop = c.loop-element in
    ends (items_view c.args.elements.now) c.args.elements.now loop.element-index loop.requests.items (loop.number + 1)
    (drop_all loop.element-index c.args.elements.now c.loop-element-test.false) loop.invariant
