use Rattle.std.proofs.Common.{◌+◌, drop}
use Rattle.serde_json.specs.View.{items_view}
use Rattle.jr_request.proofs.Elements.{ReadsOn}
use Rattle.jr_request.proofs.batch.read_elements.Given as goal

abbrev pub invariant-loop-element : goal.invariant-loop-element
invariant-loop-element l = ReadsOn (items_view l.elements) (items_view (drop l.element-index l.elements)) l.requests.items (l.number + 1)
