-- What the search over all nodes comes to is what stands at the number.
use Rattle.std.proofs.Common.{sym, ◌∙◌, ap}
use Rattle.jr_tree.specs.Nodes.{nodes}
use Rattle.jr_nodes.proofs.Passing.{found, slice_get_go_on}
use Rattle.jr_nodes.proofs.node.Goals as goal

pub returns-in-Found : goal.returns-in-Found
returns-in-Found c = sym (slice_get_go_on (nodes c.args.unit.now) c.args.id.0 ∙ ap found (sym c.in-Found.ensures))

pub returns-in-Ahead : goal.returns-in-Ahead
returns-in-Ahead c = sym (slice_get_go_on (nodes c.args.unit.now) c.args.id.0 ∙ ap found (sym c.in-Ahead.ensures))
