-- What tells states and nodes apart.
use Rattle.std.proofs.Common.{◌≡◌, refl, ap, ap₂, Decides}
use Rattle.std.proofs.lemmas.Bool.{false≢true}
use Rattle.std.proofs.lemmas.Bool.Decides.{Decides-eqb}
use Rattle.jr_plain.proofs.Tests.{like, both}
use Rattle.jr_plain.proofs.Same.{list_tells}
use Rattle.jr_flow_defs.specs.Acts.{Completion, normally, by_break, by_continue, by_return, by_throw}
use Rattle.jr_flow_defs.specs.States.{Moment, before, completed, State}
use Rattle.jr_flow_defs.specs.Edges.{FlowNode}
use Rattle.jr_flow_defs.specs.Kept.{Within, outside, inside}
use Rattle.jr_flow_defs.specs.Computed.{same_completion, same_moment, same_state, same_node, same_edge, same_within}

pub completion_tells : (a b : Completion) → Decides (same_completion a b) (a ≡ b)
completion_tells normally normally = (λ h. refl, λ e. refl)
completion_tells (by_break m) (by_break n) = like (Decides-eqb m n) (λ e. ap by_break e) (λ e. cc)
completion_tells (by_continue m) (by_continue n) = like (Decides-eqb m n) (λ e. ap by_continue e) (λ e. cc)
completion_tells by_return by_return = (λ h. refl, λ e. refl)
completion_tells by_throw by_throw = (λ h. refl, λ e. refl)
completion_tells _ _ = (λ h. absurd (false≢true h), λ e. absurd (cc))

pub moment_tells : (a b : Moment) → Decides (same_moment a b) (a ≡ b)
moment_tells (before i) (before j) = like (Decides-eqb i j) (λ e. ap before e) (λ e. cc)
moment_tells (completed c) (completed d) = like (completion_tells c d) (λ e. ap completed e) (λ e. cc)
moment_tells _ _ = (λ h. absurd (false≢true h), λ e. absurd (cc))

pub state_tells : (a b : State) → Decides (same_state a b) (a ≡ b)
state_tells a b = like (both (Decides-eqb a.row b.row) (both (moment_tells a.moment b.moment) (list_tells same_completion completion_tells a.pending b.pending)))
    (λ h. λ i. record { row = h.0 i; moment = h.1.0 i; pending = h.1.1 i }) (λ e. (ap (λ c. c.row) e, (ap (λ c. c.moment) e, ap (λ c. c.pending) e)))

pub node_tells : (a b : FlowNode) → Decides (same_node a b) (a ≡ b)
node_tells FlowNode.entry FlowNode.entry = (λ h. refl, λ e. refl)
node_tells FlowNode.exit FlowNode.exit = (λ h. refl, λ e. refl)
node_tells (FlowNode.acting m) (FlowNode.acting n) = like (Decides-eqb m n) (λ e. ap FlowNode.acting e) (λ e. cc)
node_tells _ _ = (λ h. absurd (false≢true h), λ e. absurd (cc))

pub edge_tells : (a b : FlowNode × FlowNode) → Decides (same_edge a b) (a ≡ b)
edge_tells a b = like (both (node_tells a.0 b.0) (node_tells a.1 b.1)) (λ h. λ i. (h.0 i, h.1 i)) (λ e. (ap (λ c. c.0) e, ap (λ c. c.1) e))

pub within_tells : (a b : Within) → Decides (same_within a b) (a ≡ b)
within_tells (outside a) (outside b) = like (state_tells a b) (λ e. ap outside e) (λ e. cc)
within_tells (inside a caller) (inside b other) = like (both (state_tells a b) (state_tells caller other)) (λ h. ap₂ inside h.0 h.1) (λ e. (cc, cc))
within_tells _ _ = (λ h. absurd (false≢true h), λ e. absurd (cc))
