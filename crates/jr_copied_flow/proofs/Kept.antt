-- A body that a change leaves alone keeps its flow, wherever its copy stands.
use Rattle.std.proofs.Common.{⊎_elim, arith, ℕ, ◌-◌, ◌≤◌, length}
use Rattle.std.proofs.lemmas.Bool.{cases_lt}
use Rattle.jr_tree.specs.Rows.{Rows}
use Rattle.jr_tree.specs.Tree.{IsTree}
use Rattle.jr_flow_defs.specs.Meaning.{Meaning}
use Rattle.jr_flow_laws.specs.Shifted.{IsWholeBody}
use Rattle.jr_change.specs.declared.change.Change.{Change}
use Rattle.jr_locks.specs.Origins.{no_row}
use Rattle.jr_locks.specs.Changed.{IsChanged}
use Rattle.jr_copied_flow.specs.Alone.{IsLeftAlone, KeepsMeaning, KeepsFlowAt}
use Rattle.jr_copied_flow.proofs.Alone.{kept_below}
use Rattle.jr_copied_flow.proofs.Above.{kept_above}

pub flow_is_kept : (p q : Rows) (change : Change) (m w : Meaning) (body at : ℕ) (move : ℕ → ℕ) → IsChanged p m.targets change q w.targets → IsTree p → IsTree q → length p ≤ no_row
    → IsWholeBody p m body → IsLeftAlone p change body at → KeepsMeaning p q m w change body at move → KeepsFlowAt p q m w change body at
flow_is_kept p q change m w body at move changed here there fits whole alone read = ⊎_elim
    (λ up. kept_above p q change m w body at move changed here there fits whole alone read (body - at) (omega (arith, up)))
    (λ on. kept_below p q change m w body at move changed here there fits whole alone read (at - body) (omega (arith, on)))
    (cases_lt at body)
