use Rattle.jr_flow.proofs.states.begun.Goals as goal

pub returns : goal.returns
returns c = record { pending = c.new.ensures.right; located = c.new-2.ensures.right; none = c.new-2.ensures.none; pointed = c.in_ok-numbering.ensures; grouped = c.new-3.ensures }
