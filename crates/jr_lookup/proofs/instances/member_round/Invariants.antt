use Rattle.jr_tree.specs.Tree.{IsTree}
use Rattle.jr_defs.specs.Enclosing.{InBody}
use Rattle.jr_lookup.specs.Instances.{IsUp}
use Rattle.jr_lookup.proofs.instances.member_round.Given as goal

abbrev pub invariant-loop-turn : goal.invariant-loop-turn
invariant-loop-turn l = (tree : IsTree l.rows) (i : InBody l.rows l.over l.place) → IsUp l.rows l.place i.body l._turn l.here
