use Rattle.std.proofs.Common.{◌+◌, sym, subst, arith, Option}
use Rattle.jr_base.specs.declared.token.Place.{Place}
use Rattle.jr_defs.specs.Referents.{entries}
use Rattle.jr_front.proofs.Losing.{AreSeen, found_here, passed_over, lost_here, no_occurrence, not_lost, all_found, none_is, first_is_lost}
use Rattle.jr_front.proofs.unbound.first_unbound.Goals as goal
use Rattle.jr_front.proofs.unbound.first_unbound.Goals.{then-is_occurrence+then-is_lost, else-is_occurrence, else-is_occurrence-via-then-is_occurrence+else-is_lost, else-is_occurrence-via-else-is_occurrence}

pub loop-at-preserved : goal.loop-at-preserved
loop-at-preserved c =
    let m = c.args.marks.now in
    let t = entries c.args.table.now in
    let at = c.loop-at.at in
    elim c.if-is_occurrence.branch [
      | then-is_occurrence+then-is_lost w ↦ subst (λ (best : Option Place). AreSeen m t (at + 1) best) (sym w.first-is)
          (found_here m t at c.loop-at.first w.name_place-then-is_lost.result w.earlier.result (lost_here m t at c.is_occurrence.result w.is_lost.result c.is_occurrence.ensures w.if-is_occurrence.true w.is_lost.ensures w.if-is_lost.true)
          w.name_place-then-is_lost.ensures w.earlier.ensures c.loop-at.invariant)
      | else-is_occurrence w ↦ subst (λ (best : Option Place). AreSeen m t (at + 1) best) (sym w.first-is) (elim w.else-is_occurrence.branch [
        | else-is_occurrence-via-then-is_occurrence+else-is_lost v ↦ passed_over m t at c.loop-at.first (not_lost m t at v.is_lost.result v.is_lost.ensures v.if-is_lost.false) c.loop-at.invariant
        | else-is_occurrence-via-else-is_occurrence v ↦ passed_over m t at c.loop-at.first (no_occurrence m t at c.is_occurrence.result c.is_occurrence.ensures v.if-is_occurrence.false) c.loop-at.invariant
      ])
    ]

pub returns-clause-none : goal.returns-clause-none
returns-clause-none c = all_found c.args.marks.now (entries c.args.table.now) c.loop-at.at c.loop-at.first (let past = c.loop-at-test.false in omega (arith, past, c.in-Ok.ensures)) c.loop-at.invariant

pub returns-clause-found : goal.returns-clause-found
returns-clause-found c = λ few found. none_is c.args.marks.now (entries c.args.table.now) c.loop-at.at c.loop-at.first c.loop-at.invariant found

pub returns-clause-first : goal.returns-clause-first
returns-clause-first c = first_is_lost c.args.marks.now (entries c.args.table.now) c.loop-at.at c.loop-at.first (let past = c.loop-at-test.false in omega (arith, past, c.in-Ok.ensures)) c.loop-at.invariant
