use Rattle.std.proofs.Common.{sym, ◌∙◌, subst}
use Rattle.std.proofs.lemmas.Bool.{false≢true}
use Rattle.jr_defs.specs.Referents.{entries}
use Rattle.jr_supers.specs.Supers.{HasNoCycle}
use Rattle.jr_bind.proofs.Locked.{cycle_told}
use Rattle.jr_bind.proofs.Whole.{supers_read}
use Rattle.jr_bind.proofs.rebinding.bind_under.Goals as goal

pub returns-then-not-is_acyclic-clause-cycle : goal.returns-then-not-is_acyclic-clause-cycle
returns-then-not-is_acyclic-clause-cycle c = λ headed bare none. false≢true (sym c.if-not-is_acyclic.true ∙ (cycle_told c.args.rows.now c.deref.result.now c.args.locks.items c.in_ok-supers.supers.value c.deref-2.result.now c.in_ok-is_acyclic.is_acyclic
    c.deref.ensures.value c.deref-2.ensures c.in_ok-supers.ensures.direct c.in_ok-supers.ensures.all c.in_ok-is_acyclic.ensures.none c.in_ok-is_acyclic.ensures.told headed bare).1 none)

pub returns-clause-exact : goal.returns-clause-exact
returns-clause-exact c = c.in_ok-bound.ensures.exact (supers_read c.args.rows.now c.deref.result.now c.args.locks.items c.in_ok-supers.supers.value c.deref.ensures.value c.in_ok-supers.ensures.all)

pub returns-clause-cycle : goal.returns-clause-cycle
returns-clause-cycle c = λ headed bare. subst (λ v. HasNoCycle c.args.rows.now (entries v.items)) (sym c.in_ok-bound.ensures.table) ((cycle_told c.args.rows.now c.deref.result.now c.args.locks.items c.in_ok-supers.supers.value c.deref-2.result.now c.in_ok-is_acyclic.is_acyclic
    c.deref.ensures.value c.deref-2.ensures c.in_ok-supers.ensures.direct c.in_ok-supers.ensures.all c.in_ok-is_acyclic.ensures.none c.in_ok-is_acyclic.ensures.told headed bare).0 c.if-not-is_acyclic.false)
