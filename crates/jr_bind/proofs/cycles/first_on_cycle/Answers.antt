use Rattle.std.proofs.Common.{sym, subst}
use Rattle.jr_defs.specs.Referents.{entries}
use Rattle.jr_supers.specs.Supers.{IsWellHeaded, HasNoCycle, AreSupersOf}
use Rattle.jr_supers.specs.Direct.{HasSupers}
use Rattle.jr_bind.proofs.Confirmed.{program_in}
use Rattle.jr_bind.proofs.cycles.first_on_cycle.Goals as goal

pub returns : goal.returns
returns c = λ of. let well = c.are_countable.ensures c.if-not-are_countable.false in let program = program_in c.args.setting.rows.now c.args.setting.places.now c.args.setting.scopes.now of well.0 in
    let direct = subst (λ s. HasSupers c.args.setting.rows.now (entries c.args.table.now) s.direct.supers) (sym c.deref.ensures) (c.in_ok-supers.ensures.direct program.well) in
    let acyclic = c.in_ok-is_acyclic.ensures.none (entries c.args.table.now) program.well direct c.if-not-is_acyclic.false in
    c.first_with.ensures of well.0 well.1 acyclic (λ headed. subst (λ s. AreSupersOf c.args.setting.rows.now (entries c.args.table.now) s) (sym c.deref-2.ensures) (c.in_ok-supers.ensures.all headed acyclic))
