use Rattle.std.proofs.Common.{sym, ◌∙◌, ap, subst}
use Rattle.jr_defs.specs.Referents.{entries}
use Rattle.jr_lookup.specs.Imports.{AreImports}
use Rattle.jr_bind.proofs.Whole.{locked_exact}
use Rattle.jr_bind.proofs.rebinding.bind_locked.Goals as goal

pub returns-clause-table : goal.returns-clause-table
returns-clause-table c = c.in_ok-made.ensures.table ∙ c.in_ok-filling.ensures.same

pub returns-clause-exact : goal.returns-clause-exact
returns-clause-exact c = λ supers_are. locked_exact c.args.setting.rows.now c.args.setting.places.now c.args.supers.value c.deref.result.now c.in_ok-made.made.members.value c.in_ok-made.made.constants.value
    c.args.locks.items c.in_ok-filling.filling c.made_by.new.filling c.deref.ensures
    (ap (λ v. v.items) c.in_ok-filling.ensures.same) (ap (λ v. v.items) c.in_ok-made.ensures.table) (c.in_ok-made.ensures.exact c.in_ok-filling.ensures.ready) supers_are

pub returns-clause-imports : goal.returns-clause-imports
returns-clause-imports c = λ placed. subst (λ v. AreImports c.args.setting.rows.now (entries v.items) c.in_ok-made.made.imports.value) (sym c.in_ok-made.ensures.table) (c.in_ok-made.ensures.imports placed)
