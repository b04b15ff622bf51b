use Rattle.std.proofs.Common.{◌≡◌, sym, ◌∙◌, subst, Decides}
use Rattle.jr_defs.specs.declared.referent.Referent.TheVariants.{Unbound}
use Rattle.jr_defs.specs.Referents.{entries}
use Rattle.jr_bind.proofs.Locked.{lock_none, lock_tells}
use Rattle.jr_bind.proofs.rebinding.has_lock.Goals as goal

pub returns-then-not-seeks : goal.returns-then-not-seeks
returns-then-not-seeks c = lock_none c.args.under.rows.now (entries c.args.under.table.now) c.args.at (sym c.seeks.ensures ∙ c.if-not-seeks.true)

pub returns : goal.returns
returns c = lock_tells c.args.under.rows.now (entries c.args.under.table.now) c.args.at c.is_same.result (sym c.seeks.ensures ∙ c.if-not-seeks.false)
    (subst (λ a. Decides c.is_same.result (a ≡ Unbound)) c.referent.ensures c.is_same.ensures)
