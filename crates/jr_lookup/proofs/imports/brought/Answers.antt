use Rattle.std.proofs.Common.{sym, ◌∙◌, arith}
use Rattle.jr_defs.specs.Referents.{entries}
use Rattle.jr_lookup.proofs.Importing.{brought_none, brought_some, referred_below}
use Rattle.jr_lookup.proofs.imports.brought.Goals as goal

pub returns-then-not-is_single : goal.returns-then-not-is_single
returns-then-not-is_single c = λ placed few. brought_none c.args.under.rows.now (entries c.args.under.table.now) c.args.at (sym c.is_single.ensures ∙ c.if-not-is_single.true)

pub returns : goal.returns
returns c = λ placed few. brought_some c.args.under.rows.now (entries c.args.under.table.now) c.args.at _ c.saturating_add.result _ _ (sym c.is_single.ensures ∙ c.if-not-is_single.false) c.parent_at-unit.ensures (omega arith) c.referred_type-named.ensures
    (c.brought_type.ensures c.args.under.rows.now placed.are placed.local (referred_below c.args.under.rows.now _ _ c.referred_type-named.ensures))
