use Rattle.std.proofs.Common.{refl, sym, ◌∙◌}
use Rattle.jr_name_faults.proofs.Importing.{tops_none, tops_more}
use Rattle.jr_name_faults.proofs.imports.Imports.add_top.Goals as goal

pub returns-then-not-is_top_level : goal.returns-then-not-is_top_level
returns-then-not-is_top_level c = λ p t lt h. tops_none c.args.self.now h (sym c.is_top_level.ensures ∙ c.if-not-is_top_level.true)

pub returns : goal.returns
returns c = λ p t lt h. tops_more c.args.self.now _ c.parent_at-unit.result c.name-name.result h (sym c.is_top_level.ensures ∙ c.if-not-is_top_level.false)
    c.parent_at-unit.ensures (c.name-name.ensures p h.placed.are lt) refl refl c.in_ok-add.ensures
