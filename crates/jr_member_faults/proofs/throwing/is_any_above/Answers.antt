use Rattle.std.proofs.Common.{sym, ◌∙◌, arith, ℕ}
use Rattle.jr_member_faults.proofs.Looped.{some_hit, some_next, some_end}
use Rattle.std.specs.List.{list_any}
use Rattle.jr_plain.specs.Supertypes.{declaration, is_at_or_above}
use Rattle.jr_member_faults.specs.Views.{rows_of, table_of}
use Rattle.jr_member_faults.proofs.throwing.is_any_above.Goals as goal

pub returns-then-is_name_above : goal.returns-then-is_name_above
returns-then-is_name_above c = λ h. some_hit (λ (n : ℕ). list_any (λ (s : ℕ). is_at_or_above (rows_of c.args.world.now) (table_of c.args.world.now) c.args.class s) (declaration (table_of c.args.world.now n))) c.args.names.now c.loop-name.name-index (omega arith) (sym (c.is_name_above.ensures h) ∙ c.if-is_name_above.true) (c.loop-name.invariant h)

pub loop-name-preserved : goal.loop-name-preserved
loop-name-preserved c = λ h. some_next (λ (n : ℕ). list_any (λ (s : ℕ). is_at_or_above (rows_of c.args.world.now) (table_of c.args.world.now) c.args.class s) (declaration (table_of c.args.world.now n))) c.args.names.now c.loop-name.name-index (omega arith) (sym (c.is_name_above.ensures h) ∙ c.if-is_name_above.false) (c.loop-name.invariant h)

pub returns : goal.returns
returns c = λ h. some_end (λ (n : ℕ). list_any (λ (s : ℕ). is_at_or_above (rows_of c.args.world.now) (table_of c.args.world.now) c.args.class s) (declaration (table_of c.args.world.now n))) c.args.names.now c.loop-name.name-index (omega arith) (c.loop-name.invariant h)
