use Rattle.std.proofs.Common.{sym, ◌∙◌}
use Rattle.jr_plain.proofs.Declared.{class_tells}
use Rattle.jr_plain.specs.Declarations.{is_class}
use Rattle.jr_plain.specs.Modifiers.{is_abstract}
use Rattle.std.specs.Prelude.{not}
use Rattle.std.proofs.lemmas.Bool.{and_parts}
use Rattle.jr_member_faults.specs.Views.{rows_of, table_of}
use Rattle.jr_member_faults.proofs.Abstracts.{other_leaves, concrete_leaves}
use Rattle.jr_member_faults.proofs.unfound.Unfound.leaves_unfound.Goals as goal

pub returns-then-not-is_concrete : goal.returns-then-not-is_concrete
returns-then-not-is_concrete c = λ h are. let w = c.args.world.now in
    other_leaves (rows_of w) (table_of w) h.whole.world_is.seen.above.well c.args.self.now.abstracts are c.args.class (sym c.is_concrete.ensures ∙ c.if-not-is_concrete.true)

pub returns : goal.returns
returns c = λ h are. let w = c.args.world.now in let concrete = sym c.is_concrete.ensures ∙ c.if-not-is_concrete.false in
    let class = (class_tells (rows_of w) c.args.class).0 (and_parts (is_class (rows_of w) c.args.class) (not (is_abstract (rows_of w) c.args.class)) concrete).0 in
    concrete_leaves (rows_of w) (table_of w) h.whole.world_is.seen.above.well c.args.self.now.abstracts are c.args.class _ _ _ concrete
    (c.in_ok-overs.ensures (table_of w) h.whole.world_is.seen.above).has c.deref.ensures.value (c.in_ok-is.ensures h are class)
