use Rattle.std.proofs.Common.{◌≡◌, sym, ◌∙◌, ◌<◌, true, false, nat_eq, arith, length}
use Rattle.std.proofs.lemmas.Bool.Decides.{Decides-eqb}
use Rattle.jr_tree.specs.Rows.{parent}
use Rattle.jr_defs.specs.Referents.{entries}
use Rattle.jr_supers.proofs.Signing.{first_child_at, all_found, next_child, lost_child, last_child, child_inside}
use Rattle.jr_supers.proofs.signatures.add_types.Goals as goal

pub loop-turn-init : goal.loop-turn-init
loop-turn-init c = λ sized lt. let few = sized.few in first_child_at c.args.under.rows.now (entries c.args.under.table.now) c.args.types.now.items c.args.at c.saturating_add-child.result (omega arith)

pub returns-then-not-is_child : goal.returns-then-not-is_child
returns-then-not-is_child c = λ sized lt. let p = c.args.under.rows.now in let other : nat_eq (parent p c.loop-turn.child) c.args.at ≡ false = sym c.is_child.ensures ∙ c.if-not-is_child.true in
    all_found p (entries c.args.under.table.now) c.args.types.now.items c.loop-turn.types.items c.args.at _ c.loop-turn.child (c.loop-turn.invariant sized lt) other

pub returns-then-not-found : goal.returns-then-not-found
returns-then-not-found c = λ sized lt. let p = c.args.under.rows.now in let below : nat_eq (parent p c.loop-turn.child) c.args.at ≡ true = sym c.is_child.ensures ∙ c.if-not-is_child.false in let lost : c.in_ok-found.found ≡ false = search in
    lost_child p (entries c.args.under.table.now) c.args.types.now.items c.loop-turn.types.items c.add_type.new.types.items c.args.at (length p) c.loop-turn._turn c.loop-turn.child c.in_ok-found.found lost (omega arith) (c.loop-turn.invariant sized lt) below
    (c.in_ok-found.ensures sized)

pub loop-turn-preserved : goal.loop-turn-preserved
loop-turn-preserved c = λ sized lt. let p = c.args.under.rows.now in let few = sized.few in let below : nat_eq (parent p c.loop-turn.child) c.args.at ≡ true = sym c.is_child.ensures ∙ c.if-not-is_child.false in let found : c.in_ok-found.found ≡ true = search in
    let inside : c.loop-turn.child < length p = child_inside p (entries c.args.under.table.now) c.args.at c.loop-turn.child lt ((Decides-eqb (parent p c.loop-turn.child) c.args.at).0 below) in
    next_child p (entries c.args.under.table.now) c.args.types.now.items c.loop-turn.types.items c.add_type.new.types.items c.args.at (length p) c.loop-turn._turn c.loop-turn.child c.end_at-child.result c.in_ok-found.found found (omega arith)
    (c.loop-turn.invariant sized lt) below (c.end_at-child.ensures (omega arith)) (c.in_ok-found.ensures sized)

pub returns : goal.returns
returns c = λ sized lt. let p = c.args.under.rows.now in
    last_child p (entries c.args.under.table.now) c.args.types.now.items c.loop-turn.types.items c.args.at (length p) c.loop-turn._turn c.loop-turn.child c.is_child-2.result (omega arith) (c.loop-turn.invariant sized lt) c.is_child-2.ensures
