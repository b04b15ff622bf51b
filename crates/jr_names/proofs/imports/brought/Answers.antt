use Rattle.std.proofs.lemmas.Result.{IfOk-weaker}
use Rattle.jr_names.specs.Importing.{table_in}
use Rattle.jr_names.proofs.Imported.{brought_some, brought_none, import_within}
use Rattle.jr_names.proofs.imports.brought.Goals as goal

pub returns-in-Some : goal.returns-in-Some
returns-in-Some c = λ w static. let p = c.args.world.now.under.rows.now in let t = table_in c.args.world.now in let placed = w.right.seen.placed in
    IfOk-weaker c.members_of.result _ _ (λ all h. brought_some p placed.local t c.args.import static c.in-Some.over _ _ _ all.items (c.named_type.ensures w.few) c.in-Some.is c.parent_at-unit.ensures
    (c.name-name.ensures p placed.are (import_within p c.args.import static)) h) (c.members_of.ensures t w.right)

pub returns-in-None : goal.returns-in-None
returns-in-None c = λ w static. let p = c.args.world.now.under.rows.now in
    brought_none p w.right.seen.placed.local (table_in c.args.world.now) c.args.import static _ _ (c.named_type.ensures w.few) c.in-None.is c.new.ensures.items
