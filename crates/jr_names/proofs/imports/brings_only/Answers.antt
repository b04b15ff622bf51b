use Rattle.std.proofs.Common.{sym, subst}
use Rattle.jr_tree.specs.Rows.{parent}
use Rattle.jr_defs.specs.Imports.{ImportedBy}
use Rattle.jr_plain.specs.Search.{Lists}
use Rattle.jr_names.specs.Importing.{table_in}
use Rattle.jr_names.proofs.Imported.{brings_so}
use Rattle.jr_names.proofs.imports.brings_only.Goals as goal

pub returns : goal.returns
returns c = λ w static. let p = c.args.world.now.under.rows.now in let t = table_in c.args.world.now in
    brings_so p w.right.seen.placed.local t c.args.import static c.args.family.now c.as_slice-some.result.now c.are_all_in.result c.is_empty-is_empty.result _
    (subst (λ xs. Lists xs (ImportedBy p t (parent p c.args.import) c.args.import)) (sym c.as_slice-some.ensures.value) (c.in_ok-members.ensures w static)) c.are_all_in.ensures c.is_empty-is_empty.ensures c.is_only-is_such.ensures
