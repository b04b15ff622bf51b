use Rattle.std.proofs.Common.{ap, ◌∙◌, cond, Some}
use Rattle.std.specs.BTreeMap.{get}
use Rattle.jr_machine_ops.specs.Indices.{decl_cmp}
use Rattle.jr_machine_ops.proofs.Indexing.{equal_decls}
use Rattle.jr_machine_ops.proofs.program.put.Goals as goal

pub returns : goal.returns
returns g c = λ other. c.in_ok-insert.ensures.updates.0 other ∙ ap (λ b. cond b (Some c.args.value) (get decl_cmp c.args.index.now other)) (equal_decls c.args.decl other)
