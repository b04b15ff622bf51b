use Rattle.std.proofs.Common.{Err, sym, subst}
use Rattle.jr_front.specs.Checking.{CheckedAs, not_read}
use Rattle.jr_front.specs.declared.fault.FrontFault.{FrontFault}
use Rattle.jr_front.proofs.Reading.{read_apart, read_begins, compiled, indexed_program, opened}
use Rattle.jr_front.proofs.front.open_files.Goals as goal

pub returns-in-Ok-clause-indexed : goal.returns-in-Ok-clause-indexed
returns-in-Ok-clause-indexed c = indexed_program c.args.files.now c.in-Ok.program c.open_program.result c.in-Ok.ensures c.open_program.ensures.same c.open_program.ensures.rows c.open_program.ensures.marks

pub returns-in-Ok-clause-compiles : goal.returns-in-Ok-clause-compiles
returns-in-Ok-clause-compiles c = compiled c.args.files.now c.in-Ok.program c.open_program.result c.in-Ok.ensures c.open_program.ensures.same c.open_program.ensures.placed
    (c.open_program.ensures.kept (read_begins c.args.files.now c.in-Ok.program c.in-Ok.ensures) (read_apart c.args.files.now c.in-Ok.program c.in-Ok.ensures))

pub returns-in-Err-clause-checked : goal.returns-in-Err-clause-checked
returns-in-Err-clause-checked c = subst (λ (why : FrontFault). CheckedAs c.args.files.now (Err why)) (sym c.unread.ensures) (not_read c.in-Err.ensures)

pub returns-in-Ok-clause-checked : goal.returns-in-Ok-clause-checked
returns-in-Ok-clause-checked c =
    let begins = read_begins c.args.files.now c.in-Ok.program c.in-Ok.ensures in
    let apart = read_apart c.args.files.now c.in-Ok.program c.in-Ok.ensures in
    opened c.args.files.now c.in-Ok.program c.open_program.result c.in-Ok.ensures (c.open_program.ensures.err begins apart) c.open_program.ensures.placed (c.open_program.ensures.kept begins apart)
