use Rattle.std.proofs.Common.{drop}
use Rattle.jr_tree.specs.Mirror.Stmts as s
use Rattle.jr_index.specs.Events as e
use Rattle.jr_index.specs.Writing.{written, Leads}
use Rattle.jr_index.proofs.decl.add_fields.Given as goal

abbrev pub invariant-loop-field : goal.invariant-loop-field
invariant-loop-field l = Leads (written l.initial.out) (written l.out) (e.fields_events l.commas l.mods (s.plain_declarators (drop l.field-index l.fields))) (e.fields_events 0 l.mods (s.plain_declarators (l.fields)))
