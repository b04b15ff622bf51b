-- The laws of reading statements, declarations and units as they are stated.
use Rattle.std.proofs.Common.{max, List, sym, ap, ◌∙◌, arith}
use Rattle.jr_base.specs.declared.kind.Kind.{Kind}
use Rattle.jr_tree.specs.Mirror.Decls as d
use Rattle.jr_tree.specs.Depth.{unit_depth}
use Rattle.jr_tree.proofs.Same.Faithful.{one_to_one}
use Rattle.jr_tree.proofs.Same.Decls as same
use Rattle.jr_parse_laws.proofs.Outcomes.{ok_is}
use Rattle.jr_parse_defs.specs.Decls.{unit}
use Rattle.jr_parse_defs.specs.Laws.{IsStmtComplete, IsStmtSound}
use Rattle.jr_parse_defs.specs.Laws.{OneReading}
use Rattle.jr_parse_defs.proofs.Statements.{stmt_reads}
use Rattle.jr_parse_defs.proofs.Imports.{units_complete}

pub stmts_complete : IsStmtComplete
stmts_complete room declares a rest is ended = (stmt_reads room declares).complete a rest is ended

pub stmts_are_sound : IsStmtSound
stmts_are_sound room declares ts read h = (stmt_reads room declares).sound ts read h

pub one_reading : OneReading
one_reading a b sa sb alike =
    let u = d.plain_unit a in
    let v = d.plain_unit b in
    let room = max (unit_depth u) (unit_depth v) in
    let one = units_complete room u sa (omega arith) in
    let other = units_complete room v sb (omega arith) in
    one_to_one d.plain_unit same.tree_unit same.tree_plain_unit a b (ap (λ (p : d.CompilationUnit × List Kind). p.0) (ok_is (sym one ∙ ap (unit room) alike ∙ other)))
