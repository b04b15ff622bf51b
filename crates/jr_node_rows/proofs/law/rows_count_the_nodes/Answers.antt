-- Each clause is a lemma.
use Rattle.std.proofs.Common.{arith}
use Rattle.jr_node_rows.proofs.CountedExprs.{expr_counts}
use Rattle.jr_node_rows.proofs.CountedStmts.{stmt_counts, block_counts}
use Rattle.jr_node_rows.proofs.CountedDecls.{member_counts, decl_counts, unit_counts, program_counts}
use Rattle.jr_node_rows.proofs.law.rows_count_the_nodes.Goals as goal

pub returns : goal.returns
returns c = record {
  of_expr = λ e rest h. (expr_counts e rest h).is;
  of_stmt = λ a rest h. (stmt_counts a rest h).is;
  of_block = λ b rest h. (block_counts b rest h).is;
  of_member = λ m rest h. (member_counts m rest h).is;
  of_decl = λ t rest h. (decl_counts t rest h).is;
  of_unit = λ u rest h. (unit_counts u rest h).is;
  of_program = λ units h. let w = (program_counts units h).is in omega (arith, w);
}
