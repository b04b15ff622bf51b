use Rattle.std.proofs.Common.{◌≡◌, sym, subst}
use Rattle.jr_tree.specs.Mirror.Exprs as x
use Rattle.jr_parse_laws.specs.Parsers.{Outcome, kinds}
use Rattle.jr_parse_expr.specs.declared.lead.Lead.{Lead}
use Rattle.jr_parse_expr.specs.Exprs as spec
use Rattle.jr_parse_expr.specs.Views.{plain_lead, ReadsExpr}
use Rattle.jr_parse_expr.proofs.Begins.{operand_is_new}
use Rattle.jr_parse_expr.proofs.grammar.Grammar.operand.Goals as goal

pub returns-in-Nothing-clause-reads : goal.returns-in-Nothing-clause-reads
returns-in-Nothing-clause-reads g c =
    subst (λ (l : Lead). ReadsExpr (spec.operand c.args.self.now.room (spec.expr c.args.self.now.room) (spec.list c.args.self.now.room) (plain_lead l) (kinds c.args.cursor.now)) c.new_operand.result (kinds c.new_operand.new.cursor)) (sym c.in-Nothing.is)
    (subst (λ (o : Outcome x.Expr). ReadsExpr o c.new_operand.result (kinds c.new_operand.new.cursor)) (sym (operand_is_new c.args.self.now.room (spec.expr c.args.self.now.room) (spec.list c.args.self.now.room) (kinds c.args.cursor.now)))
    c.new_operand.ensures.reads)
