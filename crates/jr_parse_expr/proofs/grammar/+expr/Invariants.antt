use Rattle.jr_parse_expr.proofs.grammar.+expr.Given as goal

abbrev pub decreases-nested_expr : goal.decreases-nested_expr
decreases-nested_expr l = l.room

abbrev pub decreases-nested_list : goal.decreases-nested_list
decreases-nested_list l = l.room
