use Rattle.jr_parse_stmt.proofs.grammar.+stmt.Given as goal

abbrev pub decreases-stmt : goal.decreases-stmt
decreases-stmt l = l.room
