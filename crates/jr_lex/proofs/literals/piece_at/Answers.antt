use Rattle.std.proofs.Common.{sym, refl, arith}
use Rattle.jr_lex.proofs.EscapeLemmas.{escape_boundary}
use Rattle.jr_lex.proofs.literals.piece_at.Goals as goal

pub overflow_add-result-in-Some : goal.overflow_add-result-in-Some
overflow_add-result-in-Some c =
    omega (arith, (escape_boundary c.args.text.now c.args.at c.in-Some.unit c.in-Some.len c.utf8.text (sym c.in-Some.ensures)).0, c.requires.short)

pub returns-in-Some : goal.returns-in-Some
returns-in-Some c = (c.in-Some.len, sym c.in-Some.ensures, refl)
