use Rattle.std.proofs.Common.{sym, ◌∙◌, arith}
use Rattle.jr_meaning.proofs.keeping.keeps_row.Goals as goal

pub returns-then-is_whole_at : goal.returns-then-is_whole_at
returns-then-is_whole_at c = λ lt m w old new e. let few = old.few in let room = new.few in let stood = c.if-copy-new.false in
    record {
      whole = sym (c.is_whole_at.ensures (omega (arith, lt, few)) m old) ∙ c.if-is_whole_at.true;
      alike = sym (c.is_alike.ensures (omega (arith, lt, few)) (omega (arith, stood, room)) m w old new) ∙ e;
    }
