use Rattle.std.proofs.Common.{refl, sym, ◌∙◌}
use Rattle.jr_flow.proofs.Counted.{number_taken, free_found}
use Rattle.jr_flow.proofs.numbering.Numbering.take.Goals as goal

pub returns-clause-taken : goal.returns-clause-taken
returns-clause-taken c = λ body x own at kind. let old = c.args.self.now in
    number_taken body old (record { points = old.points; taken = c.mark.new.all; numbers = old.numbers; count = old.count }) x c.args.number own at kind (free_found _ (sym c.is_free.ensures ∙ c.if-not-is_free.false)) refl c.mark.ensures refl
