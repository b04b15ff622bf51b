use Rattle.std.proofs.Common.{◌≡◌, List, [], ◌∷◌, ◌++◌, subst}
use Rattle.std.proofs.Common.{arith}
use Rattle.std.proofs.lemmas.Grind.{common_steps}
use Rattle.std.specs.List.{AllByRecursion}
use Rattle.jr_commit.specs.Entries.{raw, raw_of}
use Rattle.jr_commit.specs.Journal.{IsChange}
use Rattle.jr_commit.specs.declared.entry.RawEntry.{RawEntry}
use Rattle.jr_commit.proofs.reading.all_checked.Goals as goal

-- what holds of all holds of the one in the middle
middle : (front : List RawEntry) (e : RawEntry) (rest : List RawEntry) → AllByRecursion IsChange (raw (front ++ e ∷ rest)) → IsChange (raw_of e)
middle [] e rest all = all.0
middle (x ∷ front) e rest all = middle front e rest all.1

pub returns-in-None-2-clause-none : goal.returns-in-None-2-clause-none
returns-in-None-2-clause-none c all =
    let split : c.args.entries.items ≡ c.loop-entry.yielded ++ c.in-Some.entry ∷ c.next.new.self.rest.items = grind (arith, common_steps) in
    let change : IsChange (raw_of c.in-Some.entry) = middle c.loop-entry.yielded c.in-Some.entry c.next.new.self.rest.items (subst (λ (l : List RawEntry). AllByRecursion IsChange (raw l)) split all) in
    (rw c.in-None-2.is at c.in_ok-change.ensures.none) change
