use Rattle.jr_lookup.proofs.Referring.{super_some, super_none}
use Rattle.jr_spell.specs.Spellers.{rows_of, table_of}
use Rattle.jr_spell.proofs.speller.Speller.super_class.Goals as goal

pub returns-in-Some : goal.returns-in-Some
returns-in-Some c = λ seen. let p = rows_of c.args.self.now in let t = table_of c.args.self.now in
    super_some p t c.args.place c.in-Some.around _ _ (c.instance_round.ensures seen.seen.placed) c.in-Some.is (c.superclass.ensures p t seen.seen.above)

pub returns-in-None : goal.returns-in-None
returns-in-None c = λ seen. let p = rows_of c.args.self.now in super_none p (table_of c.args.self.now) c.args.place _ (c.instance_round.ensures seen.seen.placed) c.in-None.is
