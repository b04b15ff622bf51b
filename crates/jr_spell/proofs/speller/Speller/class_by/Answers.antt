use Rattle.jr_lookup.proofs.Calling.{class_this, class_super}
use Rattle.jr_spell.specs.Spellers.{rows_of, table_of}
use Rattle.jr_spell.proofs.speller.Speller.class_by.Goals as goal

pub returns-in-This : goal.returns-in-This
returns-in-This c = λ seen. class_this (rows_of c.args.self.now) (table_of c.args.self.now) c.args.class c.args.which c.in-This.is

pub returns-in-Super : goal.returns-in-Super
returns-in-Super c = λ seen. let p = rows_of c.args.self.now in let t = table_of c.args.self.now in
    class_super p t c.args.class c.args.which _ c.in-Super.is (c.superclass.ensures p t seen.seen.above)
