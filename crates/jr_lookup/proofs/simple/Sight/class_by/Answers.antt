use Rattle.jr_lookup.proofs.Calling.{class_this, class_super}
use Rattle.jr_lookup.proofs.simple.Sight.class_by.Goals as goal

pub returns-in-This : goal.returns-in-This
returns-in-This c = λ t world. class_this c.args.self.now.world.under.rows.now t c.args.class c.args.which c.in-This.is

pub returns-in-Super : goal.returns-in-Super
returns-in-Super c = λ t world. class_super c.args.self.now.world.under.rows.now t c.args.class c.args.which _ c.in-Super.is (c.superclass.ensures c.args.self.now.world.under.rows.now t world.seen.above)
