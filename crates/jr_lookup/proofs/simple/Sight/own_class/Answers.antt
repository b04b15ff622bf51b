use Rattle.jr_lookup.proofs.Referring.{own_class_one, own_class_none}
use Rattle.jr_lookup.proofs.simple.Sight.own_class.Goals as goal

pub returns-then-is_body_of : goal.returns-then-is_body_of
returns-then-is_body_of c = own_class_one c.args.self.now.world.under.rows.now c.args.place c.parent_at-body.result c.parent_at-class.result _ c.parent_at-body.ensures c.is_body_of.ensures c.if-is_body_of.true

pub returns-else-is_body_of : goal.returns-else-is_body_of
returns-else-is_body_of c = own_class_none c.args.self.now.world.under.rows.now c.args.place c.parent_at-body.result c.parent_at-class.result _ c.parent_at-body.ensures c.parent_at-class.ensures c.is_body_of.ensures c.if-is_body_of.false
