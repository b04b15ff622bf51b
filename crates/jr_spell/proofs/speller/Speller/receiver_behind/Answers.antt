use Rattle.std.proofs.Common.{◌∙◌, refl, None}
use Rattle.jr_spell.proofs.AsItStands.{receiver_some, receiver_none, value_there, value_away}
use Rattle.jr_spell.proofs.speller.Speller.receiver_behind.Goals as goal

pub returns-then-not-has_left : goal.returns-then-not-has_left
returns-then-not-has_left c = λ given seen at. let s = c.args.self.now in let r = c.args.reference.now in
    receiver_none s given r.row None (value_away s given r.row r.sought at.sought_is c.has_left.result c.has_left.ensures c.if-not-has_left.true) refl

pub returns-in-Some : goal.returns-in-Some
returns-in-Some c = λ given seen at. let s = c.args.self.now in let r = c.args.reference.now in
    receiver_some s given r.row c.object.result c.in-Some.ty c.type_behind.result _ (c.object.ensures ∙ seen.seen.above.object)
    (c.type_behind.ensures seen ∙ value_there s given r.row r.sought at.sought_is c.has_left.result c.has_left.ensures c.if-not-has_left.false) c.in-Some.is c.receiver_by.ensures

pub returns-in-None : goal.returns-in-None
returns-in-None c = λ given seen at. let s = c.args.self.now in let r = c.args.reference.now in
    receiver_none s given r.row c.type_behind.result (c.type_behind.ensures seen ∙ value_there s given r.row r.sought at.sought_is c.has_left.result c.has_left.ensures c.if-not-has_left.false) c.in-None.is
