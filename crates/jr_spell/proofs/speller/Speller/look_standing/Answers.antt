use Rattle.jr_spell.proofs.AsItStands.{standing_looked}
use Rattle.jr_spell.proofs.Tracing.{seen_of}
use Rattle.jr_spell.proofs.speller.Speller.look_standing.Goals as goal

pub returns : goal.returns
returns c = λ given whole sought gives types. let s = c.args.self.now in let r = c.args.reference.now in
    standing_looked s given r.row c.receiver_behind.result _ (c.in_ok-found.ensures given whole sought gives types) c.new-trace.ensures.items (c.receiver_behind.ensures given (seen_of whole) sought.at_row) c.standing_way-way.ensures
