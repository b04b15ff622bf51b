use Rattle.jr_request.proofs.Keys.{other_key_of}
use Rattle.jr_request.proofs.element.other_key.Goals as goal

pub returns-in-Some : goal.returns-in-Some
returns-in-Some c =
    other_key_of c.args.action _ c.in-Some.members.now.entries _ c.in-Some.ensures c.first_other.ensures.rise c.first_other.ensures.first
