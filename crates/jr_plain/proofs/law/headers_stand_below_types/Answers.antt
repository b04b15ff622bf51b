use Rattle.jr_plain.proofs.Headed.{headed_from_formed, headed_from_local}
use Rattle.jr_plain.proofs.law.headers_stand_below_types.Goals as goal

pub returns : goal.returns
returns c = record { formed = headed_from_formed; local = headed_from_local }
