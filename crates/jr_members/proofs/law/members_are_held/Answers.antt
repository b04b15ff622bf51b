use Rattle.jr_members.proofs.Heritage.{held_member, object_member, member_held}
use Rattle.jr_members.proofs.law.members_are_held.Goals as goal

pub returns : goal.returns
returns c = record { out = λ p t c d apart h. member_held p t apart c d h; held = held_member; of_object = object_member }
