use Rattle.jr_members.specs.declared.declared.MemberKind.TheVariants as kind
use Rattle.jr_members.proofs.members.Members.add_types_of.Goals as goal

pub returns : goal.returns
returns c = λ t seen can. c.add_type.ensures t kind.Type (record { seen = seen; signed = tt }) can
