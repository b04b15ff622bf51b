use Rattle.jr_plain.proofs.Membership.{left_tells, can_inherit_tells, member_tells, members_list, member_named_tells, members_named_list}
use Rattle.jr_plain.proofs.law.members_are_computed.Goals as goal

pub returns : goal.returns
returns c = record {
  left = λ p t k d headed. left_tells p t headed k d;
  inherited = can_inherit_tells;
  member = λ p t k d headed. member_tells p t headed k d;
  members = λ p t k headed. members_list p t headed k;
  named = λ p t kind x k d headed. member_named_tells p t headed kind x k d;
  all_named = λ p t kind x k headed. members_named_list p t headed kind x k;
}
