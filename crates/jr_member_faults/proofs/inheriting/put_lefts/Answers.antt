use Rattle.jr_member_faults.proofs.inheriting.put_lefts.Goals as goal

pub returns : goal.returns
returns c = λ h th none. c.in_ok-put_all.ensures h th c.order.ensures c.in_ok-unfound.ensures none
