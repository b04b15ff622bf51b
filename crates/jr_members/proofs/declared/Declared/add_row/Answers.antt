use Rattle.jr_members.proofs.Declaring.{declared_more}
use Rattle.jr_members.proofs.declared.Declared.add_row.Goals as goal

pub returns : goal.returns
returns c = λ kind places lt h. declared_more c.args.under.rows.now kind c.args.at _ _ c.holder_of-holder.result c.name-name.result h c.holder_of-holder.ensures (c.name-name.ensures c.args.under.rows.now places lt)
    c.in_ok-add_held.ensures.kind c.in_ok-add_held.ensures.own c.in_ok-add_held.ensures.by_type c.in_ok-add_held.ensures.by_name
