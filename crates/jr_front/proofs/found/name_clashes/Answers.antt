use Rattle.jr_front.proofs.Refused.{clashes_from}
use Rattle.jr_front.proofs.found.name_clashes.Goals as goal

pub returns : goal.returns
returns c = λ placed. clashes_from c.args.rows.now c.new-found.result.items c.top_type_faults.new.out.items c.deref.result.now c.new-faults.result.items c.take_over.new.out.items c.new-found.ensures.items c.deref.ensures.value
    c.new-faults.ensures.items (c.in_ok-top_type_faults.ensures placed) c.in_ok-take_over.ensures
