use Rattle.std.proofs.Common.{◌∙◌, ap}
use Rattle.std.specs.List.{list_any}
use Rattle.jr_supers.specs.Pairs.{has_pair}
use Rattle.jr_flow_faults.proofs.Covered.{catches_told}
use Rattle.jr_flow_faults.proofs.catches.is_caught.Goals as goal

pub returns : goal.returns
returns c = λ t n above are. catches_told c.args.rows.now t c.args.supers.now c.args.table.now n c.args.over c.args.class c.in_ok-uppers.uppers.items _ above are (c.in_ok-uppers.ensures t above)
    (c.is_any_pair.ensures ∙ ap (list_any (λ high. has_pair c.args.table.now c.args.over high)) c.deref.ensures.value)
