use Rattle.jr_members.proofs.Adding.{lists_none}
use Rattle.jr_members.proofs.Nearing.{near_none}
use Rattle.jr_members.proofs.named.Named.of.Goals as goal

pub returns : goal.returns
returns c = λ t right counted. c.in_ok-add_types.ensures t c.args.kind right
    (record { declared_is = c.in_ok-named.ensures.declared right.seen.placed.are; all = lists_none c.args.sources.under.rows.now t c.args.kind c.in_ok-named.named.lists c.in_ok-named.ensures.none; near = near_none c.args.sources.under.rows.now t c.args.kind c.in_ok-named.named.lists c.in_ok-named.named.nearest c.in_ok-named.ensures.blank; counted = counted }) c.in_ok-named.ensures.none
