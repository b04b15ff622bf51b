use Rattle.std.proofs.Common.{arith}
use Rattle.jr_defs.specs.Referents.{entries}
use Rattle.jr_constants.specs.Tables.{picks}
use Rattle.jr_constants.proofs.Completing.{values_whole, are_constants}
use Rattle.jr_constants.proofs.constants.Constants.of.Goals as goal

pub returns-clause-known : goal.returns-clause-known
returns-clause-known c = λ sized. c.in_ok-come_to_rest.ensures.known sized (c.in_ok-settle_all.ensures sized (c.in_ok-constants.ensures (entries c.args.under.table.now) (picks c.args.constant.now)))

pub returns-clause-whole : goal.returns-clause-whole
returns-clause-whole c = λ sized tree. c.in_ok-come_to_rest.ensures.whole sized tree (omega arith) (c.in_ok-settle_all.ensures sized (c.in_ok-constants.ensures (entries c.args.under.table.now) (picks c.args.constant.now)))

pub returns-clause-all : goal.returns-clause-all
returns-clause-all c = λ sized tree typable.
    let h = c.in_ok-come_to_rest.ensures.whole sized tree (omega arith) (c.in_ok-settle_all.ensures sized (c.in_ok-constants.ensures (entries c.args.under.table.now) (picks c.args.constant.now))) in
    values_whole c.args.under.rows.now (entries c.args.under.table.now) (picks c.args.constant.now) typable c.come_to_rest.new.self h.known h.stable h.resting

pub returns-clause-sound : goal.returns-clause-sound
returns-clause-sound c = λ sized same. are_constants c.args.under.rows.now (entries c.args.under.table.now) (picks c.args.constant.now) same c.come_to_rest.new.self
    (c.in_ok-come_to_rest.ensures.known sized (c.in_ok-settle_all.ensures sized (c.in_ok-constants.ensures (entries c.args.under.table.now) (picks c.args.constant.now))))
