use Rattle.std.proofs.Common.{refl, arith}
use Rattle.std.proofs.lemmas.List.{drop_more, drop_all}
use Rattle.jr_name_faults.proofs.Bringing.{adding_start, adding_item, adding_next, adding_end}
use Rattle.jr_name_faults.proofs.statics.add_brought.Goals as goal

pub loop-class-init : goal.loop-class-init
loop-class-init c = λ p places below. (adding_start p (λ d. d) c.args.unit c.args.classes.now c.args.types.now.rows below, adding_start p (λ d. c.args.source) c.args.unit c.args.classes.now c.args.sources.now.rows below)

pub loop-class-preserved : goal.loop-class-preserved
loop-class-preserved c = λ p places below. let inv = c.loop-class.invariant p places below in let is = drop_more c.args.classes.now c.loop-class.class-index 0 (omega arith) in
    let named = c.name-name.ensures p places (adding_item _ _ is inv.0) in
    (adding_next _ c.name-name.result _ _ _ is inv.0 named refl c.in_ok-add.ensures, adding_next _ c.name-name.result c.args.source _ _ is inv.1 named refl c.in_ok-add-2.ensures)

pub returns-clause-types : goal.returns-clause-types
returns-clause-types c = λ p places below. adding_end (drop_all c.loop-class.class-index c.args.classes.now (omega arith)) (c.loop-class.invariant p places below).0

pub returns-clause-sources : goal.returns-clause-sources
returns-clause-sources c = λ p places below. adding_end (drop_all c.loop-class.class-index c.args.classes.now (omega arith)) (c.loop-class.invariant p places below).1
