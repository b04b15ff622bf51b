use Rattle.std.proofs.Common.{sym, subst}
use Rattle.jr_kept.specs.Disturbed.{AddsIf}
use Rattle.jr_kept.proofs.Disturbing.{adds_some, adds_none}
use Rattle.jr_kept.proofs.dropped.add_if.Goals as goal

pub returns-in-Some : goal.returns-in-Some
returns-in-Some c = λ bound counted. let set = c.args.set.now in
    subst (AddsIf set c.add.new.self bound) (sym c.in-Some.is) (adds_some set c.add.new.self bound c.in-Some.local c.add.result (c.add.ensures bound counted))

pub returns-in-None : goal.returns-in-None
returns-in-None c = λ bound counted. let set = c.args.set.now in subst (AddsIf set set bound) (sym c.in-None.is) (adds_none set bound counted)
