use Rattle.std.proofs.Common.{◌≡◌, sym, ◌∙◌}
use Rattle.jr_members.proofs.Ways.{none_held}
use Rattle.jr_members.proofs.named.Named.of_name.Goals as goal

pub returns-then-not-has_name : goal.returns-then-not-has_name
returns-then-not-has_name c = λ t kind seen declared can near. none_held c.args.under.rows.now t kind c.args.over c.args.name _ c.new.ensures.items
    (sym (c.has_name-has_name.ensures c.args.under.rows.now kind declared) ∙ c.if-not-has_name.true)

pub returns-in-Some : goal.returns-in-Some
returns-in-Some c = λ t kind seen declared can near. c.within.ensures t kind seen.placed can.all near (sym c.in-Some.ensures)

pub returns-in-None : goal.returns-in-None
returns-in-None c = λ t kind seen declared can near. c.further_up.ensures t kind seen can
