use Rattle.jr_bind.proofs.Whole.{names_filled}
use Rattle.jr_bind.proofs.Final.{looked_in}
use Rattle.jr_bind.proofs.binder.fill_names.Goals as goal

pub returns-clause-fills : goal.returns-clause-fills
returns-clause-fills c = λ program late ready. names_filled c.args.known.setting.rows.now c.args.known.setting.places.now c.args.known.supers.now c.args.stages.now c.args.filling.now c.fill_typed.new.self c.find_constants.new.self c.fill_typed-2.new.self
    c.in_ok-constants.constants.value program late ready c.in_ok-fill_typed.ensures.rows
    c.in_ok-constants.ensures.table c.in_ok-constants.ensures.types c.in_ok-constants.ensures.string c.in_ok-constants.ensures.found c.in_ok-constants.ensures.ints c.in_ok-fill_typed-2.ensures.rows c.in_ok-fill_typed-2.ensures.types

pub returns-clause-looked : goal.returns-clause-looked
returns-clause-looked c = λ program late ready begin none headers. looked_in c.args.known c.args.stages.now c.args.filling.now c.fill_typed.new.self c.find_constants.new.self c.fill_typed-2.new.self
    c.in_ok-constants.constants.value program late ready begin c.in_ok-fill_typed.ensures.rows c.in_ok-fill_typed.ensures.looked
    c.in_ok-constants.ensures.table c.in_ok-constants.ensures.types c.in_ok-constants.ensures.string c.in_ok-constants.ensures.found c.in_ok-constants.ensures.ints c.in_ok-fill_typed-2.ensures.rows c.in_ok-fill_typed-2.ensures.looked none headers
