use Rattle.std.proofs.Common.{◌∙◌, sym, ap}
use Rattle.std.proofs.lemmas.Result.{IfOk-weaker}
use Rattle.jr_spell.specs.Spellers.{rows_of, table_of, types_of, number_by}
use Rattle.jr_spell.proofs.Chosen.{call_standing}
use Rattle.jr_spell.proofs.Named.{headed}
use Rattle.jr_spell.proofs.speller.Speller.found_standing.Goals as goal

pub returns-then-is_call : goal.returns-then-is_call
returns-then-is_call c = λ given whole sought gives types. let s = c.args.self.now in let p = rows_of s in let r = c.args.reference.now in
    let called = sym c.is_call.ensures ∙ c.if-is_call.true in
    IfOk-weaker c.called.result _ _ (λ a h. call_standing p (table_of s) (headed s whole) (types_of s) r.row c.args.arguments.now given (gives called) r.sought sought.at_row.sought_is r.name
    (sought.name_is ∙ ap (number_by p r.row) sought.at_row.lock_is) a h) (c.called.ensures whole sought types called)

pub returns-else-is_call : goal.returns-else-is_call
returns-else-is_call c = λ given whole sought gives types. c.find_as_it_stands.ensures given whole sought (sym c.is_call.ensures ∙ c.if-is_call.false) types
