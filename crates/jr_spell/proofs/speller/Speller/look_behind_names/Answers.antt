use Rattle.std.proofs.Common.{sym, ◌∙◌, ap}
use Rattle.jr_spelling_rules.specs.Candidates.{is_variable, kind_of}
use Rattle.jr_spelling_rules.specs.Naming.{at_start, kind_before, qualify}
use Rattle.jr_spell.specs.Spellers.{rows_of, table_of}
use Rattle.jr_spell.specs.Standing.{texts_of}
use Rattle.jr_spell.proofs.Leading.{qualified_some, qualified_none}
use Rattle.jr_spell.proofs.Shaped.{looked_nowhere, looked_behind}
use Rattle.jr_spell.proofs.speller.Speller.look_behind_names.Goals as goal

pub returns-in_ok-found-in-Some : goal.returns-in_ok-found-in-Some
returns-in_ok-found-in-Some c = λ given shape whole sought gives numbers. let s = c.args.self.now in let p = rows_of s in let t = table_of s in let r = c.args.reference.now in
    let kinds = c.kind_before.ensures ∙ ap (λ q. kind_before (kind_of q)) sought.at_row.sought_is in
    let q = qualified_some _ (c.in_ok-led.ensures whole numbers sought.there) c.in-Some.is in
    looked_behind s given shape r.row (texts_of p c.args.names.now) q.0 _ c.is_variable.result
    (ap (λ k. qualify p t r.row k at_start (texts_of p c.args.names.now)) (sym kinds) ∙ q.1) (c.in_ok-found-in-Some.ensures q.0 given shape c.in-Some.trace.items whole sought gives q.2)
    c.way_of-way.ensures (c.is_variable.ensures ∙ ap is_variable sought.at_row.sought_is)

pub returns-in-None : goal.returns-in-None
returns-in-None c = λ given shape whole sought gives numbers. let s = c.args.self.now in let p = rows_of s in let t = table_of s in let r = c.args.reference.now in
    let kinds = c.kind_before.ensures ∙ ap (λ q. kind_before (kind_of q)) sought.at_row.sought_is in
    looked_nowhere s given shape r.row (texts_of p c.args.names.now)
    (ap (λ k. qualify p t r.row k at_start (texts_of p c.args.names.now)) (sym kinds) ∙ qualified_none (c.in_ok-led.ensures whole numbers sought.there) c.in-None.is)
