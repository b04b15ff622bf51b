use Rattle.std.proofs.Common.{sym, ◌∙◌, ap}
use Rattle.jr_spelling_rules.specs.Naming.{at_start, qualify}
use Rattle.jr_spell.specs.Spellers.{rows_of, table_of}
use Rattle.jr_spell.specs.Standing.{texts_of, AreResolved}
use Rattle.jr_spell.proofs.Leading.{qualified_some, qualified_none}
use Rattle.jr_spell.proofs.speller.Speller.resolve.Goals as goal

pub returns-in_ok-found-in-Some : goal.returns-in_ok-found-in-Some
returns-in_ok-found-in-Some c = λ whole numbers number lt. let s = c.args.self.now in let q = qualified_some _ (c.in_ok-led.ensures whole numbers lt) c.in-Some.is in
    AreResolved.some (ap (λ k. qualify (rows_of s) (table_of s) c.args.place k at_start (texts_of (rows_of s) c.args.names.now)) (sym c.kind_before-before.ensures) ∙ q.1) (c.in_ok-found-in-Some.ensures q.0 whole q.2 number lt)

pub returns-in-None : goal.returns-in-None
returns-in-None c = λ whole numbers number lt. let s = c.args.self.now in
    AreResolved.none (ap (λ k. qualify (rows_of s) (table_of s) c.args.place k at_start (texts_of (rows_of s) c.args.names.now)) (sym c.kind_before-before.ensures) ∙ qualified_none (c.in_ok-led.ensures whole numbers lt) c.in-None.is)
