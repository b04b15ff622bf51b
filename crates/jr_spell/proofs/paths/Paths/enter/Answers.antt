use Rattle.std.proofs.Common.{◌≡◌, None, sym, ◌∙◌}
use Rattle.jr_spell.proofs.Packed.{enters_known, enters_next}
use Rattle.jr_spell.proofs.paths.Paths.enter.Goals as goal

pub returns-in-Some : goal.returns-in-Some
returns-in-Some c = enters_known _ c.args.over c.args.name c.args.row c.in-Some.known (sym c.inside_of.ensures ∙ c.in-Some.is)

pub returns : goal.returns
returns c = let absent : c.inside_of.result ≡ None = search in
    enters_next c.args.self.now (record { rows = c.insert.new.self }) c.args.over c.args.name c.args.row (sym c.inside_of.ensures ∙ absent) (λ o m. c.in_ok-insert.ensures.updates.0 (o, m))
