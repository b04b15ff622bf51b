use Rattle.std.proofs.Common.{◌≡◌, sym, subst}
use Rattle.std.specs.Prelude.{option_map}
use Rattle.std.proofs.lemmas.Result.{IfOk-weaker}
use Rattle.jr_places.specs.Places.{ArePlaces}
use Rattle.jr_spelling_rules.specs.Candidates as candidate
use Rattle.jr_spell.specs.Spellers.{rows_of, table_of}
use Rattle.jr_spell.proofs.Tracing.{traced_some, traced_none}
use Rattle.jr_spell.proofs.speller.Speller.resolve_suffix.Goals as goal

pub returns-in-Some : goal.returns-in-Some
returns-in-Some c = λ more size whole lt inside. let s = c.args.self.now in let p = rows_of s in
    let name = c.name-name.ensures p (subst (ArePlaces p) (sym c.places.ensures) whole.sight_is.world.seen.placed.are) lt in
    IfOk-weaker c.with_type.result _ (λ o. option_map (λ all. all.items) o ≡ candidate.suffix_trace p (table_of s) c.args.place c.args.kind c.args.suffix.of more) (λ o is. traced_some s whole c.args.place inside c.args.kind c.args.suffix more size lt c.in_ok-names.names.items (c.in_ok-names.ensures whole lt) c.name-name.result name _ c.in_ok-resolved.resolved
    (λ numbers number. c.in_ok-resolved.ensures whole numbers number inside) c.deref.ensures.value c.in-Some.is (option_map (λ all. all.items) o) is) c.with_type.ensures

pub returns : goal.returns
returns c = λ more size whole lt inside. let s = c.args.self.now in let p = rows_of s in
    let name = c.name-name.ensures p (subst (ArePlaces p) (sym c.places.ensures) whole.sight_is.world.seen.placed.are) lt in
    traced_none s whole c.args.place inside c.args.kind c.args.suffix more size lt c.in_ok-names.names.items (c.in_ok-names.ensures whole lt) c.name-name.result name _ c.in_ok-resolved.resolved
    (λ numbers number. c.in_ok-resolved.ensures whole numbers number inside) c.deref.ensures.value c.in-None.is
