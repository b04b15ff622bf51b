use Rattle.std.proofs.Common.{◌≡◌, ◌∙◌, sym, subst, arith, not, length, Some}
use Rattle.std.proofs.lemmas.Result.{IfOk-weaker}
use Rattle.jr_tree.specs.Rows.{name}
use Rattle.jr_plain.specs.Packages.{unit_of}
use Rattle.jr_places.specs.Names.{name_row}
use Rattle.jr_members.specs.declared.declared.MemberKind.TheVariants as kind
use Rattle.jr_lookup.specs.Levels.{AreMembersAround}
use Rattle.jr_lookup.specs.Outward.{IsNumberOf}
use Rattle.jr_lookup.proofs.Looking.{number_of}
use Rattle.jr_bind.specs.Confirmed.{rows_of, table_of}
use Rattle.jr_bind.specs.Ranked.{HasAllLookedFor, HasImports}
use Rattle.jr_bind.proofs.Ranked.{looked_for, none_looked_for, in_unit, not_empty}
use Rattle.jr_bind.proofs.ranking.looked_for_in.Goals as goal

pub returns-in_default : goal.returns-in_default
returns-in_default c = λ sight. none_looked_for (rows_of c.args.sight) (table_of c.args.sight) c.args.at sight.world.seen.placed.local (sym (c.unit.ensures.holds (rows_of c.args.sight) sight.world.seen.placed.are sight.world.seen.placed.local) ∙ c.in_default.is) c.new.result.items

pub returns : goal.returns
returns c = λ sight.
    let local = sight.world.seen.placed.local in
    let of_unit : unit_of (rows_of c.args.sight) c.args.at ≡ Some c.in-Some.unit = sym (c.unit.ensures.holds (rows_of c.args.sight) sight.world.seen.placed.are local) ∙ c.in-Some.is in
    let named : c.name-name.result ≡ name_row (rows_of c.args.sight) c.args.at = c.name-name.ensures (rows_of c.args.sight) sight.world.seen.placed.are (in_unit (rows_of c.args.sight) c.args.at c.in-Some.unit local of_unit) in
    let number : IsNumberOf (rows_of c.args.sight) c.name-name.result (name (rows_of c.args.sight) c.args.at) = subst (λ x. IsNumberOf (rows_of c.args.sight) x (name (rows_of c.args.sight) c.args.at)) (sym named) (number_of (rows_of c.args.sight) c.args.at) in
    IfOk-weaker c.imports_of.result
    (λ all. HasImports (rows_of c.args.sight) c.in-Some.unit c.name-name.result (not c.is_empty.result) (not c.is_empty-2.result) all.items)
    (λ all. HasAllLookedFor (rows_of c.args.sight) (table_of c.args.sight) c.args.at all.items)
    (λ all imports. looked_for (rows_of c.args.sight) (table_of c.args.sight) c.args.at local c.in-Some.unit of_unit (not c.is_empty.result) (not c.is_empty-2.result) all.items
    c.in_ok-around.around.rows.items c.in_ok-named.named.rows.items c.in_ok-around.around.level c.in_ok-named.named.level
    (subst (λ x. AreMembersAround (rows_of c.args.sight) (table_of c.args.sight) kind.Type c.args.at x c.in_ok-around.around.rows.items c.in_ok-around.around.level) named (c.in_ok-around.ensures (table_of c.args.sight) sight.world))
    (c.in_ok-named.ensures (table_of c.args.sight) (name (rows_of c.args.sight) c.args.at) sight number)
    (not_empty c.is_empty.result c.in_ok-around.around.rows.len (length c.in_ok-around.around.rows.items) c.is_empty.ensures (omega (arith, c.in_ok-around.around.rows.ok.0)))
    (not_empty c.is_empty-2.result c.in_ok-named.named.rows.len (length c.in_ok-named.named.rows.items) c.is_empty-2.ensures (omega (arith, c.in_ok-named.named.rows.ok.0)))
    (subst (λ x. HasImports (rows_of c.args.sight) c.in-Some.unit x (not c.is_empty.result) (not c.is_empty-2.result) all.items) named imports))
    (c.imports_of.ensures (rows_of c.args.sight) sight.scopes)
