use Rattle.std.proofs.Common.{◌∙◌, refl, sym, ap, subst}
use Rattle.std.proofs.lemmas.Result.{IfOk-weaker}
use Rattle.jr_tree.specs.Rows.{name}
use Rattle.jr_spell.specs.Packaging.{IsNumber}
use Rattle.jr_spell.specs.Spellers.{rows_of, table_of, types_of, number_by}
use Rattle.jr_spell.proofs.AsItStands.{standing_found}
use Rattle.jr_spell.proofs.Named.{headed, number_is}
use Rattle.jr_spell.proofs.Shaped.{is_number_by}
use Rattle.jr_spell.proofs.speller.Speller.find_as_it_stands.Goals as goal

pub returns : goal.returns
returns c = λ given whole sought uncalled types. let s = c.args.self.now in let p = rows_of s in let t = table_of s in let r = c.args.reference.now in
    IfOk-weaker c.look_for.result _ _ (λ a h. standing_found p t (types_of s) given r.row (headed s whole) types r.name r.sought a sought.at_row.sought_is uncalled
    (sought.name_is ∙ ap (number_by p r.row) sought.at_row.lock_is) h)
    (c.look_for.ensures t (name p r.name) (record { sight_is = whole.sight_is; placed = whole.placed; inside = sought.there; same = refl })
    (λ needs. record {
      sight_is = whole.sight_is;
      placed = whole.placed;
      can = whole.can;
      refers = types.refers;
      few = types.few;
      inside = sought.there;
      seen = λ n lt. refl;
      typed = λ n lt. types.typed n;
    })
    (number_is p r.name (subst (IsNumber p) (sym sought.name_is) (is_number_by p r.row r.lock sought.there sought.target_there))) refl)
