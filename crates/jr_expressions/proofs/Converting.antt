-- Conversions, from what their functions call.
use Rattle.std.proofs.Common.{◌≡◌, sym, ◌∙◌, ap, ℕ, true, cond, ◌∷◌, Option, Some}
use Rattle.std.specs.Prelude.{option_map}
use Rattle.jr_core.specs.declared.code.Code.{Code}
use Rattle.jr_defs.specs.declared.referent.RowType.{RowType}
use Rattle.jr_constants.specs.declared.value.Value.{Value}
use Rattle.jr_constants.specs.Values.{seen_if, value_in_if}
use Rattle.jr_codes.specs.declared.source.Source.{Source}
use Rattle.jr_codes.specs.Making.{Below}
use Rattle.jr_codes.specs.Conversions.{is_written, folded, cast_or, converted_from, Converts}
use Rattle.jr_codes.specs.Reads.{value_at, texts_of, facts}
use Rattle.jr_codes.proofs.Folding.{folded_is}

-- a conversion that is written, or made
pub written_from : (s : Source) (n : ℕ) (from to : RowType) (given : Code) {made : Code} (w : Option Value) → is_written from to ≡ true → seen_if w ≡ folded (seen_if (value_at s n)) to.element
    → made ≡ cast_or (value_in_if (texts_of s) w) (facts s) to given → made ≡ converted_from from (facts s) n to given
written_from s n from to given {made} w need fold is =
    is ∙ ap (λ v. cast_or v (facts s) to given) (folded_is (texts_of s) to.element (value_at s n) w fold)
    ∙ ap (λ b. cond b (cast_or (folded ((facts s).value n) to.element) (facts s) to given) given) (sym need)

pub converts : (s : Source) {n : ℕ} {to from : RowType} {old new : Below} {given made : Code} → (facts s).typed n ≡ Some from → old ≡ (n, given) ∷ new
    → made ≡ converted_from from (facts s) n to given → Converts (facts s) n to old new made
converts s {n} {to} {from} {old} {new} {given} {made} typed was is = record {
  given = given;
  was = was;
  is = ap (option_map (λ from. converted_from from (facts s) n to given)) typed ∙ ap Some (sym is);
}
