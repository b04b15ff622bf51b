-- The casts of arguments, one at a time.
use Rattle.std.proofs.Common.{◌≡◌, refl, sym, ◌∙◌, ap, ℕ, false, List, [], ◌∷◌, Option, Some, None}
use Rattle.std.specs.Prelude.{is_none}
use Rattle.jr_tree.specs.Rows.{Rows}
use Rattle.jr_shapes.specs.declared.spelling.TypeName.{TypeName}
use Rattle.jr_shapes.specs.Arguments.{argument_after}
use Rattle.jr_runs.specs.declared.item.Front.{Front}
use Rattle.jr_runs.specs.Marks.{with_casts}
use Rattle.jr_runs.specs.Suits.{fits_casts}

-- where there is no argument nothing is cast
no_cast : (p : Rows) (n : ℕ) (casts : List TypeName) (fronts : List Front) → with_casts p n None casts fronts ≡ fronts
no_cast p n [] fronts = refl
no_cast p n (ty ∷ rest) fronts = refl

pub casts_none : (p : Rows) (n : ℕ) (next : Option ℕ) (casts : List TypeName) (fronts : List Front) → next ≡ None → with_casts p n next casts fronts ≡ fronts
casts_none p n next casts fronts h = ap (λ o. with_casts p n o casts fronts) h ∙ no_cast p n casts fronts

-- the casts fit where the rest of them fits from this argument on
pub record FitsTo (p : Rows) (n : ℕ) (first : Option ℕ) (casts : List TypeName) (next : Option ℕ) (rest : List TypeName) : Type 0 where
  pub follow : fits_casts p n next rest ≡ fits_casts p n first casts

pub fits_more : {p : Rows} {n : ℕ} {first : Option ℕ} {casts : List TypeName} {next : Option ℕ} {rest : List TypeName} (ty : TypeName) (after : List TypeName) (a : ℕ) (behind : Option ℕ)
    → FitsTo p n first casts next rest → rest ≡ ty ∷ after → next ≡ Some a → behind ≡ argument_after p n a → FitsTo p n first casts behind after
fits_more {p = p} {n = n} {rest = rest} ty after a behind before is there turn = record {
  follow = ap (λ o. fits_casts p n o after) turn ∙ ap (λ xs. fits_casts p n (Some a) xs) (sym is) ∙ ap (λ o. fits_casts p n o rest) (sym there) ∙ before.follow;
}

pub fits_not : {p : Rows} {n : ℕ} {first : Option ℕ} {casts : List TypeName} {next : Option ℕ} {rest : List TypeName} (ty : TypeName) (after : List TypeName)
    → FitsTo p n first casts next rest → rest ≡ ty ∷ after → next ≡ None → false ≡ fits_casts p n first casts
fits_not {p = p} {n = n} {rest = rest} ty after before is there = ap (λ xs. fits_casts p n None xs) (sym is) ∙ ap (λ o. fits_casts p n o rest) (sym there) ∙ before.follow

ended : (p : Rows) (n : ℕ) (next : Option ℕ) → is_none next ≡ fits_casts p n next []
ended p n None = refl
ended p n (Some a) = refl

pub fits_end : {p : Rows} {n : ℕ} {first : Option ℕ} {casts : List TypeName} {next : Option ℕ} {rest : List TypeName} → FitsTo p n first casts next rest → rest ≡ [] → is_none next ≡ fits_casts p n first casts
fits_end {p = p} {n = n} {next = next} before is = ended p n next ∙ ap (λ xs. fits_casts p n next xs) (sym is) ∙ before.follow
