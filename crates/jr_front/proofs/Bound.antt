-- The rows of a program that begins with java.lang are bound as lookup asks.
use Rattle.std.proofs.Common.{◌≡◌, refl, sym, ◌∙◌, ap, ap₂, subst, arith, ℕ, ◌-◌, ◌<◌, ◌∷◌, [], length, codes, Result, Ok, IfOk}
use Rattle.std.proofs.lemmas.Bool.{ltb-true}
use Rattle.jr_base.specs.declared.text.Text.{Text}
use Rattle.jr_tree.specs.declared.label.Label.TheVariants as is
use Rattle.jr_tree.specs.declared.row.Row.{Row}
use Rattle.jr_tree.specs.Rows.{Rows, label, name, end}
use Rattle.jr_defs.specs.Declarations.{IsString}
use Rattle.jr_defs.specs.Imports.{java_lang}
use Rattle.jr_defs.specs.Packages.{InPackage, identifiers, package_by, package_of}
use Rattle.jr_places.specs.declared.places.Places.{Places}
use Rattle.jr_places.specs.Packages.{PackagesAreNamed}
use Rattle.jr_places.specs.Places.{ArePlaces}
use Rattle.jr_members.specs.Sources.{ArePlaced}
use Rattle.jr_headed.specs.Founded.{IsProgram}
use Rattle.jr_headed.proofs.Founding.{program_local}
use Rattle.jr_lookup.specs.declared.scopes.Scopes.{Scopes}
use Rattle.jr_lookup.specs.Scopes.{AreScopes, AreTops}
use Rattle.jr_prelude.specs.Begins.{lang_rows, BeginsWithLang}
use Rattle.jr_prelude.proofs.Begun.{one_string}
use Rattle.jr_bind.specs.Confirmed.{IsProgramOf, IsBindingOf}
use Rattle.jr_front.specs.Bound.{rows_in, IsBoundIn}
use Rattle.jr_front.specs.declared.workspace.Workspace.{Workspace}

module _ (p : Rows) (begins : BeginsWithLang p) where
  label_at : (n : ℕ) → 0 < n → n < length lang_rows → label p n ≡ label lang_rows n
  label_at n some lt = ap (λ (r : Row). r.label) (begins.rows n some lt)

  name_at : (n : ℕ) → 0 < n → n < length lang_rows → name p n ≡ name lang_rows n
  name_at n some lt = ap (λ (r : Row). r.name) (begins.rows n some lt)

  end_at : (n : ℕ) → 0 < n → n < length lang_rows → end p n ≡ end lang_rows n
  end_at n some lt = ap (λ (r : Row). r.end) (begins.rows n some lt)

  unit_label : label p 1 ≡ is.Unit
  unit_label = label_at 1 (omega arith) (ltb-true 1 (length lang_rows) refl)

  package_label : label p 2 ≡ is.Package
  package_label = label_at 2 (omega arith) (ltb-true 2 (length lang_rows) refl)

  last_name : name p 3 ≡ codes "lang"
  last_name = name_at 3 (omega arith) (ltb-true 3 (length lang_rows) refl)

  first_name : name p 4 ≡ codes "java"
  first_name = name_at 4 (omega arith) (ltb-true 4 (length lang_rows) refl)

  name_end : end p 3 ≡ 5
  name_end = end_at 3 (omega arith) (ltb-true 3 (length lang_rows) refl)

  path : package_of p 1 ≡ java_lang
  path = ap (λ l. package_by l p 1) package_label ∙ ap (λ e. identifiers p 3 (e - 4)) name_end ∙ ap₂ (λ (a b : Text). a ∷ b ∷ []) first_name last_name

  -- the first unit is one of java.lang
  pub first_in_lang : InPackage p java_lang 1
  first_in_lang = record { unit = 1; holds = record { unit = unit_label; from = omega arith; before = begins.tree.nested 1 }; has_path = path }

  only_string : (s d : ℕ) → IsString p s → IsString p d → s ≡ d
  only_string s d h k = let strings = one_string p begins in strings.3 s h ∙ sym (strings.3 d k)

  pub program_of : (places : Places) (scopes : Scopes) → IsProgram p → ArePlaces p places → (ArePlaced p places → AreScopes p scopes) → (ArePlaced p places → AreTops p places scopes) → IsProgramOf p places scopes
  program_of places scopes is are scopes_are tops_are = record { program = is; places_are = are; scopes_are = scopes_are; tops_are = tops_are; lang = first_in_lang; one_string = only_string }

-- what is made of the rows of a program, as they are read, is bound
pub bound_in : (w : Workspace) (rows : Rows) (these those : Places) (scopes : Scopes) → rows ≡ rows_in w → these ≡ w.places.value → those ≡ w.places.value → scopes ≡ w.scopes.value
    → ArePlaces rows w.places.value → (ArePlaced rows these → AreScopes rows w.scopes.value) → (ArePlaced rows these → AreTops rows these w.scopes.value)
    → (IsProgramOf rows those scopes → IsBindingOf rows those w.bound.value) → IsProgram (rows_in w) → BeginsWithLang (rows_in w) → IsBoundIn w
bound_in w rows these those scopes one here there names are scopes_are tops_are binding is begins = record { of = of; binding = bound of }
  where
    in_scope : ArePlaced (rows_in w) w.places.value → AreScopes (rows_in w) w.scopes.value
    in_scope = subst (λ r. ArePlaced r w.places.value → AreScopes r w.scopes.value) one (subst (λ x. ArePlaced rows x → AreScopes rows w.scopes.value) here scopes_are)

    on_top : ArePlaced (rows_in w) w.places.value → AreTops (rows_in w) w.places.value w.scopes.value
    on_top = subst (λ r. ArePlaced r w.places.value → AreTops r w.places.value w.scopes.value) one (subst (λ x. ArePlaced rows x → AreTops rows x w.scopes.value) here tops_are)

    of : IsProgramOf (rows_in w) w.places.value w.scopes.value
    of = program_of (rows_in w) begins w.places.value w.scopes.value is (subst (λ r. ArePlaces r w.places.value) one are) in_scope on_top

    bound : IsProgramOf (rows_in w) w.places.value w.scopes.value → IsBindingOf (rows_in w) w.places.value w.bound.value
    bound = subst (λ r. IsProgramOf r w.places.value w.scopes.value → IsBindingOf r w.places.value w.bound.value) one
        (subst (λ x. IsProgramOf rows x w.scopes.value → IsBindingOf rows x w.bound.value) there (subst (λ y. IsProgramOf rows those y → IsBindingOf rows those w.bound.value) names binding))

-- the rows of a program with their places and scopes, as they are read
pub program_so : (p rows : Rows) (places these those : Places) (scopes there : Scopes) → rows ≡ p → these ≡ places → those ≡ places → there ≡ scopes → IsProgram p → BeginsWithLang p → ArePlaces rows places
    → (ArePlaced rows these → AreScopes rows scopes) → (ArePlaced rows these → AreTops rows these scopes) → IsProgramOf rows those there
program_so p rows places these those scopes there one here at names is begins are scopes_are tops_are =
    subst (λ r. IsProgramOf r those there) (sym one) (subst (λ x. IsProgramOf p x there) (sym at) (subst (λ y. IsProgramOf p places y) (sym names)
    (program_of p begins places scopes is (subst (λ r. ArePlaces r places) one are)
    (subst (λ r. ArePlaced r places → AreScopes r scopes) one (subst (λ x. ArePlaced rows x → AreScopes rows scopes) here scopes_are))
    (subst (λ r. ArePlaced r places → AreTops r places scopes) one (subst (λ x. ArePlaced rows x → AreTops rows x scopes) here tops_are)))))

-- places that were made of the rows of a program, as they are read
pub placed_by : {E : Type 0} (rows : Rows) (made : Result Places E) (value read : Places) → IsProgram rows → PackagesAreNamed rows → IfOk made (λ places. ArePlaces rows places) → made ≡ Ok value → read ≡ value → ArePlaced rows read
placed_by rows made value read is named are e same = record { local = program_local rows is; packages = named; are = subst (λ (x : Places). ArePlaces rows x) (sym same) (subst (λ r. IfOk r (λ places. ArePlaces rows places)) e are) }
