-- The programs with a cycle of headers are formed.
use Rattle.std.proofs.Common.{◌≡◌, refl, sym, ◌∙◌, ap, ap₂, subst, ⊎_elim, ℕ, ◌<◌, Bool, true, not, ◌&&◌, ◌||◌, [], ◌∷◌, length, Decides}
use Rattle.jr_tree.specs.Mirror.Decls.{plain_unit}
use Rattle.jr_tree.specs.Mirror.Decls as d
use Rattle.jr_tree.specs.Shape.{IsShaped, IsShapedUnit}
use Rattle.jr_tree.proofs.Same.Decls.{tree_unit, plain_tree_unit}
use Rattle.jr_tree.specs.declared.label.Label.TheVariants as is
use Rattle.jr_tree.specs.Forest.{none, node}
use Rattle.jr_tree.specs.Decls.{unit_labels}
use Rattle.jr_tree.specs.Local.{IsLocal}
use Rattle.jr_tree.specs.Rows.{Rows, rows_from, parent, program_rows}
use Rattle.jr_tree.proofs.Locals.{each_program_is_local}
use Rattle.jr_defs.specs.Declarations.{IsObject}
use Rattle.jr_defs.specs.Headers.{NamesHeader}
use Rattle.jr_defs.specs.Laws.{HasBareObject}
use Rattle.jr_defs.specs.Formed.{IsFormed}
use Rattle.jr_defs.proofs.Forming.{formed}
use Rattle.jr_plain.specs.Search.{all_below}
use Rattle.jr_plain.specs.Declarations.{is_object}
use Rattle.jr_plain.specs.Supertypes.{names_superclass, names_superinterface}
use Rattle.jr_plain.proofs.Tests.{both, either, opposite}
use Rattle.jr_plain.proofs.Searches.{all}
use Rattle.jr_plain.proofs.Declared.{object_tells}
use Rattle.jr_plain.proofs.Supertyped.{names_superclass_tells, names_superinterface_tells, superclass_name_below, superinterface_name_below}
use Rattle.jr_worked_bindings.specs.Cycles as cycles
use Rattle.jr_worked_bindings.proofs.Mirrors as trees

-- ---- Object names nothing

abbrev is_bare_at : Rows → ℕ → Bool
is_bare_at p n = not (is_object p (parent p n) && (names_superclass p (parent p n) n || names_superinterface p (parent p n) n))

abbrev is_bare : Rows → Bool
is_bare p = all_below (length p) (is_bare_at p)

bare_tells : (p : Rows) (n : ℕ) → Decides (is_bare_at p n) ((IsObject p (parent p n) × NamesHeader p (parent p n) n) → ⊥)
bare_tells p n = opposite (both (object_tells p (parent p n)) (either (names_superclass_tells p (parent p n) n) (names_superinterface_tells p (parent p n) n)))

bare_from : (p : Rows) → is_bare p ≡ true → HasBareObject p
bare_from p passes c n object header = let at = place header in
    (all (is_bare_at p) (λ n. (IsObject p (parent p n) × NamesHeader p (parent p n) n) → ⊥) (bare_tells p) (length p)).0 passes n at.0
    (subst (λ c. IsObject p c × NamesHeader p c n) (sym at.1) (object, header))
  where
    place : NamesHeader p c n → (n < length p) × (parent p n ≡ c)
    place h = ⊎_elim (λ k. (superclass_name_below p c n k, k.inside)) (λ k. (superinterface_name_below p c n k, k.inside)) h

-- ---- rows of shaped units

abbrev rows_of_two : d.CompilationUnit → d.CompilationUnit → Rows
rows_of_two a b = rows_from 0 0 0 (node is.Program (unit_labels a (unit_labels b none)) none)

abbrev rows_of_three : d.CompilationUnit → d.CompilationUnit → d.CompilationUnit → Rows
rows_of_three a b e = rows_from 0 0 0 (node is.Program (unit_labels a (unit_labels b (unit_labels e none))) none)

shaped : (a : d.CompilationUnit) → IsShapedUnit a → IsShaped (tree_unit a)
shaped a h = subst IsShapedUnit (sym (plain_tree_unit a)) h

lang_shaped : IsShaped (tree_unit trees.lang)
lang_shaped = shaped trees.lang (refl, tt, ((tt, tt, tt), tt))

two_are_formed : (a : d.CompilationUnit) → IsShapedUnit a → is_bare (rows_of_two trees.lang a) ≡ true → IsFormed (rows_of_two trees.lang a)
two_are_formed a shape passes = formed (rows_of_two trees.lang a) local (bare_from (rows_of_two trees.lang a) passes)
  where
    local : IsLocal (rows_of_two trees.lang a)
    local = subst IsLocal (ap₂ rows_of_two (plain_tree_unit trees.lang) (plain_tree_unit a)) (each_program_is_local (tree_unit trees.lang ∷ tree_unit a ∷ []) (lang_shaped, (shaped a shape, tt)))

three_are_formed : (a b : d.CompilationUnit) → IsShapedUnit a → IsShapedUnit b → is_bare (rows_of_three trees.lang a b) ≡ true → IsFormed (rows_of_three trees.lang a b)
three_are_formed a b of_a of_b passes = formed (rows_of_three trees.lang a b) local (bare_from (rows_of_three trees.lang a b) passes)
  where
    rows_are : program_rows (tree_unit trees.lang ∷ tree_unit a ∷ tree_unit b ∷ []) ≡ rows_of_three trees.lang a b
    rows_are = ap (λ u. rows_of_three u (plain_unit (tree_unit a)) (plain_unit (tree_unit b))) (plain_tree_unit trees.lang) ∙ ap₂ (rows_of_three trees.lang) (plain_tree_unit a) (plain_tree_unit b)

    local : IsLocal (rows_of_three trees.lang a b)
    local = subst IsLocal rows_are (each_program_is_local (tree_unit trees.lang ∷ tree_unit a ∷ tree_unit b ∷ []) (lang_shaped, (shaped a of_a, (shaped b of_b, tt))))

-- ---- the five programs: their rows are those of the trees, by computing

pub two_classes_extend_each_other : IsFormed cycles.two_classes_extend_each_other
two_classes_extend_each_other = two_are_formed trees.two_classes_extend_each_other (tt, tt, ((refl, tt, tt), ((refl, tt, tt), tt))) refl

pub a_cycle_through_an_import : IsFormed cycles.a_cycle_through_an_import
a_cycle_through_an_import = three_are_formed trees.a_cycle_through_an_import_c trees.a_cycle_through_an_import_a (refl, tt, ((refl, tt, tt), tt)) (refl, (refl, tt), ((refl, tt, tt), tt)) refl

pub a_class_extends_its_member : IsFormed cycles.a_class_extends_its_member
a_class_extends_its_member = two_are_formed trees.a_class_extends_its_member (tt, tt, ((refl, tt, ((tt, tt, tt), tt)), tt)) refl

pub a_cycle_through_a_qualifier : IsFormed cycles.a_cycle_through_a_qualifier
a_cycle_through_a_qualifier = two_are_formed trees.a_cycle_through_a_qualifier (tt, tt, ((refl, tt, tt), ((refl, tt, ((tt, tt, tt), tt)), tt))) refl

pub a_cycle_through_a_later_name : IsFormed cycles.a_cycle_through_a_later_name
a_cycle_through_a_later_name = two_are_formed trees.a_cycle_through_a_later_name (tt, tt, ((refl, (refl, tt), tt), ((refl, tt, tt), (((refl, tt), tt), tt)))) refl
