-- The canonical names of types in named packages are those of the definition (JLS 6.7).
use Rattle.std.proofs.Common.{◌≡◌, refl, sym, ◌∙◌, ap, subst, arith, ℕ, zero, suc, ◌<◌, List, [], ◌∷◌, ◌++◌, length, Option, Some, None}
use Rattle.std.proofs.lemmas.Bool.{false≢true}
use Rattle.std.specs.Option.{option_map_or}
use Rattle.jr_base.specs.declared.text.Text.{Text}
use Rattle.jr_tree.specs.declared.label.Label.{Label}
use Rattle.jr_tree.specs.declared.label.Label.TheVariants as is
use Rattle.jr_tree.specs.Local.{IsLocal}
use Rattle.jr_tree.specs.Rows.{Rows, label, name, parent}
use Rattle.jr_defs.specs.Enclosing.{DeclaredIn, IsTopLevel, holder}
use Rattle.jr_defs.specs.Packages.{TypeOfPackage, package_of}
use Rattle.jr_defs.specs.Rules.{CanonicalName}
use Rattle.jr_plain.specs.Enclosing.{declaring_type, is_unit}
use Rattle.jr_plain.specs.Search.{Finds}
use Rattle.jr_plain.proofs.Enclosed.{declaring_finds}
use Rattle.jr_plain.proofs.OneUnit.{unit_finds}
use Rattle.jr_name_rules.proofs.Declarations.{declared_after}
use Rattle.jr_run.specs.Names.{canonical_path, package_path, path_within}

none_by : (found : Option ℕ) (P : ℕ → Type 0) → Finds found P → ((x : ℕ) → P x → ⊥) → found ≡ None
none_by None P finds none = refl
none_by (Some x) P finds none = absurd (none x ((finds x).0 refl))

body_not_unit : (l : Label) → l ≡ is.Body → l ≡ is.Unit → ⊥
body_not_unit l body unit = false≢true (sym (ap is_unit body) ∙ ap is_unit unit)

not_member : (p : Rows) (d : ℕ) → IsTopLevel p d → (c : ℕ) → DeclaredIn p c d → ⊥
not_member p d top c declared = body_not_unit (label p (parent p d)) (subst (λ k. label p k ≡ is.Body) (ap (λ r. holder r p d) top.type) declared.inside.body) top.inside

not_declared : (p : Rows) (d : ℕ) → IsTopLevel p d → declaring_type p d ≡ None
not_declared p d top = none_by (declaring_type p d) (λ c. DeclaredIn p c d) (declaring_finds p d) (not_member p d top)

package_is : (p : Rows) → IsLocal p → (d : ℕ) (path : List Text) → TypeOfPackage p path d → package_path p d ≡ path
package_is p local d path type = ap (λ o. option_map_or (package_of p) o []) ((unit_finds p local d type.inside.unit).1 type.inside.holds) ∙ type.inside.has_path

none_less : (d : ℕ) → d < 0 → ⊥
none_less d lt = omega (arith, lt)

before_more : (c d more : ℕ) → c < d → d < suc more → c < more
before_more c d more before lt = omega (arith, before, lt)

path_by : (p : Rows) → IsLocal p → {d : ℕ} {path : List Text} → CanonicalName p d path → (k : ℕ) → d < k → path_within p k d ≡ path
path_by p local {d = d} named zero lt = absurd (none_less d lt)
path_by p local (CanonicalName.top {d = d} {path = path} type is_named) (suc more) lt =
    ap (λ xs. xs ++ name p d ∷ []) (ap (λ o. option_map_or (λ e. path_within p more e) o (package_path p d)) (not_declared p d type.top) ∙ package_is p local d path type)
path_by p local (CanonicalName.member {c = c} {d = d} {path = path} declared type above) (suc more) lt =
    ap (λ xs. xs ++ name p d ∷ []) (ap (λ o. option_map_or (λ e. path_within p more e) o (package_path p d)) ((declaring_finds p d c).1 declared)
    ∙ path_by p local {d = c} {path = path} above more (before_more c d more (declared_after p local.tree c d declared) lt))

pub path_told : (p : Rows) → IsLocal p → (d : ℕ) (path : List Text) → d < length p → CanonicalName p d path → canonical_path p d ≡ path
path_told p local d path lt named = path_by p local named (length p) lt
