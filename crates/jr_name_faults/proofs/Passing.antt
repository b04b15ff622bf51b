-- Rows at which the rules on names are passed over.
use Rattle.std.proofs.Common.{◌≡◌, refl, sym, ap, subst, ℕ, ◌+◌, ◌<◌, Bool, true, false, cond, ◌&&◌, List, append-nil, length, None}
use Rattle.std.proofs.lemmas.Bool.{false≢true}
use Rattle.jr_tree.specs.declared.label.Label.{Label}
use Rattle.jr_tree.specs.declared.label.Label.TheVariants as is
use Rattle.jr_tree.specs.declared.label.ImportKind.TheVariants as importing
use Rattle.jr_tree.specs.declared.label.Role.{Role}
use Rattle.jr_tree.specs.declared.label.Role.TheVariants as role
use Rattle.jr_tree.specs.Rows.{Rows, label, parent, end, role_at}
use Rattle.jr_defs.specs.Referents.{Table}
use Rattle.jr_plain.specs.Declarations.{is_occurrence}
use Rattle.jr_plain.specs.Imports.{is_import_label}
use Rattle.jr_plain.specs.Overloads.{Types}
use Rattle.jr_plain.specs.Same.{same_role}
use Rattle.jr_places.specs.Names.{name_row}
use Rattle.jr_rule.specs.declared.Fault.{Fault}
use Rattle.jr_rule.specs.declared.Rule.{Rule}
use Rattle.jr_rule.specs.Faults.{AreFaultsOf}
use Rattle.jr_faults.specs.Added.{row_if}
use Rattle.jr_faults.proofs.Told.{none_added}
use Rattle.jr_lookup.specs.Scopes.{entry_if}
use Rattle.jr_name_rules.specs.AccessTests.{is_not_accessible}
use Rattle.jr_name_rules.specs.DeclarationTests.{is_local_or_parameter, is_second_local, is_second_label}
use Rattle.jr_name_rules.specs.Found.{imported_type}
use Rattle.jr_name_rules.specs.ImportTests.{is_import}
use Rattle.jr_name_faults.specs.declared.locals.Locals as code
use Rattle.jr_name_faults.specs.Imports.{single_type}
use Rattle.jr_name_faults.specs.Locals.{has_scope, IsBefore, IsEntered}
use Rattle.jr_name_faults.proofs.Scoped.{declared_more}

-- no fault was added, where the rule is not broken
pub not_added : (r : Rule) (n : ℕ) {b : Bool} (old : List Fault) → b ≡ false → AreFaultsOf r (row_if b n) old old
not_added r n old e = subst (λ b. AreFaultsOf r (row_if b n) old old) (sym e) (none_added r old)

untrue : {A : Type 0} → true ≡ false → A
untrue e = absurd (false≢true (sym e))

first_fails : {a : Bool} (b : Bool) → a ≡ false → (a && b) ≡ false
first_fails b e = ap (λ a. a && b) e

skipped : {A : Type 0} {b : Bool} (x y : A) → b ≡ false → cond b x y ≡ y
skipped x y e = ap (λ b. cond b x y) e

-- ---- rows without scope

no_local : (r : Role) → has_scope r ≡ false → same_role r role.Local ≡ false
no_local role.Local e = untrue e
no_local _ e = refl

no_parameter : (r : Role) → has_scope r ≡ false → same_role r role.Parameter ≡ false
no_parameter role.Parameter e = untrue e
no_parameter _ e = refl

no_label : (r : Role) → has_scope r ≡ false → same_role r role.Label ≡ false
no_label role.Label e = untrue e
no_label _ e = refl

neither : (r : Role) → has_scope r ≡ false → is_local_or_parameter r ≡ false
neither role.Local e = untrue e
neither role.Parameter e = untrue e
neither _ e = refl

module _ (p : Rows) (n : ℕ) (none : has_scope (role_at p n) ≡ false) where
  pub no_second_local : is_second_local p n ≡ false
  no_second_local = first_fails _ (neither (role_at p n) none)

  pub no_second_label : is_second_label p n ≡ false
  no_second_label = first_fails _ (no_label (role_at p n) none)

-- nothing is opened
pub declared_none : {p : Rows} {n : ℕ} (locals : code.Locals) → IsEntered p n locals → n < length p → has_scope (role_at locals.rows.now n) ≡ false → IsBefore p (n + 1) locals
declared_none {p} {n} locals h lt none = declared_more locals locals (name_row p n) None h lt refl refl refl refl
    (sym (skipped _ locals.variables.ends.items (no_local (role_at locals.rows.now n) none)))
    (sym (skipped _ locals.labels.ends.items (no_label (role_at locals.rows.now n) none)))
    (sym (ap (λ b. entry_if b (parent locals.rows.now n) (name_row p n) n) (no_parameter (role_at locals.rows.now n) none)))
    (sym (append-nil locals.listed))

-- ---- rows that are no imports

other_import : (l : Label) → is_import l ≡ false → is_import_label importing.Single l ≡ false
other_import (is.Import form) e = untrue e
other_import _ e = refl

pub imports_none : (p : Rows) (t : Table) (n : ℕ) → is_import (label p n) ≡ false → None ≡ single_type p t n
imports_none p t n e = sym (skipped (imported_type p t n) None (other_import (label p n) e))

-- ---- rows that refer to nothing

pub hides_nothing : (p : Rows) (t : Table) (types : Types) (n : ℕ) → is_occurrence p n ≡ false → is_not_accessible p t types n ≡ false
hides_nothing p t types n e = first_fails _ e
