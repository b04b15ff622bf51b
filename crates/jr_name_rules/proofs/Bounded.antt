-- A row at which a rule is broken is a row of the program.
use Rattle.std.proofs.Common.{◌≡◌, refl, ap, subst, ⊎_elim, arith, ℕ, ◌+◌, ◌<◌, length}
use Rattle.std.proofs.lemmas.Bool.{cases_eq}
use Rattle.jr_tree.specs.declared.label.Label.TheVariants as is
use Rattle.jr_tree.specs.declared.label.ImportKind.{ImportKind}
use Rattle.jr_tree.specs.declared.label.ImportKind.TheVariants as importing
use Rattle.jr_tree.specs.declared.label.Role.TheVariants as role
use Rattle.jr_tree.specs.declared.label.Sought.TheVariants as sought
use Rattle.jr_tree.specs.Labels.{role_of, sought_by}
use Rattle.jr_tree.specs.Rows.{Rows, label}
use Rattle.jr_tree.specs.Below.{IsTypeName}
use Rattle.jr_tree.specs.Local.{IsLocal, StartsAt}
use Rattle.jr_defs.specs.Referents.{Table}
use Rattle.jr_defs.specs.Formed.{IsFormed}
use Rattle.jr_defs.specs.Rules.{Breaks}
use Rattle.jr_plain.proofs.Bounds.{bounded, type_below, constructor_below}
use Rattle.jr_plain.proofs.Enclosed.{declared_below}
use Rattle.jr_plain.proofs.Supertyped.{superclass_name_below, superinterface_name_below}

import_row : (p : Rows) (i : ℕ) (form : ImportKind) → label p i ≡ is.Import form → i < length p
import_row p i form e = bounded (λ l. l ≡ is.Import form) (λ e. cc) p i e

-- where behind each import stands the name that it has
module _ (p : Rows) (t : Table) (named : (i : ℕ) (form : ImportKind) → label p i ≡ is.Import form → i + 1 < length p) where
  local_below : (e : ℕ) → role_of (label p e) ≡ role.Local → e < length p
  local_below e r = bounded (λ l. role_of l ≡ role.Local) (λ e. cc) p e r

  parameter_below : (e : ℕ) → role_of (label p e) ≡ role.Parameter → e < length p
  parameter_below e r = bounded (λ l. role_of l ≡ role.Parameter) (λ e. cc) p e r

  broken_below : {rule n : ℕ} → Breaks p t rule n → n < length p
  broken_below (Breaks.two_types {e = e} h same) = declared_below p h.of_type e h.second
  broken_below (Breaks.two_top_types {e = e} h k same named lt) = type_below p e k.type
  broken_below (Breaks.type_and_subpackage {d = d} h k) = type_below p d h.type
  broken_below (Breaks.type_in_its_name {d = d} type h same) = type_below p d type
  broken_below (Breaks.two_fields {e = e} h same) = declared_below p h.of_type e h.second
  broken_below (Breaks.two_methods {e = e} h same) = declared_below p h.of_type e h.second
  broken_below (Breaks.two_constructors {e = e} h k lt same) = constructor_below p e k.constructor
  broken_below (Breaks.local_in_local {e = e} variable h r same) = local_below e r
  broken_below (Breaks.parameter_in_local {e = e} h r same) = parameter_below e r
  broken_below (Breaks.in_parameter {e = e} h r same) = ⊎_elim (λ r. local_below e r) (λ r. parameter_below e r) r
  broken_below (Breaks.two_parameters {e = e} q r beside same lt) = parameter_below e r
  broken_below (Breaks.label_in_label {e = e} h r same) = bounded (λ l. role_of l ≡ role.Label) (λ e. cc) p e r
  broken_below (Breaks.two_imports {j = j} h k lt same apart) = named j importing.Single k.is_import.import
  broken_below (Breaks.import_and_type {i = i} h top same apart) = named i importing.Single h.is_import.import
  broken_below (Breaks.import_not_canonical {i = i} {form = form} h names other) = named i form h.import
  broken_below (Breaks.not_accessible {o = o} occurs e h hidden) = bounded (λ l. sought_by l ≡ sought.Nothing → ⊥) (λ h. h refl) p o occurs.seeks
  broken_below (Breaks.of_hidden_type {o = o} occurs h) = bounded (λ l. sought_by l ≡ sought.Nothing → ⊥) (λ h. h refl) p o occurs.seeks
  broken_below (Breaks.final_superclass {c = c} {n = n} h e k) = superclass_name_below p c n h
  broken_below (Breaks.interface_as_superclass {c = c} {n = n} h e k) = superclass_name_below p c n h
  broken_below (Breaks.inner_superclass {c = c} {n = n} h e k) = superclass_name_below p c n h
  broken_below (Breaks.class_as_superinterface {c = c} {n = n} h e k) = superinterface_name_below p c n h
  broken_below (Breaks.superinterface_twice {c = c} {m = m} h k lt e f) = superinterface_name_below p c m k
  broken_below (Breaks.imports_nothing {i = i} h none) = import_row p i importing.StaticSingle h.import
  broken_below (Breaks.imports_another {i = i} h type k apart same other) = import_row p i importing.StaticSingle h.is_import.import
  broken_below (Breaks.imports_beside {i = i} h type top same other) = import_row p i importing.StaticSingle h.is_import.import

named_formed : (p : Rows) → IsFormed p → (i : ℕ) (form : ImportKind) → label p i ≡ is.Import form → i + 1 < length p
named_formed p formed i form e = let inside = formed.import_name i form e in let last = formed.tree.last i (import_row p i form e) in omega arith

named_local : (p : Rows) → IsLocal p → (i : ℕ) (form : ImportKind) → label p i ≡ is.Import form → i + 1 < length p
named_local p local i form e =
    let apart : i ≡ 0 → ⊥ = λ z. let at = ap (label p) z in let program = local.program in cc in
    let more : 0 < i = ⊎_elim (λ z. absurd (apart z)) (λ n. omega arith) (cases_eq i 0) in
    let starts = subst (StartsAt p i) e (local.starts i more (import_row p i form e)) in bounded IsTypeName (λ h. h) p (i + 1) starts.named

pub broken_in_formed : (p : Rows) (t : Table) (rule n : ℕ) → IsFormed p → Breaks p t rule n → n < length p
broken_in_formed p t rule n formed h = broken_below p t (named_formed p formed) h

pub broken_in_local : (p : Rows) (t : Table) (rule n : ℕ) → IsLocal p → Breaks p t rule n → n < length p
broken_in_local p t rule n local h = broken_below p t (named_local p local) h
