-- The faults of the rules on names that are added, row by row, and these rules in the list of the definition.
use Rattle.std.proofs.Common.{◌≡◌, refl, sym, ◌∙◌, ap, subst, arith, add-one, ℕ, ◌+◌, ◌-◌, Bool, true, false, ◌||◌, List, ◌++◌, length, nat_eq}
use Rattle.jr_tree.specs.Rows.{Rows}
use Rattle.jr_defs.specs.Referents.{Table}
use Rattle.jr_plain.specs.Search.{has, all_such}
use Rattle.jr_plain.specs.Overloads.{Types}
use Rattle.jr_rule.specs.declared.Fault.{Fault}
use Rattle.jr_rule.specs.declared.Rule.{Rule}
use Rattle.jr_rule.specs.declared.Rule.TheVariants as rule
use Rattle.jr_rule.specs.Faults.{AreFaultsOf}
use Rattle.jr_faults.specs.Added.{row_if}
use Rattle.jr_faults.proofs.Told.{none_added, only_kept, only_more, row_more, rows_told}
use Rattle.jr_name_rules.specs.AccessTests.{is_not_accessible}
use Rattle.jr_name_rules.specs.Found.{is_next}
use Rattle.jr_name_rules.specs.DeclarationTests.{has_type_clash, is_second_field, is_second_method, is_second_constructor, is_second_local, is_second_label}
use Rattle.jr_name_rules.specs.ImportTests.{has_import_clash, is_import_not_canonical, has_static_import_fault}
use Rattle.jr_name_rules.specs.HeaderTests.{has_wrong_supertype}
use Rattle.jr_name_rules.specs.Computed.{rule_if, broken_at}
use Rattle.jr_view.specs.declared.View.{View}
use Rattle.jr_name_faults.specs.declared.locals.Locals as code
use Rattle.jr_name_faults.specs.declared.imports.Imports.{Imports}
use Rattle.jr_name_faults.specs.Imports.{AreImportsTo}
use Rattle.jr_name_faults.specs.Locals.{IsBefore}
use Rattle.jr_name_faults.specs.Faults.{is_broken, is_of_names, AreOfNames, AreExactFaults}
use Rattle.jr_name_faults.specs.Views.{rows_in, table_in, types_in}

-- ---- what an import names stands behind it

pub next_names : {old new : List Fault} (r : Rule) (test : ℕ → Bool) (n import : ℕ) → import + 1 ≡ n → AreFaultsOf r (row_if (test import) n) old new → AreFaultsOf r (row_if (is_next test n) n) old new
next_names {old} {new} r test n import next h = subst (λ b. AreFaultsOf r (row_if b n) old new) (sym (ap (is_next test) (sym next ∙ add-one import))) h

pub first_names : (r : Rule) (test : ℕ → Bool) (n : ℕ) (old : List Fault) → n ≡ 0 → AreFaultsOf r (row_if (is_next test n) n) old old
first_names r test n old none = subst (λ m. AreFaultsOf r (row_if (is_next test m) m) old old) (sym none) (none_added r old)

-- ---- the rows so far

pub record AreFaultsTo (view : View) (n : ℕ) (old now : List Fault) (locals : code.Locals) : Type 0 where
  pub before : IsBefore (rows_in view) n locals
  pub local_names : AreFaultsOf rule.LocalNames (all_such n (is_second_local (rows_in view))) old now
  pub labels : AreFaultsOf rule.Labels (all_such n (is_second_label (rows_in view))) old now

pub faults_start : (view : View) (old : List Fault) (locals : code.Locals) → IsBefore (rows_in view) 0 locals → AreFaultsTo view 0 old old locals
faults_start view old locals h = record { before = h; local_names = none_added rule.LocalNames old; labels = none_added rule.Labels old }

pub faults_more : {view : View} {n : ℕ} {old now new : List Fault} {was locals : code.Locals} → AreFaultsTo view n old now was → IsBefore (rows_in view) (n + 1) locals
    → AreFaultsOf rule.LocalNames (row_if (is_second_local (rows_in view) n) n) now new → AreFaultsOf rule.Labels (row_if (is_second_label (rows_in view) n) n) now new → AreFaultsTo view (n + 1) old new locals
faults_more {view} {n} h before names labels = record {
  before = before;
  local_names = row_more n rule.LocalNames (is_second_local (rows_in view)) h.local_names names;
  labels = row_more n rule.Labels (is_second_label (rows_in view)) h.labels labels;
}

-- the same of access
pub record AreAccessFaultsTo (view : View) (n : ℕ) (old now : List Fault) : Type 0 where
  pub access : AreFaultsOf rule.Access (all_such n (is_not_accessible (rows_in view) (table_in view) (types_in view))) old now

pub access_start : (view : View) (old : List Fault) → AreAccessFaultsTo view 0 old old
access_start view old = record { access = none_added rule.Access old }

pub access_more : {view : View} {n : ℕ} {old now new : List Fault} → AreAccessFaultsTo view n old now → AreFaultsOf rule.Access (row_if (is_not_accessible (rows_in view) (table_in view) (types_in view) n) n) now new → AreAccessFaultsTo view (n + 1) old new
access_more {view} {n} h access = record { access = row_more n rule.Access (is_not_accessible (rows_in view) (table_in view) (types_in view)) h.access access }

-- the same of imports
pub record AreImportFaultsTo (view : View) (n : ℕ) (old now : List Fault) (imports : Imports) : Type 0 where
  pub passed : AreImportsTo (rows_in view) (table_in view) (length (rows_in view)) (n - 1) imports
  pub import_names : AreFaultsOf rule.ImportNames (all_such n (is_next (has_import_clash (rows_in view) (table_in view)))) old now
  pub imported_types : AreFaultsOf rule.ImportedTypes (all_such n (is_next (is_import_not_canonical (rows_in view) (table_in view)))) old now

pub imports_start : (view : View) (old : List Fault) (imports : Imports) → AreImportsTo (rows_in view) (table_in view) (length (rows_in view)) 0 imports → AreImportFaultsTo view 0 old old imports
imports_start view old imports h = record { passed = h; import_names = none_added rule.ImportNames old; imported_types = none_added rule.ImportedTypes old }

pub imports_more : {view : View} {n : ℕ} {old now new : List Fault} {was imports : Imports} → AreImportFaultsTo view n old now was → AreImportsTo (rows_in view) (table_in view) (length (rows_in view)) n imports
    → AreFaultsOf rule.ImportNames (row_if (is_next (has_import_clash (rows_in view) (table_in view)) n) n) now new
    → AreFaultsOf rule.ImportedTypes (row_if (is_next (is_import_not_canonical (rows_in view) (table_in view)) n) n) now new → AreImportFaultsTo view (n + 1) old new imports
imports_more {view} {n} {old} {now} {new} {was} {imports} h passed names types = record {
  passed = subst (λ m. AreImportsTo (rows_in view) (table_in view) (length (rows_in view)) m imports) (omega arith) passed;
  import_names = row_more n rule.ImportNames (is_next (has_import_clash (rows_in view) (table_in view))) h.import_names names;
  imported_types = row_more n rule.ImportedTypes (is_next (is_import_not_canonical (rows_in view) (table_in view))) h.imported_types types;
}

-- the same of static imports
pub record AreStaticFaultsTo (view : View) (n : ℕ) (old now : List Fault) : Type 0 where
  pub static_imports : AreFaultsOf rule.StaticImports (all_such n (has_static_import_fault (rows_in view) (table_in view))) old now

pub statics_start : (view : View) (old : List Fault) → AreStaticFaultsTo view 0 old old
statics_start view old = record { static_imports = none_added rule.StaticImports old }

pub statics_more : {view : View} {n : ℕ} {old now new : List Fault} → AreStaticFaultsTo view n old now → AreFaultsOf rule.StaticImports (row_if (has_static_import_fault (rows_in view) (table_in view) n) n) now new → AreStaticFaultsTo view (n + 1) old new
statics_more {view} {n} h statics = record { static_imports = row_more n rule.StaticImports (has_static_import_fault (rows_in view) (table_in view)) h.static_imports statics }

-- those of other rules
pub names_start : (old : List Fault) → AreOfNames old old
names_start old = only_kept is_of_names old

pub names_more : {old now new : List Fault} → AreOfNames old now → AreOfNames now new → AreOfNames old new
names_more h k = only_more h k

-- ---- the rules in the list of the definition

-- a rule that is not the one
past : (b : Bool) (k r : ℕ) (rest : List ℕ) → nat_eq k r ≡ false → has (rule_if b k ++ rest) r ≡ has rest r
past true k r rest e = ap (λ c. c || has rest r) e
past false k r rest e = refl

-- the one
met : (b : Bool) (k r : ℕ) (rest : List ℕ) → nat_eq k r ≡ true → has rest r ≡ false → has (rule_if b k ++ rest) r ≡ b
met true k r rest e none = ap (λ c. c || has rest r) e
met false k r rest e none = none

last : (b : Bool) (k r : ℕ) → nat_eq k r ≡ false → has (rule_if b k) r ≡ false
last true k r e = ap (λ c. c || false) e
last false k r e = refl

sole : (b : Bool) (k r : ℕ) → nat_eq k r ≡ true → has (rule_if b k) r ≡ b
sole true k r e = ap (λ c. c || false) e
sole false k r e = refl

module _ (a b c d e f g h i j k : Bool) where
  abbrev l47 : List ℕ
  l47 = rule_if k 47

  abbrev l13 : List ℕ
  l13 = rule_if j 13 ++ l47

  abbrev l10 : List ℕ
  l10 = rule_if i 10 ++ l13

  abbrev l9 : List ℕ
  l9 = rule_if h 9 ++ l10

  abbrev l8 : List ℕ
  l8 = rule_if g 8 ++ l9

  abbrev l7 : List ℕ
  l7 = rule_if f 7 ++ l8

  abbrev l6 : List ℕ
  l6 = rule_if e 6 ++ l7

  abbrev l5 : List ℕ
  l5 = rule_if d 5 ++ l6

  abbrev l4 : List ℕ
  l4 = rule_if c 4 ++ l5

  abbrev l3 : List ℕ
  l3 = rule_if b 3 ++ l4

  abbrev l2 : List ℕ
  l2 = rule_if a 2 ++ l3

  sixth : has l2 6 ≡ e
  sixth = past a 2 6 l3 refl ∙ past b 3 6 l4 refl ∙ past c 4 6 l5 refl ∙ past d 5 6 l6 refl ∙ met e 6 6 l7 refl (past f 7 6 l8 refl ∙ past g 8 6 l9 refl ∙ past h 9 6 l10 refl ∙ past i 10 6 l13 refl ∙ past j 13 6 l47 refl ∙ last k 47 6 refl)

  seventh : has l2 7 ≡ f
  seventh = past a 2 7 l3 refl ∙ past b 3 7 l4 refl ∙ past c 4 7 l5 refl ∙ past d 5 7 l6 refl ∙ past e 6 7 l7 refl ∙ met f 7 7 l8 refl (past g 8 7 l9 refl ∙ past h 9 7 l10 refl ∙ past i 10 7 l13 refl ∙ past j 13 7 l47 refl ∙ last k 47 7 refl)

  eighth : has l2 8 ≡ g
  eighth = past a 2 8 l3 refl ∙ past b 3 8 l4 refl ∙ past c 4 8 l5 refl ∙ past d 5 8 l6 refl ∙ past e 6 8 l7 refl ∙ past f 7 8 l8 refl ∙ met g 8 8 l9 refl (past h 9 8 l10 refl ∙ past i 10 8 l13 refl ∙ past j 13 8 l47 refl ∙ last k 47 8 refl)

  ninth : has l2 9 ≡ h
  ninth = past a 2 9 l3 refl ∙ past b 3 9 l4 refl ∙ past c 4 9 l5 refl ∙ past d 5 9 l6 refl ∙ past e 6 9 l7 refl ∙ past f 7 9 l8 refl ∙ past g 8 9 l9 refl ∙ met h 9 9 l10 refl (past i 10 9 l13 refl ∙ past j 13 9 l47 refl ∙ last k 47 9 refl)

  tenth : has l2 10 ≡ i
  tenth = past a 2 10 l3 refl ∙ past b 3 10 l4 refl ∙ past c 4 10 l5 refl ∙ past d 5 10 l6 refl ∙ past e 6 10 l7 refl ∙ past f 7 10 l8 refl ∙ past g 8 10 l9 refl ∙ past h 9 10 l10 refl ∙ met i 10 10 l13 refl (past j 13 10 l47 refl ∙ last k 47 10 refl)

  forty_seventh : has l2 47 ≡ k
  forty_seventh = past a 2 47 l3 refl ∙ past b 3 47 l4 refl ∙ past c 4 47 l5 refl ∙ past d 5 47 l6 refl ∙ past e 6 47 l7 refl ∙ past f 7 47 l8 refl ∙ past g 8 47 l9 refl ∙ past h 9 47 l10 refl ∙ past i 10 47 l13 refl ∙ past j 13 47 l47 refl ∙ sole k 47 47 refl

module _ (p : Rows) (t : Table) (types : Types) (n : ℕ) where
  local_names_at : has (broken_at p t types n) 6 ≡ is_second_local p n
  local_names_at = sixth (has_type_clash p n) (is_second_field p n) (is_second_method p t n) (is_second_constructor p t n) (is_second_local p n) (is_second_label p n) (is_next (has_import_clash p t) n) (is_next (is_import_not_canonical p t) n) (is_not_accessible p t types n) (has_wrong_supertype p t n) (has_static_import_fault p t n)

  labels_at : has (broken_at p t types n) 7 ≡ is_second_label p n
  labels_at = seventh (has_type_clash p n) (is_second_field p n) (is_second_method p t n) (is_second_constructor p t n) (is_second_local p n) (is_second_label p n) (is_next (has_import_clash p t) n) (is_next (is_import_not_canonical p t) n) (is_not_accessible p t types n) (has_wrong_supertype p t n) (has_static_import_fault p t n)

  import_names_at : has (broken_at p t types n) 8 ≡ is_next (has_import_clash p t) n
  import_names_at = eighth (has_type_clash p n) (is_second_field p n) (is_second_method p t n) (is_second_constructor p t n) (is_second_local p n) (is_second_label p n) (is_next (has_import_clash p t) n) (is_next (is_import_not_canonical p t) n) (is_not_accessible p t types n) (has_wrong_supertype p t n) (has_static_import_fault p t n)

  imported_types_at : has (broken_at p t types n) 9 ≡ is_next (is_import_not_canonical p t) n
  imported_types_at = ninth (has_type_clash p n) (is_second_field p n) (is_second_method p t n) (is_second_constructor p t n) (is_second_local p n) (is_second_label p n) (is_next (has_import_clash p t) n) (is_next (is_import_not_canonical p t) n) (is_not_accessible p t types n) (has_wrong_supertype p t n) (has_static_import_fault p t n)

  access_at : has (broken_at p t types n) 10 ≡ is_not_accessible p t types n
  access_at = tenth (has_type_clash p n) (is_second_field p n) (is_second_method p t n) (is_second_constructor p t n) (is_second_local p n) (is_second_label p n) (is_next (has_import_clash p t) n) (is_next (is_import_not_canonical p t) n) (is_not_accessible p t types n) (has_wrong_supertype p t n) (has_static_import_fault p t n)

  static_imports_at : has (broken_at p t types n) 47 ≡ has_static_import_fault p t n
  static_imports_at = forty_seventh (has_type_clash p n) (is_second_field p n) (is_second_method p t n) (is_second_constructor p t n) (is_second_local p n) (is_second_label p n) (is_next (has_import_clash p t) n) (is_next (is_import_not_canonical p t) n) (is_not_accessible p t types n) (has_wrong_supertype p t n) (has_static_import_fault p t n)

told : (view : View) (n : ℕ) (old now : List Fault) → n ≡ length (rows_in view) → (r : Rule) (test : ℕ → Bool) → ((k : ℕ) → is_broken view r k ≡ test k) → AreFaultsOf r (all_such n test) old now → AreExactFaults view r old now
told view n old now whole r test same k = subst (λ m. AreFaultsOf r (all_such m (is_broken view r)) old now) whole (rows_told test (is_broken view r) n r (λ m. sym (same m)) k)

pub told_names : {view : View} {n : ℕ} {old now : List Fault} {locals : code.Locals} → n ≡ length (rows_in view) → AreFaultsTo view n old now locals → AreExactFaults view rule.LocalNames old now
told_names {view} {n} {old} {now} whole h =
    told view n old now whole rule.LocalNames (is_second_local (rows_in view)) (local_names_at (rows_in view) (table_in view) (types_in view)) h.local_names

pub told_labels : {view : View} {n : ℕ} {old now : List Fault} {locals : code.Locals} → n ≡ length (rows_in view) → AreFaultsTo view n old now locals → AreExactFaults view rule.Labels old now
told_labels {view} {n} {old} {now} whole h = told view n old now whole rule.Labels (is_second_label (rows_in view)) (labels_at (rows_in view) (table_in view) (types_in view)) h.labels

pub told_access : {view : View} {n : ℕ} {old now : List Fault} → n ≡ length (rows_in view) → AreAccessFaultsTo view n old now → AreExactFaults view rule.Access old now
told_access {view} {n} {old} {now} whole h = told view n old now whole rule.Access (is_not_accessible (rows_in view) (table_in view) (types_in view))
    (access_at (rows_in view) (table_in view) (types_in view)) h.access

pub told_imports : {view : View} {n : ℕ} {old now : List Fault} {imports : Imports} → n ≡ length (rows_in view) → AreImportFaultsTo view n old now imports → AreExactFaults view rule.ImportNames old now
told_imports {view} {n} {old} {now} whole h = told view n old now whole rule.ImportNames (is_next (has_import_clash (rows_in view) (table_in view)))
    (import_names_at (rows_in view) (table_in view) (types_in view)) h.import_names

pub told_types : {view : View} {n : ℕ} {old now : List Fault} {imports : Imports} → n ≡ length (rows_in view) → AreImportFaultsTo view n old now imports → AreExactFaults view rule.ImportedTypes old now
told_types {view} {n} {old} {now} whole h = told view n old now whole rule.ImportedTypes (is_next (is_import_not_canonical (rows_in view) (table_in view)))
    (imported_types_at (rows_in view) (table_in view) (types_in view)) h.imported_types

pub told_statics : {view : View} {n : ℕ} {old now : List Fault} → n ≡ length (rows_in view) → AreStaticFaultsTo view n old now → AreExactFaults view rule.StaticImports old now
told_statics {view} {n} {old} {now} whole h = told view n old now whole rule.StaticImports (has_static_import_fault (rows_in view) (table_in view))
    (static_imports_at (rows_in view) (table_in view) (types_in view)) h.static_imports
