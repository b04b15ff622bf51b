-- The program under its locks is whole, and its spellings are the first that fit.
use Rattle.std.proofs.Common.{◌≡◌, ◌∙◌, ap, refl, sym, subst, ◌⊎◌, ⊎_elim, inl, inr, arith, ℕ, ◌+◌, ◌<◌, ◌≤◌, Bool, true, false, cond, List, [], ◌∷◌, length, get_or, Option, Some, None, is_some, Decides, slice_index_or}
use Rattle.std.specs.List.{AllByRecursion}
use Rattle.std.specs.Option.{option_map_or}
use Rattle.std.proofs.Math.Path.{fun_ext}
use Rattle.std.proofs.lemmas.Bool.{cases_lt, false≢true}
use Rattle.std.proofs.lemmas.List.{get_or_past}
use Rattle.std.proofs.lemmas.Option.{none-some}
use Rattle.jr_base.specs.declared.constant.Const.{Const}
use Rattle.jr_tree.specs.declared.label.Label.{Label}
use Rattle.jr_tree.specs.declared.label.Label.TheVariants as is
use Rattle.jr_tree.specs.Rows.{Rows, label}
use Rattle.jr_defs.specs.declared.referent.Referent.{Referent}
use Rattle.jr_defs.specs.declared.referent.Referent.TheVariants.{Unbound, ArrayLength, Package, Declared}
use Rattle.jr_defs.specs.declared.referent.RowType.{RowType}
use Rattle.jr_defs.specs.Constants.{ConstantOf, ConstantVariable, HasConstantForm}
use Rattle.jr_defs.specs.Declarations.{IsType, IsVariable}
use Rattle.jr_defs.specs.Imports.{java_lang}
use Rattle.jr_defs.specs.Packages.{InPackage}
use Rattle.jr_defs.specs.Laws.{Picked}
use Rattle.jr_defs.specs.Operators.{assigned_to}
use Rattle.jr_defs.specs.Referents.{Table, entries}
use Rattle.jr_plain.specs.Constants.{converted_as, is_initialized}
use Rattle.jr_plain.specs.Conversions.{Constants, of_two}
use Rattle.jr_plain.specs.Overloads.{Types}
use Rattle.jr_plain.specs.Search.{Finds}
use Rattle.jr_plain.specs.Types.{type_of_declared}
use Rattle.jr_plain.specs.Typing.{IsTypable, IsVariableLabel, expression_types}
use Rattle.jr_plain.proofs.Declared.{type_tells, variable_tells}
use Rattle.jr_plain.proofs.Expressions.{expression_finds}
use Rattle.jr_plain.proofs.Searches.{all}
use Rattle.jr_plain.proofs.Tests.{itself, both, implies}
use Rattle.jr_plain.proofs.Typables.{typable_from_lookup}
use Rattle.jr_plain.proofs.Valued.{constant_form_tells, constant_more, form_constants_find}
use Rattle.jr_places.specs.declared.places.Places.{Places}
use Rattle.jr_places.specs.Tabulated.{tabulated}
use Rattle.jr_places.proofs.Tables.{length-tabulated, tabulated_at}
use Rattle.jr_supers.specs.Supers.{HasNoCycle}
use Rattle.jr_supers.specs.Tabled.{IsSized}
use Rattle.jr_dispatch.specs.Methods.{IsWholeWorld}
use Rattle.jr_dispatch.proofs.Having.{above_then}
use Rattle.jr_headed.specs.Founded.{IsProgram}
use Rattle.jr_lookup.specs.declared.imports.Imports.{Imports}
use Rattle.jr_lookup.specs.declared.scopes.Scopes.{Scopes}
use Rattle.jr_lookup.specs.Behind.{IsTypeLabel}
use Rattle.jr_lookup.specs.Imports.{AreImports}
use Rattle.jr_lookup.specs.Locals.{AreLocalsPlaced}
use Rattle.jr_lookup.specs.Scopes.{AreScopes, AreTops}
use Rattle.jr_constants.specs.declared.constants.Constants as code
use Rattle.jr_constants.specs.declared.value.Value.{Value}
use Rattle.jr_constants.specs.Resting.{values_of, variables_of}
use Rattle.jr_constants.specs.Tables.{item}
use Rattle.jr_constants.specs.Values.{value_in_if}
use Rattle.jr_constants.proofs.Knowing.{value_out}
use Rattle.jr_bind.specs.Confirmed.{is_type_label, is_variable_label, may_refer, may_refer_at, IsProgramOf}
use Rattle.jr_bind.specs.Exact.{IsBoundBy, IsProgramIn}
use Rattle.jr_bind.specs.Looked.{AreNamedSo}
use Rattle.jr_bind.specs.Rebound.{AreLocks}
use Rattle.jr_bind.proofs.Confirmed.{locals_placed, program_in, unbound_past}
use Rattle.jr_prelude.specs.Begins.{BeginsWithLang}
use Rattle.jr_index.specs.NodeRows.{unit_rows}
use Rattle.jr_change.specs.declared.project.Project.{Project}
use Rattle.jr_locks.specs.Changed.{IsChanged, origins_by}
use Rattle.jr_locks.specs.Origins.{no_row, origin_of, row_by}
use Rattle.jr_shapes.specs.declared.spelling.Spelling.{Spelling}
use Rattle.jr_spelling_rules.specs.Fitting.{TellsConstants}
use Rattle.jr_spelling_rules.specs.Spelling.{HasNoSpelling, Written, spelling}
use Rattle.jr_spelling_rules.proofs.Spelled.{no_spelling, spelling_is}
use Rattle.jr_spell.specs.Shaping.{IsWholeView, AreSpelledIn, AreToldIn, HasNoneIn}
use Rattle.jr_spell.specs.declared.fault.SpellFault.TheVariants as spell_fault
use Rattle.jr_spell.specs.Spelling.{HasLock, HasSpelling, HasTypes, IsExactAt, IsSpelled, AreTold, Stays, IsWritten as Says, first_written}
use Rattle.jr_view.specs.declared.View.{View}
use Rattle.jr_front.specs.Bound.{IsBoundIn, rows_in, table_in}
use Rattle.jr_front.specs.Viewed.{IsViewOf}
use Rattle.jr_front.specs.declared.workspace.Workspace.{Workspace}
use Rattle.jr_front.proofs.Bound.{program_of}
use Rattle.jr_member_rules.proofs.Inner.{variable_finds}
use Rattle.jr_engine.specs.Steps.{AreFirst, IsFirst, StaysFirst, is_constant, types, values}
use Rattle.jr_engine.specs.Refusing.{IsHinderedIn, IsShownAt, IsUnspelled}
use Rattle.jr_engine.specs.Written.{AreFirstIn, IsAskedFor, IsBoundByLocks, IsLockedBy, IsSound, is_constant_by, locks_of, rows_of}
use Rattle.jr_engine.specs.declared.fault.StepFault.{StepFault}
use Rattle.jr_engine.specs.declared.fault.StepFault.TheVariants as step
use Rattle.jr_engine.specs.declared.asked.Asked.{Asked}
use Rattle.jr_engine.specs.declared.locked.Locked.{Locked}
use Rattle.jr_engine.proofs.Stepping.{locked_under, locked_world}

-- ---- what locks that may stand at their rows refer to

type_label_tells : (l : Label) → Decides (is_type_label l) (IsTypeLabel l)
type_label_tells (is.Name kind place is_qualified) = (λ e. tt, λ h. refl)
type_label_tells (is.Constructor modifiers) = (λ e. tt, λ h. refl)
type_label_tells _ = (λ e. absurd (false≢true e), λ h. absurd h)

variable_label_tells : (l : Label) → Decides (is_variable_label l) (IsVariableLabel l)
variable_label_tells (is.Name kind place is_qualified) = (λ e. tt, λ h. refl)
variable_label_tells is.Select = (λ e. tt, λ h. refl)
variable_label_tells is.SuperSelect = (λ e. tt, λ h. refl)
variable_label_tells _ = (λ e. absurd (false≢true e), λ h. absurd h)

module _ (p : Rows) (table : List Referent) (locks : AreLocks p table) where
  inside : (n : ℕ) (a : Referent) → entries table n ≡ a → (Unbound ≡ a → ⊥) → n < length p
  inside n a e apart = ⊎_elim (λ lt. lt) (λ le. absurd (apart (sym (unbound_past p table locks.size locks.may n le) ∙ e))) (cases_lt n (length p))

  may_at : (n : ℕ) (a : Referent) → entries table n ≡ a → (Unbound ≡ a → ⊥) → may_refer p (label p n) a ≡ true
  may_at n a e apart = subst (λ x. may_refer p (label p n) x ≡ true) e
      ((all (may_refer_at p (entries table)) (λ k. may_refer_at p (entries table) k ≡ true) (λ k. itself (may_refer_at p (entries table) k)) (length p)).0 locks.may n (inside n a e apart))

  declares_at : (n d : ℕ) (level : Option ℕ) → entries table n ≡ Declared d level → (IsType p d → IsTypeLabel (label p n)) × (IsVariable p d → IsVariableLabel (label p n))
  declares_at n d level e = (both (implies (type_tells p d) (type_label_tells (label p n))) (implies (variable_tells p d) (variable_label_tells (label p n)))).0 (may_at n (Declared d level) e (λ e. cc))

  named_so : AreNamedSo p (entries table)
  named_so = record {
    refers = record {
      type = λ n d level e. (declares_at n d level e).0;
      packages = λ n e. (type_label_tells (label p n)).0 (may_at n Package e (λ e. cc));
    };
    variable = λ n d level e. (declares_at n d level e).1;
    length_of = λ n e. (variable_label_tells (label p n)).0 (may_at n ArrayLength e (λ e. cc));
  }

-- ---- the tables of the program under its locks

some_value : (texts : List (List ℕ)) (value : Option Value) → is_some value ≡ is_some (value_in_if texts value)
some_value texts None = refl
some_value texts (Some value) = refl

module _ (asked : Asked) (locked : Locked) (program : IsProgram (rows_of locked)) (begins : BeginsWithLang (rows_of locked)) (sound : IsSound asked locked) (is : IsBoundByLocks locked) where
  abbrev p : Rows
  p = rows_of locked

  abbrev t : Table
  t = table_in locked.program

  abbrev found : code.Constants
  found = locked.program.bound.value.constants.value

  founded : IsProgramOf p locked.program.places.value locked.program.scopes.value
  founded = program_of p begins locked.program.places.value locked.program.scopes.value program is.places is.scopes is.tops

  inside_program : IsProgramIn p locked.program.places.value
  inside_program = program_in p locked.program.places.value locked.program.scopes.value founded sound.well

  under : IsBoundBy p locked.program.places.value locked.program.bound.value
  under = locked_under locked program sound.well is

  named : AreNamedSo p t
  named = named_so p locked.program.bound.value.table.items sound.locks

  acyclic : HasNoCycle p t
  acyclic = is.acyclic inside_program.well inside_program.bare

  typable : IsTypable p t
  typable = record {
    headed = inside_program.well.headed;
    one_string = founded.one_string;
    variable = named.variable;
    length_of = named.length_of;
    acyclic = λ d s up down. absurd (acyclic d (above_then p t inside_program.bare up down));
  }

  values_are : values_of found ≡ values p t
  values_are = fun_ext (under.constants_are.whole typable)

  abbrev types_by : List (Option RowType) → Types
  types_by all n = slice_index_or all n None

  types_are : types_by locked.program.bound.value.types.items ≡ types p t
  types_are = fun_ext under.types_are ∙ ap (λ (c : Constants). expression_types p t c) values_are

  values_find : (n : ℕ) → Finds (values p t n) (λ v. ConstantOf p t (HasConstantForm p t) n v)
  values_find = form_constants_find p t typable

  has_types : HasTypes p t (types p t)
  has_types = record { refers = named.refers; few = sound.few_new; typed = expression_finds p t typable (HasConstantForm p t) (values p t) values_find }

  -- ---- which variables are constant

  abbrev picked : ℕ → Bool
  picked = under.constants_are.formed.picked

  abbrev is_variable_constant : ℕ → Bool
  is_variable_constant d = is_some (item found.variables.items d)

  form_out : (n : ℕ) → Picked picked n → HasConstantForm p t n
  form_out n h = (constant_form_tells p t n).0 (sym (under.constants_are.formed.formed n) ∙ h)

  variable_wider : (d : ℕ) (w : Const) → ConstantVariable p t (Picked picked) d w → ConstantVariable p t (HasConstantForm p t) d w
  variable_wider d w (ConstantVariable.variable {v = v} x f i a b c m made) = ConstantVariable.variable x f i a b c (constant_more p t (Picked picked) (HasConstantForm p t) form_out (d + 2) v m) made

  variable_out : (d : ℕ) (w : Const) → variables_of found d ≡ Some w → ConstantVariable p t (HasConstantForm p t) d w
  variable_out d w e = variable_wider d w (value_out (λ m w. ConstantVariable p t (Picked picked) m w) found.texts found.variables.items under.constants_are.formed.at_rest.known.of_variables d w e)

  variable_in : (d : ℕ) (w : Const) → ConstantVariable p t (HasConstantForm p t) d w → (x : Const) × (variables_of found d ≡ Some x)
  variable_in d w c = by (is_initialized p d) refl ((variable_finds p t (values p t) values_find d w).1 c)
    where
      by : (b : Bool) → is_initialized p d ≡ b → cond b (of_two (converted_as p assigned_to) (type_of_declared p t d) (values p t (d + 2))) None ≡ Some w → (x : Const) × (variables_of found d ≡ Some x)
      by true is made = under.constants_are.formed.at_rest.resting d is w (ap (λ (c : Constants). of_two (converted_as p assigned_to) (type_of_declared p t d) (c (d + 2))) values_are ∙ made)
      by false is made = absurd (none-some w made)

  tells : TellsConstants p t is_variable_constant
  tells d = (λ e. to (variables_of found d) refl (sym (some_value found.texts (item found.variables.items d)) ∙ e), λ c. some_value found.texts (item found.variables.items d) ∙ ap is_some (variable_in d c.0 c.1).1)
    where
      to : (o : Option Const) → variables_of found d ≡ o → is_some (variables_of found d) ≡ true → (v : Const) × ConstantVariable p t (HasConstantForm p t) d v
      to None e h = absurd (false≢true (sym (ap is_some e) ∙ h))
      to (Some w) e h = (w, variable_out d w e)

  -- ---- its view

  module _ (view : View) (of : IsViewOf p locked.program.places.value locked.program.scopes.value locked.program.bound.value view) where
    world : IsWholeWorld (entries view.sight.world.under.table.now) view.sight.world
    world = locked_world locked view program sound.well is of

    scopes_so : AreScopes view.sight.world.under.rows.now view.sight.scopes.now
    scopes_so = subst (λ (s : Scopes). AreScopes view.sight.world.under.rows.now s) (sym of.scopes_are) (subst (λ (r : Rows). AreScopes r locked.program.scopes.value) (sym of.rows_are) (is.scopes inside_program.placed))

    tops_so : AreTops view.sight.world.under.rows.now view.sight.world.under.places.now view.sight.scopes.now
    tops_so = subst (λ (s : Scopes). AreTops view.sight.world.under.rows.now view.sight.world.under.places.now s) (sym of.scopes_are)
        (subst (λ (x : Places). AreTops view.sight.world.under.rows.now x locked.program.scopes.value) (sym of.places_are)
        (subst (λ (r : Rows). AreTops r locked.program.places.value locked.program.scopes.value) (sym of.rows_are) (is.tops inside_program.placed)))

    imports_so : AreImports view.sight.world.under.rows.now (entries view.sight.world.under.table.now) view.sight.imports.now
    imports_so = subst (λ (i : Imports). AreImports view.sight.world.under.rows.now (entries view.sight.world.under.table.now) i) (sym of.imports_are)
        (subst (λ (x : List Referent). AreImports view.sight.world.under.rows.now (entries x) locked.program.bound.value.imports.value) (sym of.table_is)
        (subst (λ (r : Rows). AreImports r t locked.program.bound.value.imports.value) (sym of.rows_are) (is.imports inside_program.placed)))

    sized_so : IsSized view.sight.world.under.rows.now
    sized_so = subst (λ (r : Rows). IsSized r) (sym of.rows_are) sound.well.sized

    whole : IsWholeView view
    whole = record {
      sight_is = record {
        few = sized_so.few;
        world = world.world_is;
        scopes = scopes_so;
        tops = tops_so;
        imports = imports_so;
        seen = record { same = λ i import. refl };
        lang = subst (λ (r : Rows). InPackage r java_lang 1) (sym of.rows_are) founded.lang;
      };
      placed = subst (λ (r : Rows). AreLocalsPlaced r) (sym of.rows_are) (locals_placed p locked.program.places.value locked.program.scopes.value founded sound.well);
      can = record { bare = world.bare; results = record { sized = sized_so; same = λ m e. refl } };
    }

-- ---- which references are to be constant expressions

old_values : (w : Workspace) → IsBoundIn w → values_of w.bound.value.constants.value ≡ values (rows_in w) (table_in w)
old_values w bound = fun_ext (bound.binding.binding.under.constants_are.whole
    (typable_from_lookup (rows_in w) (table_in w) (HasConstantForm (rows_in w) (table_in w)) bound.binding.binding.under.seen.above.well.headed bound.of.one_string
    (λ d s up down. absurd (bound.binding.binding.acyclic d (above_then (rows_in w) (table_in w) (program_in (rows_in w) w.places.value w.scopes.value bound.of bound.binding.binding.well).bare up down)))
    bound.binding.binding.is_binding.bound))

some_item : (c : code.Constants) (of : Constants) → values_of c ≡ of → (n : ℕ) → is_some (item c.values.items n) ≡ is_some (of n)
some_item c of same n = some_value c.texts (item c.values.items n) ∙ ap (λ (f : Constants). is_some (f n)) same

module _ (asked : Asked) (locked : Locked) (bound : IsBoundIn asked.old.now) (program : IsProgram (rows_of locked)) (begins : BeginsWithLang (rows_of locked)) (sound : IsSound asked locked) (by : IsLockedBy asked locked)
    (is : IsBoundByLocks locked) where
  abbrev q : Rows
  q = rows_of locked

  abbrev l : Table
  l = table_in locked.program

  abbrev new : code.Constants
  new = locked.program.bound.value.constants.value

  abbrev was : Constants
  was = values (rows_in asked.old.now) (table_in asked.old.now)

  abbrev origin : List ℕ
  origin = origins_by asked.change.now

  abbrev constant : ℕ → Bool
  constant = is_constant (rows_in asked.old.now) (table_in asked.old.now) asked.change.now q l

  abbrev chosen : (ℕ → Bool) → List ℕ → Bool → ℕ → Bool
  chosen old froms here n = option_map_or old (row_by (origin_of froms n)) here

  new_values : values_of new ≡ values q l
  new_values = values_are asked locked program begins sound is

  by_is : (n : ℕ) → is_constant_by asked locked n ≡ constant n
  by_is n = ap (λ (all : List ℕ). chosen (λ m. is_some (item asked.old.now.bound.value.constants.value.values.items m)) all (is_some (item new.values.items n)) n) by.origin
      ∙ ap (λ (old : ℕ → Bool). chosen old origin (is_some (item new.values.items n)) n) (fun_ext (some_item asked.old.now.bound.value.constants.value was (old_values asked.old.now bound)))
      ∙ ap (λ (here : Bool). chosen (λ m. is_some (was m)) origin here n) (some_item new (values q l) new_values n)

  sizes : length locked.locks.origin.items ≡ length q
  sizes = ap (λ (all : List ℕ). length all) by.origin ∙ by.changed.count

  none_past : (n : ℕ) → length q ≤ n → constant n ≡ false
  none_past n le =
      let size : length new.values.items ≡ length q = (under asked locked program begins sound is).constants_are.formed.at_rest.known.size in
      let none : item new.values.items n ≡ None = get_or_past new.values.items n None (omega (arith, le, size)) in
      ap (λ m. option_map_or (λ from. is_some (was from)) (row_by m) (is_some (values q l n))) (get_or_past origin n no_row (omega (arith, le, by.changed.count)))
      ∙ sym (some_item new (values q l) new_values n) ∙ ap (λ (o : Option Value). is_some o) none

  constant_at : (all : List Bool) → all ≡ tabulated (is_constant_by asked locked) (length locked.locks.origin.items) → (n : ℕ) → slice_index_or all n false ≡ constant n
  constant_at all e n = ap (λ (all : List Bool). get_or all n false) e ∙ ⊎_elim inside past (cases_lt n (length locked.locks.origin.items))
    where
      inside : n < length locked.locks.origin.items → get_or (tabulated (is_constant_by asked locked) (length locked.locks.origin.items)) n false ≡ constant n
      inside lt = tabulated_at (is_constant_by asked locked) false (length locked.locks.origin.items) n lt ∙ by_is n

      past : length locked.locks.origin.items ≤ n → get_or (tabulated (is_constant_by asked locked) (length locked.locks.origin.items)) n false ≡ constant n
      past le = let size : length (tabulated (is_constant_by asked locked) (length locked.locks.origin.items)) ≡ length locked.locks.origin.items = length-tabulated (is_constant_by asked locked) (length locked.locks.origin.items) in
          get_or_past (tabulated (is_constant_by asked locked) (length locked.locks.origin.items)) n false (omega (arith, le, size)) ∙ sym (none_past n (omega (arith, le, sizes)))

  -- ---- spellings

  abbrev AreSpelledBy : Rows → Table → Types → (ℕ → Bool) → ℕ → (ℕ → Bool) → List Spelling → Type 0
  AreSpelledBy r x type_of constant first variable all = AllByRecursion (λ a. IsSpelled r x type_of constant first variable a) all

  says_something : {n : ℕ} {o : Option Spelling} {w : Option Written} → Says n o w → (a : Spelling) → o ≡ Some a → w ≡ None → ⊥
  says_something Says.none a e f = none-some a e
  says_something (Says.some {w = written} r x y z u) a e f = none-some written (sym f)

  each_of : (P Q : Spelling → Type 0) → ((a : Spelling) → P a → Q a) → (all : List Spelling) → AllByRecursion P all → AllByRecursion Q all
  each_of P Q more [] h = tt
  each_of P Q more (a ∷ all) h = (more a h.0, each_of P Q more all h.1)

  first_of : (a : Spelling) (o : Option Written) → spelling q l (types q l) constant (first_written (unit_rows q (length q))) a.row (is_variable_constant asked locked program begins sound is) ≡ o → Says a.row (Some a) o
      → IsFirst (rows_in asked.old.now) (table_in asked.old.now) asked.change.now q l a
  first_of a None e says = absurd (says_something says a refl refl)
  first_of a (Some written) e says = record {
    written = written;
    first = spelling_is q l (types q l) constant (first_written (unit_rows q (length q))) a.row (is_variable_constant asked locked program begins sound is)
        (typable asked locked program begins sound is).headed (tells asked locked program begins sound is) written e;
    says = says;
  }

  abbrev start : ℕ
  start = first_written (unit_rows q (length q))

  abbrev variable : ℕ → Bool
  variable = is_variable_constant asked locked program begins sound is

  one_first : (a : Spelling) → IsSpelled q l (types q l) constant start variable a → IsFirst (rows_in asked.old.now) (table_in asked.old.now) asked.change.now q l a
  one_first a told = first_of a (spelling q l (types q l) constant start a.row variable) refl (told (record { typed = λ e. has_types asked locked program begins sound is }))

  stays_first : (n : ℕ) → Stays q l (types q l) constant start variable n → StaysFirst (rows_in asked.old.now) (table_in asked.old.now) asked.change.now q l n
  stays_first n h = record {
    written = h.written;
    first = spelling_is q l (types q l) constant start n variable (typable asked locked program begins sound is).headed (tells asked locked program begins sound is) h.written h.spells;
    stands = h.stands;
  }

  others_first : (all : List Spelling) → AreTold q l (types q l) constant start variable all → (n : ℕ) → HasLock q l n → HasSpelling all n ⊎ StaysFirst (rows_in asked.old.now) (table_in asked.old.now) asked.change.now q l n
  others_first all told n lock = ⊎_elim (λ k. inl k) (λ k. inr (stays_first n (k (record { typed = λ e. has_types asked locked program begins sound is })))) (told n lock)

  are_first : (all : List Spelling) → AreSpelledBy q l (types q l) constant start variable all → AreTold q l (types q l) constant start variable all → AreFirst (rows_in asked.old.now) (table_in asked.old.now) asked.change.now q l all
  are_first all h told = record {
    each = each_of (λ a. IsSpelled q l (types q l) constant start variable a) (λ a. IsFirst (rows_in asked.old.now) (table_in asked.old.now) asked.change.now q l a) one_first all h;
    others = others_first all told;
  }

  -- what is said of a view of the program is said of the program
  seen_so : (view : View) → IsViewOf q locked.program.places.value locked.program.scopes.value locked.program.bound.value view → (F : Rows → Table → Types → (ℕ → Bool) → Type 0)
      → F view.sight.world.under.rows.now (entries view.sight.world.under.table.now) (λ m. slice_index_or view.types.now m None) (λ d. is_some (slice_index_or view.constants.now.variables.items d None)) → F q l (types q l) variable
  seen_so view of F h =
      let rows : F q (entries view.sight.world.under.table.now) (λ m. slice_index_or view.types.now m None) (λ d. is_some (slice_index_or view.constants.now.variables.items d None)) =
      subst (λ (r : Rows). F r (entries view.sight.world.under.table.now) (λ m. slice_index_or view.types.now m None) (λ d. is_some (slice_index_or view.constants.now.variables.items d None))) of.rows_are h in
      let table : F q l (λ m. slice_index_or view.types.now m None) (λ d. is_some (slice_index_or view.constants.now.variables.items d None)) =
      subst (λ (x : List Referent). F q (entries x) (λ m. slice_index_or view.types.now m None) (λ d. is_some (slice_index_or view.constants.now.variables.items d None))) of.table_is rows in
      let typed : F q l (types q l) (λ d. is_some (slice_index_or view.constants.now.variables.items d None)) =
      subst (λ (f : Types). F q l f (λ d. is_some (slice_index_or view.constants.now.variables.items d None)))
      (ap {B = ℕ → Option RowType} (λ (x : List (Option RowType)) (m : ℕ). slice_index_or x m None) of.types_are ∙ types_are asked locked program begins sound is) table in
      subst (λ (c : code.Constants). F q l (types q l) (λ d. is_some (slice_index_or c.variables.items d None))) of.constants_are typed

  -- and of a reference that has none
  abbrev LacksBy : Rows → Table → Types → (ℕ → Bool) → ℕ → (ℕ → Bool) → ℕ → Type 0
  LacksBy r x type_of was first variable n = IsExactAt r x type_of n → spelling r x type_of was first n variable ≡ None

  lacks_so : (n : ℕ) → LacksBy q l (types q l) constant start variable n → HasNoSpelling q l (types q l) constant start n
  lacks_so n told = no_spelling q l (types q l) constant start n variable (typable asked locked program begins sound is).headed (tells asked locked program begins sound is)
      (told (record { typed = λ e. has_types asked locked program begins sound is }))

-- what is told of the view of the program under its locks is told of the change
pub first_in : (asked : Asked) (locked : Locked) (project : Project) (constant : List Bool) (all : List Spelling) → IsBoundIn asked.old.now → IsProgram (rows_of locked) → BeginsWithLang (rows_of locked) → IsSound asked locked
    → IsLockedBy asked locked → IsBoundByLocks locked → project.marks.starts.now ≡ unit_rows (rows_of locked) (length (rows_of locked))
    → IsViewOf (rows_of locked) locked.program.places.value locked.program.scopes.value locked.program.bound.value project.view
    → constant ≡ tabulated (is_constant_by asked locked) (length locked.locks.origin.items)
    → (IsWholeView project.view → AreSpelledIn project.view constant (first_written project.marks.starts.now) all) → (IsWholeView project.view → AreToldIn project.view constant (first_written project.marks.starts.now) all) → AreFirstIn asked locked all
first_in asked locked project constant all bound program begins sound by is starts of made spelled told =
    let p : Rows = rows_of locked in
    let wanted : ℕ → Bool = is_constant (rows_in asked.old.now) (table_in asked.old.now) asked.change.now p (table_in locked.program) in
    let same : (λ n. slice_index_or constant n false) ≡ wanted = fun_ext (constant_at asked locked bound program begins sound by is constant made) in
    let viewed = whole asked locked program begins sound is project.view of in
    let each = subst (λ (n : ℕ). AreSpelledIn project.view constant n all) (ap first_written starts) (spelled viewed) in
    let others = subst (λ (n : ℕ). AreToldIn project.view constant n all) (ap first_written starts) (told viewed) in
    let seen = seen_so asked locked bound program begins sound by is project.view of in
    subst (λ (x : Table). AreFirst (rows_in asked.old.now) (table_in asked.old.now) asked.change.now p x all) is.table
    (are_first asked locked bound program begins sound by is all
    (seen (λ r x type_of variable. AllByRecursion (λ a. IsSpelled r x type_of wanted (first_written (unit_rows p (length p))) variable a) all)
    (subst (λ (f : ℕ → Bool). AllByRecursion (λ a. IsSpelled project.view.sight.world.under.rows.now (entries project.view.sight.world.under.table.now) (λ n. slice_index_or project.view.types.now n None) f
    (first_written (unit_rows p (length p))) (λ d. is_some (slice_index_or project.view.constants.now.variables.items d None)) a) all) same each))
    (seen (λ r x type_of variable. AreTold r x type_of wanted (first_written (unit_rows p (length p))) variable all)
    (subst (λ (f : ℕ → Bool). AreTold project.view.sight.world.under.rows.now (entries project.view.sight.world.under.table.now) (λ n. slice_index_or project.view.types.now n None) f
    (first_written (unit_rows p (length p))) (λ d. is_some (slice_index_or project.view.constants.now.variables.items d None)) all) same others)))

unspelled_so : (a : Asked) (rows : Rows) (locks : Table) (origin : List ℕ) (row : ℕ) (told : StepFault) → IsChanged (rows_in a.old.now) (table_in a.old.now) a.change.now rows locks → origin ≡ origins_by a.change.now
    → HasNoSpelling rows locks (types rows locks) (is_constant (rows_in a.old.now) (table_in a.old.now) a.change.now rows locks) (first_written (unit_rows rows (length rows))) row
    → IsUnspelled a.project.now.marks origin row told → IsHinderedIn a told
unspelled_so a rows locks origin row (step.NoSpelling occ place lock) changed same none at =
    record { rows = rows; locks = locks; changed = changed; row = row; at = subst (λ (all : List ℕ). IsShownAt a.project.now.marks all row place) same at; none = none }
unspelled_so a rows locks origin row _ changed same none at = absurd at

-- where the view of the program tells that a reference has no spelling, the change is hindered
pub none_in : (asked : Asked) (locked : Locked) (project : Project) (constant : List Bool) (row : ℕ) (found : Referent) (why : StepFault) → IsAskedFor asked → IsBoundIn asked.old.now → IsProgram (rows_of locked)
    → BeginsWithLang (rows_of locked) → IsSound asked locked → IsLockedBy asked locked → IsBoundByLocks locked → project.marks.starts.now ≡ unit_rows (rows_of locked) (length (rows_of locked))
    → IsViewOf (rows_of locked) locked.program.places.value locked.program.scopes.value locked.program.bound.value project.view
    → constant ≡ tabulated (is_constant_by asked locked) (length locked.locks.origin.items)
    → (IsWholeView project.view → HasNoneIn project.view constant (first_written project.marks.starts.now) (spell_fault.NoSpelling row found)) → IsUnspelled asked.project.now.marks locked.locks.origin.items row why
    → IsHinderedIn asked why
none_in asked locked project constant row found why of_request bound program begins sound by is starts of made told at =
    let p : Rows = rows_of locked in
    let t : Table = table_in locked.program in
    let wanted : ℕ → Bool = is_constant (rows_in asked.old.now) (table_in asked.old.now) asked.change.now p t in
    let same : (λ n. slice_index_or constant n false) ≡ wanted = fun_ext (constant_at asked locked bound program begins sound by is constant made) in
    let in_view = told (whole asked locked program begins sound is project.view of) in
    let began = subst (λ (n : ℕ). HasNoneIn project.view constant n (spell_fault.NoSpelling row found)) (ap first_written starts) in_view in
    let meant = subst (λ (f : ℕ → Bool). IsExactAt project.view.sight.world.under.rows.now (entries project.view.sight.world.under.table.now) (λ n. slice_index_or project.view.types.now n None) row
    → spelling project.view.sight.world.under.rows.now (entries project.view.sight.world.under.table.now) (λ n. slice_index_or project.view.types.now n None) f (first_written (unit_rows p (length p))) row
    (λ d. is_some (slice_index_or project.view.constants.now.variables.items d None)) ≡ None) same began in
    let none = lacks_so asked locked bound program begins sound by is row (seen_so asked locked bound program begins sound by is project.view of
    (λ r x type_of variable. IsExactAt r x type_of row → spelling r x type_of wanted (first_written (unit_rows p (length p))) row variable ≡ None) meant) in
    let under = subst (λ (x : Table). HasNoSpelling p x (types p x) (is_constant (rows_in asked.old.now) (table_in asked.old.now) asked.change.now p x) (first_written (unit_rows p (length p))) row) is.table none in
    unspelled_so asked p (locks_of locked) locked.locks.origin.items row why by.changed by.origin under at
