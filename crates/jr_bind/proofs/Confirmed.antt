-- A table that lookup under itself confirms is the binding of its rows.
use Rattle.std.proofs.Common.{◌≡◌, refl, sym, ◌∙◌, subst, ⊎_elim, arith, ℕ, ◌+◌, ◌<◌, ◌≤◌, ◌^◌, true, List, length, Option, Decides}
use Rattle.std.proofs.lemmas.Bool.{cases_lt, false≢true}
use Rattle.std.proofs.lemmas.List.{get_or_past}
use Rattle.jr_tree.specs.declared.label.Label.{Label}
use Rattle.jr_tree.specs.declared.label.Label.TheVariants as is
use Rattle.jr_tree.specs.Rows.{Rows, label}
use Rattle.jr_defs.specs.declared.referent.Referent.{Referent}
use Rattle.jr_defs.specs.declared.referent.Referent.TheVariants.{Unbound, ArrayLength, Package, Declared}
use Rattle.jr_defs.specs.declared.referent.RowType.{RowType}
use Rattle.jr_defs.specs.Referents.{Table, entries}
use Rattle.jr_defs.specs.Constants.{HasConstantForm, ConstantOf}
use Rattle.jr_defs.specs.Declarations.{IsType, IsVariable}
use Rattle.jr_defs.specs.Supertypes.{Above}
use Rattle.jr_defs.specs.Typing.{TypeOf}
use Rattle.jr_plain.specs.Conversions.{Constants}
use Rattle.jr_plain.specs.Search.{Finds, all_below}
use Rattle.jr_plain.specs.Typing.{IsTypable, IsVariableLabel}
use Rattle.jr_plain.proofs.Declared.{type_tells, variable_tells}
use Rattle.jr_plain.proofs.Expressions.{expression_finds}
use Rattle.jr_plain.proofs.Searches.{all}
use Rattle.jr_plain.proofs.Tests.{itself, both, implies}
use Rattle.jr_plain.proofs.Valued.{form_constants_find}
use Rattle.jr_tree.proofs.Locals.{each_program_is_local}
use Rattle.jr_tree.specs.Local.{IsLocal}
use Rattle.jr_places.specs.declared.places.Places.{Places}
use Rattle.jr_supers.specs.Direct.{HasSupers}
use Rattle.jr_supers.specs.Supers.{IsWellHeaded, HasNoCycle}
use Rattle.jr_members.specs.Held.{ObjectIsBare}
use Rattle.jr_dispatch.proofs.Having.{above_then}
use Rattle.jr_lookup.specs.declared.scopes.Scopes.{Scopes}
use Rattle.jr_lookup.specs.declared.simple.Sight.{Sight}
use Rattle.jr_lookup.specs.Locals.{AreLocalsPlaced}
use Rattle.jr_local_rows.proofs.OfRows.{each_program_places_locals}
use Rattle.jr_headed.specs.Founded.{AreWell}
use Rattle.jr_headed.proofs.Headed.{well_headed}
use Rattle.jr_constants.specs.declared.constants.Constants as code
use Rattle.jr_constants.specs.Resting.{values_of}
use Rattle.jr_lookup.specs.Behind.{IsTypeLabel, RefersByNames, type_in}
use Rattle.jr_bind.specs.Confirmed.{rows_of, table_of, is_type_label, is_variable_label, may_refer_to, may_refer, may_refer_at, CanLookTo, CanConfirm, AreTypesBound, CanSeeTo, CanConfirmTypes, IsProgramOf, IsBindingUnder, AreTables}
use Rattle.jr_bind.specs.Naming.{AreSetting, IsBoundByTypes}
use Rattle.jr_bind.specs.Ranked.{AllSettled}
use Rattle.jr_bind.specs.Exact.{IsProgramIn, AreUnder}

-- ---- labels

pub type_label_tells : (l : Label) → Decides (is_type_label l) (IsTypeLabel l)
type_label_tells (is.Name kind place is_qualified) = (λ e. tt, λ h. refl)
type_label_tells (is.Constructor modifiers) = (λ e. tt, λ h. refl)
type_label_tells _ = (λ e. absurd (false≢true e), λ h. absurd h)

pub variable_label_tells : (l : Label) → Decides (is_variable_label l) (IsVariableLabel l)
variable_label_tells (is.Name kind place is_qualified) = (λ e. tt, λ h. refl)
variable_label_tells is.Select = (λ e. tt, λ h. refl)
variable_label_tells is.SuperSelect = (λ e. tt, λ h. refl)
variable_label_tells _ = (λ e. absurd (false≢true e), λ h. absurd h)

module _ (p : Rows) where
  may_tell : (l : Label) (d : ℕ) → Decides (may_refer_to p l d) ((IsType p d → IsTypeLabel l) × (IsVariable p d → IsVariableLabel l))
  may_tell l d = both (implies (type_tells p d) (type_label_tells l)) (implies (variable_tells p d) (variable_label_tells l))

-- a table that is as long as the rows, and each row has a label that may refer so
module _ (p : Rows) (table : List Referent) (size : length table ≡ length p) (may : all_below (length p) (may_refer_at p (entries table)) ≡ true) where
  abbrev t : Table
  t = entries table

  pub unbound_past : (n : ℕ) → length p ≤ n → t n ≡ Unbound
  unbound_past n le = get_or_past table n Unbound (subst (λ m. m ≤ n) (sym size) le)

  pub inside : (n : ℕ) (a : Referent) → t n ≡ a → (Unbound ≡ a → ⊥) → n < length p
  inside n a e apart = ⊎_elim (λ lt. lt) (λ le. absurd (apart (sym (unbound_past n le) ∙ e))) (cases_lt n (length p))

  pub may_at : (n : ℕ) (a : Referent) → t n ≡ a → (Unbound ≡ a → ⊥) → may_refer p (label p n) a ≡ true
  may_at n a e apart = subst (λ x. may_refer p (label p n) x ≡ true) e
      ((all (may_refer_at p t) (λ k. may_refer_at p t k ≡ true) (λ k. itself (may_refer_at p t k)) (length p)).0 may n (inside n a e apart))

  declares_at : (n d : ℕ) (level : Option ℕ) → t n ≡ Declared d level → (IsType p d → IsTypeLabel (label p n)) × (IsVariable p d → IsVariableLabel (label p n))
  declares_at n d level e = (may_tell p (label p n) d).0 (may_at n (Declared d level) e (λ e. cc))

  refers : RefersByNames p t
  refers = record {
    type = λ n d level e. (declares_at n d level e).0;
    packages = λ n e. (type_label_tells (label p n)).0 (may_at n Package e (λ e. cc));
  }

  variable : (n d : ℕ) (level : Option ℕ) → t n ≡ Declared d level → IsVariable p d → IsVariableLabel (label p n)
  variable n d level e = (declares_at n d level e).1

  length_of : (n : ℕ) → t n ≡ ArrayLength → IsVariableLabel (label p n)
  length_of n e = (variable_label_tells (label p n)).0 (may_at n ArrayLength e (λ e. cc))

-- ---- lookup

no_cycle_apart : (p : Rows) (t : Table) → ObjectIsBare p → HasNoCycle p t → (d s : ℕ) → Above p t d s → Above p t s d → d ≡ s
no_cycle_apart p t bare acyclic d s up down = absurd (acyclic d (above_then p t bare up down))

module _ (constant : Constants) (sight : Sight) (types : List (Option RowType)) (can : CanConfirm constant sight types) (few : length (rows_of sight) + 3 < 2 ^ 32)
    (size : length sight.world.under.table.now ≡ length (rows_of sight)) (may : all_below (length (rows_of sight)) (may_refer_at (rows_of sight) (table_of sight)) ≡ true) where
  abbrev p : Rows
  p = rows_of sight

  abbrev u : Table
  u = table_of sight

  typable : IsTypable p u
  typable = record {
    headed = can.sight_is.world.seen.above.well.headed;
    one_string = can.one_string;
    variable = variable p sight.world.under.table.now size may;
    length_of = length_of p sight.world.under.table.now size may;
    acyclic = no_cycle_apart p u can.bare can.acyclic;
  }

  constants_found : (n : ℕ) → Finds (constant n) (λ v. ConstantOf p u (HasConstantForm p u) n v)
  constants_found n = subst (λ v. Finds v (λ v. ConstantOf p u (HasConstantForm p u) n v)) (sym (can.constants_are typable n)) (form_constants_find p u typable n)

  typed : (n : ℕ) → Finds (type_in types n) (λ a. TypeOf p u (HasConstantForm p u) n a)
  typed n = subst (λ a. Finds a (λ a. TypeOf p u (HasConstantForm p u) n a)) (sym (can.types_are n)) (expression_finds p u typable (HasConstantForm p u) constant constants_found n)

  pub can_look : CanLookTo sight types (length p)
  can_look n lt = record {
    sight_is = can.sight_is;
    placed = can.placed;
    can = record { bare = can.bare; results = record { sized = can.sized; same = λ m e. refl } };
    refers = refers p sight.world.under.table.now size may;
    few = few;
    inside = lt;
    seen = λ m le. refl;
    typed = λ m le. typed m;
  }

-- ---- programs

module _ (p : Rows) (places : Places) (scopes : Scopes) (of : IsProgramOf p places scopes) (well : AreWell p) where
  local : IsLocal p
  local = subst IsLocal (sym of.program.rows_are) (each_program_is_local of.program.units of.program.shaped)

  pub locals_placed : AreLocalsPlaced p
  locals_placed = subst AreLocalsPlaced (sym of.program.rows_are) (each_program_places_locals of.program.units of.program.shaped)

  pub program_in : IsProgramIn p places
  program_in = let headed = well_headed p of.program.units of.program.shaped of.program.rows_are well.object in record {
    placed = record { local = local; packages = well.packages; are = of.places_are };
    well = headed.0;
    sized = well.sized;
    bare = headed.1;
  }

-- a sight of the tables under a table is all that a confirmation asks
module _ (sight : Sight) (found : code.Constants) (types : List (Option RowType)) (of : IsProgramOf (rows_of sight) sight.world.under.places.now sight.scopes.now)
    (tables : AreTables (rows_of sight) (table_of sight) sight.world.under.places.now sight.world.supers.now sight.world.members.now sight.imports.now found types) (well : AreWell (rows_of sight)) where
  abbrev rows : Rows
  rows = rows_of sight

  inside_program : IsProgramIn rows sight.world.under.places.now
  inside_program = program_in rows sight.world.under.places.now sight.scopes.now of well

  pub direct_supers : IsWellHeaded rows × HasSupers rows (table_of sight) sight.world.supers.now.direct.supers
  direct_supers = (inside_program.well, tables.direct inside_program)

  module _ (acyclic : HasNoCycle rows (table_of sight)) where
    under : AreUnder rows (table_of sight) sight.world.under.places.now sight.world.supers.now sight.world.members.now found types
    under = tables.under inside_program acyclic

    pub can_confirm : CanConfirm (values_of found) sight types
    can_confirm = record {
      sight_is = record {
        few = well.sized.few;
        world = record { seen = under.seen; members_are = under.members_are; class = under.class };
        scopes = of.scopes_are inside_program.placed;
        tops = of.tops_are inside_program.placed;
        imports = tables.imports_are inside_program;
        seen = record { same = λ i is. refl };
        lang = of.lang;
      };
      sized = well.sized;
      placed = locals_placed rows sight.world.under.places.now sight.scopes.now of well;
      bare = inside_program.bare;
      one_string = of.one_string;
      acyclic = acyclic;
      constants_are = under.constants_are.whole;
      types_are = under.types_are;
    }

    pub can_confirm_types : CanConfirmTypes sight
    can_confirm_types = record { sight_is = can_confirm.sight_is; placed = can_confirm.placed }

    setting : length rows + 3 < 2 ^ 32 → AreSetting rows sight.world.under.places.now sight.scopes.now
    setting few = record {
      lookable = record { few = few; sized = well.sized; bare = inside_program.bare; locals = can_confirm.placed; lang = of.lang };
      scopes_are = of.scopes_are inside_program.placed;
      tops = of.tops_are inside_program.placed;
      one_string = of.one_string;
    }

    pub binding_under : length rows + 3 < 2 ^ 32 → IsBoundByTypes rows sight.world.under.places.now sight.scopes.now (table_of sight) → AreTypesBound sight → AllSettled rows (table_of sight)
        → IsBindingUnder rows (table_of sight) sight.world.under.places.now sight.world.supers.now sight.world.members.now found types
    binding_under few by_types bound settled = record {
      well = well;
      acyclic = acyclic;
      is_binding = record { settled = settled; bound = by_types (setting few) inside_program acyclic bound };
      under = under;
    }

-- what lookup sees at a row
pub can_see_to : (sight : Sight) (end : ℕ) → CanConfirmTypes sight → end ≤ length sight.world.under.rows.now → CanSeeTo sight end
can_see_to sight end can le n lt = record { sight_is = can.sight_is; placed = can.placed; inside = omega (arith, le, lt); same = refl }
