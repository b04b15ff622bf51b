-- What the stages leave is what a bound program has of its table.
use Rattle.std.proofs.Common.{◌≡◌, sym, ◌∙◌, ap, subst, ℕ, ℤ, false, List, length, Option, None, slice_index_or}
use Rattle.std.proofs.lemmas.Bool.{false≢true}
use Rattle.jr_tree.specs.declared.label.Label.{Label}
use Rattle.jr_tree.specs.declared.label.Label.TheVariants as is
use Rattle.jr_tree.specs.Rows.{Rows, label, sought_at}
use Rattle.jr_tree.specs.Tree.{IsTree}
use Rattle.jr_defs.specs.declared.referent.Referent.{Referent}
use Rattle.jr_defs.specs.declared.referent.RowType.{RowType}
use Rattle.jr_defs.specs.Referents.{Table, entries}
use Rattle.jr_defs.specs.Formed.{IsNameLabel, IsFormed}
use Rattle.jr_defs.specs.Supertypes.{Above}
use Rattle.jr_defs.proofs.Forming.{formed}
use Rattle.jr_defs.proofs.TypesAgree.{SameTypes}
use Rattle.jr_plain.specs.Conversions.{Constants}
use Rattle.jr_places.specs.declared.places.Places.{Places}
use Rattle.jr_supers.specs.declared.subtypes.Supers.{Supers}
use Rattle.jr_supers.specs.Direct.{HasSupers}
use Rattle.jr_supers.specs.Supers.{IsWellHeaded, HasNoCycle, AreSupersOf}
use Rattle.jr_supers.specs.Tabled.{IsSized}
use Rattle.jr_members.specs.declared.members.Members.{Members}
use Rattle.jr_members.specs.Sources.{ArePlaced, AreSeen}
use Rattle.jr_members.specs.Worlds.{AreMembersOf}
use Rattle.jr_lookup.specs.declared.imports.Imports.{Imports}
use Rattle.jr_lookup.specs.Imports.{AreImports}
use Rattle.jr_constants.specs.declared.constants.Constants as code
use Rattle.jr_constants.specs.Resting.{values_of}
use Rattle.jr_types.specs.Typed.{CanType, AreTypes, string_row}
use Rattle.jr_bind.specs.declared.filling.Filling as filling
use Rattle.jr_bind.specs.declared.stages.Stage.{Stage}
use Rattle.jr_bind.specs.declared.stages.Stage.TheVariants as stage
use Rattle.jr_bind.specs.Late.{AreLate, is_name}
use Rattle.jr_bind.specs.Filled.{table_of, int_at, IsReady, FillsRows, SeeksNoType}
use Rattle.jr_bind.specs.Exact.{IsProgramIn, AreFormed, AreUnder}
use Rattle.jr_bind.specs.Naming.{FillsNames}
use Rattle.jr_bind.proofs.Carrying.{direct_over, seen_over, members_over, acyclic_back}
use Rattle.jr_bind.proofs.Keeping.{seeks_not, agree}
use Rattle.jr_bind.proofs.Knowing.{imports_over}
use Rattle.jr_bind.proofs.Constant.{constants_under, constants_over, ints_known}

is_no_name : (l : Label) → is_name l ≡ false → IsNameLabel l → ⊥
is_no_name (is.Name k at is_qualified) e h = false≢true (sym e)
is_no_name _ e h = h

pub program_formed : (p : Rows) (places : Places) → IsProgramIn p places → IsFormed p
program_formed p places h = formed p h.placed.local h.bare

-- the rows of both stages seek no types
pub names_late : (p : Rows) (stages : List Stage) → AreLate p stages → SeeksNoType p stages stage.Name
names_late p stages late n of = seeks_not (sought_at p n) (late.1 n stage.Name of).0

pub others_late : (p : Rows) (stages : List Stage) → AreLate p stages → SeeksNoType p stages stage.Other
others_late p stages late n of = seeks_not (sought_at p n) (late.1 n stage.Other of).0

-- names, then constants, then all else
module _ (p : Rows) (places : Places) (supers : Supers) (stages : List Stage) (first named with_ints last : filling.Filling) (found : code.Constants) (program : IsProgramIn p places) (late : AreLate p stages) (ready : IsReady p first)
    (names : FillsRows stages stage.Name first named) (table : with_ints.table ≡ named.table) (types : with_ints.types ≡ named.types) (string : with_ints.string ≡ named.string)
    (constants : IsSized p → IsTree p → AreFormed p (table_of named) found)
    (ints : IsSized p → IsTree p → length named.ints.items ≡ length p → (k : ℕ) → slice_index_or with_ints.ints.items k None ≡ int_at found k)
    (others : FillsRows stages stage.Other with_ints last)
    (typed : (constant : Constants) → IsFormed p → SeeksNoType p stages stage.Other → length stages ≡ length p → CanType constant p (table_of with_ints) places supers with_ints.ints.items with_ints.string
    → length with_ints.types.items ≡ length p → AreTypes p (table_of last) constant last.types.items) where
  form : IsFormed p
  form = program_formed p places program

  table_is : (n : ℕ) → table_of with_ints n ≡ table_of named n
  table_is n = ap (λ v. entries v.items n) table

  named_same : SameTypes p (table_of first) (table_of with_ints)
  named_same = record { at = λ n seeks. (agree p stages stage.Name first named (names_late p stages late) names).at n seeks ∙ sym (table_is n) }

  last_same : SameTypes p (table_of named) (table_of last)
  last_same = record { at = λ n seeks. sym (table_is n) ∙ (agree p stages stage.Other with_ints last (others_late p stages late) others).at n seeks }

  names_same : (n : ℕ) → IsNameLabel (label p n) → table_of named n ≡ table_of last n
  names_same n h = sym (table_is n) ∙ sym (others.others n (λ of. is_no_name (label p n) (late.1 n stage.Other of).1 h))

  can : AreSeen p (table_of first) places supers → CanType (values_of found) p (table_of with_ints) places supers with_ints.ints.items with_ints.string
  can seen = record {
    sized = program.sized;
    seen = seen_over p form (table_of first) (table_of with_ints) named_same places supers seen;
    string_is = string ∙ names.rest.string_is ∙ ready.string_is program.sized.few;
    ints_are = ints_known found with_ints.ints.items (ints program.sized form.tree (ap length names.rest.ints_are ∙ ready.ints_size));
  }

  pub names_filled : FillsNames p places supers first last found
  names_filled = record {
    same = record { at = λ n seeks. named_same.at n seeks ∙ (agree p stages stage.Other with_ints last (others_late p stages late) others).at n seeks };
    constants_are = constants_over p form (table_of named) (table_of last) last_same names_same found (constants program.sized form.tree);
    types_are = λ seen. typed (values_of found) form (others_late p stages late) late.0 (can seen) (ap (λ v. length v.items) types ∙ names.rest.types_size ∙ ready.types_size);
  }

-- with supertypes and members from before
pub bound_exact : (p : Rows) (places : Places) (supers : Supers) (members : Members) (first last : filling.Filling) (found : code.Constants)
    → (IsWellHeaded p → HasNoCycle p (table_of first) → AreSupersOf p (table_of first) supers)
    → (IsSized p → AreSeen p (table_of first) places supers → AreMembersOf p (table_of first) supers members)
    → (IsProgramIn p places → FillsNames p places supers first last found)
    → IsProgramIn p places → HasNoCycle p (table_of last) → AreUnder p (table_of last) places supers members found last.types.items
bound_exact p places supers members first last found supers_are members_are names program none =
    let form = program_formed p places program in
    let filled = names program in
    let same : SameTypes p (table_of first) (table_of last) = record { at = filled.same.at } in
    let seen : AreSeen p (table_of first) places supers = record { placed = program.placed; above = supers_are program.well (acyclic_back p form (table_of first) (table_of last) same none) } in record {
      seen = seen_over p form (table_of first) (table_of last) same places supers seen;
      members_are = members_over p form (table_of first) (table_of last) same supers members (members_are program.sized seen);
      constants_are = filled.constants_are;
      types_are = filled.types_are seen;
      class = λ o object interface. none o (Above.object interface object);
    }

-- by the tables as slices
pub bound_read : (p : Rows) (places : Places) (supers : Supers) (members : Members) (first last : filling.Filling) (found : code.Constants) (read : List Referent) (these those : Supers)
    → read ≡ first.table.items → these ≡ supers → those ≡ supers
    → (IsWellHeaded p → HasNoCycle p (entries read) → AreSupersOf p (entries read) supers)
    → (IsSized p → AreSeen p (entries read) places these → AreMembersOf p (entries read) these members)
    → (IsProgramIn p places → FillsNames p places those first last found)
    → IsProgramIn p places → HasNoCycle p (table_of last) → AreUnder p (table_of last) places supers members found last.types.items
bound_read p places supers members first last found read these those e f g supers_are members_are names = bound_exact p places supers members first last found
    (subst (λ all. IsWellHeaded p → HasNoCycle p (entries all) → AreSupersOf p (entries all) supers) e supers_are)
    (subst (λ s. IsSized p → AreSeen p (table_of first) places s → AreMembersOf p (table_of first) s members) f
    (subst (λ all. IsSized p → AreSeen p (entries all) places these → AreMembersOf p (entries all) these members) e members_are))
    (λ program. subst (λ s. FillsNames p places s first last found) g (names program))

-- the direct supertypes, whatever is on a cycle
pub direct_read : (p : Rows) (places : Places) (supers these : Supers) (first last : filling.Filling) (found : code.Constants) (read : List Referent) → read ≡ first.table.items
    → (IsWellHeaded p → HasSupers p (entries read) supers.direct.supers) → (IsProgramIn p places → FillsNames p places these first last found)
    → IsProgramIn p places → HasSupers p (table_of last) supers.direct.supers
direct_read p places supers these first last found read e supers_are names program =
    let same : SameTypes p (table_of first) (table_of last) = record { at = (names program).same.at } in
    direct_over p (program_formed p places program) (table_of first) (table_of last) same supers.direct.supers
    (subst (λ all. HasSupers p (entries all) supers.direct.supers) e (supers_are program.well))

-- and what imports bring
pub imports_read : (p : Rows) (places : Places) (these : Supers) (imports : Imports) (first last : filling.Filling) (found : code.Constants) (read : List Referent) → read ≡ first.table.items
    → (ArePlaced p places → AreImports p (entries read) imports) → (IsProgramIn p places → FillsNames p places these first last found) → IsProgramIn p places → AreImports p (table_of last) imports
imports_read p places these imports first last found read e imports_are names program =
    let same : SameTypes p (table_of first) (table_of last) = record { at = (names program).same.at } in
    imports_over p (table_of first) (table_of last) (program_formed p places program) same imports (subst (λ all. AreImports p (entries all) imports) e (imports_are program.placed))

-- all under one table
pub under_exact : (p : Rows) (t : Table) (places : Places) (supers : Supers) (members : Members) (found : code.Constants) (types : List (Option RowType)) (ints : List (Option ℤ)) (string : Option ℕ)
    → (HasNoCycle p t → IsWellHeaded p → AreSupersOf p t supers) → (IsSized p → AreSeen p t places supers → AreMembersOf p t supers members) → (IsSized p → IsTree p → AreFormed p t found)
    → (IsSized p → IsTree p → (k : ℕ) → slice_index_or ints k None ≡ int_at found k) → (IsSized p → string ≡ string_row p)
    → ((constant : Constants) → CanType constant p t places supers ints string → AreTypes p t constant types)
    → IsProgramIn p places → HasNoCycle p t → AreUnder p t places supers members found types
under_exact p t places supers members found types ints string supers_are members_are constants ints_are string_is typed program none =
    let seen : AreSeen p t places supers = record { placed = program.placed; above = supers_are none program.well } in record {
      seen = seen;
      members_are = members_are program.sized seen;
      constants_are = constants_under p t found (constants program.sized program.placed.local.tree);
      types_are = typed (values_of found) (record { sized = program.sized; seen = seen; string_is = string_is program.sized; ints_are = ints_known found ints (ints_are program.sized program.placed.local.tree) });
      class = λ o object interface. none o (Above.object interface object);
    }

-- supertypes and members by the table as a slice
pub supers_read : (p : Rows) (read table : List Referent) (supers : Supers) → read ≡ table → (IsWellHeaded p → HasNoCycle p (entries read) → AreSupersOf p (entries read) supers)
    → HasNoCycle p (entries table) → IsWellHeaded p → AreSupersOf p (entries table) supers
supers_read p read table supers e f = subst (λ all. HasNoCycle p (entries all) → IsWellHeaded p → AreSupersOf p (entries all) supers) e (λ none well. f well none)

pub members_read : (p : Rows) (places : Places) (supers : Supers) (members : Members) (read table : List Referent) → read ≡ table → (IsSized p → AreSeen p (entries read) places supers → AreMembersOf p (entries read) supers members)
    → IsSized p → AreSeen p (entries table) places supers → AreMembersOf p (entries table) supers members
members_read p places supers members read table e f = subst (λ all. IsSized p → AreSeen p (entries all) places supers → AreMembersOf p (entries all) supers members) e f

-- types that are found behind the constants
pub found_typed : (p : Rows) (constant : Constants) (places : Places) (supers : Supers) (old mid : filling.Filling) (types : List (Option RowType)) → mid.table ≡ old.table → mid.types ≡ old.types → mid.string ≡ old.string → IsReady p old
    → (CanType constant p (table_of mid) places supers mid.ints.items mid.string → length mid.types.items ≡ length p → AreTypes p (table_of mid) constant types)
    → CanType constant p (table_of old) places supers mid.ints.items old.string → AreTypes p (table_of old) constant types
found_typed p constant places supers old mid types table rows string ready typed can = subst (λ v. AreTypes p (entries v.items) constant types) table
    (typed (subst (λ v. CanType constant p (entries v.items) places supers mid.ints.items mid.string) (sym table) (subst (λ s. CanType constant p (table_of old) places supers mid.ints.items s) (sym string) can))
    (ap (λ v. length v.items) rows ∙ ready.types_size))

-- under a table of locks
pub locked_exact : (p : Rows) (places : Places) (supers these : Supers) (members : Members) (found : code.Constants) (locks : List Referent) (first last : filling.Filling) → these ≡ supers → first.table.items ≡ locks → last.table.items ≡ first.table.items
    → ((HasNoCycle p (table_of first) → IsWellHeaded p → AreSupersOf p (table_of first) these) → IsProgramIn p places → HasNoCycle p (table_of first) → AreUnder p (table_of first) places these members found last.types.items)
    → (HasNoCycle p (entries locks) → IsWellHeaded p → AreSupersOf p (entries locks) supers) → IsProgramIn p places → HasNoCycle p (table_of last) → AreUnder p (table_of last) places supers members found last.types.items
locked_exact p places supers these members found locks first last e same table exact supers_are =
    subst (λ s. IsProgramIn p places → HasNoCycle p (table_of last) → AreUnder p (table_of last) places s members found last.types.items) e
    (subst (λ all. IsProgramIn p places → HasNoCycle p (entries all) → AreUnder p (entries all) places these members found last.types.items) (sym table)
    (exact (subst (λ all. HasNoCycle p (entries all) → IsWellHeaded p → AreSupersOf p (entries all) these) (sym same) (subst (λ s. HasNoCycle p (entries locks) → IsWellHeaded p → AreSupersOf p (entries locks) s) (sym e) supers_are))))
