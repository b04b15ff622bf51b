-- What the last stages have looked up is what lookup gives under the table that they leave.
use Rattle.std.proofs.Common.{◌≡◌, ◌⊎◌, refl, sym, ◌∙◌, ap, subst, inl, inr, ⊎_elim, arith, ℕ, ◌+◌, ◌≤◌, ◌<◌, Bool, true, false, List, [], length, Option, Some, None, slice_get, slice_index_or}
use Rattle.std.proofs.lemmas.Bool.{false≢true, cases_lt}
use Rattle.std.proofs.lemmas.List.{get_or_past}
use Rattle.std.proofs.lemmas.Option.{slice_get_cases}
use Rattle.jr_tree.specs.declared.label.Label.{Label}
use Rattle.jr_tree.specs.declared.label.Label.TheVariants as is
use Rattle.jr_tree.specs.declared.label.ReceiverKind.TheVariants as on
use Rattle.jr_tree.specs.declared.label.NameKind.{NameKind}
use Rattle.jr_tree.specs.declared.label.NameKind.TheVariants as kind
use Rattle.jr_tree.specs.declared.label.Sought.{Sought}
use Rattle.jr_tree.specs.declared.label.Sought.TheVariants as sought
use Rattle.jr_tree.specs.Labels.{name_sought, sought_by}
use Rattle.jr_tree.specs.Rows.{Rows, label, name, sought_at}
use Rattle.jr_tree.specs.Tree.{IsTree}
use Rattle.jr_defs.specs.declared.referent.Referent.{Referent}
use Rattle.jr_defs.specs.declared.referent.Referent.TheVariants.{Unbound, ArrayLength, Package, Declared}
use Rattle.jr_defs.specs.Referents.{Table, entries}
use Rattle.jr_defs.specs.Constants.{HasConstantForm, ConstantOf}
use Rattle.jr_defs.specs.Declarations.{IsType, IsObject, IsString}
use Rattle.jr_defs.specs.Formed.{SeeksType, IsNameLabel, NamesTypeFirst, IsFormed}
use Rattle.jr_defs.specs.Laws.{SameHeaders}
use Rattle.jr_defs.specs.Binding.{IsBound}
use Rattle.jr_defs.specs.Lookup.{LookFor, Look}
use Rattle.jr_defs.specs.Supertypes.{SuperAt, Above}
use Rattle.jr_defs.specs.Typing.{TypeOf}
use Rattle.jr_defs.proofs.Carry.{look_carries}
use Rattle.jr_defs.proofs.Itself.{same, moved_same, turned_headers, SameImportNames, SameFirst}
use Rattle.jr_defs.proofs.OneBinding.{SameBelow, name_typing, search_same}
use Rattle.jr_defs.proofs.HeadersAgree.{type_role, look_declares}
use Rattle.jr_defs.proofs.TypesAgree.{seeks_past, SameTypes, turned_types, turned_names}
use Rattle.jr_defs.proofs.TypingSame.{SameNames, typing_same}
use Rattle.jr_plain.specs.Constants.{has_constant_form}
use Rattle.jr_plain.specs.Constants.{constants as constants_of}
use Rattle.jr_plain.specs.Conversions.{Constants}
use Rattle.jr_plain.specs.Search.{Finds}
use Rattle.jr_plain.specs.Typing.{IsTypable, expression_types}
use Rattle.jr_plain.proofs.Expressions.{expression_finds}
use Rattle.jr_plain.proofs.Valued.{form_constants_find}
use Rattle.jr_places.specs.declared.places.Places.{Places}
use Rattle.jr_supers.specs.declared.subtypes.Supers.{Supers}
use Rattle.jr_supers.specs.Supers.{IsWellHeaded, HasNoCycle, AreSupersOf}
use Rattle.jr_supers.specs.Tabled.{IsSized}
use Rattle.jr_members.specs.declared.members.Members.{Members}
use Rattle.jr_members.specs.Sources.{ArePlaced, AreSeen}
use Rattle.jr_members.specs.Worlds.{AreMembersOf}
use Rattle.jr_lookup.specs.declared.imports.Imports.{Imports}
use Rattle.jr_lookup.specs.Imports.{AreImports}
use Rattle.jr_constants.specs.declared.constants.Constants as code
use Rattle.jr_constants.specs.Resting.{values_of}
use Rattle.jr_types.specs.Typed.{CanType}
use Rattle.jr_bind.specs.declared.filling.Filling.{Filling}
use Rattle.jr_bind.specs.declared.filling.Known.{Known}
use Rattle.jr_bind.specs.declared.stages.Stage.{Stage}
use Rattle.jr_bind.specs.declared.stages.Stage.TheVariants as stage
use Rattle.jr_bind.specs.Late.{AreLate, is_name, seeks_type, seeks_nothing, IsLateAt}
use Rattle.jr_bind.specs.Filled.{table_of, int_at, IsReady, FillsRows}
use Rattle.jr_bind.specs.Exact.{IsProgramIn, AreConstants, AreFormed}
use Rattle.jr_bind.specs.Before.{NeedsBehind}
use Rattle.jr_bind.specs.Looked.{IsLookedUp, AreKnown, AreNamedSo, AreFilledFrom}
use Rattle.jr_bind.specs.Turns.{IsKnownUnder, CanFill}
use Rattle.jr_bind.specs.Naming.{FillsNames, HasHeaderTypes, BindsTypes, AreSetting, IsReadyToName, AreLookedUpIn, AreTypesLookedUp}
use Rattle.jr_lookup.proofs.Looking.{nothing_looked}
use Rattle.jr_bind.proofs.Carrying.{seen_over, acyclic_back}
use Rattle.jr_bind.proofs.Keeping.{agree}
use Rattle.jr_bind.proofs.Constant.{constants_over, ints_known}
use Rattle.jr_bind.proofs.Dotting.{name_typed}
use Rattle.jr_bind.proofs.Knowing.{known_over}
use Rattle.jr_bind.proofs.Turning.{named_by_names}
use Rattle.jr_bind.proofs.Whole.{program_formed, names_late, others_late}

-- ---- labels

name_is : (l : Label) → is_name l ≡ true → IsNameLabel l
name_is (is.Name k at b) e = tt
name_is _ e = absurd (false≢true e)

name_or : (l : Label) → IsNameLabel l ⊎ (is_name l ≡ false)
name_or (is.Name k at b) = inl tt
name_or _ = inr refl

seeking_name : (l : Label) → seeks_type (sought_by l) ≡ true → IsNameLabel l
seeking_name (is.Name k at b) e = tt
seeking_name is.Select e = absurd (false≢true e)
seeking_name is.SuperSelect e = absurd (false≢true e)
seeking_name (is.Call on.Absent) e = absurd (false≢true e)
seeking_name (is.Call on.Expression) e = absurd (false≢true e)
seeking_name (is.Call on.Name) e = absurd (false≢true e)
seeking_name (is.Call on.Super) e = absurd (false≢true e)
seeking_name (is.Break true) e = absurd (false≢true e)
seeking_name (is.Break false) e = absurd (false≢true e)
seeking_name (is.Continue true) e = absurd (false≢true e)
seeking_name (is.Continue false) e = absurd (false≢true e)
seeking_name _ e = absurd (false≢true e)

-- a name asks for the type of what stands before it alone
name_behind : (k : NameKind) (is_qualified : Bool) → NeedsBehind (name_sought k is_qualified) → ⊥
name_behind kind.Package is_qualified h = h
name_behind kind.Variable true h = h
name_behind kind.Variable false h = h
name_behind kind.Type true h = h
name_behind kind.Type false h = h
name_behind kind.PackageOrType true h = h
name_behind kind.PackageOrType false h = h
name_behind kind.Ambiguous true h = h
name_behind kind.Ambiguous false h = h

named_behind : (l : Label) → IsNameLabel l → NeedsBehind (sought_by l) → ⊥
named_behind (is.Name k place is_qualified) h needs = name_behind k is_qualified needs
named_behind _ h needs = absurd h

nothing_apart : (s : Sought) → seeks_nothing s ≡ true → seeks_type s ≡ false
nothing_apart sought.Nothing e = refl
nothing_apart _ e = absurd (false≢true e)

pub type_apart : (s : Sought) → seeks_type s ≡ true → seeks_nothing s ≡ false
type_apart sought.Nothing e = absurd (false≢true e)
type_apart _ e = refl

nothing_is : (s : Sought) → seeks_nothing s ≡ true → s ≡ sought.Nothing
nothing_is sought.Nothing e = refl
nothing_is _ e = absurd (false≢true e)

pub seeks_back : (s : Sought) → SeeksType s → seeks_type s ≡ true
seeks_back (sought.Simple kind.Type) h = refl
seeks_back (sought.Simple kind.PackageOrType) h = refl
seeks_back (sought.Simple kind.Variable) h = absurd h
seeks_back (sought.Simple kind.Ambiguous) h = absurd h
seeks_back (sought.Simple kind.Package) h = absurd h
seeks_back (sought.Qualified kind.Type) h = refl
seeks_back (sought.Qualified kind.PackageOrType) h = refl
seeks_back (sought.Qualified kind.Variable) h = absurd h
seeks_back (sought.Qualified kind.Ambiguous) h = absurd h
seeks_back (sought.Qualified kind.Package) h = absurd h
seeks_back _ h = absurd h

not_seeking : (b : Bool) → (b ≡ true → ⊥) → b ≡ false
not_seeking true h = absurd (h refl)
not_seeking false h = refl

-- ---- no type is above itself

super_none : (p : Rows) (t : Table) → IsFormed p → (c n s : ℕ) → SuperAt p t c n s → IsObject p c → ⊥
super_none p t formed c n s (SuperAt.class k e) o = formed.object_bare c n o (inl k)
super_none p t formed c n s (SuperAt.implied i e) o = i.below o
super_none p t formed c n s (SuperAt.interface k e) o = formed.object_bare c n o (inr k)

above_none : (p : Rows) (t : Table) → IsFormed p → HasNoCycle p t → (c s : ℕ) → Above p t c s → IsObject p c → ⊥
above_none p t formed none c s (Above.direct e) o = super_none p t formed c e.place s e.at o
above_none p t formed none c s (Above.further {r = r} e more) o = super_none p t formed c e.place r e.at o
above_none p t formed none c s (Above.object i e) o = none c (Above.object i o)

above_then : (p : Rows) (t : Table) → IsFormed p → HasNoCycle p t → (c r s : ℕ) → Above p t c r → Above p t r s → Above p t c s
above_then p t formed none c r s (Above.direct e) more = Above.further e more
above_then p t formed none c r s (Above.further {r = q} e up) more = Above.further e (above_then p t formed none q r s up more)
above_then p t formed none c r s (Above.object i o) more = absurd (above_none p t formed none r s more o)

pub typable : (p : Rows) (t : Table) → IsFormed p → ((s d : ℕ) → IsString p s → IsString p d → s ≡ d) → HasNoCycle p t → AreNamedSo p t → IsTypable p t
typable p t formed one_string none named = record {
  headed = record { tree = formed.tree; header = formed.header };
  one_string = one_string;
  variable = named.variable;
  length_of = named.length_of;
  acyclic = λ d s up down. absurd (none d (above_then p t formed none d s d up down));
}

-- ---- from one table to another

module _ (p : Rows) (formed : IsFormed p) (v u : Table) (types : SameTypes p v u) (headers : HasHeaderTypes p u) (n : ℕ) where
  abbrev K : ℕ → Type 0
  K = HasConstantForm p v

  abbrev L : ℕ → Type 0
  L = HasConstantForm p u

  same_headers : SameHeaders p v u
  same_headers = record {
    at = λ c m h. types.at m (formed.header_name c m h);
    types = λ c m s l h e. headers.types c m s l h (sym (types.at m (formed.header_name c m h)) ∙ e);
  }

  same_imports : SameImportNames p v u
  same_imports = record { at = λ i form e. types.at (i + 1) (formed.first_name i (subst NamesTypeFirst (sym e) NamesTypeFirst.import)) }

  looked_over : (a : Referent) → SameFirst p v u n → SameBelow p v u K L n → SameBelow p u v L K n → Look p v K n a → Look p u L n a
  looked_over a first below back h = subst (Look p u L n) (moved_same a) (look_carries p v K p u L same same (IsType p) (IsType p) n n (name p n) (sought_at p n)
      (search_same p v u K L formed same_headers same_imports types (turned_types p v u types) n first below)
      (search_same p u v L K formed (turned_headers p v u same_headers) (turned_names p v u same_imports) (turned_types p v u types) types n (λ w. sym (first w)) back) a h)

  -- a name, where names behind it agree
  pub name_over : IsNameLabel (label p n) → ((m : ℕ) → n < m → IsNameLabel (label p m) → v m ≡ u m) → (a : Referent) → IsLookedUp p v n a → IsLookedUp p u n a
  name_over named behind a h = looked_over a (λ below. behind (n + 1) (omega arith) (formed.name_below n (n + 1) named below (omega arith)))
      (λ m b w lt x. let i = formed.name_below n m named w lt in name_typing p v u K L formed types m b i (behind m lt i) x)
      (λ m b w lt x. let i = formed.name_below n m named w lt in name_typing p u v L K formed (turned_types p v u types) m b i (sym (behind m lt i)) x) h

  -- any row, where names agree and all that stands behind it
  pub row_over : ((m : ℕ) → IsNameLabel (label p m) → v m ≡ u m) → ((m : ℕ) → n < m → v m ≡ u m) → (a : Referent) → IsLookedUp p v n a → IsLookedUp p u n a
  row_over names behind a h = looked_over a (λ below. behind (n + 1) (omega arith))
      (λ m b w lt x. typing_same p v u formed same_headers types there (turned_types p v u types) back (n + 1) (λ i le. behind i (omega arith)) m b (omega arith) x)
      (λ m b w lt x. typing_same p u v formed (turned_headers p v u same_headers) (turned_types p v u types) back types there (n + 1) (λ i le. sym (behind i (omega arith))) m b (omega arith) x) h
    where
      there : SameNames p v u
      there = record { at = names }

      back : SameNames p u v
      back = record { at = λ m k. sym (names m k) }

-- ---- the two stages

abbrev no_constants : Constants
no_constants n = None

module _ (known : Known) (stages : List Stage) (first named with_ints last : Filling) (found : code.Constants) (program : IsProgramIn known.setting.rows.now known.setting.places.now) (late : AreLate known.setting.rows.now stages)
    (ready : IsReady known.setting.rows.now first) (begin : IsReadyToName known first)
    (names : FillsRows stages stage.Name first named)
    (names_looked : (constant : Constants) → CanFill known stages stage.Name constant first → AreFilledFrom known.setting.rows.now stages stage.Name (table_of first) (table_of named) 0)
    (table : with_ints.table ≡ named.table) (types : with_ints.types ≡ named.types) (string : with_ints.string ≡ named.string)
    (constants : IsSized known.setting.rows.now → IsTree known.setting.rows.now → AreFormed known.setting.rows.now (table_of named) found)
    (ints : IsSized known.setting.rows.now → IsTree known.setting.rows.now → length named.ints.items ≡ length known.setting.rows.now → (k : ℕ) → slice_index_or with_ints.ints.items k None ≡ int_at found k)
    (others : FillsRows stages stage.Other with_ints last)
    (others_looked : (constant : Constants) → CanFill known stages stage.Other constant with_ints → AreFilledFrom known.setting.rows.now stages stage.Other (table_of with_ints) (table_of last) 0)
    (none : HasNoCycle known.setting.rows.now (table_of last)) (headers : HasHeaderTypes known.setting.rows.now (table_of last)) where
  abbrev p : Rows
  p = known.setting.rows.now

  form : IsFormed p
  form = program_formed p known.setting.places.now program

  -- names alone are bound before the last stage
  unbound : (a : Referent) → a ≡ Unbound → ((d : ℕ) (level : Option ℕ) → a ≡ Declared d level → ⊥) × (a ≡ Package → ⊥) × (a ≡ ArrayLength → ⊥)
  unbound a e = (λ d level f. absurd (let z = sym e ∙ f in cc), λ f. let z = sym e ∙ f in cc, λ f. let z = sym e ∙ f in cc)

  unsought : (n : ℕ) → is_name (label p n) ≡ false → table_of first n ≡ Unbound
  unsought n e = begin.binds.unseen n (not_seeking (seeks_type (sought_at p n)) (λ seeks. name_apart (label p n) e (seeking_name (label p n) seeks)))
    where
      name_apart : (l : Label) → is_name l ≡ false → IsNameLabel l → ⊥
      name_apart (is.Name k at b) e h = false≢true (sym e)
      name_apart _ e h = h

  first_named : AreNamedSo p (table_of first)
  first_named = named_by_names p (table_of first) (λ n. ⊎_elim (λ h. inl h) (λ e. inr (unbound (table_of first n) (unsought n e))) (name_or (label p n)))

  names_there : (n : ℕ) → is_name (label p n) ≡ false → table_of named n ≡ table_of first n
  names_there n e = names.others n (λ of. false≢true (sym e ∙ (late.1 n stage.Name of).1))

  named_named : AreNamedSo p (table_of named)
  named_named = named_by_names p (table_of named) (λ n. ⊎_elim (λ h. inl h) (λ e. inr (unbound (table_of named n) (names_there n e ∙ unsought n e))) (name_or (label p n)))

  table_is : (n : ℕ) → table_of with_ints n ≡ table_of named n
  table_is n = ap (λ v. entries v.items n) table

  last_types : SameTypes p (table_of named) (table_of last)
  last_types = record { at = λ n seeks. sym (table_is n) ∙ (agree p stages stage.Other with_ints last (others_late p stages late) others).at n seeks }

  -- a table that the stage of names has filled in part
  module _ (v : Table) (off : (m : ℕ) → (slice_get stages m ≡ Some stage.Name → ⊥) → v m ≡ table_of first m) where
    to_last : SameTypes p v (table_of last)
    to_last = record { at = λ n seeks. off n (λ of. names_late p stages late n of seeks) ∙ (agree p stages stage.Name first named (names_late p stages late) names).at n seeks ∙ last_types.at n seeks }

    name_finds : AreNamedSo p v → (m : ℕ) → IsNameLabel (label p m) → Finds (expression_types p v no_constants m) (λ a. TypeOf p v (HasConstantForm p v) m a)
    name_finds so m h = subst (λ o. Finds o (λ a. TypeOf p v (HasConstantForm p v) m a)) (name_typed p v (constants_of p v (has_constant_form p v)) no_constants m h)
        (expression_finds p v has_types (HasConstantForm p v) (constants_of p v (has_constant_form p v)) (form_constants_find p v has_types) m)
      where
        has_types : IsTypable p v
        has_types = typable p v form begin.one_string (acyclic_back p form v (table_of last) to_last none) so

  can_name : CanFill known stages stage.Name no_constants first
  can_name = record {
    formed = form;
    late = names_late p stages late;
    stages_size = late.0;
    types_size = ready.types_size;
    table_size = begin.binds.size;
    known_is = begin.known_is;
    named = first_named;
    can = record { sized = program.sized; seen = begin.known_is.seen; string_is = ready.string_is program.sized.few; ints_are = ready.no_ints };
    before = λ v off so n of needs up. name_finds v off so (n + 1) (form.name_below n (n + 1) (name_is (label p n) (late.1 n stage.Name of).1) up (omega arith));
    behind = λ v off so n of needs. absurd (named_behind (label p n) (name_is (label p n) (late.1 n stage.Name of).1) needs);
  }

  to_ints : SameTypes p (table_of first) (table_of with_ints)
  to_ints = record { at = λ n seeks. (agree p stages stage.Name first named (names_late p stages late) names).at n seeks ∙ sym (table_is n) }

  can_type : CanType (values_of found) p (table_of with_ints) known.setting.places.now known.supers.now with_ints.ints.items with_ints.string
  can_type = record {
    sized = program.sized;
    seen = seen_over p form (table_of first) (table_of with_ints) to_ints known.setting.places.now known.supers.now begin.known_is.seen;
    string_is = string ∙ names.rest.string_is ∙ ready.string_is program.sized.few;
    ints_are = ints_known found with_ints.ints.items (ints program.sized form.tree (ap length names.rest.ints_are ∙ ready.ints_size));
  }

  -- a table that the last stage has filled in part
  module _ (v : Table) (off : (m : ℕ) → (slice_get stages m ≡ Some stage.Other → ⊥) → v m ≡ table_of with_ints m) where
    seeks_same : SameTypes p v (table_of last)
    seeks_same = record { at = λ n seeks. let apart = λ (of : slice_get stages n ≡ Some stage.Other). others_late p stages late n of seeks in off n apart ∙ sym (others.others n apart) }

    named_same : SameTypes p (table_of named) v
    named_same = record { at = λ n seeks. sym (off n (λ of. others_late p stages late n of seeks) ∙ table_is n) }

    not_other : (n : ℕ) → IsNameLabel (label p n) → slice_get stages n ≡ Some stage.Other → ⊥
    not_other n h of = apart (label p n) (late.1 n stage.Other of).1 h
      where
        apart : (l : Label) → is_name l ≡ false → IsNameLabel l → ⊥
        apart (is.Name k at b) e h = false≢true (sym e)
        apart _ e h = h

    names_kept : (n : ℕ) → IsNameLabel (label p n) → table_of named n ≡ v n
    names_kept n h = sym (off n (not_other n h) ∙ table_is n)

    names_same : (n : ℕ) → IsNameLabel (label p n) → v n ≡ table_of last n
    names_same n h = off n (not_other n h) ∙ sym (others.others n (not_other n h))

    finds : AreNamedSo p v → (m : ℕ) → Finds (expression_types p v (values_of found) m) (λ a. TypeOf p v (HasConstantForm p v) m a)
    finds so = expression_finds p v has_types (HasConstantForm p v) (values_of found) (λ n. subst (λ o. Finds o (λ w. ConstantOf p v (HasConstantForm p v) n w)) (sym (are.whole has_types n)) (form_constants_find p v has_types n))
      where
        has_types : IsTypable p v
        has_types = typable p v form begin.one_string (acyclic_back p form v (table_of last) seeks_same none) so

        are : AreConstants p v found
        are = constants_over p form (table_of named) v named_same names_kept found (constants program.sized form.tree)

  can_others : CanFill known stages stage.Other (values_of found) with_ints
  can_others = record {
    formed = form;
    late = others_late p stages late;
    stages_size = late.0;
    types_size = ap (λ v. length v.items) types ∙ names.rest.types_size ∙ ready.types_size;
    table_size = ap (λ v. length v.items) table ∙ names.rest.table_size ∙ begin.binds.size;
    known_is = known_over p (table_of first) (table_of with_ints) form to_ints known.setting.places.now known.setting.scopes.now known.supers.now known.members.now known.imports.now begin.known_is;
    named = subst (λ v. AreNamedSo p (entries v.items)) (sym table) named_named;
    can = can_type;
    before = λ v off so n of needs up. finds v off so (n + 1);
    behind = λ v off so n of needs. finds v off so;
  }

  other_looked : (n : ℕ) → slice_get stages n ≡ Some stage.Other → IsLookedUp p (table_of last) n (table_of last n)
  other_looked n of = let w = others_looked (values_of found) can_others n (omega arith) of in
      row_over p form w.under (table_of last) (seeks_same w.under w.off) headers n (names_same w.under w.off) w.after (table_of last n) w.looked

  name_kept : (n : ℕ) → IsNameLabel (label p n) → table_of named n ≡ table_of last n
  name_kept n h = sym (table_is n) ∙ names_same (table_of with_ints) (λ m apart. refl) n h

  name_looked : (n : ℕ) → slice_get stages n ≡ Some stage.Name → IsLookedUp p (table_of last) n (table_of last n)
  name_looked n of = let w = names_looked no_constants can_name n (omega arith) of in let name' = name_is (label p n) (late.1 n stage.Name of).1 in
      subst (IsLookedUp p (table_of last) n) (name_kept n name')
      (name_over p form w.under (table_of last) (to_last w.under w.off) headers n name' (λ m lt h. w.after m lt ∙ name_kept m h) (table_of named n) w.looked)

  unbound_last : (n : ℕ) → seeks_nothing (sought_at p n) ≡ true → table_of last n ≡ Unbound
  unbound_last n nothing = others.others n (λ of. false≢true (sym (late.1 n stage.Other of).2 ∙ nothing)) ∙ table_is n ∙ names.others n (λ of. false≢true (sym (late.1 n stage.Name of).2 ∙ nothing))
      ∙ begin.binds.unseen n (nothing_apart (sought_at p n) nothing)

  pub looked_in : AreLookedUpIn p stages (table_of last)
  looked_in = record { names = name_looked; others = other_looked; nothing = unbound_last }

-- ---- rows of a stage that looks up types

pub types_filled : (p : Rows) (stages : List Stage) (s : Stage) (old new : Filling) → ((n : ℕ) → slice_get stages n ≡ Some s → seeks_type (sought_at p n) ≡ true) → FillsRows stages s old new
    → BindsTypes p old.table.items → BindsTypes p new.table.items
types_filled p stages s old new seeks so binds = record {
  size = so.rest.table_size ∙ binds.size;
  unseen = λ n e. so.others n (λ of. false≢true (sym e ∙ seeks n of)) ∙ binds.unseen n e;
}

pub binds_same : (p : Rows) (a b : List Referent) → a ≡ b → BindsTypes p b → BindsTypes p a
binds_same p a b e = subst (BindsTypes p) (sym e)

-- ---- by what is sought

seeking_is_name : (l : Label) → seeks_type (sought_by l) ≡ true → is_name l ≡ false → ⊥
seeking_is_name l e apart = off l (seeking_name l e) apart
  where
    off : (l : Label) → IsNameLabel l → is_name l ≡ false → ⊥
    off (is.Name k at b) h e = false≢true (sym e)
    off _ h e = h

nothing_past : (p : Rows) (n : ℕ) → length p ≤ n → seeks_nothing (sought_at p n) ≡ true
nothing_past p n le = ap (λ r. seeks_nothing (sought_by r.label)) (get_or_past p n (record { label = is.Skip; name = []; parent = n; end = n + 1; previous = n }) le)

module _ (p : Rows) (stages : List Stage) (late : AreLate p stages) (n : ℕ) where
  name_stage : (s : Stage) → IsLateAt p n s → seeks_type (sought_at p n) ≡ false → is_name (label p n) ≡ true → seeks_nothing (sought_at p n) ≡ false → s ≡ stage.Name
  name_stage stage.Header h e named some = absurd (false≢true (sym e ∙ h))
  name_stage stage.Import h e named some = absurd (false≢true (sym e ∙ h.0))
  name_stage stage.Type h e named some = absurd (false≢true (sym e ∙ h.0))
  name_stage stage.Name h e named some = refl
  name_stage stage.Other h e named some = absurd (false≢true (sym h.1 ∙ named))
  name_stage stage.Nothing h e named some = absurd (false≢true (sym some ∙ h))

  other_stage : (s : Stage) → IsLateAt p n s → is_name (label p n) ≡ false → seeks_nothing (sought_at p n) ≡ false → s ≡ stage.Other
  other_stage stage.Header h apart some = absurd (seeking_is_name (label p n) h apart)
  other_stage stage.Import h apart some = absurd (seeking_is_name (label p n) h.0 apart)
  other_stage stage.Type h apart some = absurd (seeking_is_name (label p n) h.0 apart)
  other_stage stage.Name h apart some = absurd (false≢true (sym apart ∙ h.1))
  other_stage stage.Other h apart some = refl
  other_stage stage.Nothing h apart some = absurd (false≢true (sym some ∙ h))

  -- what looks for something has a stage
  pub staged : seeks_nothing (sought_at p n) ≡ false → (s : Stage) × (slice_get stages n ≡ Some s)
  staged some = ⊎_elim (λ w. (w.0, w.2)) (λ past. absurd (false≢true (sym some ∙ nothing_past p n (let same = late.0 in let le = past.0 in omega arith)))) (slice_get_cases stages n).1

  named_at : seeks_type (sought_at p n) ≡ false → is_name (label p n) ≡ true → seeks_nothing (sought_at p n) ≡ false → slice_get stages n ≡ Some stage.Name
  named_at e named some = let w = staged some in subst (λ s. slice_get stages n ≡ Some s) (name_stage w.0 (late.1 n w.0 w.1) e named some) w.1

  other_at : is_name (label p n) ≡ false → seeks_nothing (sought_at p n) ≡ false → slice_get stages n ≡ Some stage.Other
  other_at apart some = let w = staged some in subst (λ s. slice_get stages n ≡ Some s) (other_stage w.0 (late.1 n w.0 w.1) apart some) w.1

sought_below : (p : Rows) (n : ℕ) → seeks_nothing (sought_at p n) ≡ false → n < length p
sought_below p n e = ⊎_elim (λ lt. lt) (λ le. absurd (false≢true (sym e ∙ nothing_past p n le))) (cases_lt n (length p))

-- with the rows that look for types
all_bound : (p : Rows) (stages : List Stage) (t : Table) → AreLate p stages → AreTypesLookedUp p t → AreLookedUpIn p stages t → IsBound p t
all_bound p stages t late types h n = by (seeks_nothing (sought_at p n)) refl (seeks_type (sought_at p n)) refl (is_name (label p n)) refl
  where
    by : (nothing : Bool) → seeks_nothing (sought_at p n) ≡ nothing → (type : Bool) → seeks_type (sought_at p n) ≡ type → (name' : Bool) → is_name (label p n) ≡ name' → IsLookedUp p t n (t n)
    by true e type f name' g = subst (λ s. LookFor p t (HasConstantForm p t) n (name p n) s (t n)) (sym (nothing_is (sought_at p n) e))
        (subst (LookFor p t (HasConstantForm p t) n (name p n) sought.Nothing) (sym (h.nothing n e)) (nothing_looked p t (HasConstantForm p t) n (name p n)))
    by false e true f name' g = types n (sought_below p n e) f
    by false e false f true g = h.names n (named_at p stages late n f g e)
    by false e false f false g = h.others n (other_at p stages late n g e)

-- in headers stand names of types
seeks_below : (p : Rows) (n : ℕ) → SeeksType (sought_at p n) → n < length p
seeks_below p n seeks = ⊎_elim (λ lt. lt) (λ le. absurd (seeks_past p n le seeks)) (cases_lt n (length p))

header_types : (p : Rows) (t : Table) → IsFormed p → AreTypesLookedUp p t → HasHeaderTypes p t
header_types p t form types = record {
  types = λ c n s level h e. let seeks = form.header_name c n h in
      type_role p (name p n) s (look_declares p t (HasConstantForm p t) n s level (t n) seeks (types n (seeks_below p n seeks) (seeks_back (sought_at p n) seeks)) e);
}

-- ---- by the tables as they are read

pub bound_all : (known : Known) (stages : List Stage) (first last : Filling) (found : code.Constants) (read : List Referent) (these supers : Supers) (members : Members) (imports : Imports)
    → AreLate known.setting.rows.now stages → AreSetting known.setting.rows.now known.setting.places.now known.setting.scopes.now → BindsTypes known.setting.rows.now first.table.items → IsProgramIn known.setting.rows.now known.setting.places.now
    → read ≡ first.table.items → these ≡ supers → known.supers.now ≡ supers → known.members.now ≡ members → known.imports.now ≡ imports
    → (IsWellHeaded known.setting.rows.now → HasNoCycle known.setting.rows.now (entries read) → AreSupersOf known.setting.rows.now (entries read) supers)
    → (IsSized known.setting.rows.now → AreSeen known.setting.rows.now (entries read) known.setting.places.now these → AreMembersOf known.setting.rows.now (entries read) these members)
    → (ArePlaced known.setting.rows.now known.setting.places.now → AreImports known.setting.rows.now (entries read) imports)
    → HasNoCycle known.setting.rows.now (table_of last) → FillsNames known.setting.rows.now known.setting.places.now known.supers.now first last found
    → AreTypesLookedUp known.setting.rows.now (table_of last)
    → (IsReadyToName known first → HasHeaderTypes known.setting.rows.now (table_of last) → AreLookedUpIn known.setting.rows.now stages (table_of last)) → IsBound known.setting.rows.now (table_of last)
bound_all known stages first last found read these supers members imports late setting binds program e f g h i supers_are members_are imports_are none fills types looked =
    all_bound p stages (table_of last) late types (looked (record { known_is = known_is; one_string = setting.one_string; binds = binds }) (header_types p (table_of last) form types))
  where
    p : Rows
    p = known.setting.rows.now

    places : Places
    places = known.setting.places.now

    form : IsFormed p
    form = program_formed p places program

    none_first : HasNoCycle p (table_of first)
    none_first = acyclic_back p form (table_of first) (table_of last) (record { at = fills.same.at }) none

    above : AreSupersOf p (table_of first) supers
    above = subst (λ all. IsWellHeaded p → HasNoCycle p (entries all) → AreSupersOf p (entries all) supers) e supers_are program.well none_first

    seen : AreSeen p (table_of first) places supers
    seen = record { placed = program.placed; above = above }

    are_members : AreMembersOf p (table_of first) supers members
    are_members = subst (λ s. IsSized p → AreSeen p (table_of first) places s → AreMembersOf p (table_of first) s members) f
        (subst (λ all. IsSized p → AreSeen p (entries all) places these → AreMembersOf p (entries all) these members) e members_are) program.sized seen

    here : AreKnown p (table_of first) places known.setting.scopes.now supers members imports
    here = record {
      lookable = setting.lookable;
      seen = seen;
      members_are = are_members;
      class = λ o object interface. none o (Above.object interface object);
      scopes_are = setting.scopes_are;
      tops = setting.tops;
      imports_are = subst (λ all. AreImports p (entries all) imports) e (imports_are program.placed);
    }

    known_is : IsKnownUnder (table_of first) known
    known_is = subst (λ s. AreKnown p (table_of first) places known.setting.scopes.now s known.members.now known.imports.now) (sym g)
        (subst (λ m. AreKnown p (table_of first) places known.setting.scopes.now supers m known.imports.now) (sym h)
        (subst (λ r. AreKnown p (table_of first) places known.setting.scopes.now supers members r) (sym i) here))
