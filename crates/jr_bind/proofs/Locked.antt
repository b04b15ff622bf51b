-- Rows that look up another declaration than their lock, one by one.
use Rattle.std.proofs.Common.{◌≡◌, refl, sym, ◌∙◌, ap, subst, ⊎_elim, arith, ℕ, zero, suc, ◌+◌, ◌<◌, ◌^◌, Bool, true, false, not, List, [], ◌∷◌, ◌++◌, length, Option, Some, None, slice_get, Decides}
use Rattle.std.proofs.lemmas.Bool.{false≢true, cases_eq, cases_lt}
use Rattle.std.proofs.lemmas.Option.{none-some, same_Some, slice_get_within}
use Rattle.std.proofs.lemmas.List.{append-nil}
use Rattle.jr_tree.specs.declared.label.Sought.{Sought}
use Rattle.jr_tree.specs.declared.label.Sought.TheVariants as sought
use Rattle.jr_tree.specs.Rows.{Rows, name, sought_at}
use Rattle.jr_tree.specs.Labels.{sought_by}
use Rattle.jr_defs.specs.declared.referent.Referent.{Referent}
use Rattle.jr_defs.specs.declared.referent.Referent.TheVariants.{Unbound}
use Rattle.jr_defs.specs.declared.referent.RowType.{RowType}
use Rattle.jr_defs.specs.Referents.{Table, entries}
use Rattle.jr_defs.specs.Constants.{HasConstantForm}
use Rattle.jr_defs.specs.Lookup.{Look}
use Rattle.jr_defs.proofs.Unique.{answer_unique}
use Rattle.jr_defs.proofs.TypesAgree.{otherwise_one}
use Rattle.jr_plain.proofs.Bounds.{label_past}
use Rattle.jr_plain.proofs.Tests.{opposite, like}
use Rattle.jr_supers.specs.declared.subtypes.Supers.{Supers}
use Rattle.jr_supers.specs.Direct.{HasSupers}
use Rattle.jr_supers.specs.Supers.{IsWellHeaded, HasNoCycle, AreSupersOf}
use Rattle.jr_members.specs.Held.{ObjectIsBare}
use Rattle.jr_members.specs.Sources.{ArePlaced}
use Rattle.jr_headed.specs.Founded.{AreWell}
use Rattle.jr_constants.specs.declared.constants.Constants as code
use Rattle.jr_constants.specs.Resting.{values_of}
use Rattle.jr_lookup.specs.declared.simple.Sight.{Sight}
use Rattle.jr_lookup.specs.Imports.{AreImports}
use Rattle.jr_bind.specs.declared.binder.Bound.{Bound}
use Rattle.jr_bind.specs.declared.headers.Setting.{Setting}
use Rattle.jr_bind.specs.declared.rebinding.Rebound.{Rebound}
use Rattle.jr_bind.specs.Confirmed.{rows_of, table_of, CanLookTo, IsProgramOf, IsBindingUnder, AreTables, AreTablesOf, IsBindingOf}
use Rattle.jr_bind.specs.Exact.{IsExact}
use Rattle.jr_bind.specs.Rebound.{IsSameTarget, HasLock, IsRebound, rebound_of, AreRebound, AreLocks, seeks, IsReboundAt, one_if, AreReboundTo, Parts, parts_of, parts_by, IsLocked, IsLockedBy}
use Rattle.jr_bind.specs.Naming.{IsBoundByTypes}
use Rattle.jr_bind.proofs.Confirmed.{program_in, can_confirm, can_look}
use Rattle.jr_bind.proofs.Lateness.{one_more, last_one}

seeks_something : (s : Sought) → (s ≡ sought.Nothing → ⊥) → seeks s ≡ true
seeks_something sought.Nothing some = absurd (some refl)
seeks_something _ some = refl

pub seeks_tells : (s : Sought) → Decides (seeks s) (s ≡ sought.Nothing → ⊥)
seeks_tells s = (λ e none. false≢true (sym (ap seeks none) ∙ e), seeks_something s)

module _ (p : Rows) (t : Table) where
  pub lock_none : (n : ℕ) → seeks (sought_at p n) ≡ false → Decides false (HasLock p t n)
  lock_none n e = (λ h. absurd (false≢true h), λ lock. sym e ∙ (seeks_tells (sought_at p n)).1 lock.seeks)

  pub lock_tells : (n : ℕ) (is_unbound : Bool) → seeks (sought_at p n) ≡ true → Decides is_unbound (t n ≡ Unbound) → Decides (not is_unbound) (HasLock p t n)
  lock_tells n is_unbound e d = like (opposite d) (λ bound. record { seeks = (seeks_tells (sought_at p n)).0 e; bound = bound }) (λ lock. lock.bound)

  -- nothing is sought past the end
  inside : (n : ℕ) → HasLock p t n → n < length p
  inside n lock = ⊎_elim (λ lt. lt) (λ le. absurd (lock.seeks (ap sought_by (label_past p n le)))) (cases_lt n (length p))

  -- lookup has one answer
  one_look : (n : ℕ) (a b : Referent) → Look p t (HasConstantForm p t) n a → Look p t (HasConstantForm p t) n b → a ≡ b
  one_look n a b = answer_unique _ _ (otherwise_one p t (HasConstantForm p t) n (name p n) (sought_at p n)) a b

  -- ---- one row

  pub not_locked : (n : ℕ) → (HasLock p t n → ⊥) → IsReboundAt p t n None
  not_locked n none = record { sound = λ r e. absurd (none-some r e); whole = λ found h. absurd (none h.lock) }

  pub kept_at : (n : ℕ) (found : Referent) → Look p t (HasConstantForm p t) n found → IsSameTarget (t n) found → IsReboundAt p t n None
  kept_at n found look same = record {
    sound = λ r e. absurd (none-some r e);
    whole = λ other h. absurd (h.other (subst (λ a. IsSameTarget (t n) a) (one_look n found other look h.looked) same));
  }

  pub rebound_is : (n : ℕ) (found : Referent) → HasLock p t n → Look p t (HasConstantForm p t) n found → (IsSameTarget (t n) found → ⊥) → IsReboundAt p t n (Some (rebound_of n found))
  rebound_is n found lock look other = record {
    sound = λ r e. let same = same_Some (rebound_of n found) r e in
        (ap (λ r. r.row) (sym same), subst (λ r. IsRebound p t n r.found) same (record { lock = lock; looked = look; other = other }));
    whole = λ b h. ap (λ a. Some (rebound_of n a)) (one_look n found b look h.looked);
  }

  -- ---- all rows

  pub rebound_start : AreReboundTo p t 0 []
  rebound_start = record {
    sound = λ k r e. absurd (none-some r e);
    whole = λ n found lt h. absurd (omega arith);
    rise = λ j k r s lt e f. absurd (none-some r e);
  }

  front : (all : List Rebound) (x : Rebound) (k : ℕ) (r : Rebound) → slice_get all k ≡ Some r → slice_get (all ++ x ∷ []) k ≡ Some r
  front [] x k r e = absurd (none-some r e)
  front (y ∷ all) x zero r e = e
  front (y ∷ all) x (suc k) r e = front all x k r e

  -- an item is one of those before, or the last one
  data IsItem (all : List Rebound) (x : Rebound) (k : ℕ) (r : Rebound) : Type 0 where
    before : slice_get all k ≡ Some r → IsItem all x k r
    last : k ≡ length all → x ≡ r → IsItem all x k r

  item : (all : List Rebound) (x : Rebound) (k : ℕ) (r : Rebound) → slice_get (all ++ x ∷ []) k ≡ Some r → IsItem all x k r
  item all x k r e = ⊎_elim (λ same. IsItem.last same (same_Some x r (sym (last_one all x) ∙ subst (λ i. slice_get (all ++ x ∷ []) i ≡ Some r) same e)))
      (λ apart. IsItem.before (one_more all x k r e apart)) (cases_eq k (length all))

  passed : (n : ℕ) (all : List Rebound) → AreReboundTo p t n all → ((found : Referent) → IsRebound p t n found → ⊥) → AreReboundTo p t (n + 1) all
  passed n all so none = record {
    sound = λ k r e. let h = so.sound k r e in let lt = h.0 in (omega arith, h.1);
    whole = λ m found lt h. ⊎_elim (λ same. absurd (none found (subst (λ m. IsRebound p t m found) same h))) (λ apart. so.whole m found (omega arith) h) (cases_eq m n);
    rise = so.rise;
  }

  module _ (n : ℕ) (all : List Rebound) (so : AreReboundTo p t n all) (x : Rebound) (here : x.row ≡ n) (is : IsRebound p t n x.found) (only : (found : Referent) → IsRebound p t n found → Some x ≡ Some (rebound_of n found)) where
    sound_item : (k : ℕ) (r : Rebound) → IsItem all x k r → (r.row < n + 1) × IsRebound p t r.row r.found
    sound_item k r (IsItem.before e) = let h = so.sound k r e in let lt = h.0 in (omega arith, h.1)
    sound_item k r (IsItem.last at same) = subst (λ r. (r.row < n + 1) × IsRebound p t r.row r.found) same (omega arith, subst (λ m. IsRebound p t m x.found) (sym here) is)

    rising : (j k : ℕ) (r s : Rebound) → j < k → IsItem all x j r → IsItem all x k s → r.row < s.row
    rising j k r s lt (IsItem.before e) (IsItem.before f) = so.rise j k r s lt e f
    rising j k r s lt (IsItem.before e) (IsItem.last at same) = let h = so.sound j r e in let less = h.0 in let row = ap (λ r. r.row) same in omega arith
    rising j k r s lt (IsItem.last at same) (IsItem.before f) = let within = slice_get_within all k s f in absurd (omega arith)
    rising j k r s lt (IsItem.last at same) (IsItem.last to other) = absurd (omega arith)

    added : AreReboundTo p t (n + 1) (all ++ x ∷ [])
    added = record {
      sound = λ k r e. sound_item k r (item all x k r e);
      whole = λ m found lt h. ⊎_elim
          (λ same. (length all, last_one all x ∙ subst (λ m. Some x ≡ Some (rebound_of m found)) (sym same) (only found (subst (λ m. IsRebound p t m found) same h))))
          (λ apart. let k = so.whole m found (omega arith) h in (k.0, front all x k.0 (rebound_of m found) k.1)) (cases_eq m n);
      rise = λ j k r s lt e f. rising j k r s lt (item all x j r e) (item all x k s f);
    }

  pub rebound_next : (n : ℕ) (old new : List Rebound) (answer : Option Rebound) → AreReboundTo p t n old → IsReboundAt p t n answer → new ≡ old ++ one_if answer → AreReboundTo p t (n + 1) new
  rebound_next n old new None so row e = subst (AreReboundTo p t (n + 1)) (sym (e ∙ append-nil old)) (passed n old so (λ found h. none-some (rebound_of n found) (row.whole found h)))
  rebound_next n old new (Some x) so row e = subst (AreReboundTo p t (n + 1)) (sym e) (added n old so x (row.sound x refl).0 (row.sound x refl).1 row.whole)

  pub rebound_told : (all : List Rebound) → AreReboundTo p t (length p) all → AreRebound p t all
  rebound_told all so = record { sound = λ k r e. (so.sound k r e).1; whole = λ n found h. so.whole n found (inside n h.lock) h; rise = so.rise }

-- ---- a bound program, as lookup reads it

pub end_is : (setting : Setting) (bound : Bound) (sight : Sight) → parts_of sight ≡ parts_by setting bound → (end : ℕ) → end ≡ length setting.rows.now → end ≡ length (rows_of sight)
end_is setting bound sight is end e = e ∙ sym (ap (λ all. length all.rows) is)

module _ (setting : Setting) (bound : Bound) (sight : Sight) (types : List (Option RowType)) (is : parts_of sight ≡ parts_by setting bound) (types_are : types ≡ bound.types.items) where
  abbrev found : code.Constants
  found = bound.constants.value

  -- what is so of the one is so of the other
  to_sight : (P : Parts → List (Option RowType) → Type 0) → P (parts_by setting bound) bound.types.items → P (parts_of sight) types
  to_sight P h = subst (λ all. P all types) (sym is) (subst (P (parts_by setting bound)) (sym types_are) h)

  from_sight : (P : Parts → List (Option RowType) → Type 0) → P (parts_of sight) types → P (parts_by setting bound) bound.types.items
  from_sight P h = subst (P (parts_by setting bound)) types_are (subst (λ all. P all types) is h)

  pub program_seen : IsProgramOf setting.rows.now setting.places.now setting.scopes.now → IsProgramOf (rows_of sight) sight.world.under.places.now sight.scopes.now
  program_seen = to_sight (λ all types. IsProgramOf all.rows all.places all.scopes)

  pub tables_seen : AreTablesOf setting.rows.now setting.places.now bound
      → AreTables (rows_of sight) (table_of sight) sight.world.under.places.now sight.world.supers.now sight.world.members.now sight.imports.now found types
  tables_seen = to_sight (λ all types. AreTables all.rows (entries all.table) all.places all.supers all.members all.imports found types)

  pub types_seen : IsBoundByTypes setting.rows.now setting.places.now setting.scopes.now (entries bound.table.items) → IsBoundByTypes (rows_of sight) sight.world.under.places.now sight.scopes.now (table_of sight)
  types_seen = to_sight (λ all types. IsBoundByTypes all.rows all.places all.scopes (entries all.table))

  pub binding_seen : AreTablesOf setting.rows.now setting.places.now bound → IsProgramOf setting.rows.now setting.places.now setting.scopes.now
      → IsBindingUnder (rows_of sight) (table_of sight) sight.world.under.places.now sight.world.supers.now sight.world.members.now found types → IsBindingOf setting.rows.now setting.places.now bound
  binding_seen tables of h = let binding = from_sight (λ all types. IsBindingUnder all.rows (entries all.table) all.places all.supers all.members found types) h in record {
    binding = binding;
    imports_are = tables.imports_are (program_in setting.rows.now setting.places.now setting.scopes.now of binding.well);
  }

  -- under locks
  module _ (locked : IsLockedBy setting bound) where
    here : IsLocked (parts_of sight) found types
    here = to_sight (λ all types. IsLocked all found types) locked

    pub can_look_under : CanLookTo sight types (length (rows_of sight))
    can_look_under = can_look (values_of found) sight types (can_confirm sight found types here.program here.tables here.well here.acyclic) here.few here.locks.size here.locks.may

    pub rebound_from_sight : (all : List Rebound) → AreReboundTo (rows_of sight) (table_of sight) (length (rows_of sight)) all → AreRebound setting.rows.now (entries bound.table.items) all
    rebound_from_sight all so = rebound_told setting.rows.now (entries bound.table.items) all (from_sight (λ parts types. AreReboundTo parts.rows (entries parts.table) (length parts.rows) all) so)

-- ---- the program under its locks

-- the order of the supertypes under a table tells whether a type is above itself
pub cycle_told : (p : Rows) (read table : List Referent) (supers these : Supers) (is : Bool) → read ≡ table → these ≡ supers
    → (IsWellHeaded p → HasSupers p (entries read) supers.direct.supers) → (IsWellHeaded p → HasNoCycle p (entries read) → AreSupersOf p (entries read) supers)
    → ((t : Table) → IsWellHeaded p → HasSupers p t these.direct.supers → is ≡ true → HasNoCycle p t) → ((t : Table) → AreSupersOf p t these → ObjectIsBare p → HasNoCycle p t → is ≡ true)
    → IsWellHeaded p → ObjectIsBare p → Decides is (HasNoCycle p (entries table))
cycle_told p read table supers these is e same direct all none told headed bare = (
  λ yes. none (entries table) headed (subst (λ s. HasSupers p (entries table) s.direct.supers) (sym same) (subst (λ rows. HasSupers p (entries rows) supers.direct.supers) e (direct headed))) yes,
  λ acyclic. told (entries table) (subst (AreSupersOf p (entries table)) (sym same) (subst (λ rows. AreSupersOf p (entries rows) supers) e (all headed (subst (λ rows. HasNoCycle p (entries rows)) (sym e) acyclic)))) bare acyclic,
)

pub locked_by : (setting : Setting) (bound : Bound) (locks : List Referent) → bound.table.items ≡ locks → IsProgramOf setting.rows.now setting.places.now setting.scopes.now
    → AreWell setting.rows.now × (length setting.rows.now + 3 < 2 ^ 32) → AreLocks setting.rows.now locks → HasNoCycle setting.rows.now (entries bound.table.items)
    → (ArePlaced setting.rows.now setting.places.now → AreImports setting.rows.now (entries bound.table.items) bound.imports.value) → IsExact setting.rows.now setting.places.now bound → IsLockedBy setting bound
locked_by setting bound locks e of well are acyclic imports exact = record {
  program = of;
  well = well.0;
  few = well.1;
  locks = subst (AreLocks setting.rows.now) (sym e) are;
  acyclic = acyclic;
  tables = record { direct = λ program. (exact program acyclic).seen.above.direct; imports_are = λ program. imports program.placed; under = exact };
}
