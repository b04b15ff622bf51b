-- A row of a stage is looked up under the table so far, where that names types and variables so.
use Rattle.std.proofs.Common.{◌≡◌, ◌⊎◌, sym, ◌∙◌, subst, ⊎_elim, arith, ℕ, ◌+◌, ◌≤◌, ◌<◌, List, length, Option, Some, slice_get}
use Rattle.std.proofs.lemmas.Bool.{cases_eq}
use Rattle.std.proofs.lemmas.Option.{none-some, slice_get_past}
use Rattle.jr_tree.specs.declared.label.Label.{Label}
use Rattle.jr_tree.specs.declared.label.Label.TheVariants as is
use Rattle.jr_tree.specs.Rows.{Rows, label}
use Rattle.jr_defs.specs.declared.referent.Referent.TheVariants.{ArrayLength, Package, Declared}
use Rattle.jr_defs.specs.Referents.{Table, entries}
use Rattle.jr_defs.specs.Constants.{HasConstantForm}
use Rattle.jr_defs.specs.Declarations.{IsType, IsVariable}
use Rattle.jr_defs.specs.Formed.{IsNameLabel}
use Rattle.jr_defs.specs.Typing.{TypeOf}
use Rattle.jr_defs.proofs.TypesAgree.{SameTypes}
use Rattle.jr_plain.specs.Conversions.{Constants}
use Rattle.jr_plain.specs.Search.{Finds}
use Rattle.jr_plain.specs.Typing.{IsVariableLabel}
use Rattle.jr_plain.proofs.Typables.{variable_label, length_label}
use Rattle.jr_lookup.specs.Behind.{IsTypeLabel}
use Rattle.jr_types.specs.Typed.{AreTypesFrom}
use Rattle.jr_bind.specs.declared.filling.Filling.{Filling}
use Rattle.jr_bind.specs.declared.filling.Known.{Known}
use Rattle.jr_bind.specs.declared.stages.Stage.{Stage}
use Rattle.jr_bind.specs.Filled.{table_of, FillsRow, FillsRows}
use Rattle.jr_bind.specs.Looked.{IsLookedUp, AreTypedIfNeeded, AreNamedSo, IsFilledAt, AreFilledFrom}
use Rattle.jr_bind.specs.Turns.{IsKnownUnder, CanFill}
use Rattle.jr_bind.proofs.Referring.{names_type, names_package}
use Rattle.jr_bind.proofs.Knowing.{known_over}

-- ---- one row

-- what the row refers to is named so
record IsNamedSoAt (p : Rows) (t : Table) (n : ℕ) : Type 0 where
  type : (d : ℕ) (level : Option ℕ) → t n ≡ Declared d level → IsType p d → IsTypeLabel (label p n)
  packages : t n ≡ Package → IsTypeLabel (label p n)
  variable : (d : ℕ) (level : Option ℕ) → t n ≡ Declared d level → IsVariable p d → IsVariableLabel (label p n)
  length_of : t n ≡ ArrayLength → IsVariableLabel (label p n)

name_refers : (l : Label) → IsNameLabel l → IsTypeLabel l × IsVariableLabel l
name_refers (is.Name kind place is_qualified) h = (tt, tt)
name_refers _ h = absurd h

at_name : (p : Rows) (t : Table) (n : ℕ) → IsNameLabel (label p n) → IsNamedSoAt p t n
at_name p t n h = let both = name_refers (label p n) h in record { type = λ d level e v. both.0; packages = λ e. both.0; variable = λ d level e v. both.1; length_of = λ e. both.1 }

at_looked : (p : Rows) (v t : Table) (n : ℕ) → IsLookedUp p v n (t n) → IsNamedSoAt p t n
at_looked p v t n h = record {
  type = λ d level e k. names_type p v (HasConstantForm p v) n d (t n) level h e k;
  packages = λ e. names_package p v (HasConstantForm p v) n (t n) h e;
  variable = λ d level e k. variable_label p v (HasConstantForm p v) n d (t n) level h e k;
  length_of = λ e. length_label p v (HasConstantForm p v) n (t n) h e;
}

at_kept : (p : Rows) (t u : Table) (n : ℕ) → AreNamedSo p t → u n ≡ t n → IsNamedSoAt p u n
at_kept p t u n named same = record {
  type = λ d level e k. named.refers.type n d level (sym same ∙ e) k;
  packages = λ e. named.refers.packages n (sym same ∙ e);
  variable = λ d level e k. named.variable n d level (sym same ∙ e) k;
  length_of = λ e. named.length_of n (sym same ∙ e);
}

each_named : (p : Rows) (t : Table) → ((n : ℕ) → IsNamedSoAt p t n) → AreNamedSo p t
each_named p t each = record {
  refers = record { type = λ n. (each n).type; packages = λ n. (each n).packages };
  variable = λ n. (each n).variable;
  length_of = λ n. (each n).length_of;
}

named_then : (p : Rows) (t u : Table) (o : ℕ) → AreNamedSo p t → ((m : ℕ) → (m ≡ o → ⊥) → u m ≡ t m) → IsNamedSoAt p u o → AreNamedSo p u
named_then p t u o named others here = each_named p u (λ n. ⊎_elim (λ same. subst (IsNamedSoAt p u) (sym same) here) (λ apart. at_kept p t u n named (others n apart)) (cases_eq n o))

-- where names alone are bound
pub named_by_names : (p : Rows) (t : Table) → ((n : ℕ) → IsNameLabel (label p n) ⊎ ((d : ℕ) (level : Option ℕ) → t n ≡ Declared d level → ⊥) × (t n ≡ Package → ⊥) × (t n ≡ ArrayLength → ⊥)) → AreNamedSo p t
named_by_names p t names = each_named p t (λ n. ⊎_elim (λ h. at_name p t n h)
    (λ off. record { type = λ d level e v. absurd (off.0 d level e); packages = λ e. absurd (off.1 e); variable = λ d level e v. absurd (off.0 d level e); length_of = λ e. absurd (off.2 e) }) (names n))

-- ---- one turn of a stage

module _ (known : Known) (stages : List Stage) (stage : Stage) (constant : Constants) (start : Filling) (can : CanFill known stages stage constant start) where
  abbrev p : Rows
  p = known.setting.rows.now

  off_same : (now : Filling) → FillsRows stages stage start now → SameTypes p (table_of start) (table_of now)
  off_same now so = record { at = λ n seeks. sym (so.others n (λ of. can.late n of seeks)) }

  known_there : (now : Filling) → FillsRows stages stage start now → IsKnownUnder (table_of now) known
  known_there now so = known_over p (table_of start) (table_of now) can.formed (off_same now so) known.setting.places.now known.setting.scopes.now known.supers.now known.members.now known.imports.now can.known_is

  typed_there : (n : ℕ) (now : Filling) → FillsRows stages stage start now → AreNamedSo p (table_of now) → slice_get stages n ≡ Some stage → AreTypesFrom p (table_of now) constant now.types.items (n + 1)
      → AreTypedIfNeeded p (table_of now) now.types.items n
  typed_there n now so named of types = (
    λ needs. record {
      refers = named.refers;
      typed = λ up. subst (λ found. Finds found (λ a. TypeOf p (table_of now) (HasConstantForm p (table_of now)) (n + 1) a)) (sym (types (n + 1) (omega arith))) (can.before (table_of now) so.others named n of needs up);
    },
    λ needs. record {
      refers = named.refers;
      typed = λ m lt. subst (λ found. Finds found (λ a. TypeOf p (table_of now) (HasConstantForm p (table_of now)) m a)) (sym (types m (omega arith))) (can.behind (table_of now) so.others named n of needs m);
    },
  )

  pub turn_start : (n : ℕ) → length stages ≤ n → AreNamedSo p (table_of start) × AreFilledFrom p stages stage (table_of start) (table_of start) n
  turn_start n le = (can.named, λ m after of. absurd (past m (omega arith) of))
    where
      past : (m : ℕ) → length stages ≤ m → slice_get stages m ≡ Some stage → ⊥
      past m le of = none-some stage (sym (slice_get_past stages m le) ∙ of)

  module _ (n : ℕ) (old mid new : Filling) (lt : n < length p) (so : FillsRows stages stage start old) (row : FillsRow stages stage n old mid)
      (looked : slice_get stages n ≡ Some stage → IsKnownUnder (table_of old) known → n < length p → length old.table.items ≡ length p → AreTypedIfNeeded p (table_of old) old.types.items n
      → IsLookedUp p (table_of old) n (table_of mid n)) (same : new.table ≡ mid.table)
      (types : AreTypesFrom p (table_of old) constant old.types.items (n + 1))
      (was : AreNamedSo p (table_of old) × AreFilledFrom p stages stage (table_of start) (table_of old) (n + 1)) where
    there : slice_get stages n ≡ Some stage → IsLookedUp p (table_of old) n (table_of mid n)
    there of = looked of (known_there old so) lt (so.rest.table_size ∙ can.table_size) (typed_there n old so was.0 of types)

    others : (m : ℕ) → (m ≡ n → ⊥) → table_of mid m ≡ table_of old m
    others m apart = row.others m (λ of e. apart e)

    here : IsNamedSoAt p (table_of mid) n
    here = ⊎_elim (λ of. at_looked p (table_of old) (table_of mid) n (there of)) (λ kept. at_kept p (table_of old) (table_of mid) n was.0 kept) row.row

    filled_here : slice_get stages n ≡ Some stage → IsFilledAt p stages stage (table_of start) (table_of mid) n
    filled_here of = record { under = table_of old; off = so.others; after = λ m behind. sym (others m (λ e. absurd (omega arith))); looked = there of }

    filled_behind : (m : ℕ) → n + 1 ≤ m → slice_get stages m ≡ Some stage → IsFilledAt p stages stage (table_of start) (table_of mid) m
    filled_behind m le of = let w = was.1 m le of in record {
      under = w.under;
      off = w.off;
      after = λ k behind. w.after k behind ∙ sym (others k (λ e. absurd (omega arith)));
      looked = subst (IsLookedUp p w.under m) (sym (others m (λ e. absurd (omega arith)))) w.looked;
    }

    filled_from : AreFilledFrom p stages stage (table_of start) (table_of mid) n
    filled_from m le of = ⊎_elim (λ e. subst (IsFilledAt p stages stage (table_of start) (table_of mid)) (sym e) (filled_here (subst (λ k. slice_get stages k ≡ Some stage) e of)))
        (λ apart. filled_behind m (further m le apart) of) (cases_eq m n)
      where
        further : (m : ℕ) → n ≤ m → (m ≡ n → ⊥) → n + 1 ≤ m
        further m le apart = grind arith

    pub turn_next : AreNamedSo p (table_of new) × AreFilledFrom p stages stage (table_of start) (table_of new) n
    turn_next = subst (λ v. AreNamedSo p (entries v.items) × AreFilledFrom p stages stage (table_of start) (entries v.items) n) (sym same)
        (named_then p (table_of old) (table_of mid) n was.0 others here, filled_from)
