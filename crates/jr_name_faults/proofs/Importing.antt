-- The types that imports of single types name, and those that units declare, one row at a time.
use Rattle.std.proofs.Common.{◌≡◌, ◌⊎◌, refl, sym, ◌∙◌, ap, ap₂, subst, inl, inr, ⊎_elim, arith, ℕ, ◌+◌, ◌<◌, Bool, true, false, not, cond, ◌&&◌, [], length, Some, None, nat_eq, Decides}
use Rattle.std.proofs.lemmas.Bool.{false≢true, cases_eq, and_from, and_parts}
use Rattle.std.proofs.lemmas.Bool.Decides.{Decides-eqb}
use Rattle.std.proofs.lemmas.Option.{none-some, same_Some}
use Rattle.jr_tree.specs.declared.label.Label.{Label}
use Rattle.jr_tree.specs.declared.label.Label.TheVariants as is
use Rattle.jr_tree.specs.declared.label.ImportKind.{ImportKind}
use Rattle.jr_tree.specs.declared.label.ImportKind.TheVariants as importing
use Rattle.jr_tree.specs.Below.{IsTypeName}
use Rattle.jr_tree.specs.Local.{HasTypeName, StartsAt, IsLocal}
use Rattle.jr_tree.specs.Rows.{Rows, label, name, parent}
use Rattle.jr_defs.specs.Referents.{Table}
use Rattle.jr_defs.specs.Imports.{ImportOf, ImportNames}
use Rattle.jr_defs.specs.Declarations.{IsType}
use Rattle.jr_defs.specs.Packages.{spelled}
use Rattle.jr_defs.specs.Rules.{CanonicalName}
use Rattle.jr_plain.specs.Enclosing.{is_top_level}
use Rattle.jr_plain.specs.Imports.{is_import_label, is_import_of}
use Rattle.jr_plain.proofs.Tests.{either, like, opposite}
use Rattle.jr_plain.proofs.Bounds.{bounded, type_below}
use Rattle.jr_plain.proofs.Enclosed.{top_level_tells}
use Rattle.jr_plain.proofs.Imported.{import_of_tells}
use Rattle.jr_places.specs.Names.{name_row}
use Rattle.jr_supers.proofs.Subtyped.{one_test}
use Rattle.jr_members.specs.Sources.{ArePlaced}
use Rattle.jr_name_rules.specs.Found.{found, imported_type}
use Rattle.jr_name_rules.specs.ImportTests as plain
use Rattle.jr_name_rules.proofs.Found.{imported_finds}
use Rattle.jr_name_rules.proofs.Imports.{ImportClash, import_clash_tells, ImportNotCanonical, import_not_canonical_tells}
use Rattle.jr_name_faults.specs.declared.imports.Imports as code
use Rattle.jr_name_faults.specs.Twins.{with_twin, AreTwins}
use Rattle.jr_name_faults.specs.Imports.{rows_of, table_of, IsPlacedWorld, single_type, IsTop, IsSingle, AreImportsTo, has_clash}
use Rattle.jr_name_faults.proofs.Scoped.{names_same, rows_same}
use Rattle.jr_name_faults.proofs.Twinned.{twins_more, twins_like, other_tells}

-- ---- the tables as they grow

pub no_twins : (P : ℕ → ℕ → ℕ → Type 0) → ((c x d : ℕ) → P c x d → ⊥) → AreTwins [] P
no_twins P none = record { lists = λ c x d. (λ h. absurd (false≢true h), λ h. absurd (none c x d h)); apart = λ c x. tt }

pub imports_start : (imports : code.Imports) → IsPlacedWorld imports.world.now → imports.tops.rows ≡ [] → imports.singles.rows ≡ [] → AreImportsTo (rows_of imports.world.now) (table_of imports.world.now) 0 0 imports
imports_start imports world tops singles = record {
  rows_are = refl;
  table_is = refl;
  few = world.few;
  placed = world.placed;
  tops_are = subst (λ l. AreTwins l (IsTop (rows_of imports.world.now) 0)) (sym tops) (no_twins (IsTop (rows_of imports.world.now) 0) (λ c x d h. let lt = h.before in absurd (omega arith)));
  singles_are = subst (λ l. AreTwins l (IsSingle (rows_of imports.world.now) (table_of imports.world.now) 0)) (sym singles)
      (no_twins (IsSingle (rows_of imports.world.now) (table_of imports.world.now) 0) (λ c x d h. let lt = h.before in absurd (omega arith)));
}

top_later : {p : Rows} {k c x d : ℕ} → IsTop p k c x d → IsTop p (k + 1) c x d
top_later h = record { before = let lt = h.before in omega arith; top = h.top; inside = h.inside; named = h.named }

top_earlier : {p : Rows} {k c x d : ℕ} → IsTop p (k + 1) c x d → (k ≡ d → ⊥) → IsTop p k c x d
top_earlier h apart = record { before = let lt = h.before in omega arith; top = h.top; inside = h.inside; named = h.named }

pub tops_none : {p : Rows} {t : Table} {k : ℕ} (imports : code.Imports) → AreImportsTo p t k 0 imports → is_top_level (rows_of imports.world.now) k ≡ false → AreImportsTo p t (k + 1) 0 imports
tops_none {p} {t} {k} imports h none = record {
  rows_are = h.rows_are;
  table_is = h.table_is;
  few = h.few;
  placed = h.placed;
  tops_are = twins_like h.tops_are (λ c x d i. top_later i)
      (λ c x d i. top_earlier i (λ same. false≢true (sym none ∙ ap (λ q. is_top_level q k) h.rows_are ∙ ap (is_top_level p) same ∙ i.top)));
  singles_are = h.singles_are;
}

pub tops_more : {p : Rows} {t : Table} {k : ℕ} (old new : code.Imports) (unit x : ℕ) → AreImportsTo p t k 0 old → is_top_level (rows_of old.world.now) k ≡ true → unit ≡ parent (rows_of old.world.now) k → x ≡ name_row p k
    → new.world.now ≡ old.world.now → new.singles.rows ≡ old.singles.rows → new.tops.rows ≡ with_twin old.tops.rows unit x k → AreImportsTo p t (k + 1) 0 new
tops_more {p} {t} {k} old new unit x h top inside named world singles tops = record {
  rows_are = ap rows_of world ∙ h.rows_are;
  table_is = ap table_of world ∙ h.table_is;
  few = h.few;
  placed = subst (λ w. ArePlaced p w.under.places.now) (sym world) h.placed;
  tops_are = subst (λ l. AreTwins l (IsTop p (k + 1))) (sym tops) (twins_like (twins_more h.tops_are unit x k)
      (λ c y d. ⊎_elim (λ i. top_later i) (λ i. subst (λ d. IsTop p (k + 1) c y d) i.1.1
      (record { before = omega arith; top = ap (λ q. is_top_level q k) (sym h.rows_are) ∙ top; inside = ap (λ q. parent q k) (sym h.rows_are) ∙ sym inside ∙ i.0; named = sym named ∙ i.1.0 })))
      (λ c y d i. ⊎_elim (λ same. inr (inside ∙ ap (λ q. parent q k) h.rows_are ∙ ap (parent p) same ∙ i.inside, (named ∙ ap (name_row p) same ∙ i.named, same))) (λ apart. inl (top_earlier i apart)) (cases_eq k d)));
  singles_are = subst (λ l. AreTwins l (IsSingle p t 0)) (sym singles) h.singles_are;
}

pub tops_end : {p : Rows} {t : Table} {k : ℕ} (imports : code.Imports) → k ≡ length p → AreImportsTo p t k 0 imports → AreImportsTo p t (length p) 0 imports
tops_end {p} {t} imports e h = subst (λ k. AreImportsTo p t k 0 imports) e h

-- ---- imports

single_names : (p : Rows) (t : Table) (i d : ℕ) → single_type p t i ≡ Some d → (is_import_label importing.Single (label p i) ≡ true) × (imported_type p t i ≡ Some d)
single_names p t i d e = by (is_import_label importing.Single (label p i)) refl e
  where
    by : (b : Bool) → is_import_label importing.Single (label p i) ≡ b → cond b (imported_type p t i) None ≡ Some d → (is_import_label importing.Single (label p i) ≡ true) × (imported_type p t i ≡ Some d)
    by true is e = (is, e)
    by false is e = absurd (none-some d e)

names_single : (p : Rows) (t : Table) (c i d : ℕ) → is_import_of p c importing.Single i ≡ true → imported_type p t i ≡ Some d → single_type p t i ≡ Some d
names_single p t c i d is e = ap (λ b. cond b (imported_type p t i) None) ((and_parts (is_import_label importing.Single (label p i)) (nat_eq (parent p i) c) is).0) ∙ e

own_import : (p : Rows) (i : ℕ) → is_import_label importing.Single (label p i) ≡ true → is_import_of p (parent p i) importing.Single i ≡ true
own_import p i is = and_from (is_import_label importing.Single (label p i)) (nat_eq (parent p i) (parent p i)) is ((Decides-eqb (parent p i) (parent p i)).1 refl)

pub single_below : (p : Rows) (t : Table) (i d : ℕ) → single_type p t i ≡ Some d → d < length p
single_below p t i d e = type_below p d ((imported_finds p t i d).0 (single_names p t i d e).1).type

single_later : {p : Rows} {t : Table} {n c x d : ℕ} → IsSingle p t n c x d → IsSingle p t (n + 1) c x d
single_later h = record { import = h.import; before = let lt = h.before in omega arith; is_import = h.is_import; names = h.names; named = h.named }

single_earlier : {p : Rows} {t : Table} {n c x d : ℕ} (h : IsSingle p t (n + 1) c x d) → (h.import ≡ n → ⊥) → IsSingle p t n c x d
single_earlier h apart = record { import = h.import; before = let lt = h.before in omega arith; is_import = h.is_import; names = h.names; named = h.named }

pub singles_none : {p : Rows} {t : Table} {n : ℕ} (imports : code.Imports) → AreImportsTo p t (length p) n imports → None ≡ single_type (rows_of imports.world.now) (table_of imports.world.now) n → AreImportsTo p t (length p) (n + 1) imports
singles_none {p} {t} {n} imports h none = record {
  rows_are = h.rows_are;
  table_is = h.table_is;
  few = h.few;
  placed = h.placed;
  tops_are = h.tops_are;
  singles_are = twins_like h.singles_are (λ c x d i. single_later i)
      (λ c x d i. single_earlier i (λ same. none-some d (none ∙ ap₂ (λ q s. single_type q s n) h.rows_are h.table_is ∙ sym (ap (single_type p t) same) ∙ names_single p t c i.import d i.is_import i.names)));
}

pub singles_more : {p : Rows} {t : Table} {n : ℕ} (old new : code.Imports) (unit x class : ℕ) → AreImportsTo p t (length p) n old → Some class ≡ single_type (rows_of old.world.now) (table_of old.world.now) n
    → unit ≡ parent (rows_of old.world.now) n → x ≡ name_row p class → new.world.now ≡ old.world.now → new.tops.rows ≡ old.tops.rows → new.singles.rows ≡ with_twin old.singles.rows unit x class → AreImportsTo p t (length p) (n + 1) new
singles_more {p} {t} {n} old new unit x class h some inside named world tops singles = record {
  rows_are = ap rows_of world ∙ h.rows_are;
  table_is = ap table_of world ∙ h.table_is;
  few = h.few;
  placed = subst (λ w. ArePlaced p w.under.places.now) (sym world) h.placed;
  tops_are = subst (λ l. AreTwins l (IsTop p (length p))) (sym tops) h.tops_are;
  singles_are = subst (λ l. AreTwins l (IsSingle p t (n + 1))) (sym singles) (twins_like (twins_more h.singles_are unit x class) out into);
}
  where
    is : single_type p t n ≡ Some class
    is = ap₂ (λ q s. single_type q s n) (sym h.rows_are) (sym h.table_is) ∙ sym some

    over : unit ≡ parent p n
    over = inside ∙ ap (λ q. parent q n) h.rows_are

    out : (c y d : ℕ) → IsSingle p t n c y d ⊎ ((unit ≡ c) × ((x ≡ y) × (class ≡ d))) → IsSingle p t (n + 1) c y d
    out c y d (inl i) = single_later i
    out c y d (inr i) = record {
      import = n;
      before = omega arith;
      is_import = subst (λ c. is_import_of p c importing.Single n ≡ true) (sym over ∙ i.0) (own_import p n (single_names p t n class is).0);
      names = (single_names p t n class is).1 ∙ ap Some i.1.1;
      named = ap (name_row p) (sym i.1.1) ∙ sym named ∙ i.1.0;
    }

    into : (c y d : ℕ) → IsSingle p t (n + 1) c y d → IsSingle p t n c y d ⊎ ((unit ≡ c) × ((x ≡ y) × (class ≡ d)))
    into c y d i = ⊎_elim (λ same. let one : class ≡ d = same_Some class d (sym is ∙ sym (ap (single_type p t) same) ∙ names_single p t c i.import d i.is_import i.names) in
        inr (
          over ∙ sym (ap (parent p) same) ∙ (Decides-eqb (parent p i.import) c).0 ((and_parts (is_import_label importing.Single (label p i.import)) (nat_eq (parent p i.import) c) i.is_import).1),
          (named ∙ ap (name_row p) one ∙ i.named, one),
        ))
        (λ apart. inl (single_earlier i apart)) (cases_eq i.import n)

-- ---- what is asked

module _ {p : Rows} {t : Table} {n : ℕ} (imports : code.Imports) (h : AreImportsTo p t (length p) n imports) where
  clash_tells : (class : ℕ) → single_type p t n ≡ Some class → Decides (has_clash p imports n class) (ImportClash p t n)
  clash_tells class is = like (either (other_tells h.singles_are (parent p n) (name_row p class) class) (other_tells h.tops_are (parent p n) (name_row p class) class)) out into
    where
      own : ImportOf p (parent p n) importing.Single n
      own = (import_of_tells p (parent p n) importing.Single n).0 (own_import p n (single_names p t n class is).0)

      names : ImportNames p t n class
      names = (imported_finds p t n class).0 (single_names p t n class is).1

      out : ((d : ℕ) × (IsSingle p t n (parent p n) (name_row p class) d × (d ≡ class → ⊥))) ⊎ ((d : ℕ) × (IsTop p (length p) (parent p n) (name_row p class) d × (d ≡ class → ⊥))) → ImportClash p t n
      out (inl (d, (k, apart))) = inl (
        own,
        (
          k.import,
          (
            ((import_of_tells p (parent p n) importing.Single k.import).0 k.is_import, k.before),
            (d, (imported_finds p t k.import d).0 k.names, (class, names, (names_same p d class k.named, apart))),
          ),
        ),
      )
      out (inr (d, (k, apart))) = inr (own, (d, (record { top = (top_level_tells p d).0 k.top; inside = k.inside }, (class, names, (sym (names_same p d class k.named), λ same. apart (sym same))))))

      one_class : (e : ℕ) → ImportNames p t n e → e ≡ class
      one_class e k = same_Some e class (sym ((imported_finds p t n e).1 k) ∙ (single_names p t n class is).1)

      into : ImportClash p t n → ((d : ℕ) × (IsSingle p t n (parent p n) (name_row p class) d × (d ≡ class → ⊥))) ⊎ ((d : ℕ) × (IsTop p (length p) (parent p n) (name_row p class) d × (d ≡ class → ⊥)))
      into (inl k) = let i = k.1.0 in let pair = k.1.1.1 in let d = pair.0 in let e = pair.2.0 in let same = one_class e pair.2.1 in let clash = pair.2.2 in
          inl (
            d,
            (
              record {
                import = i;
                before = k.1.1.0.1;
                is_import = (import_of_tells p (parent p n) importing.Single i).1 k.1.1.0.0;
                names = (imported_finds p t i d).1 pair.1;
                named = rows_same p d class (clash.0 ∙ ap (name p) same);
              },
              λ one. clash.1 (one ∙ sym same),
            ),
          )
      into (inr k) = let e = k.1.0 in let pair = k.1.1.1 in let same = one_class pair.0 pair.1 in let clash = pair.2 in
          inr (
            e,
            (
              record {
                before = type_below p e k.1.1.0.top.type;
                top = (top_level_tells p e).1 k.1.1.0.top;
                inside = k.1.1.0.inside;
                named = rows_same p e class (sym clash.0 ∙ ap (name p) same);
              },
              λ one. clash.1 (same ∙ sym one),
            ),
          )

  pub clash_some : (class : ℕ) → Some class ≡ single_type (rows_of imports.world.now) (table_of imports.world.now) n → has_clash p imports n class ≡ plain.has_import_clash p t n
  clash_some class some = one_test (has_clash p imports n class) (plain.has_import_clash p t n) (ImportClash p t n)
      (clash_tells class (ap₂ (λ q s. single_type q s n) (sym h.rows_are) (sym h.table_is) ∙ sym some)) (import_clash_tells p t n)

  pub clash_none : None ≡ single_type (rows_of imports.world.now) (table_of imports.world.now) n → false ≡ plain.has_import_clash p t n
  clash_none none = one_test false (plain.has_import_clash p t n) (ImportClash p t n) ((λ e. absurd (false≢true e)), (λ k. absurd (never k))) (import_clash_tells p t n)
    where
      not_some : (e : ℕ) → ImportOf p (parent p n) importing.Single n → ImportNames p t n e → ⊥
      not_some e own names = none-some e (none ∙ ap₂ (λ q s. single_type q s n) h.rows_are h.table_is
          ∙ names_single p t (parent p n) n e ((import_of_tells p (parent p n) importing.Single n).1 own) ((imported_finds p t n e).1 names))

      never : ImportClash p t n → ⊥
      never (inl k) = not_some k.1.1.1.2.0 k.0 k.1.1.1.2.1
      never (inr k) = not_some k.1.1.1.0 k.0 k.1.1.1.1

  pub class_below : (class : ℕ) → Some class ≡ single_type (rows_of imports.world.now) (table_of imports.world.now) n → class < length p
  class_below class some = single_below p t n class (ap₂ (λ q s. single_type q s n) (sym h.rows_are) (sym h.table_is) ∙ sym some)

-- ---- names that are not canonical

import_form : (l : Label) → plain.is_import l ≡ true → (form : ImportKind) × (l ≡ is.Import form)
import_form (is.Import form) h = (form, refl)
import_form _ h = absurd (false≢true h)

-- behind an import stands its name
name_behind : (p : Rows) → IsLocal p → (i : ℕ) → plain.is_import (label p i) ≡ true → IsTypeName (label p (i + 1))
name_behind p local i import = starts.named
  where
    form : (f : ImportKind) × (label p i ≡ is.Import f)
    form = import_form (label p i) import

    not_first : i ≡ 0 → ⊥
    not_first none = let at = ap (label p) none in let program = local.program in let e = form.1 in cc

    starts : HasTypeName p i
    starts = subst (StartsAt p i) form.1 (local.starts i (⊎_elim (λ none. absurd (not_first none)) (λ apart. omega arith) (cases_eq i 0)) (bounded (λ l. plain.is_import l ≡ true) (λ e. false≢true e) p i import))

module _ {p : Rows} {t : Table} {n : ℕ} (imports : code.Imports) (h : AreImportsTo p t (length p) n imports) where
  pub no_import : false ≡ plain.is_import (label (rows_of imports.world.now) n) → false ≡ plain.is_import_not_canonical p t n
  no_import none = ap (λ b. b && found (imported_type p t n) (λ d. not (plain.is_canonical_name p d (spelled p (n + 1))))) (none ∙ ap (λ q. plain.is_import (label q n)) h.rows_are)

  pub names_none : None ≡ imported_type (rows_of imports.world.now) (table_of imports.world.now) n → false ≡ plain.is_import_not_canonical p t n
  names_none none = one_test false (plain.is_import_not_canonical p t n) (ImportNotCanonical p t n)
      ((λ e. absurd (false≢true e)), (λ k. absurd (none-some k.1.0 (none ∙ ap₂ (λ q s. imported_type q s n) h.rows_are h.table_is ∙ (imported_finds p t n k.1.0).1 k.1.1))))
      (import_not_canonical_tells p t h.placed.local.tree n)

  module _ (class : ℕ) (is : Some class ≡ imported_type (rows_of imports.world.now) (table_of imports.world.now) n) where
    named : ImportNames p t n class
    named = (imported_finds p t n class).0 (sym (is ∙ ap₂ (λ q s. imported_type q s n) h.rows_are h.table_is))

    pub class_type : IsType p class
    class_type = named.type

    pub import_name : true ≡ plain.is_import (label (rows_of imports.world.now) n) → IsTypeName (label p (n + 1))
    import_name import = name_behind p h.placed.local n (sym (ap (λ q. plain.is_import (label q n)) h.rows_are) ∙ sym import)

    pub names_some : (b : Bool) → true ≡ plain.is_import (label (rows_of imports.world.now) n) → Decides b (CanonicalName p class (spelled p (n + 1))) → not b ≡ plain.is_import_not_canonical p t n
    names_some b import tells = one_test (not b) (plain.is_import_not_canonical p t n) (ImportNotCanonical p t n)
        (like (opposite tells) (λ other. (import_form (label p n) (sym (ap (λ q. plain.is_import (label q n)) h.rows_are) ∙ sym import), (class, named, other)))
        (λ k. subst (λ d. CanonicalName p d (spelled p (n + 1)) → ⊥) (one_class k.1.0 k.1.1) k.1.2))
        (import_not_canonical_tells p t h.placed.local.tree n)
      where
        one_class : (d : ℕ) → ImportNames p t n d → d ≡ class
        one_class d k = same_Some d class (sym ((imported_finds p t n d).1 k) ∙ (imported_finds p t n class).1 named)
