-- What single-type imports bring, under their units and the names of the types.
use Rattle.std.proofs.Common.{◌≡◌, ◌⊎◌, refl, sym, ◌∙◌, ap, ap₂, subst, inl, inr, ⊎_elim, arith, ℕ, zero, suc, ◌+◌, ◌<◌, Bool, true, false, cond, List, [], ◌∷◌, ◌++◌, append-nil, length, Option, Some, None, nat_eq, Decides}
use Rattle.std.proofs.lemmas.Bool.{false≢true, false_from_ne_true, or_left, or_right, or_cases, and_from, and_parts, cases_eq}
use Rattle.std.proofs.lemmas.Bool.Decides.{Decides-eqb}
use Rattle.std.proofs.lemmas.Option.{none-some, same_Some}
use Rattle.jr_tree.specs.declared.label.ImportKind.TheVariants as importing
use Rattle.jr_tree.specs.Rows.{Rows, label, parent}
use Rattle.jr_tree.specs.Local.{IsLocal}
use Rattle.jr_defs.specs.declared.referent.Referent.{Referent}
use Rattle.jr_defs.specs.declared.referent.Referent.TheVariants.{Declared}
use Rattle.jr_defs.specs.Referents.{Table}
use Rattle.jr_defs.specs.Declarations.{IsType}
use Rattle.jr_defs.specs.Packages.{InUnit}
use Rattle.jr_defs.specs.Imports.{ImportOf, ImportNames}
use Rattle.jr_plain.specs.Search.{has, Finds}
use Rattle.jr_plain.specs.Declarations.{is_type}
use Rattle.jr_plain.specs.Imports.{is_import_label}
use Rattle.jr_plain.specs.Packages.{unit_of}
use Rattle.jr_plain.specs.Types.{referred_type}
use Rattle.jr_plain.proofs.Tests.{like}
use Rattle.jr_plain.proofs.Bounds.{type_below}
use Rattle.jr_plain.proofs.Declared.{type_tells}
use Rattle.jr_plain.proofs.Imported.{import_of_tells, import_below}
use Rattle.jr_plain.proofs.OneUnit.{unit_finds}
use Rattle.jr_places.specs.declared.chains.Entry.{Entry}
use Rattle.jr_places.specs.Names.{name_row}
use Rattle.jr_places.specs.Packages.{same_some}
use Rattle.jr_members.specs.Keys.{entry_for, entry_list, entries_of}
use Rattle.jr_members.specs.Named.{under}
use Rattle.jr_members.proofs.Keyed.{is_key, under_pushed}
use Rattle.jr_members.proofs.Declaring.{entries_more}
use Rattle.jr_lookup.specs.declared.imports.Imports as code
use Rattle.jr_lookup.specs.Imports.{foreign_entry, brought_type, brought, IsBrought, AreImports}

-- ---- entries under a key

abbrev pub IsEntry : Option Entry → ℕ → ℕ → ℕ → Type 0
IsEntry None c x d = ⊥
IsEntry (Some e) c x d = (e.first ≡ c) × (e.second ≡ x) × (e.row ≡ d)

some_entry : (all : List Entry) (e : Entry) (c x d : ℕ) → Decides (has (under (all ++ e ∷ []) c x) d) ((has (under all c x) d ≡ true) ⊎ IsEntry (Some e) c x d)
some_entry all e c x d = by (is_key e c x) refl
  where
    is : has (under (all ++ e ∷ []) c x) d ≡ has (cond (is_key e c x) (e.row ∷ under all c x) (under all c x)) d
    is = ap (λ xs. has xs d) (under_pushed all e c x)

    by : (b : Bool) → is_key e c x ≡ b → Decides (has (under (all ++ e ∷ []) c x) d) ((has (under all c x) d ≡ true) ⊎ IsEntry (Some e) c x d)
    by true key = let parts = and_parts (nat_eq e.first c) (nat_eq e.second x) key in let now = is ∙ ap (λ b. has (cond b (e.row ∷ under all c x) (under all c x)) d) key in (
      λ h. ⊎_elim (λ k. inr ((Decides-eqb e.first c).0 parts.0, (Decides-eqb e.second x).0 parts.1, (Decides-eqb e.row d).0 k)) (λ k. inl k) (or_cases (nat_eq e.row d) (has (under all c x) d) (sym now ∙ h)),
      ⊎_elim (λ h. now ∙ or_right (nat_eq e.row d) (has (under all c x) d) h) (λ h. now ∙ or_left (nat_eq e.row d) (has (under all c x) d) ((Decides-eqb e.row d).1 h.2)),
    )
    by false key = let now = is ∙ ap (λ b. has (cond b (e.row ∷ under all c x) (under all c x)) d) key in (
      λ h. inl (sym now ∙ h),
      ⊎_elim (λ h. now ∙ h) (λ h. absurd (false≢true (sym key ∙ and_from (nat_eq e.first c) (nat_eq e.second x) ((Decides-eqb e.first c).1 h.0) ((Decides-eqb e.second x).1 h.1)))),
    )

one_entry : (all : List Entry) (o : Option Entry) (c x d : ℕ) → Decides (has (under (all ++ entry_list o) c x) d) ((has (under all c x) d ≡ true) ⊎ IsEntry o c x d)
one_entry all None c x d = let same = append-nil all in
    (λ h. inl (subst (λ l. has (under l c x) d ≡ true) same h), ⊎_elim (λ h. subst (λ l. has (under l c x) d ≡ true) (sym same) h) (λ h. absurd h))
one_entry all (Some e) c x d = some_entry all e c x d

entries_next : (f : ℕ → Option Entry) (c x d n : ℕ) → Decides (has (under (entries_of f n) c x) d) ((k : ℕ) × (k < n) × IsEntry (f k) c x d)
    → Decides (has (under (entries_of f (suc n)) c x) d) ((k : ℕ) × (k < suc n) × IsEntry (f k) c x d)
entries_next f c x d n more = like (one_entry (entries_of f n) (f n) c x d) out into
  where
    out : (has (under (entries_of f n) c x) d ≡ true) ⊎ IsEntry (f n) c x d → (k : ℕ) × (k < suc n) × IsEntry (f k) c x d
    out (inl h) = let m = more.0 h in let lt = m.1 in (m.0, omega arith, m.2)
    out (inr h) = (n, omega arith, h)

    into : (k : ℕ) × (k < suc n) × IsEntry (f k) c x d → (has (under (entries_of f n) c x) d ≡ true) ⊎ IsEntry (f n) c x d
    into h = let lt = h.1 in ⊎_elim (λ same. inr (subst (λ k. IsEntry (f k) c x d) same h.2)) (λ apart. inl (more.1 (h.0, omega arith, h.2))) (cases_eq h.0 n)

-- what is under a key is what some row puts there
pub entries_tell : (f : ℕ → Option Entry) (c x d n : ℕ) → Decides (has (under (entries_of f n) c x) d) ((k : ℕ) × (k < n) × IsEntry (f k) c x d)
entries_tell f c x d zero = (λ h. absurd (false≢true h), λ h. let lt = h.1 in absurd (omega arith))
entries_tell f c x d (suc n) = entries_next f c x d n (entries_tell f c x d n)

-- ---- referents

row_of : {a b : ℕ} {l m : Option ℕ} → Declared a l ≡ Declared b m → a ≡ b
row_of e = cc

module _ (p : Rows) where
  abbrev Refers : Referent → ℕ → Type 0
  Refers a c = (level : Option ℕ) × (a ≡ Declared c level) × IsType p c

  pub referred_finds : (a : Referent) → Finds (referred_type p a) (Refers a)
  referred_finds (Declared c level) d = by (is_type p c) (type_tells p c)
    where
      by : (b : Bool) → Decides b (IsType p c) → (cond b (Some c) None ≡ Some d → Refers (Declared c level) d) × (Refers (Declared c level) d → cond b (Some c) None ≡ Some d)
      by true tells = (λ e. let same = same_Some c d e in (level, ap (λ x. Declared x level) same, subst (λ k. IsType p k) same (tells.0 refl)), λ h. ap Some (row_of h.1))
      by false tells = (λ e. absurd (none-some d e), λ h. absurd (false≢true (tells.1 (subst (λ k. IsType p k) (sym (row_of h.1)) h.2))))
  referred_finds _ d = (λ e. absurd (none-some d e), λ h. let e = h.1 in absurd (cc))

  pub referred_below : (a : Referent) (o : Option ℕ) → o ≡ referred_type p a → (d : ℕ) → o ≡ Some d → d < length p
  referred_below a o is d e = type_below p d ((referred_finds a d).0 (sym is ∙ e)).2

module _ (p : Rows) (local : IsLocal p) where
  -- the unit of a row
  pub unit_is : (u d : ℕ) → Decides (same_some (unit_of p d) (Some u)) (InUnit p u d)
  unit_is u d = by (unit_of p d) (unit_finds p local d)
    where
      by : (o : Option ℕ) → Finds o (λ u. InUnit p u d) → Decides (same_some o (Some u)) (InUnit p u d)
      by None f = (λ h. absurd (false≢true h), λ i. absurd (none-some u ((f u).1 i)))
      by (Some v) f = like (Decides-eqb v u) (λ e. (f u).0 (ap Some e)) (λ i. same_Some v u ((f u).1 i))

  -- ---- what an import brings

  module _ (t : Table) where
    abbrev Brings : ℕ → ℕ → ℕ → ℕ → Type 0
    Brings i u x d = ImportOf p u importing.Single i × ImportNames p t i d × (InUnit p u d → ⊥) × (name_row p d ≡ x)

    foreign : (i r u x d : ℕ) → is_import_label importing.Single (label p i) ≡ true → referred_type p (t (i + 1)) ≡ Some r → (b : Bool) → Decides b (InUnit p (parent p i) r)
        → IsEntry (cond b None (Some (entry_for (parent p i) (name_row p r) r))) u x d → Brings i u x d
    foreign i r u x d e f true tells h = absurd h
    foreign i r u x d e f false tells h = let names = (referred_finds p (t (i + 1)) r).0 f in
        let import = (import_of_tells p (parent p i) importing.Single i).0 (and_from (is_import_label importing.Single (label p i)) (nat_eq (parent p i) (parent p i)) e ((Decides-eqb (parent p i) (parent p i)).1 refl)) in
        let here : Brings i (parent p i) x r = (import, record { level = names.0; refers = names.1; type = names.2 }, λ k. false≢true (tells.1 k), h.1) in
        subst (λ d. Brings i u x d) h.2 (subst (λ u. Brings i u x r) h.0 here)

    brought_out : (i u x d : ℕ) (b : Bool) → is_import_label importing.Single (label p i) ≡ b → (o : Option ℕ) → referred_type p (t (i + 1)) ≡ o
        → IsEntry (cond b (brought_type p (parent p i) o) None) u x d → Brings i u x d
    brought_out i u x d false e o f h = absurd h
    brought_out i u x d true e None f h = absurd h
    brought_out i u x d true e (Some r) f h = foreign i r u x d e f (same_some (unit_of p r) (Some (parent p i))) (unit_is (parent p i) r) h

    brought_into : (i u x d : ℕ) → Brings i u x d → IsEntry (brought p t i) u x d
    brought_into i u x d h = subst (λ o. IsEntry o u x d) (sym (
        ap (λ b. cond b (brought_type p (parent p i) (referred_type p (t (i + 1)))) None) parts.0
        ∙ ap (brought_type p (parent p i)) ((referred_finds p (t (i + 1)) d).1 (h.1.level, h.1.refers, h.1.type))
        ∙ ap (λ b. cond b None (Some (entry_for (parent p i) (name_row p d) d))) apart
        )) (h.0.inside, h.3, refl)
      where
        parts : (is_import_label importing.Single (label p i) ≡ true) × (nat_eq (parent p i) u ≡ true)
        parts = and_parts (is_import_label importing.Single (label p i)) (nat_eq (parent p i) u) ((import_of_tells p u importing.Single i).1 h.0)

        apart : same_some (unit_of p d) (Some (parent p i)) ≡ false
        apart = false_from_ne_true (same_some (unit_of p d) (Some (parent p i))) (λ k. h.2 (subst (λ u. InUnit p u d) h.0.inside ((unit_is (parent p i) d).0 k)))

    pub imports_are : (imports : code.Imports) → imports.singles ≡ entries_of (brought p t) (length p) → AreImports p t imports
    imports_are imports e = record {
      each = λ u x d. subst (λ all. Decides (has (under all u x) d) (IsBrought p t u x d)) (sym e) (like (entries_tell (brought p t) u x d (length p))
          (λ h. let s = brought_out h.0 u x d (is_import_label importing.Single (label p h.0)) refl (referred_type p (t (h.0 + 1))) refl h.2 in
          record { brings = record { import = h.0; is_import = s.0; names = s.1; foreign = s.2 }; named = s.3 })
          (λ h. (h.brings.import, import_below p u importing.Single h.brings.import h.brings.is_import, brought_into h.brings.import u x d (h.brings.is_import, h.brings.names, h.brings.foreign, h.named))));
    }

-- ---- one row

pub brought_none : (p : Rows) (t : Table) (i : ℕ) → is_import_label importing.Single (label p i) ≡ false → None ≡ brought p t i
brought_none p t i e = sym (ap (λ b. cond b (brought_type p (parent p i) (referred_type p (t (i + 1)))) None) e)

pub brought_some : (p : Rows) (t : Table) (i u n : ℕ) (o : Option ℕ) (e : Option Entry) → is_import_label importing.Single (label p i) ≡ true → u ≡ parent p i → n ≡ i + 1 → o ≡ referred_type p (t n)
    → e ≡ brought_type p u o → e ≡ brought p t i
brought_some p t i u n o e single inside next named is = is ∙ ap₂ (brought_type p) inside (named ∙ ap (λ n. referred_type p (t n)) next) ∙ sym (ap (λ b. cond b (brought_type p (parent p i) (referred_type p (t (i + 1)))) None) single)

pub foreign_here : (p : Rows) (u d : ℕ) (b : Bool) → b ≡ same_some (unit_of p d) (Some u) → b ≡ true → None ≡ foreign_entry p u d
foreign_here p u d b is here = sym (ap (λ b. cond b None (Some (entry_for u (name_row p d) d))) (sym is ∙ here))

pub foreign_else : (p : Rows) (u d x : ℕ) (b : Bool) → b ≡ same_some (unit_of p d) (Some u) → b ≡ false → x ≡ name_row p d → Some (entry_for u x d) ≡ foreign_entry p u d
foreign_else p u d x b is apart named = ap (λ x. Some (entry_for u x d)) named ∙ sym (ap (λ b. cond b None (Some (entry_for u (name_row p d) d))) (sym is ∙ apart))

pub singles_more : (p : Rows) (t : Table) (n : ℕ) (old new : List Entry) → old ≡ entries_of (brought p t) n → new ≡ old ++ entry_list (brought p t n) → new ≡ entries_of (brought p t) (n + 1)
singles_more p t n old new h pushed = entries_more (brought p t) n old new (brought p t n) h refl pushed
