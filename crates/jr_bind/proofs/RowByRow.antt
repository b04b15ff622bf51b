-- Edges between types that are not settled, a row at a time.
use Rattle.std.proofs.Common.{◌≡◌, ◌⊎◌, refl, sym, ◌∙◌, ap, subst, inl, inr, ⊎_elim, arith, ℕ, zero, ◌+◌, ◌-◌, ◌<◌, ◌≤◌, ◌^◌, Bool, true, false, if◌then◌else◌, nat_eq, List, [], ◌∷◌, ◌++◌, length, length-append, Option, Some, None}
use Rattle.std.proofs.Math.Seq.{get_or-append_seam}
use Rattle.std.proofs.Math.ListN.{get_or-append}
use Rattle.std.proofs.lemmas.Bool.{false≢true, cases_lt, cases_eq}
use Rattle.std.proofs.lemmas.Option.{none-some, same_Some}
use Rattle.jr_tree.specs.declared.label.ImportKind.{ImportKind}
use Rattle.jr_tree.specs.declared.label.Label.{Label}
use Rattle.jr_tree.specs.declared.label.Label.TheVariants as is
use Rattle.jr_tree.specs.declared.label.NamePlace.TheVariants as place
use Rattle.jr_tree.specs.Rows.{Rows, label, parent, name}
use Rattle.jr_defs.specs.declared.referent.Referent.{Referent}
use Rattle.jr_defs.specs.declared.referent.Referent.TheVariants.{Unbound, Declared}
use Rattle.jr_defs.specs.declared.referent.Space.TheVariants as space
use Rattle.jr_defs.specs.Referents.{Table}
use Rattle.jr_defs.specs.Declarations.{IsOf, IsType}
use Rattle.jr_defs.specs.Enclosing.{DeclaredIn}
use Rattle.jr_defs.specs.Formed.{IsFormed}
use Rattle.jr_defs.specs.Headers.{NamesHeader}
use Rattle.jr_defs.specs.Imports.{ImportNames}
use Rattle.jr_defs.specs.Supertypes.{IsSuperclassLabel, IsSuperinterfaceLabel}
use Rattle.jr_plain.specs.Declarations.{is_type}
use Rattle.jr_plain.specs.Search.{has}
use Rattle.jr_plain.specs.Types.{referred_type}
use Rattle.jr_plain.proofs.Bounds.{type_below}
use Rattle.jr_plain.proofs.Declared.{type_tells}
use Rattle.jr_plain.proofs.Enclosed.{declaring_finds}
use Rattle.jr_places.specs.declared.chains.Entry.{Entry}
use Rattle.jr_places.specs.Chains.{entry_at}
use Rattle.jr_supers.specs.declared.supers.HeaderPlace.{HeaderPlace}
use Rattle.jr_supers.specs.Direct.{header_place}
use Rattle.jr_members.specs.Keys.{entry_for}
use Rattle.jr_members.proofs.Each.{front_has}
use Rattle.jr_members.proofs.Keyed.{one_added}
use Rattle.jr_headers.specs.Rounds.{look_type, is_import}
use Rattle.jr_headers.proofs.Confirmed.{zero_or}
use Rattle.jr_headers.proofs.Names.{import_row}
use Rattle.jr_bind.specs.Rounds.{IsEdgeIn}
use Rattle.jr_bind.specs.Edges.{IsBefore, IsLookedAt, IsNameConfirmed, IsOuterConfirmed, HasOwnName, IsImportConfirmed, IsRowConfirmed, IsOpenEdge, AreConfirmed, AreRising, AddsEdge, IsOpenName, IsNameEdge, GoesOver, AreConfirmedTo, AreLedOn}

-- ---- one edge more

abbrev none_there : Entry
none_there = record { first = 0; second = 0; row = 0 }

abbrev more_of : List Entry → ℕ → ℕ → List Entry
more_of old c r = old ++ entry_for c 0 r ∷ []

rise_more : (old : List Entry) (c r : ℕ) → ((k : ℕ) → k + 1 ≡ length old → (entry_at old k).first ≤ c) → AreRising old → AreRising (old ++ entry_for c 0 r ∷ [])
rise_more old c r may rise j k le lt = by (cases_lt k (length old)) (cases_lt j (length old))
  where
    size : length (more_of old c r) ≡ length old + 1
    size = length-append old (entry_for c 0 r ∷ [])

    at_old : (i : ℕ) → i < length old → (entry_at (more_of old c r) i).first ≡ (entry_at old i).first
    at_old i lt = ap (λ e. e.first) (get_or-append old (entry_for c 0 r ∷ []) none_there i lt)

    at_end : (i : ℕ) → i ≡ length old → (entry_at (more_of old c r) i).first ≡ c
    at_end i e = subst (λ i. (entry_at (more_of old c r) i).first ≡ c) (sym e) (ap (λ e. e.first) (get_or-append_seam old (entry_for c 0 r) [] none_there))

    by : (k < length old) ⊎ (length old ≤ k) → (j < length old) ⊎ (length old ≤ j) → (entry_at (more_of old c r) j).first ≤ (entry_at (more_of old c r) k).first
    by (inl up) (inl low) = let a = at_old j low in let b = at_old k up in let w = rise j k le up in omega arith
    by (inr up) (inl low) = let s = size in let a = at_old j low in let b = at_end k (omega arith) in let last = may (length old - 1) (omega arith) in let w = rise j (length old - 1) (omega arith) (omega arith) in omega arith
    by up (inr low) = let s = size in let a = at_end j (omega arith) in let b = at_end k (omega arith) in omega arith

pub edge_none : (c : ℕ) (over : Option ℕ) (old : List Entry) → over ≡ None → AddsEdge c over old old
edge_none c over old none = record { kept = λ a b h. h; from = λ a b h. inl h; told = λ s e. absurd (none-some s (sym none ∙ e)); rise = λ h. h }

pub edge_more : (c r : ℕ) (over : Option ℕ) (old new : List Entry) → over ≡ Some r → new ≡ old ++ entry_for c 0 r ∷ [] → ((k : ℕ) → k + 1 ≡ length old → (entry_at old k).first ≤ c) → AddsEdge c over old new
edge_more c r over old new is e may = record {
  kept = λ a b h. subst (λ all. IsEdgeIn all a b) (sym e) ((one_added old c 0 r a 0 b).1 (inl h));
  from = λ a b h. ⊎_elim (λ k. inl k) (λ k. inr (k.0, is ∙ ap Some k.2)) ((one_added old c 0 r a 0 b).0 (subst (λ all. IsEdgeIn all a b) e h));
  told = λ s w. subst (λ all. IsEdgeIn all c s) (sym e) ((one_added old c 0 r c 0 s).1 (inr (refl, refl, same_Some r s (sym is ∙ w))));
  rise = λ h. subst AreRising (sym e) (rise_more old c r may h);
}

-- a list that is not empty has a number
pub some_of : (all : List ℕ) → (length all ≡ 0 → ⊥) → (s : ℕ) × (has all s ≡ true)
some_of [] some = absurd (some refl)
some_of (x ∷ more) some = (x, front_has x more)

-- ---- names in headers

named_out : (l : Label) (at : HeaderPlace) → header_place l ≡ Some at → IsSuperclassLabel l ⊎ IsSuperinterfaceLabel l
named_out (is.Name kind place.Superclass b) at h = inl tt
named_out (is.Name kind place.Superinterface b) at h = inr tt
named_out _ at h = absurd (none-some at h)

named_not : (l : Label) → header_place l ≡ None → IsSuperclassLabel l ⊎ IsSuperinterfaceLabel l → ⊥
named_not (is.Name kind place.Superclass b) e h = none-some _ (sym e)
named_not (is.Name kind place.Superinterface b) e h = none-some _ (sym e)
named_not _ e h = ⊎_elim (λ k. k) (λ k. k) h

pub header_of : (p : Rows) (n : ℕ) (at : HeaderPlace) → header_place (label p n) ≡ Some at → NamesHeader p (parent p n) n
header_of p n at h = ⊎_elim (λ k. inl (record { names = k; inside = refl })) (λ k. inr (record { names = k; inside = refl })) (named_out (label p n) at h)

pub no_header : (p : Rows) (n c : ℕ) → header_place (label p n) ≡ None → NamesHeader p c n → ⊥
no_header p n c e h = named_not (label p n) e (⊎_elim (λ k. inl k.names) (λ k. inr k.names) h)

inside_of : (p : Rows) (n c : ℕ) → NamesHeader p c n → parent p n ≡ c
inside_of p n c (inl h) = h.inside
inside_of p n c (inr h) = h.inside

-- ---- one row

module _ (p : Rows) (u : Table) (rank : ℕ → ℕ) where
  not_before : (c s : ℕ) → rank c ≡ 0 → (IsBefore rank c s → ⊥) → rank s ≡ 0
  not_before c s z no' = ⊎_elim (λ e. e) (λ lt. absurd (no' (lt, inl z))) (zero_or (rank s))

  pub goes_nowhere : (edges : List Entry) → GoesOver p u rank edges edges
  goes_nowhere edges = record { kept = λ a b h. h; from = λ a b h. inl h; rise = λ h. h }

  -- a name in the header of a type that is not settled
  module _ (c n : ℕ) (over : Option ℕ) (zero_c : rank c ≡ 0) (unbound : u n ≡ Unbound) (first : Option ℕ) where
    pub open_outer : (o : ℕ) → over ≡ Some o → ((s : ℕ) → over ≡ Some s → DeclaredIn p s c × (IsBefore rank c s → ⊥)) → IsOpenName p u rank c n first None
    open_outer o e some = record {
      left = unbound;
      told = λ s w all. let out = some o e in absurd (out.1 (all o out.0, inl zero_c));
      from = λ s w. absurd (none-some s w);
    }

    pub open_first : (over ≡ None → (e : ℕ) → DeclaredIn p e c → IsBefore rank c e) → over ≡ None → IsOpenName p u rank c n first first
    open_first none e = record { left = unbound; told = λ s w all. w; from = λ s w. (w, λ o d. (none e o d).0) }

  pub name_open : (c n : ℕ) (first edge : Option ℕ) → IsLookedAt p u rank c n first → rank c ≡ 0 → IsOpenName p u rank c n first edge → IsNameEdge p u rank c n edge
  name_open c n first edge looked z h = record {
    first = first;
    looked = looked;
    kept = λ lt. absurd (omega arith);
    left = λ e. (h.left, h.told);
    told = λ s e. let w = h.from s e in (z, w.0, w.1);
  }

  pub name_settled : (c n : ℕ) (first edge : Option ℕ) → IsLookedAt p u rank c n first → (rank c ≡ 0 → ⊥) → (u n ≡ look_type p u n) × (first ≡ None) × (edge ≡ None) → IsNameEdge p u rank c n edge
  name_settled c n first edge looked apart h = record {
    first = first;
    looked = looked;
    kept = λ lt. (h.0, h.1);
    left = λ z. absurd (apart z);
    told = λ s e. absurd (none-some s (sym h.2 ∙ e));
  }

  -- the type round a type
  module _ (c : ℕ) (over : Option ℕ) (some : (s : ℕ) → over ≡ Some s → DeclaredIn p s c × (IsBefore rank c s → ⊥)) (none : over ≡ None → (e : ℕ) → DeclaredIn p e c → IsBefore rank c e)
      (either : (over ≡ None) ⊎ (rank c ≡ 0)) (old new : List Entry) (adds : AddsEdge c over old new) where
    zero_at : (s : ℕ) → over ≡ Some s → rank c ≡ 0
    zero_at s e = ⊎_elim (λ none. absurd (none-some s (sym none ∙ e))) (λ z. z) either

    one_outer : (s e : ℕ) → DeclaredIn p s c → DeclaredIn p e c → s ≡ e
    one_outer s e d f = same_Some s e (sym ((declaring_finds p c s).1 d) ∙ (declaring_finds p c e).1 f)

    pub type_goes : IsType p c → GoesOver p u rank old new × (IsType p c → IsOuterConfirmed p rank new c)
    type_goes type = (
      record { kept = adds.kept; from = λ a b h. ⊎_elim (λ k. inl k) (λ k. inr (added a b k.0 k.1)) (adds.from a b h); rise = adds.rise },
      λ t. record { kept = λ e d lt. none (is_none lt over refl) e d; left = λ e d z y. edge e d z y over refl },
    )
      where
        added : (a b : ℕ) → c ≡ a → over ≡ Some b → IsType p a × (rank a ≡ 0) × IsOpenEdge p u rank a b
        added a b same e = subst (λ a. IsType p a × (rank a ≡ 0) × IsOpenEdge p u rank a b) same
            (type, zero_at b e, IsOpenEdge.outwards (not_before c b (zero_at b e) (some b e).1) (some b e).0)

        is_none : 0 < rank c → (o : Option ℕ) → over ≡ o → over ≡ None
        is_none lt None e = e
        is_none lt (Some s) e = let z = zero_at s e in absurd (omega arith)

        edge : (e : ℕ) → DeclaredIn p e c → rank c ≡ 0 → rank e ≡ 0 → (o : Option ℕ) → over ≡ o → IsEdgeIn new c e
        edge e d z y None w = let lt = (none w e d).0 in absurd (omega arith)
        edge e d z y (Some s) w = subst (IsEdgeIn new c) (one_outer s e (some s w).0 d) (adds.told s w)

  -- a name in a header
  pub name_goes : (formed : IsFormed p) (c n : ℕ) (edge : Option ℕ) (old new : List Entry) → NamesHeader p c n → IsNameEdge p u rank c n edge → AddsEdge c edge old new
      → GoesOver p u rank old new × ((d : ℕ) → NamesHeader p d n → IsNameConfirmed p u rank new d n)
  name_goes formed c n edge old new header h adds = (
    record { kept = adds.kept; from = λ a b h. ⊎_elim (λ k. inl k) (λ k. inr (added a b k.0 k.1)) (adds.from a b h); rise = adds.rise },
    λ d w. subst (λ d. IsNameConfirmed p u rank new d n) (sym (inside_of p n c header) ∙ inside_of p n d w) told,
  )
    where
      added : (a b : ℕ) → c ≡ a → edge ≡ Some b → IsType p a × (rank a ≡ 0) × IsOpenEdge p u rank a b
      added a b same e = let w = h.told b e in subst (λ a. IsType p a × (rank a ≡ 0) × IsOpenEdge p u rank a b) same
          (formed.header c n header, w.0, IsOpenEdge.header (not_before c b w.0 (h.looked.some b w.1).3) w.2 header h.first h.looked w.1)

      told : IsNameConfirmed p u rank new c n
      told = record { first = h.first; looked = h.looked; kept = h.kept; left = λ z. let w = h.left z in (w.0, λ s e all. adds.told s (w.1 s e all)) }

  -- what stays true as edges are added
  module _ (old new : List Entry) (goes : GoesOver p u rank old new) where
    outer_kept : (c : ℕ) → IsOuterConfirmed p rank old c → IsOuterConfirmed p rank new c
    outer_kept c h = record { kept = h.kept; left = λ e d z y. goes.kept c e (h.left e d z y) }

    name_kept : (c n : ℕ) → IsNameConfirmed p u rank old c n → IsNameConfirmed p u rank new c n
    name_kept c n h = record { first = h.first; looked = h.looked; kept = h.kept; left = λ z. let w = h.left z in (w.0, λ s e all. goes.kept c s (w.1 s e all)) }

    row_kept : (n : ℕ) → IsRowConfirmed p u rank old n → IsRowConfirmed p u rank new n
    row_kept n h = record { outer = λ t. outer_kept n (h.outer t); header = λ c w. name_kept c n (h.header c w); import = h.import }

    pub rows_next : (n : ℕ) → AreConfirmedTo p u rank old n → IsRowConfirmed p u rank new n → AreConfirmedTo p u rank new (n + 1)
    rows_next n h row = record {
      each = λ k lt. ⊎_elim (λ e. subst (IsRowConfirmed p u rank new) (sym e) row) (λ apart. row_kept k (h.each k (omega arith))) (cases_eq k n);
      sound = λ c s e. ⊎_elim (λ k. h.sound c s k) (λ k. k) (goes.from c s e);
      rise = goes.rise h.rise;
    }

  pub row_goes : (n : ℕ) (old mid new : List Entry) → IsImportConfirmed p u n → GoesOver p u rank old mid × (IsType p n → IsOuterConfirmed p rank mid n)
      → GoesOver p u rank mid new × ((c : ℕ) → NamesHeader p c n → IsNameConfirmed p u rank new c n) → GoesOver p u rank old new × IsRowConfirmed p u rank new n
  row_goes n old mid new import type name = (
    record {
      kept = λ a b h. name.0.kept a b (type.0.kept a b h);
      from = λ a b h. ⊎_elim (λ k. type.0.from a b k) (λ k. inr k) (name.0.from a b h);
      rise = λ h. name.0.rise (type.0.rise h);
    },
    record { outer = λ t. outer_kept mid new name.0 n (type.1 t); header = name.1; import = import },
  )

  pub rows_start : (edges : List Entry) → edges ≡ [] → AreConfirmedTo p u rank edges 0
  rows_start edges e = subst (λ all. AreConfirmedTo p u rank all 0) (sym e) (record { each = λ k lt. absurd (omega arith); sound = λ c s h. absurd (false≢true h); rise = λ j k le lt. absurd (omega arith) })

  pub all_confirmed : (edges : List Entry) (end : ℕ) → end ≡ length p → AreConfirmedTo p u rank edges end → AreLedOn p rank edges end → AreConfirmed p u rank edges
  all_confirmed edges end e h led = record {
    each = λ n lt. h.each n (omega arith);
    are = record { sound = h.sound; rise = h.rise };
    stuck = λ c type z. let lt = type_below p c type in led c (omega arith) type z;
  }

-- ---- imports

if_type : (b : Bool) (d over : ℕ) → (if b then Some d else None) ≡ Some over → (b ≡ true) × (d ≡ over)
if_type true d over e = (refl, same_Some d over e)
if_type false d over e = absurd (none-some over e)

pub refers_to_type : (p : Rows) (a : Referent) (over : ℕ) → referred_type p a ≡ Some over → IsType p over
refers_to_type p (Declared d level) over e = let w = if_type (is_type p d) d over e in subst (IsType p) w.1 ((type_tells p d).0 w.0)
refers_to_type p _ over e = absurd (none-some over e)

pub own_name : (p : Rows) (u : Table) (n over : ℕ) → referred_type p (u n) ≡ Some over → name p over ≡ name p n → HasOwnName p u n
own_name p u n over refers same d level e type = record {
  of_kind = subst (λ r. IsOf space.Type r) (sym type) tt;
  named = subst (λ d. name p d ≡ name p n) one same;
}
  where
    is_type_at : referred_type p (Declared d level) ≡ Some d
    is_type_at = ap (λ b. if b then Some d else None) ((type_tells p d).1 type)

    one : over ≡ d
    one = same_Some over d (sym refers ∙ ap (referred_type p) e ∙ is_type_at)

pub own_none : (p : Rows) (u : Table) (n : ℕ) → referred_type p (u n) ≡ None → HasOwnName p u n
own_none p u n refers d level e type = absurd (none-some d (sym refers ∙ ap (referred_type p) e ∙ ap (λ b. if b then Some d else None) ((type_tells p d).1 type)))

no_import : (l : Label) → is_import l ≡ false → (form : ImportKind) → l ≡ is.Import form → ⊥
no_import l e form same = false≢true (sym e ∙ ap is_import same)

pub import_none : (p : Rows) (u : Table) (n : ℕ) → is_import (label p n) ≡ false → IsImportConfirmed p u n
import_none p u n e d form same = absurd (no_import (label p n) e form same)

import_form : (l : Label) → is_import l ≡ true → (form : ImportKind) × (l ≡ is.Import form)
import_form (is.Import form) e = (form, refl)
import_form _ e = absurd (false≢true e)

pub import_named : (p : Rows) (formed : IsFormed p) (u : Table) (n next : ℕ) → length p + 3 < 2 ^ 32 → is_import (label p n) ≡ true → (n + 1 < 2 ^ 32 → next ≡ n + 1) → (next < length p → HasOwnName p u next) → IsImportConfirmed p u n
import_named p formed u n next few e next_is own d form same names =
    let low = import_row p formed n form same in let inside = formed.import_name n form same in let last = formed.tree.last n low in let at : next ≡ n + 1 = next_is (omega arith) in
    subst (λ k. HasOwnName p u k) at (own (omega arith)) d names.level names.refers names.type
