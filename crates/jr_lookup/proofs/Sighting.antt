-- What imports bring to a place by a name.
use Rattle.std.proofs.Common.{◌≡◌, ◌⊎◌, refl, sym, ◌∙◌, ap, subst, inl, inr, ⊎_elim, arith, ℕ, ◌+◌, ◌<◌, Bool, true, false, cond, List, [], ◌∷◌, ◌++◌, append_assoc, append-nil, filter, length, Option, Some, None, nat_eq, Decides}
use Rattle.std.proofs.lemmas.Bool.{false≢true, cases_eq}
use Rattle.std.proofs.lemmas.Bool.Decides.{Decides-eqb}
use Rattle.std.proofs.lemmas.Option.{none-some, same_Some}
use Rattle.jr_tree.specs.declared.label.Label.TheVariants as is
use Rattle.jr_tree.specs.declared.label.ImportKind.TheVariants as importing
use Rattle.jr_tree.specs.declared.label.Role.TheVariants as role
use Rattle.jr_tree.specs.Labels.{role_of}
use Rattle.jr_tree.specs.Below.{IsTypeName}
use Rattle.jr_tree.specs.Rows.{Rows, label, parent, role_at}
use Rattle.jr_tree.specs.Local.{IsLocal, StartsAt, HasTypeName}
use Rattle.jr_defs.specs.Referents.{Table}
use Rattle.jr_defs.specs.Enclosing.{IsTopLevel, InTopLevel}
use Rattle.jr_defs.specs.Packages.{InUnit}
use Rattle.jr_defs.specs.Imports.{ImportOf, ImportNames, StaticImport, ImportsHold}
use Rattle.jr_plain.specs.Search.{has, Lists, Finds}
use Rattle.jr_plain.specs.Enclosing.{top_level_of}
use Rattle.jr_plain.specs.Packages.{unit_of}
use Rattle.jr_plain.specs.Types.{referred_type, named_type}
use Rattle.jr_plain.proofs.Tests.{both, like}
use Rattle.jr_plain.proofs.Searches.{among_filter, among_append}
use Rattle.jr_plain.proofs.Bounds.{bounded, type_below}
use Rattle.jr_plain.proofs.Modified.{static_tells}
use Rattle.jr_plain.proofs.Imported.{import_of_tells, import_below, can_import_tells}
use Rattle.jr_defs.proofs.Units.{one_unit}
use Rattle.jr_plain.proofs.OneUnit.{unit_finds, top_level_finds}
use Rattle.jr_places.specs.Names.{name_row}
use Rattle.jr_places.proofs.Packing.{name_tells}
use Rattle.jr_members.specs.declared.declared.MemberKind.{MemberKind}
use Rattle.jr_members.specs.Each.{if_such, ListsEach}
use Rattle.jr_members.specs.Keys.{falling}
use Rattle.jr_members.specs.Held.{IsMemberAs}
use Rattle.jr_members.proofs.Each.{front_in, none_in}
use Rattle.jr_members.proofs.Declaring.{falling_lists}
use Rattle.jr_lookup.specs.Scopes.{is_static_of}
use Rattle.jr_lookup.specs.Sights.{IsImport, SeesImports, AreImportRows, AddsSuch, IsBroughtBy, IsGathering, is_static_importable, IsReached, IsNamedBy, IsStaticOf, IsStaticAt}
use Rattle.jr_lookup.proofs.Importing.{referred_finds}

-- ---- lists

-- one item more of a list whose items that pass go behind another
pub filter_on : (test : ℕ → Bool) (target rest more : List ℕ) (d : ℕ) (found now : List ℕ) (is_such : Bool) → more ≡ d ∷ rest → is_such ≡ test d → now ≡ found ++ if_such is_such d → found ++ filter test more ≡ target → now ++ filter test rest ≡ target
filter_on test target rest more d found now is_such is such pushed h = ap (λ xs. xs ++ filter test rest) (pushed ∙ ap (λ b. found ++ if_such b d) such) ∙ append_assoc found (if_such (test d) d) (filter test rest)
    ∙ ap (λ xs. found ++ xs) (by (test d)) ∙ ap (λ xs. found ++ filter test xs) (sym is) ∙ h
  where
    by : (b : Bool) → if_such b d ++ filter test rest ≡ cond b (d ∷ filter test rest) (filter test rest)
    by true = refl
    by false = refl

pub filter_out : (test : ℕ → Bool) (target rest found : List ℕ) → rest ≡ [] → found ++ filter test rest ≡ target → found ≡ target
filter_out test target rest found none h = sym (append-nil found) ∙ ap (λ xs. found ++ filter test xs) (sym none) ∙ h

-- the same of a list whose items all go there
pub push_on : (target rest more : List ℕ) (d : ℕ) (found now : List ℕ) → more ≡ d ∷ rest → now ≡ found ++ d ∷ [] → found ++ more ≡ target → now ++ rest ≡ target
push_on target rest more d found now is pushed h = ap (λ xs. xs ++ rest) pushed ∙ append_assoc found (d ∷ []) rest ∙ ap (λ xs. found ++ xs) (sym is) ∙ h

pub push_out : (target rest found : List ℕ) → rest ≡ [] → found ++ rest ≡ target → found ≡ target
push_out target rest found none h = sym (append-nil found) ∙ ap (λ xs. found ++ xs) (sym none) ∙ h

pub lists_by : {P Q : ℕ → Type 0} (all other : List ℕ) → all ≡ other → Lists other P → ((d : ℕ) → P d → Q d) → ((d : ℕ) → Q d → P d) → Lists all Q
lists_by {P} {Q} all other e h out into d = subst (λ xs. Decides (has xs d) (Q d)) (sym e) (like (h d) (out d) (into d))

pub lists_none : {P : ℕ → Type 0} (all : List ℕ) → all ≡ [] → ((d : ℕ) → P d → ⊥) → Lists all P
lists_none {P} all e out d = subst (λ xs. Decides (has xs d) (P d)) (sym e) (λ h. absurd (false≢true h), λ k. absurd (out d k))

-- those of a list that pass have been added
pub adds_filter : {M T P : ℕ → Type 0} (test : ℕ → Bool) (old new members : List ℕ) → new ≡ old ++ filter test members → Lists members M → ((d : ℕ) → Decides (test d) (T d))
    → ((d : ℕ) → M d → T d → P d) → ((d : ℕ) → P d → M d × T d) → AddsSuch P old new
adds_filter {M} {T} {P} test old new members is lists tells to from = record {
  each = λ d. subst (λ xs. Decides (has xs d) ((has old d ≡ true) ⊎ P d)) (sym is) (like (among_append nat_eq Decides-eqb old (filter test members) d)
      (⊎_elim (λ h. inl h) (λ h. let k = (among_filter nat_eq Decides-eqb test members d).0 h in inr (to d ((lists d).0 k.0) ((tells d).0 k.1))))
      (⊎_elim (λ h. inl h) (λ h. let k = from d h in inr ((among_filter nat_eq Decides-eqb test members d).1 ((lists d).1 k.0, (tells d).1 k.1)))));
}

pub adds_lists : {M P : ℕ → Type 0} (old new members : List ℕ) → new ≡ old ++ members → Lists members M → ((d : ℕ) → M d → P d) → ((d : ℕ) → P d → M d) → AddsSuch P old new
adds_lists {M} {P} old new members is lists to from = record {
  each = λ d. subst (λ xs. Decides (has xs d) ((has old d ≡ true) ⊎ P d)) (sym is) (like (among_append nat_eq Decides-eqb old members d)
      (⊎_elim (λ h. inl h) (λ h. inr (to d ((lists d).0 h)))) (⊎_elim (λ h. inl h) (λ h. inr ((lists d).1 (from d h)))));
}

pub adds_none : {P : ℕ → Type 0} (old new : List ℕ) → new ≡ old → ((d : ℕ) → P d → ⊥) → AddsSuch P old new
adds_none {P} old new is out = record { each = λ d. subst (λ xs. Decides (has xs d) ((has old d ≡ true) ⊎ P d)) (sym is) (λ h. inl h, ⊎_elim (λ h. h) (λ k. absurd (out d k))) }

pub adds_by : {P Q : ℕ → Type 0} (old new : List ℕ) → AddsSuch P old new → ((d : ℕ) → P d → Q d) → ((d : ℕ) → Q d → P d) → AddsSuch Q old new
adds_by old new h out into = record { each = λ d. like (h.each d) (⊎_elim (λ k. inl k) (λ k. inr (out d k))) (⊎_elim (λ k. inl k) (λ k. inr (into d k))) }

-- what has been added to a list that is told
pub added_lists : {P M Q : ℕ → Type 0} (old new : List ℕ) → AddsSuch P old new → Lists old M → ((d : ℕ) → M d ⊎ P d → Q d) → ((d : ℕ) → Q d → M d ⊎ P d) → Lists new Q
added_lists old new h lists out into d = like (h.each d) (λ k. out d (⊎_elim (λ a. inl ((lists d).0 a)) (λ b. inr b) k)) (λ q. ⊎_elim (λ a. inl ((lists d).1 a)) (λ b. inr b) (into d q))

module _ (B : ℕ → ℕ → Type 0) (imports : List ℕ) where
  pub gather_start : (found : List ℕ) → found ≡ [] → IsGathering B imports imports found
  gather_start found none = record { sound = λ d h. absurd (none_in d found none h); told = λ i d h b. inr h }

  pub gather_next : (rest more found now : List ℕ) (i : ℕ) → more ≡ i ∷ rest → IsGathering B imports more found → has imports i ≡ true → AddsSuch (B i) found now → IsGathering B imports rest now
  gather_next rest more found now i is h here a = record {
    sound = λ d k. ⊎_elim (λ old. h.sound d old) (λ b. record { import = i; among = here; brings = b }) ((a.each d).0 k);
    told = λ j d k b. ⊎_elim (λ old. inl ((a.each d).1 (inl old)))
        (λ left. ⊎_elim (λ same. inl ((a.each d).1 (inr (subst (λ i. B i d) (sym same) b)))) (λ r. inr r) (front_in i j rest more is left)) (h.told j d k b);
  }

  pub gather_end : (rest found : List ℕ) → rest ≡ [] → IsGathering B imports rest found → Lists found (IsBroughtBy B imports)
  gather_end rest found none h d = (λ k. h.sound d k, λ b. ⊎_elim (λ k. k) (λ left. absurd (none_in b.import rest none left)) (h.told b.import d b.among b.brings))

-- ---- where imports hold

module _ (p : Rows) (local : IsLocal p) where
  type_not_root : (k : ℕ) → role_at p k ≡ role.Type → k ≡ 0 → ⊥
  type_not_root k e zero = let at = ap (label p) zero ∙ local.program in let program : role_at p k ≡ role.Nothing = ap role_of at in cc

  unit_no_type : (u k : ℕ) → label p u ≡ is.Unit → role_at p k ≡ role.Type → u ≡ k → ⊥
  unit_no_type u k unit e same = let at : role_at p k ≡ role.Nothing = ap role_of (ap (label p) (sym same) ∙ unit) in cc

  pub unit_of_top : (k : ℕ) → IsTopLevel p k → InUnit p (parent p k) k
  unit_of_top k top = let lt = type_below p k top.type in let more : 0 < k = ⊎_elim (λ z. absurd (type_not_root k top.type z)) (λ apart. omega arith) (cases_eq k 0) in
      let up = local.tree.up k lt more in record { unit = top.inside; from = omega arith; before = local.tree.held k lt more }

  -- the unit round a top-level type is round all in it
  pub unit_round : (u k o : ℕ) → InUnit p u k → InTopLevel p k o → InUnit p u o
  unit_round u k o i h = let from = i.from in let low = h.from in let high = h.before in
      ⊎_elim (λ same. absurd (unit_no_type u k i.unit h.top.type same))
      (λ apart. let ends = local.tree.apart u k (omega arith) i.before in record { unit = i.unit; from = omega arith; before = omega arith }) (cases_eq u k)

  pub importing_found : (o k : ℕ) (top unit : Option ℕ) → top ≡ top_level_of p o → top ≡ Some k → unit ≡ unit_of p k → Finds unit (λ u. ImportsHold p u o)
  importing_found o k top unit is e of u = (
    λ f. record { unit = unit_round u k o ((unit_finds p local k u).0 (sym of ∙ f)) inside; top = k; inside = inside },
    λ h. let own = unit_of_top k inside.top in let same = one_unit p local o (parent p k) u (unit_round (parent p k) k o own inside) h.unit in
        of ∙ (unit_finds p local k u).1 (subst (λ u. InUnit p u k) same own),
  )
    where
      inside : InTopLevel p k o
      inside = (top_level_finds p local o k).0 (sym is ∙ e)

  pub importing_none : (o : ℕ) (top : Option ℕ) → top ≡ top_level_of p o → top ≡ None → Finds None (λ u. ImportsHold p u o)
  importing_none o top is e u = (λ f. absurd (none-some u f), λ h. absurd (none-some h.top (sym e ∙ is ∙ (top_level_finds p local o h.top).1 h.inside)))

  -- ---- names of imports

  import_named : (i : ℕ) → IsImport p i → HasTypeName p i
  import_named i h = subst (StartsAt p i) h.import (local.starts i more (bounded (λ l. l ≡ is.Import h.form) (λ e. cc) p i h.import))
    where
      not_first : i ≡ 0 → ⊥
      not_first zero = let at = ap (label p) zero in let program = local.program in let import = h.import in cc

      more : 0 < i
      more = ⊎_elim (λ z. absurd (not_first z)) (λ apart. omega arith) (cases_eq i 0)

  pub import_child : (i : ℕ) → IsImport p i → nat_eq (parent p (i + 1)) i ≡ true
  import_child i h = (Decides-eqb (parent p (i + 1)) i).1 (import_named i h).inside

  pub import_next : (i : ℕ) → IsImport p i → i + 1 < length p
  import_next i h = bounded IsTypeName (λ none. none) p (i + 1) (import_named i h).named

  module _ (seen t : Table) (sees : SeesImports p seen t) (i : ℕ) (import : IsImport p i) where
    pub named_import : Finds (named_type p seen i) (λ c. ImportNames p t i c)
    named_import c = (
      λ e. let f = (referred_finds p (seen (i + 1)) c).0 (sym here ∙ e) in record { level = f.0; refers = sym (sees.same i import) ∙ f.1; type = f.2 },
      λ n. here ∙ (referred_finds p (seen (i + 1)) c).1 (n.level, sees.same i import ∙ n.refers, n.type),
    )
      where
        here : named_type p seen i ≡ referred_type p (seen (i + 1))
        here = ap (λ b. cond b (referred_type p (seen (i + 1))) None) (import_child i import)

  -- ---- static imports

  module _ (t : Table) (kind : MemberKind) (u x : ℕ) where
    pub adds_reached : (c : ℕ) (old new members : List ℕ) → new ≡ old ++ filter (is_static_importable p u) members → ListsEach members (IsMemberAs p t kind c x) → AddsSuch (IsReached p t kind u x c) old new
    adds_reached c old new members is each = adds_filter (is_static_importable p u) old new members is each.lists (λ d. both (static_tells p d) (can_import_tells p u d))
        (λ d m k. record { member = m; static = k.0; reached = k.1 }) (λ d r. (r.member, (r.static, r.reached)))

    pub adds_named : (seen : Table) → SeesImports p seen t → (i : ℕ) → IsImport p i → (found : Option ℕ) (c : ℕ) → found ≡ named_type p seen i → found ≡ Some c → (old new : List ℕ)
        → AddsSuch (IsReached p t kind u x c) old new → AddsSuch (IsNamedBy p t kind u x i) old new
    adds_named seen sees i import found c is e old new h = adds_by old new h (λ d r. record { of_type = c; names = (named_import seen t sees i import c).0 (sym is ∙ e); reached = r })
        (λ d n. let same = same_Some n.of_type c (sym ((named_import seen t sees i import n.of_type).1 n.names) ∙ sym is ∙ e) in subst (λ c. IsReached p t kind u x c d) same n.reached)

    pub adds_unnamed : (seen : Table) → SeesImports p seen t → (i : ℕ) → IsImport p i → (found : Option ℕ) → found ≡ named_type p seen i → found ≡ None → (old new : List ℕ)
        → new ≡ old → AddsSuch (IsNamedBy p t kind u x i) old new
    adds_unnamed seen sees i import found is e old new same = adds_none old new same (λ d n. none-some n.of_type (sym e ∙ is ∙ (named_import seen t sees i import n.of_type).1 n.names))

    static_rows : Lists (falling (length p) (is_static_of p u x)) (λ i. ImportOf p u importing.StaticSingle i × (name_row p i ≡ x))
    static_rows = falling_lists (is_static_of p u x) (λ i. ImportOf p u importing.StaticSingle i × (name_row p i ≡ x)) (length p)
        (λ i. both (import_of_tells p u importing.StaticSingle i) (Decides-eqb (name_row p i) x)) (λ i h. import_below p u importing.StaticSingle i h.0)

    pub static_imports : (imports : List ℕ) → imports ≡ falling (length p) (is_static_of p u x) → AreImportRows p imports
    static_imports imports is = record { each = λ i h. record { form = importing.StaticSingle; import = ((static_rows i).0 (subst (λ xs. has xs i ≡ true) is h)).0.import } }

    pub static_lists : (imports found : List ℕ) → imports ≡ falling (length p) (is_static_of p u x) → Lists found (IsBroughtBy (IsNamedBy p t kind u x) imports) → Lists found (IsStaticOf p t kind u x)
    static_lists imports found is h = lists_by found found refl h out into
      where
        out : (d : ℕ) → IsBroughtBy (IsNamedBy p t kind u x) imports d → IsStaticOf p t kind u x d
        out d b = let i = (static_rows b.import).0 (subst (λ xs. has xs b.import ≡ true) is b.among) in let r = b.brings.reached in record {
          brings = record {
            import = b.import;
            imports = record {
              is_import = i.0;
              of_type = b.brings.of_type;
              names = b.brings.names;
              member = r.member.member;
              static = r.static;
              named = (name_tells p d b.import).0 ((Decides-eqb (name_row p d) (name_row p b.import)).1 (r.member.of.named ∙ sym i.1));
              reached = r.reached;
            };
          };
          of = r.member.of;
        }

        into : (d : ℕ) → IsStaticOf p t kind u x d → IsBroughtBy (IsNamedBy p t kind u x) imports d
        into d s = let i = s.brings.imports in
            let same = (Decides-eqb (name_row p d) (name_row p s.brings.import)).0 ((name_tells p d s.brings.import).1 i.named) in record {
              import = s.brings.import;
              among = subst (λ xs. has xs s.brings.import ≡ true) (sym is) ((static_rows s.brings.import).1 (i.is_import, sym same ∙ s.of.named));
              brings = record { of_type = i.of_type; names = i.names; reached = record { member = record { of = s.of; member = i.member }; static = i.static; reached = i.reached } };
            }

  pub static_at : (t : Table) (kind : MemberKind) (o x u : ℕ) (unit : Option ℕ) → Finds unit (λ u. ImportsHold p u o) → unit ≡ Some u → (found : List ℕ) → Lists found (IsStaticOf p t kind u x) → Lists found (IsStaticAt p t kind o x)
  static_at t kind o x u unit f e found h = lists_by found found refl h (λ d s. record { imported = record { unit = u; holds = (f u).0 e; brings = s.brings }; of = s.of })
      (λ d s. let same = same_Some s.imported.unit u (sym ((f s.imported.unit).1 s.imported.holds) ∙ e) in record { brings = subst (λ u. StaticImport p t u d) same s.imported.brings; of = s.of })

  pub static_nowhere : (t : Table) (kind : MemberKind) (o x : ℕ) (unit : Option ℕ) → Finds unit (λ u. ImportsHold p u o) → unit ≡ None → (found : List ℕ) → found ≡ [] → Lists found (IsStaticAt p t kind o x)
  static_nowhere t kind o x unit f e found none = lists_none found none (λ d s. none-some s.imported.unit (sym e ∙ (f s.imported.unit).1 s.imported.holds))
