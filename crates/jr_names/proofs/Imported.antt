-- What static imports bring, and which of them go along with a rename.
use Rattle.std.proofs.Common.{◌≡◌, ◌⊎◌, refl, sym, ◌∙◌, ap, ap₂, subst, inl, inr, ⊎_elim, arith, ℕ, suc, ◌+◌, ◌<◌, ◌≤◌, ◌^◌, Bool, true, false, not, ◌&&◌, ◌||◌, List, [], ◌∷◌, ◌++◌, All, append_assoc, append-nil, filter, drop, length, Option, Some, None, Result, Ok, Err, nat_eq, Decides}
use Rattle.std.specs.Prelude.{IfOk, slice_index_or}
use Rattle.std.proofs.lemmas.Bool.{false≢true, or_cases, or_left, or_right}
use Rattle.std.proofs.lemmas.Bool.Decides.{Decides-eqb}
use Rattle.std.proofs.lemmas.List.{drop_more, drop_all}
use Rattle.std.proofs.lemmas.List.Elements.{All-nil, All-push, All-append}
use Rattle.std.proofs.lemmas.Option.{none-some, same_Some}
use Rattle.jr_tree.specs.declared.label.Label.{Label}
use Rattle.jr_tree.specs.declared.label.Label.TheVariants as is
use Rattle.jr_tree.specs.declared.label.ImportKind.{ImportKind}
use Rattle.jr_tree.specs.declared.label.ImportKind.TheVariants as importing
use Rattle.jr_tree.specs.declared.label.Role.{Role}
use Rattle.jr_tree.specs.declared.label.Role.TheVariants as role
use Rattle.jr_tree.specs.Rows.{Rows, label, name, parent, role_at}
use Rattle.jr_tree.specs.Local.{IsLocal}
use Rattle.jr_defs.specs.Enclosing.{IsMemberRole}
use Rattle.jr_defs.specs.Imports.{CanImport, ImportNames, ImportedBy}
use Rattle.jr_defs.specs.Members.{MemberOf}
use Rattle.jr_defs.specs.Referents.{Table}
use Rattle.jr_plain.specs.Search.{all_such, has, Lists, Finds}
use Rattle.jr_plain.specs.Types.{named_type}
use Rattle.jr_plain.proofs.Bounds.{bounded, member_below}
use Rattle.jr_plain.proofs.Headed.{headed_from_local}
use Rattle.jr_plain.proofs.Imported.{imported_by_tells}
use Rattle.jr_plain.proofs.Searches.{some, every}
use Rattle.jr_plain.proofs.Tests.{itself, both, like, implies}
use Rattle.jr_places.specs.Names.{name_row}
use Rattle.jr_places.proofs.Packing.{name_tells}
use Rattle.jr_members.specs.declared.declared.MemberKind.{MemberKind}
use Rattle.jr_members.specs.declared.declared.MemberKind.TheVariants as kind
use Rattle.jr_members.specs.declared.members.World.{World}
use Rattle.jr_members.specs.Each.{if_such}
use Rattle.jr_members.specs.Held.{role_of_kind}
use Rattle.jr_members.proofs.Each.{none_in}
use Rattle.jr_lookup.specs.Sights.{AddsSuch, IsReached, SeesImports}
use Rattle.jr_lookup.proofs.Sighting.{lists_by, lists_none, named_import}
use Rattle.jr_names.specs.Importing.{AddsImport, AddsImports, AreImportsBelow, AreImportsOf, GoesAlong, IsImportable, IsWorldOf, are_all_in, brings, brings_only, goes_along, is_import_of, is_single_static, is_static_kind, table_in}

-- ---- labels

kind_static : (k : ImportKind) → is_static_kind k ≡ true → k ≡ importing.StaticSingle
kind_static importing.StaticSingle e = refl
kind_static _ e = absurd (false≢true e)

label_static : (l : Label) → is_single_static l ≡ true → l ≡ is.Import importing.StaticSingle
label_static (is.Import k) e = ap is.Import (kind_static k e)
label_static _ e = absurd (false≢true e)

pub import_within : (p : Rows) (i : ℕ) → is_single_static (label p i) ≡ true → i < length p
import_within p i static = bounded (λ l. is_single_static l ≡ true) (λ e. false≢true e) p i static

-- ---- members by their kinds

module _ (p : Rows) (t : Table) where
  member_role : (c m : ℕ) → MemberOf p t c m → IsMemberRole (role_at p m)
  member_role c m (MemberOf.declared h) = h.member
  member_role c m (MemberOf.inherited {s = s} above held passes inherits left) = member_role s m held
  member_role c m (MemberOf.of_object interface method left) = method.declared.member

  module _ (u x c : ℕ) where
    out : (kind : MemberKind) (m : ℕ) → IsReached p t kind u x c m → IsImportable p t u x c m
    out kind m r = record { member = r.member.member; named = r.member.of.named; static = r.static; reached = r.reached }

    into : (m : ℕ) → IsImportable p t u x c m → IsReached p t kind.Field u x c m ⊎ (IsReached p t kind.Type u x c m ⊎ IsReached p t kind.Method u x c m)
    into m h = by (role_at p m) refl (member_role c m h.member)
      where
        so : (kind : MemberKind) → role_at p m ≡ role_of_kind kind → IsReached p t kind u x c m
        so kind e = record { member = record { of = record { role_is = e; named = h.named }; member = h.member }; static = h.static; reached = h.reached }

        by : (r : Role) → role_at p m ≡ r → IsMemberRole r → IsReached p t kind.Field u x c m ⊎ (IsReached p t kind.Type u x c m ⊎ IsReached p t kind.Method u x c m)
        by role.Field e k = inl (so kind.Field e)
        by role.Type e k = inr (inl (so kind.Type e))
        by role.Method e k = inr (inr (so kind.Method e))
        by _ e k = absurd k

    -- fields, types and methods have been added to no list
    pub kinds_list : (none fields types all : List ℕ) → none ≡ [] → AddsSuch (IsReached p t kind.Field u x c) none fields → AddsSuch (IsReached p t kind.Type u x c) fields types → AddsSuch (IsReached p t kind.Method u x c) types all
        → Lists all (IsImportable p t u x c)
    kinds_list none fields types all e f g h m = (
      λ k. ⊎_elim (λ k. ⊎_elim (λ k. ⊎_elim (λ k. absurd (none_in m none e k)) (λ r. out kind.Field m r) ((f.each m).0 k)) (λ r. out kind.Type m r) ((g.each m).0 k)) (λ r. out kind.Method m r) ((h.each m).0 k),
      λ i. ⊎_elim (λ r. (h.each m).1 (inl ((g.each m).1 (inl ((f.each m).1 (inr r))))))
          (λ s. ⊎_elim (λ r. (h.each m).1 (inl ((g.each m).1 (inr r)))) (λ r. (h.each m).1 (inr r)) s) (into m i),
    )

-- ---- lists

-- tests of one thing are the same
same_tests : {P : Type 0} (a b : Bool) → Decides a P → Decides b P → a ≡ b
same_tests true true d e = refl
same_tests true false d e = absurd (false≢true (e.1 (d.0 refl)))
same_tests false true d e = absurd (false≢true (d.1 (e.0 refl)))
same_tests false false d e = refl

all_in_tells : (xs others : List ℕ) → Decides (are_all_in xs others) ((x : ℕ) → has xs x ≡ true → has others x ≡ true)
all_in_tells [] others = (λ h x k. absurd (none_in x [] refl k), λ f. refl)
all_in_tells (y ∷ ys) others = like (both (itself (has others y)) (all_in_tells ys others))
    (λ h x k. ⊎_elim (λ s. subst (λ z. has others z ≡ true) ((Decides-eqb y x).0 s) h.0) (λ r. h.1 x r) (or_cases (nat_eq y x) (has ys x) k))
    (λ f. (f y (or_left (nat_eq y y) (has ys y) ((Decides-eqb y y).1 refl)), λ x r. f x (or_right (nat_eq y x) (has ys x) r)))

all_listed : {P : ℕ → Type 0} (xs others : List ℕ) → Lists xs P → Decides (are_all_in xs others) ((x : ℕ) → P x → has others x ≡ true)
all_listed xs others lists = like (all_in_tells xs others) (λ h x k. h x ((lists x).1 k)) (λ f x k. f x ((lists x).0 k))

some_listed : {P : ℕ → Type 0} (xs : List ℕ) (empty : Bool) → Lists xs P → empty ≡ nat_eq (length xs) 0 → Decides (not empty) ((x : ℕ) × P x)
some_listed [] true lists e = (λ h. absurd (false≢true h), λ h. absurd (none_in h.0 [] refl ((lists h.0).1 h.1)))
some_listed [] false lists e = absurd (false≢true e)
some_listed (x ∷ xs) true lists e = let same = (Decides-eqb (length (x ∷ xs)) 0).0 (sym e) in absurd (omega arith)
some_listed (x ∷ xs) false lists e = (λ h. (x, (lists x).0 (or_left (nat_eq x x) (has xs x) ((Decides-eqb x x).1 refl))), λ h. refl)

module _ (some others : List ℕ) (k x d : ℕ) where
  pub all_now : k < length some → x ≡ slice_index_or some k d → has others x ≡ false → are_all_in (drop k some) others ≡ are_all_in some others → false ≡ are_all_in some others
  all_now lt is now h = sym (ap (λ b. b && are_all_in (drop (k + 1) some) others) (ap (has others) (sym is) ∙ now)) ∙ sym (ap (λ xs. are_all_in xs others) (drop_more some k d lt)) ∙ h

  pub all_next : k < length some → x ≡ slice_index_or some k d → has others x ≡ true → are_all_in (drop k some) others ≡ are_all_in some others → are_all_in (drop (k + 1) some) others ≡ are_all_in some others
  all_next lt is now h = sym (ap (λ b. b && are_all_in (drop (k + 1) some) others) (ap (has others) (sym is) ∙ now)) ∙ sym (ap (λ xs. are_all_in xs others) (drop_more some k d lt)) ∙ h

  pub all_end : length some ≤ k → are_all_in (drop k some) others ≡ are_all_in some others → true ≡ are_all_in some others
  all_end past h = sym (ap (λ xs. are_all_in xs others) (drop_all k some past)) ∙ h

-- ---- what an import brings

module _ (p : Rows) (local : IsLocal p) (t : Table) (i : ℕ) (static : is_single_static (label p i) ≡ true) where
  import_is : label p i ≡ is.Import importing.StaticSingle
  import_is = label_static (label p i) static

  names : Finds (named_type p t i) (λ c. ImportNames p t i c)
  names = named_import p local t t (record { same = λ i h. refl }) i (record { form = importing.StaticSingle; import = import_is })

  pub brought_some : (c u x : ℕ) (found : Option ℕ) (all : List ℕ) → found ≡ named_type p t i → found ≡ Some c → u ≡ parent p i → x ≡ name_row p i → Lists all (IsImportable p t u x c) → Lists all (ImportedBy p t (parent p i) i)
  brought_some c u x found all is e unit named h = lists_by all all refl h
      (λ m k. record {
        is_import = record { import = import_is; inside = refl };
        of_type = c;
        names = (names c).0 (sym is ∙ e);
        member = k.member;
        static = k.static;
        named = (name_tells p m i).0 ((Decides-eqb (name_row p m) (name_row p i)).1 (k.named ∙ named));
        reached = subst (λ u. CanImport p u m) unit k.reached;
      })
      (λ m k. let same = same_Some k.of_type c (sym ((names k.of_type).1 k.names) ∙ sym is ∙ e) in record {
        member = subst (λ c. MemberOf p t c m) same k.member;
        named = (Decides-eqb (name_row p m) (name_row p i)).0 ((name_tells p m i).1 k.named) ∙ sym named;
        static = k.static;
        reached = subst (λ u. CanImport p u m) (sym unit) k.reached;
      })

  pub brought_none : (found : Option ℕ) (all : List ℕ) → found ≡ named_type p t i → found ≡ None → all ≡ [] → Lists all (ImportedBy p t (parent p i) i)
  brought_none found all is e none = lists_none all none (λ m k. none-some k.of_type (sym e ∙ is ∙ (names k.of_type).1 k.names))

  -- ---- what brings nothing else

  abbrev Only : List ℕ → Type 0
  Only family = ((m : ℕ) × ImportedBy p t (parent p i) i m) × ((m : ℕ) → ImportedBy p t (parent p i) i m → has family m ≡ true)

  below : (m : ℕ) → ImportedBy p t (parent p i) i m → m < length p
  below m h = member_below p m (member_role p t h.of_type m h.member)

  tells : (m : ℕ) → Decides (brings p t i m) (ImportedBy p t (parent p i) i m)
  tells m = imported_by_tells p t (headed_from_local p local) (parent p i) i m

  only_tells : (family : List ℕ) → Decides (brings_only p t family i) (Only family)
  only_tells family = both (some (brings p t i) (λ m. ImportedBy p t (parent p i) i m) tells (length p) below)
      (every (length p) (λ m. not (brings p t i m) || has family m) (λ m. implies (tells m) (itself (has family m))) (λ m past h. let lt = below m h in absurd (omega arith)))

  pub brings_so : (family members : List ℕ) (each empty goes : Bool) → Lists members (ImportedBy p t (parent p i) i) → each ≡ are_all_in members family → empty ≡ nat_eq (length members) 0 → goes ≡ (each && not empty)
      → goes ≡ brings_only p t family i
  brings_so family members each empty goes lists all none is = is ∙ same_tests (each && not empty) (brings_only p t family i)
      (like (both (subst (λ b. Decides b ((m : ℕ) → ImportedBy p t (parent p i) i m → has family m ≡ true)) (sym all) (all_listed members family lists)) (some_listed members empty lists none)) (λ h. (h.1, h.0)) (λ h. (h.1, h.0)))
      (only_tells family)

-- ---- what goes along

left : (a b : Bool) → (a && b) ≡ true → a ≡ true
left true b h = refl
left false b h = absurd (false≢true h)

module _ (world : World) (p : Rows) (d : ℕ) (family : List ℕ) (i : ℕ) where
  pub goes_not : (b : Bool) → b ≡ is_import_of p d i → b ≡ false → GoesAlong world p d family i false
  goes_not b is other = record {
    of_name = λ e. absurd (false≢true e);
    exact = λ w. sym (ap (λ b. b && brings_only p (table_in world) family i) (sym is ∙ other));
  }

  pub goes_so : {E : Type 0} (b : Bool) (answer : Result Bool E) → b ≡ is_import_of p d i → b ≡ true
      → IfOk answer (λ goes. IsWorldOf world world.under.rows.now → is_single_static (label world.under.rows.now i) ≡ true → goes ≡ brings_only world.under.rows.now (table_in world) family i)
      → IfOk answer (λ goes. GoesAlong world p d family i goes)
  goes_so b (Err why) is so h = tt
  goes_so b (Ok goes) is so h = record {
    of_name = λ e. sym is ∙ so;
    exact = λ w. subst (λ p. goes ≡ brings_only p (table_in world) family i) w.rows
        (h (record { few = subst (λ p. length p < 2 ^ 32) (sym w.rows) w.few; right = w.right; rows = refl }) (subst (λ p. is_single_static (label p i) ≡ true) (sym w.rows) (left _ _ (sym is ∙ so))))
        ∙ ap (λ b. b && brings_only p (table_in world) family i) (sym so ∙ is);
  }

-- ---- imports that are added

module _ (world : World) (p : Rows) (d : ℕ) (family : List ℕ) where
  one_of_name : (n : ℕ) (b : Bool) → (b ≡ true → is_import_of p d n ≡ true) → AreImportsOf p d (if_such b n)
  one_of_name n true f = All-push (λ i. is_import_of p d i ≡ true) [] n (All-nil (λ i. is_import_of p d i ≡ true)) (f refl)
  one_of_name n false f = All-nil (λ i. is_import_of p d i ≡ true)

  pub imports_none : (all : List ℕ) → AddsImports world p d family 0 all all
  imports_none all = record { imports = []; are_imports = record { of_name = All-nil (λ i. is_import_of p d i ≡ true); exact = λ w. refl }; added = sym (append-nil all) }

  pub imports_more : (n : ℕ) (old all next : List ℕ) → AddsImports world p d family n old all → AddsImport world p d family n all next → AddsImports world p d family (n + 1) old next
  imports_more n old all next h k = let more : suc n ≡ n + 1 = omega arith in record {
    imports = h.imports ++ if_such k.goes n;
    are_imports = record {
      of_name = All-append (λ i. is_import_of p d i ≡ true) h.imports (if_such k.goes n) h.are_imports.of_name (one_of_name n k.goes k.is.of_name);
      exact = λ w. ap₂ (λ xs b. xs ++ if_such b n) (h.are_imports.exact w) (k.is.exact w) ∙ ap (λ k. all_such k (goes_along p (table_in world) d family)) more;
    };
    added = k.added ∙ ap (λ xs. xs ++ if_such k.goes n) h.added ∙ append_assoc old h.imports (if_such k.goes n);
  }
