-- Types outside any other that have one name, or that of a subpackage.
use Rattle.std.proofs.Common.{◌≡◌, refl, sym, ◌∙◌, ap, ap₂, subst, inl, inr, ⊎_elim, arith, ℕ, zero, suc, ◌+◌, ◌-◌, ◌<◌, Bool, true, false, cond, ◌&&◌, ◌||◌, List, [], ◌∷◌, ◌++◌, append-nil, length, length-append, Option, Some, None, option_map, nat_eq, Decides}
use Rattle.std.proofs.lemmas.Bool.{false≢true, cases_eq, cases_lt, and_from}
use Rattle.std.proofs.lemmas.Bool.Decides.{Decides-eqb, Decides-ltb}
use Rattle.std.proofs.lemmas.List.{same_from_push}
use Rattle.std.proofs.lemmas.Option.{none-some, same_Some}
use Rattle.jr_base.specs.declared.text.Text.{Text}
use Rattle.jr_tree.specs.declared.label.Label.{Label}
use Rattle.jr_tree.specs.declared.label.Label.TheVariants as is
use Rattle.jr_tree.specs.Rows.{Rows, label, name, end}
use Rattle.jr_defs.specs.Enclosing.{IsTopLevel}
use Rattle.jr_defs.specs.Packages.{identifiers, spelled, package_by, package_of, InUnit, InPackage, SamePackage}
use Rattle.jr_defs.specs.Rules.{IsSubpackage}
use Rattle.jr_plain.specs.Search.{Finds, all_such}
use Rattle.jr_plain.specs.Enclosing.{is_unit, is_top_level}
use Rattle.jr_plain.proofs.Tests.{both, either, opposite, like}
use Rattle.jr_plain.proofs.Searches.{some}
use Rattle.jr_plain.proofs.Same.{path_tells}
use Rattle.jr_plain.proofs.Bounds.{type_below, unit_below}
use Rattle.jr_plain.proofs.Enclosed.{unit_label_tells, top_level_tells}
use Rattle.jr_plain.proofs.Packaged.{in_unit_tells, same_package_tells}
use Rattle.jr_places.specs.declared.chains.Entry.{Entry}
use Rattle.jr_places.specs.declared.places.Places.{Places}
use Rattle.jr_places.specs.Names.{name_row}
use Rattle.jr_places.specs.Numbers.{number_in}
use Rattle.jr_places.specs.Packages.{is_package, IsPackageOf, ArePackages, IsSpelled, same_some}
use Rattle.jr_places.specs.Places.{package_number}
use Rattle.jr_places.proofs.Packing.{name_tells, same_is, in_spelled, spelled_end, package_label}
use Rattle.jr_rule.specs.declared.Fault.{Fault}
use Rattle.jr_rule.specs.declared.Rule.TheVariants as rule
use Rattle.jr_rule.specs.Faults.{AreFaultsOf}
use Rattle.jr_faults.specs.Added.{row_if}
use Rattle.jr_faults.proofs.Told.{none_added, row_more, told_at}
use Rattle.jr_supers.specs.Above.{is_some_item}
use Rattle.jr_supers.proofs.Subtyped.{one_test}
use Rattle.jr_members.specs.Keys.{entry_for, entry_list}
use Rattle.jr_members.specs.Named.{under}
use Rattle.jr_members.specs.Sources.{ArePlaced}
use Rattle.jr_members.proofs.Keyed.{is_key, rows_last, under_pushed}
use Rattle.jr_lookup.specs.Scopes.{top_entry}
use Rattle.jr_lookup.proofs.Scoping.{is_keyed}
use Rattle.jr_name_rules.specs.DeclarationTests.{has_subpackage, is_second_top_type, is_named_as_package}
use Rattle.jr_name_rules.proofs.Declarations.{SecondTopType, unnamed_tells}
use Rattle.jr_name_rules.proofs.Found.{same_name_tells}
use Rattle.jr_member_faults.specs.Headers.{is_listed}
use Rattle.jr_member_faults.specs.Tops.{has_top_type_clash, AreKeysTo, IsTopUnder, package_name, IsAbove, FindsAbove, entry_above, IsUnitEntry, IsUnitUnder, AreUnitsTo, AreUnits}
use Rattle.jr_member_faults.specs.Twice.{has_entry}

-- ---- tables under keys

pub keys_start : (IsUnder : ℕ → ℕ → ℕ → Type 0) (all : List Entry) → all ≡ [] → AreKeysTo IsUnder 0 all
keys_start IsUnder all none = subst (AreKeysTo IsUnder 0) (sym none) (λ c x. (λ e. absurd (false≢true e), λ h. let lt = h.1 in absurd (omega arith)))

some_first : (b : Bool) (row : ℕ) (xs : List ℕ) → is_some_item (cond b (row ∷ xs) xs) ≡ (b || is_some_item xs)
some_first true row xs = refl
some_first false row xs = refl

listed_pushed : (all : List Entry) (entry : Option Entry) (c x : ℕ) → is_listed (all ++ entry_list entry) c x ≡ (is_keyed entry c x || is_listed all c x)
listed_pushed all None c x = ap (λ l. is_listed l c x) (append-nil all)
listed_pushed all (Some e) c x = rows_last (all ++ e ∷ []) c x (length (all ++ e ∷ [])) ∙ ap is_some_item (under_pushed all e c x) ∙ some_first (is_key e c x) e.row (under all c x)
    ∙ ap (λ b. is_key e c x || b) (sym (rows_last all c x (length all)))

pub keys_more : (IsUnder : ℕ → ℕ → ℕ → Type 0) (n : ℕ) (all new : List Entry) (entry : Option Entry) → ((c x : ℕ) → Decides (is_keyed entry c x) (IsUnder c x n)) → AreKeysTo IsUnder n all → new ≡ all ++ entry_list entry → AreKeysTo IsUnder (n + 1) new
keys_more IsUnder n all new entry keyed keys is = subst (AreKeysTo IsUnder (n + 1)) (sym is) (λ c x. subst (λ b. Decides b ((d : ℕ) × (d < n + 1) × IsUnder c x d)) (sym (listed_pushed all entry c x))
    (like (either (keyed c x) (keys c x)) (⊎_elim (λ h. (n, omega arith, h)) (λ h. let lt = h.1 in (h.0, omega arith, h.2)))
    (λ h. let lt = h.1 in ⊎_elim (λ same. inl (subst (IsUnder c x) same h.2)) (λ apart. inr (h.0, omega arith, h.2)) (cases_eq h.0 n))))

-- ---- names of packages

not_empty : (xs : List Text) (x : Text) → xs ++ x ∷ [] ≡ [] → ⊥
not_empty xs x e = let size = ap length e in let sum = length-append xs (x ∷ []) in omega arith

module _ (p : Rows) where
  some_spelled : (n k : ℕ) → identifiers p n k ≡ [] → ⊥
  some_spelled n zero e = not_empty [] (name p n) e
  some_spelled n (suc k) e = not_empty (identifiers p (n + 1) k) (name p n) e

  -- a name of one identifier, and one of more
  spelled_alone : (n : ℕ) → n < end p n → (n + 1 < end p n → ⊥) → spelled p n ≡ name p n ∷ []
  spelled_alone n lt one = let none : end p n - (n + 1) ≡ 0 = ⊎_elim (λ more. absurd (one more)) (λ le. omega arith) (cases_lt (n + 1) (end p n)) in ap (identifiers p n) none

  spelled_on : (n : ℕ) → n + 1 < end p n → end p (n + 1) ≡ end p n → spelled p n ≡ spelled p (n + 1) ++ name p n ∷ []
  spelled_on n more same = let e : end p n - (n + 1) ≡ suc (end p (n + 1) - (n + 1 + 1)) = omega arith in ap (identifiers p n) e

  unit_package : (u : ℕ) → is_package (label p (u + 1)) ≡ true → package_of p u ≡ spelled p (u + 2)
  unit_package u h = ap (λ l. package_by l p u) (package_label p (label p (u + 1)) h)

  no_package : (l : Label) (u : ℕ) → is_package l ≡ false → package_by l p u ≡ []
  no_package is.Package u h = absurd (false≢true (sym h))
  no_package _ u h = refl

  -- the last identifier of the package of a unit
  name_is : (u last : ℕ) → package_name p u ≡ Some last → (is_unit (label p u) ≡ true) × (is_package (label p (u + 1)) ≡ true) × (u + 2 ≡ last)
  name_is u last h = by (is_unit (label p u)) (is_package (label p (u + 1))) refl refl h
    where
      by : (a b : Bool) → is_unit (label p u) ≡ a → is_package (label p (u + 1)) ≡ b → cond (a && b) (Some (u + 2)) None ≡ Some last → (is_unit (label p u) ≡ true) × (is_package (label p (u + 1)) ≡ true) × (u + 2 ≡ last)
      by true true e f same = (e, f, same_Some (u + 2) last same)
      by true false e f same = absurd (none-some last same)
      by false b e f same = absurd (none-some last same)

  name_of : (u : ℕ) → is_unit (label p u) ≡ true → is_package (label p (u + 1)) ≡ true → package_name p u ≡ Some (u + 2)
  name_of u unit named = ap (λ b. cond b (Some (u + 2)) None) (and_from (is_unit (label p u)) (is_package (label p (u + 1))) unit named)

  pub name_below : (places : Places) → ArePlaced p places → (u last : ℕ) → package_name p u ≡ Some last → last < length p
  name_below places placed u last h = let parts = name_is u last h in let same = parts.2 in let lt = placed.packages (u + 1) (package_label p (label p (u + 1)) parts.1) in omega arith

  -- ---- entries

  module _ (places : Places) where
    pub unit_keyed : (u : ℕ) (entry : Option Entry) → IsUnitEntry p places u (package_name p u) entry → (c x : ℕ) → Decides (is_keyed entry c x) (IsUnitUnder p places c x u)
    unit_keyed u entry h c x = by (package_name p u) refl h
      where
        above_by : (last : ℕ) (above : Option ℕ) → package_name p u ≡ Some last → Finds above (IsAbove p places last) → Decides (is_keyed (entry_above p u last above) c x) (IsUnitUnder p places c x u)
        above_by last None e finds = (λ no. absurd (false≢true no), λ k. absurd (none-some c ((finds c).1 (subst (λ n. IsAbove p places n c) (same_Some k.last last (sym k.of ∙ e)) k.above))))
        above_by last (Some a) e finds = like (both (Decides-eqb a c) (Decides-eqb (name_row p last) x))
            (λ k. record { last = last; of = e; above = (finds c).0 (ap Some k.0); named = k.1 })
            (λ k. let same = same_Some k.last last (sym k.of ∙ e) in (same_Some a c ((finds c).1 (subst (λ n. IsAbove p places n c) same k.above)), ap (name_row p) (sym same) ∙ k.named))

        by : (o : Option ℕ) → package_name p u ≡ o → IsUnitEntry p places u o entry → Decides (is_keyed entry c x) (IsUnitUnder p places c x u)
        by None e none = subst (λ q. Decides (is_keyed q c x) (IsUnitUnder p places c x u)) (sym none) (λ no. absurd (false≢true no), λ k. absurd (none-some k.last (sym e ∙ k.of)))
        by (Some last) e some = subst (λ q. Decides (is_keyed q c x) (IsUnitUnder p places c x u)) (sym some.2) (above_by last some.0 e some.1.finds)

    unit_found : (u : ℕ) (entry : Option Entry) → IsUnitEntry p places u (package_name p u) entry → (last : ℕ) → package_name p u ≡ Some last → (above : Option ℕ) × FindsAbove p places last above
    unit_found u entry h last e = let found = subst (λ o. IsUnitEntry p places u o entry) e h in (found.0, found.1)

    pub units_start : (units : List Entry) → units ≡ [] → AreUnitsTo p places 0 units
    units_start units none = record { each = λ u last lt e. absurd (omega arith); keys = keys_start (IsUnitUnder p places) units none }

    pub units_more : (n : ℕ) (units new : List Entry) (entry : Option Entry) → IsUnitEntry p places n (package_name p n) entry → AreUnitsTo p places n units → new ≡ units ++ entry_list entry → AreUnitsTo p places (n + 1) new
    units_more n units new entry h are is = record {
      each = λ u last lt e. ⊎_elim (λ same. unit_found n entry h last (ap (package_name p) (sym same) ∙ e)) (λ apart. are.each u last (omega arith) e) (cases_eq u n);
      keys = keys_more (IsUnitUnder p places) n units new entry (unit_keyed n entry h) are.keys is;
    }

    pub top_keyed : (d c x : ℕ) → Decides (is_keyed (top_entry p (package_number places d) (name_row p d) d) c x) (IsTopUnder p places c x d)
    top_keyed d c x = by (is_top_level p d) (package_number places d) (top_level_tells p d) refl
      where
        by : (b : Bool) (o : Option ℕ) → Decides b (IsTopLevel p d) → package_number places d ≡ o → Decides (is_keyed (cond b (option_map (λ n. entry_for n (name_row p d) d) o) None) c x) (IsTopUnder p places c x d)
        by false o top e = (λ no. absurd (false≢true no), λ k. absurd (false≢true (top.1 k.top)))
        by true None top e = (λ no. absurd (false≢true no), λ k. absurd (none-some c (sym e ∙ k.of)))
        by true (Some a) top e = like (both (Decides-eqb a c) (Decides-eqb (name_row p d) x)) (λ k. record { top = top.0 refl; of = e ∙ ap Some k.0; named = k.1 }) (λ k. (same_Some a c (sym e ∙ k.of), k.named))

    -- ---- the rule

    module _ (placed : ArePlaced p places) where
      abbrev number : ℕ → Option ℕ
      number d = package_number places d

      one_number : (a b : Option ℕ) → Decides (same_some a b) ((c : ℕ) × (a ≡ Some c) × (b ≡ Some c))
      one_number (Some a) (Some b) = like (Decides-eqb a b) (λ e. (b, ap Some e, refl)) (λ h. same_Some a h.0 h.1 ∙ sym (same_Some b h.0 h.2))
      one_number (Some a) None = (λ no. absurd (false≢true no), λ h. absurd (none-some h.0 h.2))
      one_number None b = (λ no. absurd (false≢true no), λ h. absurd (none-some h.0 h.1))

      packages_are : ArePackages p places.packages
      packages_are = placed.are.packages_are placed.local placed.packages

      package_tells : (m n : ℕ) → Decides (same_some (number m) (number n)) (SamePackage p m n)
      package_tells m n = subst (λ b. Decides b (SamePackage p m n)) (sym (same_is p placed.local places.packages packages_are m n)) (same_package_tells p m n)

      names_tell : (d n : ℕ) → Decides (nat_eq (name_row p d) (name_row p n)) (name p d ≡ name p n)
      names_tell d n = name_tells p d n

      second_tells : (n : ℕ) → Decides (is_second_top_type p n) (SecondTopType p n)
      second_tells n = both (top_level_tells p n)
          (some _ (λ d. (IsTopLevel p d × (d < n)) × ((name p d ≡ name p n) × SamePackage p d n))
          (λ d. both (both (top_level_tells p d) (Decides-ltb d n)) (both (same_name_tells p d n) (same_package_tells p d n))) (length p) (λ d h. type_below p d h.0.0.type))

      -- a type before the row n stands under its key
      types_tell : (n : ℕ) (types : List Entry) → AreKeysTo (IsTopUnder p places) n types → Decides (has_entry types (top_entry p (number n) (name_row p n) n)) (SecondTopType p n)
      types_tell n types keys = by (is_top_level p n) (number n) (top_level_tells p n) refl
        where
          by : (b : Bool) (o : Option ℕ) → Decides b (IsTopLevel p n) → number n ≡ o → Decides (has_entry types (cond b (option_map (λ c. entry_for c (name_row p n) n) o) None)) (SecondTopType p n)
          by false o top e = (λ no. absurd (false≢true no), λ h. absurd (false≢true (top.1 h.0)))
          by true None top e = (λ no. absurd (false≢true no), λ h. let one = (one_number (number h.1.0) (number n)).0 ((package_tells h.1.0 n).1 h.1.1.1.1) in absurd (none-some one.0 (sym e ∙ one.2)))
          by true (Some c) top e = like (keys c (name_row p n))
              (λ h. (top.0 refl, (h.0, ((h.2.top, h.1), ((names_tell h.0 n).0 ((Decides-eqb (name_row p h.0) (name_row p n)).1 h.2.named), (package_tells h.0 n).0 ((one_number (number h.0) (number n)).1 (c, h.2.of, e)))))))
              (λ h. let one = (one_number (number h.1.0) (number n)).0 ((package_tells h.1.0 n).1 h.1.1.1.1) in
              (h.1.0, h.1.1.0.1, record { top = h.1.1.0.0; of = one.1 ∙ sym one.2 ∙ e; named = (Decides-eqb (name_row p h.1.0) (name_row p n)).0 ((names_tell h.1.0 n).1 h.1.1.1.0) }))

      abbrev Named : ℕ → Type 0
      Named n = IsTopLevel p n × IsSubpackage p n

      abbrev HasSubpackage : ℕ → Text → Type 0
      HasSubpackage u x = (package_of p u ≡ [] → ⊥) × ((v : ℕ) × ((label p v ≡ is.Unit) × (package_of p v ≡ package_of p u ++ x ∷ [])))

      subpackage_tells : (u : ℕ) (x : Text) → Decides (has_subpackage p u x) (HasSubpackage u x)
      subpackage_tells u x = both (opposite (unnamed_tells (package_of p u)))
          (some _ (λ v. (label p v ≡ is.Unit) × (package_of p v ≡ package_of p u ++ x ∷ []))
          (λ v. both (unit_label_tells (label p v)) (path_tells (package_of p v) (package_of p u ++ x ∷ []))) (length p) (λ v h. unit_below p v h.0))

      named_tells : (n : ℕ) → Decides (is_named_as_package p n) (Named n)
      named_tells n = like
          (both (top_level_tells p n)
          (some _ (λ u. InUnit p u n × HasSubpackage u (name p n)) (λ u. both (in_unit_tells p u n) (subpackage_tells u (name p n))) (length p) (λ u h. unit_below p u h.0.unit)))
          (λ h. (
            h.0,
            record {
              path = package_of p h.1.0;
              inside = record { unit = h.1.0; holds = h.1.1.0; has_path = refl };
              named = h.1.1.1.0;
              unit = h.1.1.1.1.0;
              is_unit = h.1.1.1.1.1.0;
              stands = h.1.1.1.1.1.1;
            },
          ))
          (λ h. let k = h.1 in (
            h.0,
            (k.inside.unit, (k.inside.holds, (λ e. k.named (sym k.inside.has_path ∙ e), (k.unit, (k.is_unit, k.stands ∙ ap (λ path. path ++ name p n ∷ []) (sym k.inside.has_path)))))),
          ))

      spelled_number : (n c : ℕ) → IsSpelled p places.packages n c → Finds (Some c) (IsSpelled p places.packages n)
      spelled_number n c h = spelled_end p (number_in places.packages.paths) n (end p n - n) (end p n - n) c refl h

      -- the package of a row is the one that is spelled, where they have one number
      in_tells : (n d : ℕ) (found : Option ℕ) → Finds found (IsSpelled p places.packages n) → Decides (same_some found (number d)) (InPackage p (spelled p n) d)
      in_tells n d found finds = in_spelled p placed.local places.packages packages_are n d found finds

      none_in : (n : ℕ) (path : List Text) → number n ≡ None → InPackage p path n → ⊥
      none_in n path e h = subst (λ o. IsPackageOf p (number_in places.packages.paths) n o) e (packages_are.each n) h.unit h.holds

      module _ (n c : ℕ) (e : number n ≡ Some c) (units : List Entry) (are : AreUnits p places units) where
        under_out : (u : ℕ) → u < length p → IsUnitUnder p places c (name_row p n) u → IsSubpackage p n
        under_out u lt k = let parts = name_is u k.last k.of in let found = are.each u k.last lt k.of in record {
          path = spelled p (k.last + 1);
          inside = (in_tells (k.last + 1) n (Some c) (spelled_number (k.last + 1) c k.above.spelled)).0 ((one_number (Some c) (number n)).1 (c, refl, e));
          named = some_spelled (k.last + 1) (end p (k.last + 1) - (k.last + 1 + 1));
          unit = u;
          is_unit = (unit_label_tells (label p u)).0 parts.0;
          stands = unit_package u parts.1 ∙ ap (spelled p) parts.2 ∙ spelled_on k.last k.above.more (found.1.ended k.above.more)
              ∙ ap (λ x. spelled p (k.last + 1) ++ x ∷ []) ((names_tell k.last n).0 ((Decides-eqb (name_row p k.last) (name_row p n)).1 k.named));
        }

        module _ (k : IsSubpackage p n) where
          unit_is : is_unit (label p k.unit) ≡ true
          unit_is = (unit_label_tells (label p k.unit)).1 k.is_unit

          package_is : is_package (label p (k.unit + 1)) ≡ true
          package_is = by (is_package (label p (k.unit + 1))) refl
            where
              by : (b : Bool) → is_package (label p (k.unit + 1)) ≡ b → b ≡ true
              by true f = refl
              by false f = absurd (not_empty k.path (name p n) (sym k.stands ∙ no_package (label p (k.unit + 1)) k.unit f))

          named_so : package_name p k.unit ≡ Some (k.unit + 2)
          named_so = name_of k.unit unit_is package_is

          stands : spelled p (k.unit + 2) ≡ k.path ++ name p n ∷ []
          stands = sym (unit_package k.unit package_is) ∙ k.stands

          more : k.unit + 2 + 1 < end p (k.unit + 2)
          more = ⊎_elim (λ lt. lt)
              (λ le. absurd (k.named (same_from_push k.path [] (name p n) (name p (k.unit + 2)) (sym stands ∙ spelled_alone (k.unit + 2) (placed.local.tree.nested (k.unit + 2)) (λ lt. omega arith))).0))
              (cases_lt (k.unit + 2 + 1) (end p (k.unit + 2)))

          found : (above : Option ℕ) × FindsAbove p places (k.unit + 2) above
          found = are.each k.unit (k.unit + 2) (unit_below p k.unit k.is_unit) named_so

          parts : (spelled p (k.unit + 2 + 1) ≡ k.path) × (name p (k.unit + 2) ≡ name p n)
          parts = same_from_push (spelled p (k.unit + 2 + 1)) k.path (name p (k.unit + 2)) (name p n) (sym (spelled_on (k.unit + 2) more (found.1.ended more)) ∙ stands)

          finds : Finds found.0 (IsSpelled p places.packages (k.unit + 2 + 1))
          finds m = (λ is. ((found.1.finds m).0 is).spelled, λ h. (found.1.finds m).1 (record { more = more; spelled = h }))

          above_is : found.0 ≡ Some c
          above_is = let one = (one_number found.0 (number n)).0 ((in_tells (k.unit + 2 + 1) n found.0 finds).1 (subst (λ path. InPackage p path n) (sym parts.0) k.inside)) in one.1 ∙ sym one.2 ∙ e

          under_in : (u : ℕ) × (u < length p) × IsUnitUnder p places c (name_row p n) u
          under_in = (
            k.unit,
            unit_below p k.unit k.is_unit,
            record {
              last = k.unit + 2;
              of = named_so;
              above = (found.1.finds c).0 above_is;
              named = (Decides-eqb (name_row p (k.unit + 2)) (name_row p n)).0 ((names_tell (k.unit + 2) n).1 parts.1);
            },
          )

      -- a unit of a subpackage stands under the key
      units_tell : (n : ℕ) (units : List Entry) → AreUnits p places units → Decides (has_entry units (top_entry p (number n) (name_row p n) n)) (Named n)
      units_tell n units are = by (is_top_level p n) (number n) (top_level_tells p n) refl
        where
          by : (b : Bool) (o : Option ℕ) → Decides b (IsTopLevel p n) → number n ≡ o → Decides (has_entry units (cond b (option_map (λ c. entry_for c (name_row p n) n) o) None)) (Named n)
          by false o top e = (λ no. absurd (false≢true no), λ h. absurd (false≢true (top.1 h.0)))
          by true None top e = (λ no. absurd (false≢true no), λ h. let k = h.1 in absurd (none_in n k.path e k.inside))
          by true (Some c) top e = like (are.keys c (name_row p n)) (λ h. (top.0 refl, under_out n c e units are h.0 h.1 h.2)) (λ h. under_in n c e units are h.1)

      clash_told : (n : ℕ) (types units : List Entry) (entry : Option Entry) → entry ≡ top_entry p (number n) (name_row p n) n → AreKeysTo (IsTopUnder p places) n types → AreUnits p places units
          → (has_entry types entry || has_entry units entry) ≡ has_top_type_clash p n
      clash_told n types units entry is keys are = ap (λ o. has_entry types o || has_entry units o) is
          ∙ ap₂ (λ a b. a || b) (one_test _ _ (SecondTopType p n) (types_tell n types keys) (second_tells n)) (one_test _ _ (Named n) (units_tell n units are) (named_tells n))

-- ---- the rows so far

pub record AreTopFaultsTo (p : Rows) (places : Places) (n : ℕ) (types : List Entry) (old now : List Fault) : Type 0 where
  pub keys : AreKeysTo (IsTopUnder p places) n types
  pub faults : AreFaultsOf rule.TypeNames (all_such n (has_top_type_clash p)) old now

pub tops_start : (p : Rows) (places : Places) (types : List Entry) (old : List Fault) → types ≡ [] → AreTopFaultsTo p places 0 types old old
tops_start p places types old none = record { keys = keys_start (IsTopUnder p places) types none; faults = none_added rule.TypeNames old }

pub tops_more : (p : Rows) (places : Places) (n : ℕ) (types more units : List Entry) (entry : Option Entry) (old now new : List Fault) → ArePlaced p places → AreUnits p places units → entry ≡ top_entry p (package_number places n) (name_row p n) n → more ≡ types ++ entry_list entry
    → AreFaultsOf rule.TypeNames (row_if (has_entry types entry || has_entry units entry) n) now new → AreTopFaultsTo p places n types old now → AreTopFaultsTo p places (n + 1) more old new
tops_more p places n types more units entry old now new placed are is pushed fault h = record {
  keys = keys_more (IsTopUnder p places) n types more entry (subst (λ o. (c x : ℕ) → Decides (is_keyed o c x) (IsTopUnder p places c x n)) (sym is) (top_keyed p places n)) h.keys pushed;
  faults = row_more n rule.TypeNames (has_top_type_clash p) h.faults (told_at rule.TypeNames n (clash_told p places placed n types units entry is h.keys are) fault);
}

pub tops_end : (p : Rows) (places : Places) (n : ℕ) (types : List Entry) (old new : List Fault) → n ≡ length p → AreTopFaultsTo p places n types old new → AreFaultsOf rule.TypeNames (all_such (length p) (has_top_type_clash p)) old new
tops_end p places n types old new whole h = subst (λ m. AreFaultsOf rule.TypeNames (all_such m (has_top_type_clash p)) old new) whole h.faults
