-- Which types are visible at a place: members of the types round it, what imports of one name bring and types of the package, and types by imports on demand.
use Rattle.std.proofs.Common.{◌≡◌, ◌⊎◌, refl, sym, ◌∙◌, ap, subst, inl, inr, ⊎_elim, arith, ℕ, ◌+◌, ◌≤◌, Bool, true, ◌&&◌, List, [], ◌∷◌, length, Option, Some, None, nat_eq, Decides}
use Rattle.std.proofs.lemmas.Bool.{false≢true}
use Rattle.std.proofs.lemmas.Bool.Decides.{Decides-eqb}
use Rattle.std.proofs.lemmas.Slice.Eq.{bytes_eq-Decides}
use Rattle.std.proofs.lemmas.Option.{none-some, same_Some}
use Rattle.jr_base.specs.declared.text.Text.{Text}
use Rattle.jr_tree.specs.declared.label.Role.{Role}
use Rattle.jr_tree.specs.declared.label.Role.TheVariants as role
use Rattle.jr_tree.specs.Rows.{Rows, name, role_at}
use Rattle.jr_defs.specs.declared.referent.Space.TheVariants as space
use Rattle.jr_defs.specs.Referents.{Table}
use Rattle.jr_defs.specs.Declarations as def
use Rattle.jr_defs.specs.Enclosing.{InBody}
use Rattle.jr_defs.specs.Packages.{package_of, SamePackage}
use Rattle.jr_defs.specs.Imports.{OnDemandOf, OnDemandImport, ImportsHold}
use Rattle.jr_defs.specs.Scope.{Depth, on_demand, of_package, of_unit, imported, within, rank, IsNoFurther, TypeOfUnit, TypeOfOther, Imported, HasScope, InScope, InOneList, Visible}
use Rattle.jr_defs.specs.Lookup.{level_of, VisibleThrough}
use Rattle.jr_plain.specs.Headed.{IsHeaded}
use Rattle.jr_plain.specs.Search.{has, any_below, last_below, Lists, Finds}
use Rattle.jr_plain.specs.Same.{same_role}
use Rattle.jr_plain.specs.Enclosing.{is_in_body}
use Rattle.jr_plain.specs.Members.{is_member as is_member_of}
use Rattle.jr_plain.proofs.Tests.{both, like, decide}
use Rattle.jr_plain.proofs.Searches.{some, finds_last}
use Rattle.jr_plain.proofs.Same.{role_tells}
use Rattle.jr_plain.proofs.Bounds.{type_below}
use Rattle.jr_plain.proofs.Enclosed.{in_body_tells}
use Rattle.jr_plain.proofs.Membership.{member_tells}
use Rattle.jr_plain.proofs.Scoped.{type_of_unit_tells}
use Rattle.jr_places.specs.Names.{name_row}
use Rattle.jr_members.specs.declared.declared.MemberKind.TheVariants as kind
use Rattle.jr_members.specs.Held.{IsMemberAs}
use Rattle.jr_members.proofs.Each.{front_has}
use Rattle.jr_lookup.specs.Levels.{HasMemberAs, AreMembersAround}
use Rattle.jr_lookup.specs.Outward.{IsInnermostSuch, IsNumberOf}
use Rattle.jr_lookup.specs.Sights.{IsOnDemand, IsImportedType, IsOutside}
use Rattle.jr_lookup.specs.Types.{AreVisibleAt, IsTypeByName, AreTypesByName}
use Rattle.jr_lookup.proofs.Outward.{last_least}

-- how a type with the name n is in scope at the place o
pub data How (p : Rows) (t : Table) (n o : ℕ) : ℕ → Depth → Type 0 where
  through_member : {c d : ℕ} → InBody p c o → IsMemberAs p t kind.Type c n d → How p t n o d (within c)
  by_import : {d : ℕ} → IsImportedType p t o n d → How p t n o d imported
  by_unit : {d : ℕ} → TypeOfUnit p o d → How p t n o d of_unit
  by_package : {d : ℕ} → TypeOfOther p o d → How p t n o d of_package
  by_demand : {d : ℕ} → Imported p (OnDemandImport p t) o d → How p t n o d on_demand

-- ---- roles and depths

type_is : (r : Role) → def.IsOf space.Type r → r ≡ role.Type
type_is role.Type h = refl
type_is _ h = absurd h

local_no_type : (r : Role) → r ≡ role.Local → r ≡ role.Type → ⊥
local_no_type r e f = cc

parameter_no_type : (r : Role) → r ≡ role.Parameter → r ≡ role.Type → ⊥
parameter_no_type r e f = cc

label_no_type : (r : Role) → r ≡ role.Label → r ≡ role.Type → ⊥
label_no_type r e f = cc

no_level : (k : Role) (r : Depth) → k ≡ role.Type → level_of k r ≡ None
no_level k r e = ap (λ k. level_of k r) e

-- what is no further in than a row has at least its rank
rank_within : (q r : Depth) (c : ℕ) → IsNoFurther q r → q ≡ within c → 3 + c ≤ rank r
rank_within q r c (IsNoFurther.by_rank le) e = let same = ap rank e in omega arith
rank_within q r c IsNoFurther.of_one_package e = absurd (cc)

imported_further : (q r : Depth) → IsNoFurther q r → q ≡ imported → r ≡ of_package → ⊥
imported_further q r (IsNoFurther.by_rank le) e f = let a = ap rank e in let b = ap rank f in omega arith
imported_further q r IsNoFurther.of_one_package e f = cc

-- what imports on demand bring shadows nothing, and all else shadows it
demand_least : (q r : Depth) → IsNoFurther q r → r ≡ on_demand → q ≡ on_demand
demand_least q r (IsNoFurther.by_rank le) e = lowest q (let same = ap rank e in omega arith)
  where
    lowest : (q : Depth) → rank q ≤ 0 → q ≡ on_demand
    lowest on_demand le = refl
    lowest of_package le = absurd (omega arith)
    lowest of_unit le = absurd (omega arith)
    lowest imported le = absurd (omega arith)
    lowest (within s) le = absurd (omega arith)
demand_least q r IsNoFurther.of_one_package e = absurd (cc)

none_has : (xs : List ℕ) → length xs ≡ 0 → (d : ℕ) → has xs d ≡ true → ⊥
none_has [] e d h = false≢true h
none_has (y ∷ ys) e d h = omega arith

one_unit_package : (p : Rows) (o d : ℕ) → TypeOfUnit p o d → SamePackage p o d
one_unit_package p o d u = record { path = package_of p u.unit; first = record { unit = u.unit; holds = u.first; has_path = refl }; second = record { unit = u.unit; holds = u.second; has_path = refl } }

module _ (p : Rows) (headed : IsHeaded p) (t : Table) (x : Text) (n o : ℕ) (number : IsNumberOf p n x) where
  named : (d : ℕ) → name_row p d ≡ n → name p d ≡ x
  named d e = (bytes_eq-Decides (name p d) x).0 (sym (number d) ∙ (Decides-eqb (name_row p d) n).1 e)

  numbered : (d : ℕ) → name p d ≡ x → name_row p d ≡ n
  numbered d e = (Decides-eqb (name_row p d) n).0 (number d ∙ (bytes_eq-Decides (name p d) x).1 e)

  declares : (d : ℕ) → role_at p d ≡ role.Type → name_row p d ≡ n → def.Declares p space.Type x d
  declares d type e = record { of_kind = subst (def.IsOf space.Type) (sym type) tt; named = named d e }

  -- ---- how a type is in scope

  how : (d : ℕ) (r : Depth) → HasScope p t o d r → def.Declares p space.Type x d → How p t n o d r
  how d r (HasScope.local h) k = absurd (local_no_type (role_at p d) h.local (type_is (role_at p d) k.of_kind))
  how d r (HasScope.parameter h) k = absurd (parameter_no_type (role_at p d) h.parameter (type_is (role_at p d) k.of_kind))
  how d r (HasScope.labeled h) k = absurd (label_no_type (role_at p d) h.labeled (type_is (role_at p d) k.of_kind))
  how d r (HasScope.member i m) k = How.through_member i (record { of = record { role_is = type_is (role_at p d) k.of_kind; named = numbered d k.named }; member = m })
  how d r (HasScope.of_same_unit h) k = How.by_unit h
  how d r (HasScope.of_same_package h) k = How.by_package h
  how d r (HasScope.single h) k = How.by_import (inr (record { imported = h; named = numbered d k.named }))
  how d r (HasScope.static h) k = How.by_import (inl (record { imported = h; of = record { role_is = type_is (role_at p d) k.of_kind; named = numbered d k.named } }))
  how d r (HasScope.demanded h) k = How.by_demand h

  in_member : (c d : ℕ) → InBody p c o → IsMemberAs p t kind.Type c n d → InScope p t space.Type x o d (within c)
  in_member c d i m = record { scope = HasScope.member i m.member; declares = declares d m.of.role_is m.of.named }

  in_imported : (d : ℕ) → IsImportedType p t o n d → InScope p t space.Type x o d imported
  in_imported d (inl s) = record { scope = HasScope.static s.imported; declares = declares d s.of.role_is s.of.named }
  in_imported d (inr s) = record { scope = HasScope.single s.imported; declares = declares d s.imported.brings.names.type s.named }

  demanded_type : (u d : ℕ) → OnDemandOf p t u d → role_at p d ≡ role.Type
  demanded_type u d (OnDemandOf.of_package i r k) = k.top.type
  demanded_type u d (OnDemandOf.of_type i m h type) = type
  demanded_type u d (OnDemandOf.lang k) = k.top.type

  no_list : (d e : ℕ) → InOneList p e d → def.Declares p space.Type x d → ⊥
  no_list d e list k = parameter_no_type (role_at p d) list.second (type_is (role_at p d) k.of_kind)

  -- ---- members of the types round the place

  abbrev is_type_as : ℕ → ℕ → Bool
  is_type_as c d = same_role (role_at p d) role.Type && (nat_eq (name_row p d) n && is_member_of p t c d)

  type_as_tells : (c d : ℕ) → Decides (is_type_as c d) (IsMemberAs p t kind.Type c n d)
  type_as_tells c d = like (both (role_tells (role_at p d) role.Type) (both (Decides-eqb (name_row p d) n) (member_tells p t headed c d)))
      (λ k. record { of = record { role_is = k.0; named = k.1.0 }; member = k.1.1 }) (λ k. (k.of.role_is, (k.of.named, k.member)))

  abbrev has_type : ℕ → Bool
  has_type c = is_in_body p c o && any_below (length p) (is_type_as c)

  has_type_tells : (c : ℕ) → Decides (has_type c) (InBody p c o × HasMemberAs p t kind.Type n c)
  has_type_tells c = both (in_body_tells p c o) (like (some (is_type_as c) (λ d. IsMemberAs p t kind.Type c n d) (type_as_tells c) (length p)
      (λ d k. type_below p d k.of.role_is)) (λ k. record { some = k.0; is = k.1 }) (λ k. (k.some, k.is)))

  abbrev Such : ℕ → Type 0
  Such c = IsInnermostSuch p (HasMemberAs p t kind.Type n) o c

  last_such : (h : ℕ) → last_below (length p) has_type ≡ Some h → Such h
  last_such h e = let last = (finds_last has_type (λ c. InBody p c o × HasMemberAs p t kind.Type n c) has_type_tells (length p) h).0 e in
      record { round = last.1.0; such = last.1.1; innermost = λ e j k. last.2 e (type_below p e j.of_type.type) (j, k) }

  innermost_has : (c : ℕ) → InBody p c o → HasMemberAs p t kind.Type n c → (h : ℕ) × Such h
  innermost_has c i m = let f = last_least has_type (length p) c (type_below p c i.of_type.type) ((has_type_tells c).1 (i, m)) in (f.0, last_such f.0 f.1)

  some_or_none : ((h : ℕ) × Such h) ⊎ ((h : ℕ) → Such h → ⊥)
  some_or_none = by (last_below (length p) has_type) refl
    where
      by : (f : Option ℕ) → last_below (length p) has_type ≡ f → ((h : ℕ) × Such h) ⊎ ((h : ℕ) → Such h → ⊥)
      by (Some h) e = inl (h, last_such h e)
      by None e = inr (λ h s. let f = last_least has_type (length p) h (type_below p h s.round.of_type.type) ((has_type_tells h).1 (s.round, s.such)) in none-some f.0 (sym e ∙ f.1))

  module _ (c : ℕ) (such : Such c) where
    seen_member : (d : ℕ) → IsMemberAs p t kind.Type c n d → Visible p t space.Type x o d (within c)
    seen_member d m = record { in_scope = in_member c d such.round m; innermost = λ e q s. inl (by (how e q s.scope s.declares)) }
      where
        by : {e : ℕ} {q : Depth} → How p t n o e q → IsNoFurther q (within c)
        by (How.through_member {c = g} {d = e} i k) = let le = such.innermost g i (record { some = e; is = k }) in IsNoFurther.by_rank (omega arith)
        by (How.by_import i) = IsNoFurther.by_rank (omega arith)
        by (How.by_unit i) = IsNoFurther.by_rank (omega arith)
        by (How.by_package i) = IsNoFurther.by_rank (omega arith)
        by (How.by_demand i) = IsNoFurther.by_rank (omega arith)

    -- none but these is visible
    only_member : (d : ℕ) (r : Depth) → Visible p t space.Type x o d r → IsMemberAs p t kind.Type c n d
    only_member d r v = ⊎_elim (λ far. by (how d r v.in_scope.scope v.in_scope.declares) far) (λ list. absurd (no_list d such.such.some list v.in_scope.declares))
        (v.innermost such.such.some (within c) (in_member c such.such.some such.round such.such.is))
      where
        by : {d : ℕ} {r : Depth} → How p t n o d r → IsNoFurther (within c) r → IsMemberAs p t kind.Type c n d
        by (How.through_member {c = g} {d = e} i k) far = let low = such.innermost g i (record { some = e; is = k }) in let high = rank_within (within c) (within g) c far refl in
            let same : g ≡ c = omega arith in subst (λ g. IsMemberAs p t kind.Type g n e) same k
        by (How.by_import i) far = let le = rank_within (within c) imported c far refl in absurd (omega arith)
        by (How.by_unit i) far = let le = rank_within (within c) of_unit c far refl in absurd (omega arith)
        by (How.by_package i) far = let le = rank_within (within c) of_package c far refl in absurd (omega arith)
        by (How.by_demand i) far = let le = rank_within (within c) on_demand c far refl in absurd (omega arith)

  within_no_demand : (c : ℕ) → within c ≡ on_demand → ⊥
  within_no_demand c e = cc

  pub types_inner : (found : List ℕ) (level : Option ℕ) → AreMembersAround p t kind.Type o n found level → (length found ≡ 0 → ⊥) → AreTypesByName p t x o found level
  types_inner found level members more = ⊎_elim
      (λ s. let are = members.some s.0 s.1 in record {
        sound = λ d h. record { depth = within s.0; visible = seen_member s.0 s.1 d ((are.0.lists d).0 h); by_name = within_no_demand s.0 };
        whole = λ d k. (are.0.lists d).1 (only_member s.0 s.1 d k.depth k.visible);
        none = λ empty. absurd (more empty);
        level_is = are.1;
      }) (λ out. absurd (more (ap length (members.none out).0))) some_or_none

  pub no_member : (found : List ℕ) (level : Option ℕ) → AreMembersAround p t kind.Type o n found level → length found ≡ 0 → (c d : ℕ) → InBody p c o → IsMemberAs p t kind.Type c n d → ⊥
  no_member found level members empty c d i m = let h = innermost_has c i (record { some = d; is = m }) in
      none_has found empty h.1.such.some (((members.some h.0 h.1).0.lists h.1.such.some).1 h.1.such.is)

  -- ---- where no type round the place has a member of the name

  module _ (out : (c d : ℕ) → InBody p c o → IsMemberAs p t kind.Type c n d → ⊥) where
    high : {e : ℕ} {q : Depth} → How p t n o e q → rank q ≤ 2
    high (How.through_member {c = g} {d = e} i k) = absurd (out g e i k)
    high (How.by_import i) = omega arith
    high (How.by_unit i) = omega arith
    high (How.by_package i) = omega arith
    high (How.by_demand i) = omega arith

    seen_imported : (d : ℕ) → IsImportedType p t o n d → Visible p t space.Type x o d imported
    seen_imported d i = record { in_scope = in_imported d i; innermost = λ e q s. inl (IsNoFurther.by_rank (high (how e q s.scope s.declares))) }

    seen_unit : (d : ℕ) → TypeOfUnit p o d → name_row p d ≡ n → Visible p t space.Type x o d of_unit
    seen_unit d u e = record {
      in_scope = record { scope = HasScope.of_same_unit u; declares = declares d u.top.type e };
      innermost = λ e q s. inl (IsNoFurther.by_rank (high (how e q s.scope s.declares)));
    }

    seen_package : (d : ℕ) → TypeOfOther p o d → name_row p d ≡ n → ((e : ℕ) → IsImportedType p t o n e → ⊥) → Visible p t space.Type x o d of_package
    seen_package d k e alone = record {
      in_scope = record { scope = HasScope.of_same_package k; declares = declares d k.top.type e };
      innermost = λ e q s. inl (by (how e q s.scope s.declares));
    }
      where
        by : {e : ℕ} {q : Depth} → How p t n o e q → IsNoFurther q of_package
        by (How.through_member {c = g} {d = e} i m) = absurd (out g e i m)
        by (How.by_import {d = e} i) = absurd (alone e i)
        by (How.by_unit i) = IsNoFurther.of_one_package
        by (How.by_package i) = IsNoFurther.by_rank (omega arith)
        by (How.by_demand i) = IsNoFurther.by_rank (omega arith)

    imported_no_demand : imported ≡ on_demand → ⊥
    imported_no_demand e = cc

    unit_no_demand : of_unit ≡ on_demand → ⊥
    unit_no_demand e = cc

    package_no_demand : of_package ≡ on_demand → ⊥
    package_no_demand e = cc

    outside_sound : (d : ℕ) → IsOutside p t o n d → IsTypeByName p t x o d
    outside_sound d (inl i) = record { depth = imported; visible = seen_imported d i; by_name = imported_no_demand }
    outside_sound d (inr k) = ⊎_elim (λ u. record { depth = of_unit; visible = seen_unit d u k.0.named; by_name = unit_no_demand })
        (λ apart. record { depth = of_package; visible = seen_package d (record { top = k.0.top; same = k.0.same; elsewhere = apart }) k.0.named (λ e i. apart (k.1 e i)); by_name = package_no_demand })
        (decide (type_of_unit_tells p o d))

    beside_unit : (d : ℕ) → TypeOfUnit p o d → name p d ≡ x → IsOutside p t o n d
    beside_unit d u e = inr (record { top = u.top; same = one_unit_package p o d u; named = numbered d e }, λ f i. u)

    outside_whole : (d : ℕ) → IsTypeByName p t x o d → IsOutside p t o n d
    outside_whole d k = by (how d k.depth k.visible.in_scope.scope k.visible.in_scope.declares) k.visible k.by_name
      where
        by : {d : ℕ} {r : Depth} → How p t n o d r → Visible p t space.Type x o d r → (r ≡ on_demand → ⊥) → IsOutside p t o n d
        by (How.through_member {c = g} {d = e} i m) v name_is = absurd (out g e i m)
        by (How.by_import i) v name_is = inl i
        by (How.by_unit {d = d} u) v name_is = beside_unit d u v.in_scope.declares.named
        by (How.by_package {d = d} k) v name_is = inr (
          record { top = k.top; same = k.same; named = numbered d v.in_scope.declares.named },
          λ e i. absurd (⊎_elim (λ far. imported_further imported of_package far refl refl) (λ list. no_list d e list v.in_scope.declares) (v.innermost e imported (in_imported e i))),
        )
        by (How.by_demand i) v name_is = absurd (name_is refl)

    pub types_outer : (found : List ℕ) (level : Option ℕ) → Lists found (IsOutside p t o n) → level ≡ None → AreTypesByName p t x o found level
    types_outer found level lists is = record {
      sound = λ d h. outside_sound d ((lists d).0 h);
      whole = λ d k. (lists d).1 (outside_whole d k);
      none = λ empty d r s. by empty (how d r s.scope s.declares) s.declares;
      level_is = is;
    }
      where
        by : length found ≡ 0 → {d : ℕ} {r : Depth} → How p t n o d r → def.Declares p space.Type x d → r ≡ on_demand
        by empty (How.through_member {c = g} {d = e} i m) k = absurd (out g e i m)
        by empty (How.by_import {d = d} i) k = absurd (none_has found empty d ((lists d).1 (inl i)))
        by empty (How.by_unit {d = d} u) k = absurd (none_has found empty d ((lists d).1 (beside_unit d u k.named)))
        by empty (How.by_package {d = d} h) k = absurd (none_has found empty d ((lists d).1 (inr (
          record { top = h.top; same = h.same; named = numbered d k.named },
          λ e i. absurd (none_has found empty e ((lists e).1 (inl i))),
        ))))
        by empty (How.by_demand i) k = refl

  -- ---- all types

  pub types_seen : (found : List ℕ) (level : Option ℕ) → AreTypesByName p t x o found level → (length found ≡ 0 → ⊥) → AreVisibleAt p t space.Type x o found level
  types_seen [] level are more = absurd (more refl)
  types_seen (y ∷ ys) level are more = record {
    sound = λ d h. let s = are.sound d h in record { depth = s.depth; visible = s.visible; through = no_level (role_at p d) s.depth (type_is (role_at p d) s.visible.in_scope.declares.of_kind) ∙ sym are.level_is };
    whole = λ d l v. (
      are.whole d (record { depth = v.depth; visible = v.visible; by_name = by_name d v.depth v.visible }),
      sym v.through ∙ no_level (role_at p d) v.depth (type_is (role_at p d) v.visible.in_scope.declares.of_kind) ∙ sym are.level_is,
    );
    none = λ empty. absurd (more empty);
  }
    where
      first : IsTypeByName p t x o y
      first = are.sound y (front_has y ys)

      by_name : (d : ℕ) (r : Depth) → Visible p t space.Type x o d r → r ≡ on_demand → ⊥
      by_name d r v e = ⊎_elim (λ far. first.by_name (demand_least first.depth r far e)) (λ list. no_list d y list v.in_scope.declares) (v.innermost y first.depth first.visible.in_scope)

  module _ (first : List ℕ) (level : Option ℕ) (are : AreTypesByName p t x o first level) (empty : length first ≡ 0) (unit : Option ℕ) (f : Finds unit (λ u. ImportsHold p u o)) where
    by_demand_only : (d : ℕ) (r : Depth) → InScope p t space.Type x o d r → (r ≡ on_demand) × Imported p (OnDemandImport p t) o d
    by_demand_only d r s = by (how d r s.scope s.declares) (are.none empty d r s)
      where
        by : {d : ℕ} {r : Depth} → How p t n o d r → r ≡ on_demand → (r ≡ on_demand) × Imported p (OnDemandImport p t) o d
        by (How.through_member i m) e = absurd (cc)
        by (How.by_import i) e = absurd (cc)
        by (How.by_unit i) e = absurd (cc)
        by (How.by_package i) e = absurd (cc)
        by (How.by_demand i) e = (e, i)

    pub types_demanded : (u : ℕ) → unit ≡ Some u → (found : List ℕ) (other : Option ℕ) → Lists found (IsOnDemand p t u n) → other ≡ None → AreVisibleAt p t space.Type x o found other
    types_demanded u e found other lists is = record { sound = sound; whole = whole; none = none }
      where
        here : (d : ℕ) → IsOnDemand p t u n d → InScope p t space.Type x o d on_demand
        here d k = record { scope = HasScope.demanded (record { unit = u; holds = (f u).0 e; brings = k.brings }); declares = declares d (demanded_type u d k.brings.brings) k.named }

        sound : (d : ℕ) → has found d ≡ true → VisibleThrough p t space.Type x o d other
        sound d h = let k = (lists d).0 h in record {
          depth = on_demand;
          visible = record { in_scope = here d k; innermost = λ g q s. inl (IsNoFurther.by_rank (let same = ap rank (by_demand_only g q s).0 in omega arith)) };
          through = no_level (role_at p d) on_demand (demanded_type u d k.brings.brings) ∙ sym is;
        }

        brought : (d : ℕ) (r : Depth) → InScope p t space.Type x o d r → IsOnDemand p t u n d
        brought d r s = let i = (by_demand_only d r s).1 in let same = same_Some i.unit u (sym ((f i.unit).1 i.holds) ∙ e) in
            record { brings = subst (λ u. OnDemandImport p t u d) same i.brings; named = numbered d s.declares.named }

        whole : (d : ℕ) (l : Option ℕ) → VisibleThrough p t space.Type x o d l → (has found d ≡ true) × (l ≡ other)
        whole d l v = ((lists d).1 (brought d v.depth v.visible.in_scope), sym v.through ∙ no_level (role_at p d) v.depth (type_is (role_at p d) v.visible.in_scope.declares.of_kind) ∙ sym is)

        none : length found ≡ 0 → (d : ℕ) (r : Depth) → InScope p t space.Type x o d r → ⊥
        none nothing d r s = none_has found nothing d ((lists d).1 (brought d r s))

    pub types_nowhere : unit ≡ None → AreVisibleAt p t space.Type x o first level
    types_nowhere e = record {
      sound = λ d h. absurd (none_has first empty d h);
      whole = λ d l v. absurd (nothing d v.depth v.visible.in_scope);
      none = λ again d r s. nothing d r s;
    }
      where
        nothing : (d : ℕ) (r : Depth) → InScope p t space.Type x o d r → ⊥
        nothing d r s = let i = (by_demand_only d r s).1 in none-some i.unit (sym e ∙ (f i.unit).1 i.holds)
