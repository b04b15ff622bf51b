-- What a type has under a name is what the way up to the nearest list carries of that.
use Rattle.std.proofs.Common.{◌≡◌, ◌⊎◌, refl, sym, ◌∙◌, ap, subst, inl, inr, ⊎_elim, arith, ℕ, suc, ◌+◌, ◌≤◌, Bool, true, false, not, ◌&&◌, ◌||◌, List, length, Option, Some, None, Decides}
use Rattle.std.proofs.lemmas.Bool.{false≢true, or_left, or_right, or_cases, and_from, and_parts}
use Rattle.std.proofs.lemmas.Option.{none-some, same_Some}
use Rattle.jr_base.specs.declared.text.Text.{Text}
use Rattle.jr_tree.specs.Rows.{Rows, name, role_at}
use Rattle.jr_tree.specs.Local.{IsLocal}
use Rattle.jr_defs.specs.Referents.{Table}
use Rattle.jr_defs.specs.Enclosing.{DeclaredIn}
use Rattle.jr_defs.specs.Supertypes.{Super}
use Rattle.jr_defs.specs.Members.{Replaces, IsLeft, CanInherit, Passes}
use Rattle.jr_defs.specs.Modifiers.{IsPublic, IsProtected, IsPrivate, InInterface}
use Rattle.jr_defs.specs.Packages.{InPackage, SamePackage, package_of}
use Rattle.jr_plain.specs.Search.{has, Lists}
use Rattle.jr_plain.specs.Declarations.{is_interface}
use Rattle.jr_plain.specs.Packages.{is_same_package}
use Rattle.jr_plain.proofs.Tests.{itself, both, either, opposite, implies, like}
use Rattle.jr_plain.proofs.Declared.{interface_tells}
use Rattle.jr_plain.proofs.Modified.{in_interface_tells, public_tells, protected_tells, private_tells}
use Rattle.jr_plain.proofs.Packaged.{same_package_tells}
use Rattle.jr_defs.proofs.Units.{one_unit}
use Rattle.jr_places.specs.declared.chains.Entry.{Entry}
use Rattle.jr_places.specs.Names.{name_row}
use Rattle.jr_supers.specs.Above.{Tables, link_at, depth_of, up_at, OnChain, AreAbove}
use Rattle.jr_supers.proofs.Chained.{rises, chain_then, chain_one_up}
use Rattle.jr_members.specs.declared.declared.MemberKind.{MemberKind}
use Rattle.jr_members.specs.declared.named.Way.{Way}
use Rattle.jr_members.specs.Held.{role_of_kind, Holds, IsOf, IsDeclaredAs, IsHeldAs}
use Rattle.jr_members.specs.Named.{under, has_list, AreLists, IsDone, way_from, next_way, carries, IsCarried, IsWay, IsClimbing, IsNearest}
use Rattle.jr_members.proofs.Heritage.{replaced_alike}
use Rattle.jr_members.proofs.Keyed.{listed_some, none_listed}

pub carried_tells : (p : Rows) (way : Way) (d : ℕ) → Decides (carries p way d) (IsCarried p way d)
carried_tells p way d = implies (itself way.has_steps) (both (opposite (private_tells p d))
    (both (either (public_tells p d) (either (protected_tells p d) (both (itself way.is_in_one_package) (same_package_tells p way.from d)))) (implies (itself way.has_interface) (in_interface_tells p d))))

-- ---- packages

module _ (p : Rows) (local : IsLocal p) where
  one_package : (o : ℕ) (q r : List Text) (a : InPackage p q o) (b : InPackage p r o) → package_of p a.unit ≡ package_of p b.unit
  one_package o q r a b = ap (package_of p) (one_unit p local o a.unit b.unit a.holds b.holds)

  pub same_back : (m n : ℕ) → SamePackage p m n → SamePackage p n m
  same_back m n h = record { path = h.path; first = h.second; second = h.first }

  pub same_then : (m n k : ℕ) → SamePackage p m n → SamePackage p n k → SamePackage p m k
  same_then m n k h j = let same : h.path ≡ j.path = sym h.second.has_path ∙ one_package n h.path j.path h.second j.first ∙ j.first.has_path in
      record { path = h.path; first = h.first; second = subst (λ q. InPackage p q k) (sym same) j.second }

  -- ---- one step up

  module _ (way : Way) (up d : ℕ) (starts : way.has_steps ≡ false → (way.from ≡ way.here) × (way.is_in_one_package ≡ true) × (way.has_interface ≡ false)) where
    abbrev Reach : Type 0
    Reach = IsPublic p d ⊎ IsProtected p d ⊎ (((way.is_in_one_package && is_same_package p way.from way.here) ≡ true) × SamePackage p way.from d)

    on_way : IsCarried p way d → SamePackage p way.here d → (b : Bool) → way.has_steps ≡ b → Reach
    on_way k same false e = let s = starts e in
        let here : SamePackage p way.from d = subst (λ c. SamePackage p c d) (sym s.0) same in
        let from : SamePackage p way.from way.here = subst (λ c. SamePackage p way.from c) s.0 (same_then way.from d way.from here (same_back way.from d here)) in
        inr (inr (and_from way.is_in_one_package (is_same_package p way.from way.here) s.1 ((same_package_tells p way.from way.here).1 from), here))
    on_way k same true e = ⊎_elim (λ a. inl a) (⊎_elim (λ a. inr (inl a))
        (λ a. inr (inr (and_from way.is_in_one_package (is_same_package p way.from way.here) a.0 ((same_package_tells p way.from way.here).1 (same_then way.from d way.here a.1 (same_back way.here d same))), a.1))))
        (k e).1.0

    faced : IsCarried p way d → Passes p up d → (way.has_interface || is_interface p up) ≡ true → InInterface p d
    faced k passes h = ⊎_elim (λ a. by way.has_steps refl a) (λ a. passes.from_interface ((interface_tells p up).0 a)) (or_cases way.has_interface (is_interface p up) h)
      where
        by : (b : Bool) → way.has_steps ≡ b → way.has_interface ≡ true → InInterface p d
        by false e a = let s = starts e in absurd (false≢true (sym s.2 ∙ a))
        by true e a = (k e).1.1 a

    pub carried_on : IsCarried p way d → Passes p up d → CanInherit p way.here d → IsCarried p (next_way p way up) d
    carried_on k passes inherits = λ e. (inherits.open_member, (⊎_elim (λ a. inl a) (⊎_elim (λ a. inr (inl a)) (λ a. on_way k a way.has_steps refl)) inherits.reach, faced k passes))

    pub carried_back : IsCarried p (next_way p way up) d → IsCarried p way d × Passes p up d × CanInherit p way.here d
    carried_back k = let h = k refl in (
      λ e. (h.0, (⊎_elim (λ a. inl a) (⊎_elim (λ a. inr (inl a)) (λ a. inr (inr ((and_parts way.is_in_one_package (is_same_package p way.from way.here) a.0).0, a.1)))) h.1.0, λ a. h.1.1 (or_left way.has_interface (is_interface p up) a))),
      record { from_interface = λ i. h.1.1 (or_right way.has_interface (is_interface p up) ((interface_tells p up).1 i)) },
      record {
        open_member = h.0;
        reach = ⊎_elim (λ a. inl a) (⊎_elim (λ a. inr (inl a)) (λ a. inr (inr (same_then way.here way.from d
            (same_back way.from way.here ((same_package_tells p way.from way.here).0 (and_parts way.is_in_one_package (is_same_package p way.from way.here) a.0).1)) a.1)))) h.1.0;
      },
    )

  -- ---- types without a list

  module _ (t : Table) (T : Tables) (A : AreAbove p t T) (kind : MemberKind) (alike : (e d : ℕ) → name p e ≡ name p d → name_row p e ≡ name_row p d) (lists : List Entry) where
    left_alone : (c x d : ℕ) → IsDone p t T.links kind lists c → has_list lists c x ≡ false → IsOf p kind x d → IsLeft p t c d
    left_alone c x d done none of e declared h = let same = replaced_alike p t e d h in
        none_listed lists c x e none (done.own x e (record { of = record { role_is = same.0 ∙ of.role_is; named = alike e d same.1 ∙ of.named }; declared = declared }))

    way_on : (x : ℕ) (way : Way) (up : ℕ) → IsWay p t kind x way → IsDone p t T.links kind lists way.here → has_list lists way.here x ≡ false → up_at T.links way.here ≡ Some up → IsWay p t kind x (next_way p way up)
    way_on x way up w done none is = record {
      starts = λ e. absurd (false≢true (sym e));
      out = λ d h. let k = w.out d h in ⊎_elim (λ a. absurd (none_listed lists way.here x d none a))
          (λ a. let same : a.0 ≡ up = same_Some a.0 up (sym a.1 ∙ is) in
          (subst (λ u. IsHeldAs p t kind u x d) same a.2, carried_on way up d w.starts k.1 (subst (λ u. Passes p u d) same a.3) a.4)) (done.held x d k.0);
      into = λ d h k. let b = carried_back way up d w.starts k in let r = rises p t T A way.here up is in
          w.into d (record { of = h.of; held = Holds.inherited r.6 h.held b.1 b.2 (left_alone way.here x d done none h.of) }) b.0;
    }

    pub climb_start : (c x : ℕ) → IsClimbing p t T.links kind c x 0 (way_from c)
    climb_start c x = record {
      is = record { starts = λ e. (refl, refl, refl); out = λ d h. (h, λ e. absurd (false≢true e)); into = λ d h k. h };
      from_is = refl;
      on = OnChain.here;
      deep = omega arith;
    }

    pub climb_on : (c x turn : ℕ) (way : Way) (up : ℕ) → IsClimbing p t T.links kind c x turn way → IsDone p t T.links kind lists way.here → has_list lists way.here x ≡ false → up_at T.links way.here ≡ Some up
        → IsClimbing p t T.links kind c x (turn + 1) (next_way p way up)
    climb_on c x turn way up h done none is = let r = rises p t T A way.here up is in let falls = r.5 in let deep = h.deep in record {
      is = way_on x way up h.is done none is;
      from_is = h.from_is;
      on = chain_then h.on (chain_one_up is);
      deep = omega arith;
    }

    pub near_list : (c x turn : ℕ) (way : Way) → AreLists p t kind lists → IsClimbing p t T.links kind c x turn way → has_list lists way.here x ≡ true → IsNearest p t kind lists c x way
    near_list c x turn way all h some = record { is = h.is; from_is = h.from_is; listed = λ d. (all.sound way.here x d, all.whole way.here x some d) }

    pub near_top : (c x turn : ℕ) (way : Way) → AreLists p t kind lists → IsClimbing p t T.links kind c x turn way → IsDone p t T.links kind lists way.here → up_at T.links way.here ≡ None → IsNearest p t kind lists c x way
    near_top c x turn way all h done top = record {
      is = h.is;
      from_is = h.from_is;
      listed = λ d. (all.sound way.here x d, λ k. ⊎_elim (λ a. a) (λ a. absurd (none-some a.0 (sym top ∙ a.1))) (done.held x d k));
    }

    pub never_past : (c x turn : ℕ) (way : Way) → IsClimbing p t T.links kind c x turn way → suc (depth_of (link_at T.links c)) ≤ turn → ⊥
    never_past c x turn way h le = let deep = h.deep in omega arith
