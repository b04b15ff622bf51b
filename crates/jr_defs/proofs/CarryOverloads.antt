-- The choice among corresponding methods corresponds.
use Rattle.std.proofs.Common.{◌≡◌, ◌⊎◌, ℕ, suc, ◌<◌, ◌≤◌, refl, sym, ◌∙◌, ap, subst, inl, inr, arith, List, [], ◌∷◌}
use Rattle.std.specs.Prelude.{Option, Some, None}
use Rattle.jr_tree.specs.declared.label.Role.{Role}
use Rattle.jr_tree.specs.declared.label.Role.TheVariants as role
use Rattle.jr_tree.specs.Rows.{Rows, role_at}
use Rattle.jr_defs.specs.declared.referent.RowType.{RowType}
use Rattle.jr_defs.specs.Referents.{Table}
use Rattle.jr_defs.specs.Declarations.{IsType}
use Rattle.jr_defs.specs.Enclosing.{InBody, DeclaredIn, ConstructorOf}
use Rattle.jr_defs.specs.Modifiers.{IsAbstract, IsStatic}
use Rattle.jr_defs.specs.Supertypes.{Super, SuperAt, Above, AtOrAbove, IsReferenceType, Subtype}
use Rattle.jr_defs.specs.Members.{MemberOf}
use Rattle.jr_defs.specs.Types.{class_type, HasType, Parameters}
use Rattle.jr_defs.specs.Access.{IsLocalRole, NeedsNoObject, IsThrough, ByProtected, BySuperCall, IsAccessible}
use Rattle.jr_defs.specs.Overloads.{IsApplicable, Applicable, MoreSpecific, IsMostSpecific, ResultFits, FirstThrough, Earlier, AllAbstract, Returns, IsFirst, IsPreferred, IsLeftOf, Choice, ImportedChoice}
use Rattle.jr_defs.specs.Correspondence.{IsDeclared, Alike, Carries, Sees, Places, moved_type, moved_types, moved_receiver}
use Rattle.jr_defs.proofs.CarryMembers.{type_declared, declared_in_declared, role_over, at_role, public_over, protected_over, private_over, private_back, static_over, abstract_over, member_over}
use Rattle.jr_defs.proofs.CarryTypes.{above_wide, reference_over, subtype_over, all_subtypes_over}

-- ---- access

module _ (p : Rows) (t : Table) (q : Rows) (u : Table) (f g : ℕ → ℕ) (C D : ℕ → Type 0) (to : Carries p t q u f g C D) (wide : (c s : ℕ) → Super p t c s → C c)
    (o o' : ℕ) (at : Places p t q u f C o o') where
  up_over : (c s : ℕ) → AtOrAbove p t c s → AtOrAbove q u (f c) (f s)
  up_over c s (inl e) = inl (ap f e)
  up_over c s (inr h) = inr (above_wide p t q u f g C D to wide c s h)

  free_over : (d : ℕ) → IsDeclared p d → NeedsNoObject p d → NeedsNoObject q (f d)
  free_over d k (NeedsNoObject.static h) = NeedsNoObject.static (static_over p q f g to.alike d k h)
  free_over d k (NeedsNoObject.type h) = NeedsNoObject.type (role_over p q f g to.alike d k ∙ h)

  through_over : (s d : ℕ) (receiver : Option RowType) → IsDeclared p d → IsThrough p t s d receiver → IsThrough q u (f s) (f d) (moved_receiver f receiver)
  through_over s d r k (IsThrough.freely h) = IsThrough.freely (free_over d k h)
  through_over s d _ k IsThrough.without = IsThrough.without
  through_over s d _ k (IsThrough.object {c = c} h) = IsThrough.object (up_over c s h)

  pub accessible_over : (d : ℕ) (receiver : Option RowType) → IsDeclared p d → IsAccessible p t d o receiver → IsAccessible q u (f d) o' (moved_receiver f receiver)
  accessible_over d r k (IsAccessible.local h) = IsAccessible.local (subst IsLocalRole (sym (role_over p q f g to.alike d k)) h)
  accessible_over d r k (IsAccessible.public h) = IsAccessible.public (public_over p q f g to.alike d k h)
  accessible_over d r k (IsAccessible.private h w) = IsAccessible.private (private_over p q f g to.alike d k h) (at.same_top d k w)
  accessible_over d r k (IsAccessible.in_package h w) = IsAccessible.in_package (λ x. h (private_back p q f g to.alike d k x)) (at.same_package d k w)
  accessible_over d r k (IsAccessible.protected h) = IsAccessible.protected (record {
    protected = protected_over p q f g to.alike d k h.protected;
    holder = f h.holder;
    declared = to.alike.declared h.holder d h.declared;
    subclass = f h.subclass;
    body = at.body h.subclass h.body;
    above = up_over h.subclass h.holder h.above;
    through = through_over h.subclass d r k h.through;
  })
  accessible_over d r k (IsAccessible.super_call h) = IsAccessible.super_call (record {
    protected = protected_over p q f g to.alike d k h.protected;
    constructor = role_over p q f g to.alike d k ∙ h.constructor;
    calls = at.super_call h.calls;
  })

  module _ (see : Sees p t q u f) where
    pub applicable_over : (receiver : Option RowType) (arguments : List RowType) (m : ℕ) → IsDeclared p m → IsApplicable p t o receiver arguments m
        → IsApplicable q u o' (moved_receiver f receiver) (moved_types f arguments) (f m)
    applicable_over r as' m k h = record {
      accessible = accessible_over m r k h.accessible;
      parameters = moved_types f h.parameters;
      are = see.parameters m h.parameters h.are;
      fit = all_subtypes_over p t q u f g C D to wide as' h.parameters h.fit;
    }

    pub more_specific_over : (m k : ℕ) → MoreSpecific p t m k → MoreSpecific q u (f m) (f k)
    more_specific_over m k h = record {
      first = moved_types f h.first;
      second = moved_types f h.second;
      are = see.parameters m h.first h.are;
      others = see.parameters k h.second h.others;
      fit = all_subtypes_over p t q u f g C D to wide h.first h.second h.fit;
    }

    pub result_over : (m k : ℕ) → ResultFits p t m k → ResultFits q u (f m) (f k)
    result_over m k (ResultFits.same {a = a} h i) = ResultFits.same (see.has_type m a h) (see.has_type k a i)
    result_over m k (ResultFits.reference {a = a} {b = b} h i x y z) =
        ResultFits.reference (see.has_type m a h) (see.has_type k b i) (reference_over f a x) (reference_over f b y) (subtype_over p t q u f g C D to wide a b z)

-- ---- sets that correspond

pub record Sets (p q : Rows) (f g : ℕ → ℕ) (S S' : ℕ → Type 0) : Type 0 where
  pub goes : (m : ℕ) → S m → S' (f m)
  pub are : (m : ℕ) → S m → IsDeclared p m

pub record SetsBoth (p q : Rows) (f g : ℕ → ℕ) (S S' : ℕ → Type 0) : Type 0 where
  pub there : Sets p q f g S S'
  pub back : Sets q p g f S' S

pub turned : (p q : Rows) (f g : ℕ → ℕ) (S S' : ℕ → Type 0) → SetsBoth p q f g S S' → SetsBoth q p g f S' S
turned p q f g S S' h = record { there = h.back; back = h.there }

-- ---- the order in which members are inherited

module _ (p : Rows) (t : Table) (q : Rows) (u : Table) (f g : ℕ → ℕ) (C D : ℕ → Type 0) (to : Carries p t q u f g C D) (from : Carries q u p t g f D C)
    (see : Sees q u p t g) (sees : Sees p t q u f) where
  no_sooner : (c n s d m' r' : ℕ) → C c → IsDeclared p d → FirstThrough p t c n s d → m' < f n → SuperAt q u (f c) m' r' → MemberOf q u r' (f d) → ⊥
  no_sooner c n s d m' r' k l h lt sup m =
      let kd = to.goes c k in
      let e = to.alike.back c (type_declared p c (to.known c k)) in
      let sup' = subst (λ c. SuperAt p t c (g m') (g r')) e (from.super_at (f c) m' r' kd sup) in
      let b = from.place_back (f c) m' r' kd sup in
      let a = to.place_back c n s k h.at in
      let o : m' ≤ f n = omega arith in
      let z = from.place_order (f c) m' (f n) r' (f s) kd sup (to.super_at c n s k h.at) o in
      let mem = subst (MemberOf p t (g r')) (to.alike.back d l) (member_over q u p t g f D C from to r' (f d) (from.super_known (f c) m' r' kd sup) (λ _. sees) m) in
      h.first (g m') (g r') (smaller (g m') n (subst (λ x. g m' ≤ x) a z) (λ w. let y = ap f w in let v : m' ≡ f n = sym b ∙ y in absurd (omega arith))) sup' mem
    where
      smaller : (a b : ℕ) → a ≤ b → (a ≡ b → ⊥) → a < b
      smaller a b le ne = omega arith

  first_over : (c n s d : ℕ) → C c → FirstThrough p t c n s d → IsDeclared p d → FirstThrough q u (f c) (f n) (f s) (f d)
  first_over c n s d k h l = record {
    at = to.super_at c n s k h.at;
    member = member_over p t q u f g C D to from s d (to.super_known c n s k h.at) (λ _. see) h.member;
    first = λ m' r' lt sup m. no_sooner c n s d m' r' k l h lt sup m;
  }

  before_over : (c m n r s : ℕ) → C c → SuperAt p t c m r → SuperAt p t c n s → m < n → f m < f n
  before_over c m n r s k a b lt =
      let x = to.place_back c m r k a in let y = to.place_back c n s k b in
      let z = to.place_order c m n r s k a b (omega arith) in
      strict (f m) (f n) z (λ e. let w = ap g e in let v : m ≡ n = sym x ∙ w ∙ y in absurd (omega arith))
    where
      strict : (a b : ℕ) → a ≤ b → (a ≡ b → ⊥) → a < b
      strict a b le ne = omega arith

  pub earlier_over : (c d e : ℕ) → C c → IsDeclared p d → IsDeclared p e → Earlier p t c d e → Earlier q u (f c) (f d) (f e)
  earlier_over c d e k i j (Earlier.by_place {m = m} {n = n} {r = r} {s = s} a b lt) =
      Earlier.by_place (first_over c m r d k a i) (first_over c n s e k b j) (before_over c m n r s k a.at b.at lt)
  earlier_over c d e k i j (Earlier.within {n = n} {s = s} a b more) =
      Earlier.within (first_over c n s d k a i) (first_over c n s e k b j) (earlier_over s d e (to.super_known c n s k a.at) i j more)

-- ---- the choice

-- what both directions give, between sets A and A' of applicable methods
pub record Choosing (p : Rows) (t : Table) (q : Rows) (u : Table) (f g : ℕ → ℕ) (A A' : ℕ → Type 0) : Type 0 where
  pub alike : Alike p q f g
  pub sets : SetsBoth p q f g A A'
  pub specific : (m k : ℕ) → MoreSpecific p t m k → MoreSpecific q u (f m) (f k)
  pub results : (m k : ℕ) → ResultFits p t m k → ResultFits q u (f m) (f k)

pub record Both (p : Rows) (t : Table) (q : Rows) (u : Table) (f g : ℕ → ℕ) (A A' : ℕ → Type 0) : Type 0 where
  pub there : Choosing p t q u f g A A'
  pub back : Choosing q u p t g f A' A

pub flipped : (p : Rows) (t : Table) (q : Rows) (u : Table) (f g : ℕ → ℕ) (A A' : ℕ → Type 0) → Both p t q u f g A A' → Both q u p t g f A' A
flipped p t q u f g A A' h = record { there = h.back; back = h.there }

module _ (p : Rows) (t : Table) (q : Rows) (u : Table) (f g : ℕ → ℕ) (A A' : ℕ → Type 0) (h : Both p t q u f g A A') where
  back_is : (k' : ℕ) → A' k' → f (g k') ≡ k'
  back_is k' a = h.back.alike.back k' (h.there.sets.back.are k' a)

  pub most_over : (m : ℕ) → IsMostSpecific p t A m → IsMostSpecific q u A' (f m)
  most_over m w = record {
    applicable = h.there.sets.there.goes m w.applicable;
    most = λ k' a. subst (λ k. MoreSpecific q u (f m) k) (back_is k' a) (h.there.specific m (g k') (w.most (g k') (h.there.sets.back.goes k' a)));
  }

-- of the most specific ones, which are M and M'
module _ (p : Rows) (t : Table) (q : Rows) (u : Table) (f g : ℕ → ℕ) (M M' : ℕ → Type 0) (h : Both p t q u f g M M') where
  is_back : (k' : ℕ) → M' k' → f (g k') ≡ k'
  is_back k' a = h.back.alike.back k' (h.there.sets.back.are k' a)

  abstract_all : AllAbstract p M → AllAbstract q M'
  abstract_all all k' a = let b = h.there.sets.back.goes k' a in
      subst (IsAbstract q) (is_back k' a) (abstract_over p q f g h.there.alike (g k') (h.there.sets.there.are (g k') b) (all (g k') b))

  returns_over : (m : ℕ) → Returns p t M m → Returns q u M' (f m)
  returns_over m w = record {
    candidate = h.there.sets.there.goes m w.candidate;
    fits = λ k' a. subst (ResultFits q u (f m)) (is_back k' a) (h.there.results m (g k') (w.fits (g k') (h.there.sets.back.goes k' a)));
  }

module _ (p : Rows) (t : Table) (q : Rows) (u : Table) (f g : ℕ → ℕ) (M M' : ℕ → Type 0) (h : Both p t q u f g M M')
    (c c' : ℕ) (earlier : (d e : ℕ) → IsDeclared p d → IsDeclared p e → Earlier p t c d e → Earlier q u c' (f d) (f e)) where
  sooner : (S : ℕ → Type 0) (m k' : ℕ) → IsDeclared p m → IsDeclared p (g k') → f (g k') ≡ k' → (m ≡ g k') ⊎ Earlier p t c m (g k') → (f m ≡ k') ⊎ Earlier q u c' (f m) k'
  sooner S m k' i j b (inl e) = inl (ap f e ∙ b)
  sooner S m k' i j b (inr w) = inr (subst (Earlier q u c' (f m)) b (earlier m (g k') i j w))

  concrete_over : (m : ℕ) → M m → (IsAbstract p m → ⊥) → IsAbstract q (f m) → ⊥
  concrete_over m a no' w = let l = h.there.sets.there.are m a in
      no' (subst (IsAbstract p) (h.there.alike.back m l) (abstract_over q p g f h.back.alike (f m) (h.back.sets.there.are (f m) (h.there.sets.there.goes m a)) w))

  first_returning : (m : ℕ) → IsFirst p t c (Returns p t M) m → IsFirst q u c' (Returns q u M') (f m)
  first_returning m w = record {
    candidate = returns_over p t q u f g M M' h m w.candidate;
    first = λ k' r'. let r = returns_over q u p t g f M' M (flipped p t q u f g M M' h) k' r' in
        sooner (Returns p t M) m k' (h.there.sets.there.are m w.candidate.candidate) (h.there.sets.there.are (g k') r.candidate) (is_back p t q u f g M M' h k' r'.candidate) (w.first (g k') r);
  }

  first_of : (m : ℕ) → IsFirst p t c M m → IsFirst q u c' M' (f m)
  first_of m w = record {
    candidate = h.there.sets.there.goes m w.candidate;
    first = λ k' r'. let r = h.there.sets.back.goes k' r' in
        sooner M m k' (h.there.sets.there.are m w.candidate) (h.there.sets.there.are (g k') r) (is_back p t q u f g M M' h k' r') (w.first (g k') r);
  }

  pub preferred_over : (m : ℕ) → IsPreferred p t c M m → IsPreferred q u c' M' (f m)
  preferred_over m (IsPreferred.concrete a no') = IsPreferred.concrete (h.there.sets.there.goes m a) (concrete_over m a no')
  preferred_over m (IsPreferred.returning all w) = IsPreferred.returning (abstract_all p t q u f g M M' h all) (first_returning m w)
  preferred_over m (IsPreferred.first all none' w) = IsPreferred.first (abstract_all p t q u f g M M' h all)
      (λ k' r'. none' (g k') (returns_over q u p t g f M' M (flipped p t q u f g M M' h) k' r')) (first_of m w)

-- the most specific ones of corresponding sets correspond
pub both_most : (p : Rows) (t : Table) (q : Rows) (u : Table) (f g : ℕ → ℕ) (A A' : ℕ → Type 0) → Both p t q u f g A A'
    → Both p t q u f g (IsMostSpecific p t A) (IsMostSpecific q u A')
both_most p t q u f g A A' h =
    let k = flipped p t q u f g A A' h in record {
      there = record {
        alike = h.there.alike;
        sets = record {
          there = record { goes = most_over p t q u f g A A' h; are = λ m w. h.there.sets.there.are m w.applicable };
          back = record { goes = most_over q u p t g f A' A k; are = λ m w. h.back.sets.there.are m w.applicable };
        };
        specific = h.there.specific;
        results = h.there.results;
      };
      back = record {
        alike = h.back.alike;
        sets = record {
          there = record { goes = most_over q u p t g f A' A k; are = λ m w. h.back.sets.there.are m w.applicable };
          back = record { goes = most_over p t q u f g A A' h; are = λ m w. h.there.sets.there.are m w.applicable };
        };
        specific = h.back.specific;
        results = h.back.results;
      };
    }

pub left_of_over : (p : Rows) (t : Table) (q : Rows) (u : Table) (f g : ℕ → ℕ) (A A' : ℕ → Type 0) → Both p t q u f g A A' → (c c' : ℕ)
    → ((d e : ℕ) → IsDeclared p d → IsDeclared p e → Earlier p t c d e → Earlier q u c' (f d) (f e))
    → ((d e : ℕ) → IsDeclared q d → IsDeclared q e → Earlier q u c' d e → Earlier p t c (g d) (g e)) → (m : ℕ) → IsLeftOf p t c A m → IsLeftOf q u c' A' (f m)
left_of_over p t q u f g A A' h c c' earlier back m (IsLeftOf.chosen w) =
    IsLeftOf.chosen (preferred_over p t q u f g (IsMostSpecific p t A) (IsMostSpecific q u A') (both_most p t q u f g A A' h) c c' earlier m w)
left_of_over p t q u f g A A' h c c' earlier back m (IsLeftOf.undecided none' a) =
    IsLeftOf.undecided (λ k' w. none' (g k') (preferred_over q u p t g f (IsMostSpecific q u A') (IsMostSpecific p t A)
    (both_most q u p t g f A' A (flipped p t q u f g A A' h)) c' c back k' w)) (h.there.sets.there.goes m a)
