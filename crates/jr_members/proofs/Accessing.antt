-- The ways to a member, one after the other (JLS 6.6.1, 6.6.2).
use Rattle.std.proofs.Common.{◌≡◌, ◌⊎◌, refl, sym, ◌∙◌, ap, ap₂, subst, inl, inr, ℕ, zero, suc, Bool, true, false, not, cond, ◌&&◌, ◌||◌, Option, Some, None, Decides}
use Rattle.std.proofs.lemmas.Bool.{false≢true}
use Rattle.std.proofs.lemmas.Option.{none-some, same_Some}
use Rattle.jr_tree.specs.Rows.{Rows, role_at}
use Rattle.jr_defs.specs.declared.referent.Element.{Element}
use Rattle.jr_defs.specs.declared.referent.Element.TheVariants as element
use Rattle.jr_defs.specs.declared.referent.RowType.{RowType}
use Rattle.jr_defs.specs.Referents.{Table}
use Rattle.jr_defs.specs.Supertypes.{AtOrAbove}
use Rattle.jr_defs.specs.Access.{IsThrough, ByProtected}
use Rattle.jr_plain.specs.Headed.{IsHeaded}
use Rattle.jr_plain.specs.Enclosing.{declaring_type, is_same_top_level}
use Rattle.jr_plain.specs.Modifiers.{is_public, is_protected, is_private}
use Rattle.jr_plain.specs.Packages.{is_same_package}
use Rattle.jr_plain.specs.Supertypes.{is_at_or_above}
use Rattle.jr_plain.specs.Access as plain
use Rattle.jr_plain.proofs.Tests.{both, like}
use Rattle.jr_plain.proofs.Enclosed.{declaring_finds}
use Rattle.jr_plain.proofs.Modified.{protected_tells}
use Rattle.jr_plain.proofs.Supertyped.{at_or_above_tells}
use Rattle.jr_plain.proofs.Accessed.{through_tells, by_protected_tells}
use Rattle.jr_supers.proofs.Subtyped.{one_test}
use Rattle.jr_members.specs.Near.{IsSubclass, IsInSubclass, class_by, is_near}

module _ (p : Rows) (t : Table) (headed : IsHeaded p) where
  pub object_none : (s dims : ℕ) (e : Element) → None ≡ class_by dims e → false ≡ plain.is_object_of p t s dims e
  object_none s zero (element.Class c) is = absurd (none-some c is)
  object_none s zero _ is = refl
  object_none s (suc dims) e is = refl

  pub object_some : (s dims c : ℕ) (e : Element) (b : Bool) → Some c ≡ class_by dims e → Decides b (AtOrAbove p t c s) → b ≡ plain.is_object_of p t s dims e
  object_some s zero c (element.Class d) b is tells = let same = same_Some c d is in
      one_test b (is_at_or_above p t d s) (AtOrAbove p t d s) (subst (λ x. Decides b (AtOrAbove p t x s)) same tells) (at_or_above_tells p t headed d s)
  object_some s zero c _ b is tells = absurd (none-some c (sym is))
  object_some s (suc dims) c e b is tells = absurd (none-some c (sym is))

  pub subclass_is : (holder d s : ℕ) (receiver : Option RowType) (a b : Bool) → Decides a (AtOrAbove p t s holder) → b ≡ plain.is_through p t s d receiver → Decides (a && b) (IsSubclass p t holder d receiver s)
  subclass_is holder d s receiver a b above is = like (both above (subst (λ c. Decides c (IsThrough p t s d receiver)) (sym is) (through_tells p t headed s d receiver)))
      (λ h. record { above = h.0; through = h.1 }) (λ h. (h.above, h.through))

  module _ (d o : ℕ) (receiver : Option RowType) where
    pub unprotected : is_protected p d ≡ false → false ≡ plain.is_by_protected p t d o receiver
    unprotected no_modifier = one_test false (plain.is_by_protected p t d o receiver) (ByProtected p t d o receiver)
        (λ h. absurd (false≢true h), λ k. absurd (false≢true (sym no_modifier ∙ (protected_tells p d).1 k.protected))) (by_protected_tells p t headed d o receiver)

    pub undeclared : declaring_type p d ≡ None → false ≡ plain.is_by_protected p t d o receiver
    undeclared nowhere = one_test false (plain.is_by_protected p t d o receiver) (ByProtected p t d o receiver)
        (λ h. absurd (false≢true h), λ k. absurd (none-some k.holder (sym nowhere ∙ (declaring_finds p d k.holder).1 k.declared))) (by_protected_tells p t headed d o receiver)

    pub by_subclass : (holder : ℕ) (b : Bool) → is_protected p d ≡ true → declaring_type p d ≡ Some holder → Decides b (IsInSubclass p t holder d o receiver) → b ≡ plain.is_by_protected p t d o receiver
    by_subclass holder b is found tells = one_test b (plain.is_by_protected p t d o receiver) (ByProtected p t d o receiver) (like tells out into) (by_protected_tells p t headed d o receiver)
      where
        out : IsInSubclass p t holder d o receiver → ByProtected p t d o receiver
        out k = record { protected = (protected_tells p d).0 is; holder = holder; declared = (declaring_finds p d holder).0 found; subclass = k.subclass; body = k.body; above = k.is.above; through = k.is.through }

        into : ByProtected p t d o receiver → IsInSubclass p t holder d o receiver
        into k = let same = same_Some k.holder holder (sym ((declaring_finds p d k.holder).1 k.declared) ∙ found) in
            record { subclass = k.subclass; body = k.body; is = record { above = subst (λ h. AtOrAbove p t k.subclass h) same k.above; through = k.through } }

    near_is : (l u x : Bool) (top pack far : Bool) → ((l || u) || (cond x top pack || far)) ≡ (l || (u || ((x && top) || ((not x && pack) || far))))
    near_is true u x top pack far = refl
    near_is false true x top pack far = refl
    near_is false false true true pack far = refl
    near_is false false true false pack far = refl
    near_is false false false top pack far = refl

    pub accessible_is : (free near far : Bool) → free ≡ (plain.is_local_role (role_at p d) || is_public p d) → near ≡ is_near p d o → far ≡ (plain.is_by_protected p t d o receiver || plain.is_by_super_call p d o)
        → (free || (near || far)) ≡ plain.is_accessible p t d o receiver
    accessible_is free near far first second third = ap₂ (λ a b. a || b) first (ap₂ (λ a b. a || b) second third)
        ∙ near_is (plain.is_local_role (role_at p d)) (is_public p d) (is_private p d) (is_same_top_level p d o) (is_same_package p d o) (plain.is_by_protected p t d o receiver || plain.is_by_super_call p d o)
