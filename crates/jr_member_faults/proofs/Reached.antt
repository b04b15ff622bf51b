-- A method whose signature's methods keep the rules over those right above them keeps them over all that it overrides or hides.
use Rattle.std.proofs.Common.{◌≡◌, ◌⊎◌, refl, sym, ◌∙◌, subst, inl, inr, ⊎_elim, ℕ}
use Rattle.std.proofs.lemmas.Option.{same_Some}
use Rattle.jr_tree.specs.declared.label.Role.TheVariants as role
use Rattle.jr_tree.specs.Rows.{Rows, role_at}
use Rattle.jr_defs.specs.Referents.{Table}
use Rattle.jr_defs.specs.Declarations.{IsInterface, IsObject}
use Rattle.jr_defs.specs.Enclosing.{DeclaredIn}
use Rattle.jr_defs.specs.Modifiers.{IsPublic, IsProtected, InInterface}
use Rattle.jr_defs.specs.Packages.{SamePackage}
use Rattle.jr_defs.specs.Supertypes.{Super, Above}
use Rattle.jr_defs.specs.Types.{Parameters}
use Rattle.jr_defs.specs.Members.{SameMethods, Replaces, IsLeft}
use Rattle.jr_defs.specs.MemberRules.{RedefinesMethod}
use Rattle.jr_plain.specs.Headed.{IsHeaded}
use Rattle.jr_plain.specs.Enclosing.{declared_by}
use Rattle.jr_plain.specs.Members.{replaces}
use Rattle.jr_plain.proofs.Tests.{decide}
use Rattle.jr_plain.proofs.Searches.{some_of}
use Rattle.jr_plain.proofs.Children.{declared_list}
use Rattle.jr_plain.proofs.Declared.{object_tells}
use Rattle.jr_plain.proofs.Membership.{replaces_tells}
use Rattle.jr_plain.proofs.Typed.{parameters_find}
use Rattle.jr_members.specs.Held.{Holds, ObjectIsBare}
use Rattle.jr_dispatch.proofs.Overriding.{overrides_above}
use Rattle.jr_member_faults.specs.Descent.{StaysInside, IsReachedBelow, InterfacesStandBelowInterfaces}
use Rattle.jr_member_faults.specs.Nearest.{Keeps, KeepsNear}
use Rattle.jr_member_faults.proofs.Lefts.{same_back}
use Rattle.jr_member_faults.proofs.Chained.{keeps_then}

module _ (p : Rows) (t : Table) where
  -- ---- what types hold

  held_inside : (c k : ℕ) → StaysInside p t k → Holds p t c k → SamePackage p c k
  held_inside c k inside (Holds.declared h) = inside.own c h
  held_inside c k inside (Holds.inherited {s = s} up more a b left) = inside.down c s up (held_inside s k inside more)

  held_in_interface : InterfacesStandBelowInterfaces p t → (c k : ℕ) → Holds p t c k → IsInterface p c → InInterface p k
  held_in_interface plain c k (Holds.declared h) is = record { of_type = c; interface = is; declared = h }
  held_in_interface plain c k (Holds.inherited {s = s} up more a b left) is = held_in_interface plain s k more (plain c s up is)

  held_reach : (c s k : ℕ) → Super p t c s → Holds p t s k → IsReachedBelow p t k → IsPublic p k ⊎ IsProtected p k ⊎ SamePackage p c k
  held_reach c s k up held (inl public) = inl public
  held_reach c s k up held (inr (inl protected)) = inr (inl protected)
  held_reach c s k up held (inr (inr inside)) = inr (inr (inside.down c s up (held_inside s k inside held)))

  -- a type that declares nothing of the signature inherits it
  held_next : (c s k : ℕ) → KeepsNear p t k → Super p t c s → Holds p t s k → IsLeft p t c k → Holds p t c k
  held_next c s k keeps up held left = Holds.inherited up held (record { from_interface = held_in_interface keeps.interfaces s k held })
      (record { open_member = keeps.down.open_member; reach = held_reach c s k up held keeps.down.reached }) left

  -- ---- methods of one signature

  replaced_method : (e k : ℕ) → role_at p k ≡ role.Method → Replaces p t e k → SameMethods p t e k
  replaced_method e k method (Replaces.field h) = let other : role.Field ≡ role.Method = sym h.second ∙ method in cc
  replaced_method e k method (Replaces.type h) = let other : role.Type ≡ role.Method = sym h.second ∙ method in cc
  replaced_method e k method (Replaces.method h) = h

  module _ (headed : IsHeaded p) where
    pub same_on : (m j k : ℕ) → SameMethods p t m j → SameMethods p t j k → SameMethods p t m k
    same_on m j k one two = record {
      first = one.first;
      second = two.second;
      signature = record {
        named = one.signature.named ∙ two.signature.named;
        types = one.signature.types;
        first = one.signature.first;
        second = subst (λ xs. Parameters p t k xs) (sym (same_Some one.signature.types two.signature.types (sym ((parameters_find p t j headed.tree one.signature.types).1 one.signature.second) ∙ (parameters_find p t j headed.tree two.signature.types).1 two.signature.first)))
            two.signature.second;
      };
    }

    abbrev Declares : ℕ → ℕ → Type 0
    Declares c k = (e : ℕ) × DeclaredIn p c e × Replaces p t e k

    replaced_or_left : (c k : ℕ) → Declares c k ⊎ IsLeft p t c k
    replaced_or_left c k = ⊎_elim inl (λ none. inr (λ e declared h. none (e, declared, h)))
        (decide (some_of (λ e. replaces p t e k) (λ e. Replaces p t e k) (λ e. replaces_tells p t headed e k) (declared_by p c) (declared_list p headed.tree c)))

    module _ (bare : ObjectIsBare p) (m : ℕ) (all : (k : ℕ) → SameMethods p t m k → KeepsNear p t k) where
      -- c holds a method of the signature that is k or keeps the rules over k
      record IsFor (c k : ℕ) : Type 0 where
        row : ℕ
        held : Holds p t c row
        same : SameMethods p t m row
        keeps : (row ≡ k) ⊎ Keeps p t row k

      -- what keeps the rules over that keeps them over k
      through : (a j k : ℕ) → SameMethods p t m j → Keeps p t a j → (j ≡ k) ⊎ Keeps p t j k → Keeps p t a k
      through a j k same keeps (inl e) = subst (λ x. Keeps p t a x) e keeps
      through a j k same keeps (inr more) = let near = all j same in keeps_then p t bare headed a j k near.throws keeps more

      above_for : (c s k e : ℕ) → Super p t c s → DeclaredIn p c e → SameMethods p t m e → IsFor s k → Keeps p t e k
      above_for c s k e up declared same f = let near = all e same in let own = near.above c declared in
          through e f.row k f.same (own.near s up f.row f.held (same_on e m f.row (same_back p t m e same) f.same)) f.keeps

      for_next : (c s k : ℕ) → Super p t c s → IsFor s k → IsFor c k
      for_next c s k up f = ⊎_elim by (λ left. record { row = f.row; held = held_next c s f.row (all f.row f.same) up f.held left; same = f.same; keeps = f.keeps }) (replaced_or_left c f.row)
        where
          by : Declares c f.row → IsFor c k
          by d = let same = same_on m f.row d.0 f.same (same_back p t d.0 f.row (replaced_method d.0 f.row f.same.second d.2)) in
              record { row = d.0; held = Holds.declared d.1; same = same; keeps = inr (above_for c s k d.0 up d.1 same f) }

      for_own : (c k : ℕ) → DeclaredIn p c k → SameMethods p t m k → IsFor c k
      for_own c k declared same = record { row = k; held = Holds.declared declared; same = same; keeps = inl refl }

      for_above : (c s k : ℕ) → Above p t c s → DeclaredIn p s k → SameMethods p t m k → (IsObject p s → ⊥) → IsFor c k
      for_above c s k (Above.direct up) declared same apart = for_next c s k up (for_own s k declared same)
      for_above c s k (Above.further {r = r} up more) declared same apart = for_next c r k up (for_above r s k more declared same apart)
      for_above c s k (Above.object i o) declared same apart = absurd (apart o)

      itself_same : (k : ℕ) → SameMethods p t m k → SameMethods p t m m
      itself_same k same = same_on m k m same (same_back p t m k same)

      keeps_over : (c s k : ℕ) → DeclaredIn p c m → Above p t c s → DeclaredIn p s k → SameMethods p t m k → (IsObject p s → ⊥) → Keeps p t m k
      keeps_over c s k own (Above.direct up) declared same apart = above_for c s k m up own (itself_same k same) (for_own s k declared same)
      keeps_over c s k own (Above.further {r = r} up more) declared same apart = above_for c r k m up own (itself_same k same) (for_above r s k more declared same apart)
      keeps_over c s k own (Above.object i o) declared same apart = absurd (apart o)

      keeps_above : (c s k : ℕ) → DeclaredIn p c m → Above p t c s → DeclaredIn p s k → SameMethods p t m k → Keeps p t m k
      keeps_above c s k own above declared same = let near = all m (itself_same k same) in let at = near.above c own in
          ⊎_elim (λ object. at.object s object above k declared same) (λ apart. keeps_over c s k own above declared same apart) (decide (object_tells p s))

      pub keeps_all : (k : ℕ) → RedefinesMethod p t m k → Keeps p t m k
      keeps_all k (RedefinesMethod.overriding h) = let a = overrides_above p t m k h in keeps_above a.type a.upper k a.declared a.above a.declares a.signatures
      keeps_all k (RedefinesMethod.hiding h) = keeps_above h.type h.upper k h.declared h.above h.declares h.signatures
