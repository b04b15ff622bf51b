-- A method overrides another where it may, and single steps lead there (JLS 8.4.8.1).
use Rattle.std.proofs.Common.{◌≡◌, ◌⊎◌, refl, sym, ◌∙◌, ap, ap₂, subst, inl, ⊎_elim, ℕ, Bool, true, false, ◌&&◌, ◌||◌, Decides}
use Rattle.std.proofs.lemmas.Bool.{false≢true}
use Rattle.std.proofs.lemmas.Option.{same_Some}
use Rattle.jr_tree.specs.Rows.{Rows}
use Rattle.jr_tree.specs.Tree.{IsTree}
use Rattle.jr_defs.specs.Referents.{Table}
use Rattle.jr_defs.specs.Modifiers.{InInterface, IsPublic, IsProtected}
use Rattle.jr_defs.specs.Packages.{SamePackage}
use Rattle.jr_defs.specs.Types.{Parameters, SameSignature}
use Rattle.jr_defs.specs.Supertypes.{Above}
use Rattle.jr_defs.specs.Overriding.{IsAboveMethod, Overrides}
use Rattle.jr_plain.specs.Search.{Reaches}
use Rattle.jr_plain.specs.Headed.{IsHeaded}
use Rattle.jr_plain.specs.Overriding.{is_above_method, is_reachable}
use Rattle.jr_plain.specs.Modifiers.{is_public, is_protected}
use Rattle.jr_plain.specs.Packages.{is_same_package}
use Rattle.jr_plain.proofs.Tests.{both, either, like, decide}
use Rattle.jr_plain.proofs.Modified.{in_interface_tells, public_tells, protected_tells}
use Rattle.jr_plain.proofs.Packaged.{same_package_tells}
use Rattle.jr_plain.proofs.Typed.{parameters_find}
use Rattle.jr_plain.proofs.Dispatched.{above_method_tells}
use Rattle.jr_dispatch.specs.Overridden.{overrides_directly, OverridesDirectly}

pub reachable_tells : (p : Rows) (m k : ℕ) → Decides (is_reachable p m k) (IsPublic p k ⊎ IsProtected p k ⊎ SamePackage p m k)
reachable_tells p m k = either (public_tells p k) (either (protected_tells p k) (same_package_tells p m k))

pub reached_public : (p : Rows) (m k : ℕ) → is_public p k ≡ true → true ≡ is_reachable p m k
reached_public p m k e = sym (ap (λ b. b || (is_protected p k || is_same_package p m k)) e)

pub reached_protected : (p : Rows) (m k : ℕ) → is_public p k ≡ false → is_protected p k ≡ true → true ≡ is_reachable p m k
reached_protected p m k e f = sym (ap₂ (λ b c. b || (c || is_same_package p m k)) e f)

pub reached_package : (p : Rows) (m k : ℕ) → is_public p k ≡ false → is_protected p k ≡ false → is_same_package p m k ≡ is_reachable p m k
reached_package p m k e f = sym (ap₂ (λ b c. b || (c || is_same_package p m k)) e f)

pub directly_not : (p : Rows) (t : Table) (m k : ℕ) → is_reachable p m k ≡ false → false ≡ overrides_directly p t m k
directly_not p t m k e = sym (ap (λ b. b && is_above_method p t m k) e)

pub directly_by : (p : Rows) (t : Table) (m k : ℕ) → is_reachable p m k ≡ true → is_above_method p t m k ≡ overrides_directly p t m k
directly_by p t m k e = sym (ap (λ b. b && is_above_method p t m k) e)

pub reaches_like : {E F : ℕ → ℕ → Type 0} {a b : ℕ} → ((x y : ℕ) → E x y → F x y) → Reaches E a b → Reaches F a b
reaches_like f (Reaches.direct {a = a} {b = b} e) = Reaches.direct (f a b e)
reaches_like f (Reaches.further {a = a} {r = r} e more) = Reaches.further (f a r e) (reaches_like f more)

reaches_join : {E : ℕ → ℕ → Type 0} {a b c : ℕ} → Reaches E a b → Reaches E b c → Reaches E a c
reaches_join (Reaches.direct e) k = Reaches.further e k
reaches_join (Reaches.further e more) k = Reaches.further e (reaches_join more k)

module _ (p : Rows) (t : Table) where
  pub signature_then : (m j k : ℕ) → IsTree p → SameSignature p t m j → SameSignature p t j k → SameSignature p t m k
  signature_then m j k tree a b = let same : a.types ≡ b.types = same_Some _ _ (sym ((parameters_find p t j tree a.types).1 a.second) ∙ (parameters_find p t j tree b.types).1 b.first) in record {
    named = a.named ∙ b.named;
    types = b.types;
    first = subst (λ types. Parameters p t m types) same a.first;
    second = b.second;
  }

  pub overrides_above : (m k : ℕ) → Overrides p t m k → IsAboveMethod p t m k
  overrides_above m k (Overrides.direct h r) = h
  overrides_above m k (Overrides.through h a b) = h

  -- steps lead to what is overridden
  pub overridden_reached : (m k : ℕ) → Overrides p t m k → Reaches (OverridesDirectly p t) m k
  overridden_reached m k (Overrides.direct h r) = Reaches.direct (record { above = h; reach = r })
  overridden_reached m k (Overrides.through {j = j} h a b) = reaches_join (overridden_reached m j a) (overridden_reached j k b)

  module _ (headed : IsHeaded p) where
    pub directly_tells : (m k : ℕ) → Decides (overrides_directly p t m k) (OverridesDirectly p t m k)
    directly_tells m k = like (both (reachable_tells p m k) (above_method_tells p t headed m k)) (λ h. record { above = h.1; reach = h.0 }) (λ h. (h.reach, h.above))

    module _ (above_then : (c r s : ℕ) → Above p t c r → Above p t r s → Above p t c s) where
      joined : (m j k : ℕ) → (InInterface p m → ⊥) → IsAboveMethod p t m j → IsAboveMethod p t j k → IsAboveMethod p t m k
      joined m j k apart a b = record {
        signatures = record { first = a.signatures.first; second = b.signatures.second; signature = signature_then m j k headed.tree a.signatures.signature b.signatures.signature };
        instance = a.instance;
        type = a.type;
        declared = a.declared;
        upper = b.upper;
        declares = b.declares;
        above = above_then a.type a.upper b.upper a.above (subst (λ x. Above p t x b.upper) (sym b.declared.inside.inside ∙ a.declares.inside.inside) b.above);
        reached = b.reached;
        from_interface = λ i. absurd (apart i);
      }

      one_more : (m j k : ℕ) → (InInterface p m → ⊥) → Overrides p t m j → OverridesDirectly p t j k → Overrides p t m k
      one_more m j k apart o e = Overrides.through (joined m j k apart (overrides_above m j o) e.above) o (Overrides.direct e.above e.reach)

      steps_override : (m j k : ℕ) → (InInterface p m → ⊥) → Overrides p t m j → Reaches (OverridesDirectly p t) j k → Overrides p t m k
      steps_override m j k apart o (Reaches.direct e) = one_more m j k apart o e
      steps_override m j k apart o (Reaches.further {r = r} e more) = steps_override m r k apart (one_more m j r apart o e) more

      from_class : (m k : ℕ) → (InInterface p m → ⊥) → Reaches (OverridesDirectly p t) m k → Overrides p t m k
      from_class m k apart (Reaches.direct e) = Overrides.direct e.above e.reach
      from_class m k apart (Reaches.further {r = r} e more) = steps_override m r k apart (Overrides.direct e.above e.reach) more

      -- what may be overridden and is led to is overridden
      reached_overridden : (m k : ℕ) → IsAboveMethod p t m k → Reaches (OverridesDirectly p t) m k → Overrides p t m k
      reached_overridden m k above path = ⊎_elim (λ i. Overrides.direct above (inl (above.from_interface i))) (λ apart. from_class m k apart path) (decide (in_interface_tells p m))

      pub overrides_not : (m k : ℕ) → is_above_method p t m k ≡ false → Decides false (Overrides p t m k)
      overrides_not m k e = (λ h. absurd (false≢true h), λ o. absurd (false≢true (sym e ∙ (above_method_tells p t headed m k).1 (overrides_above m k o))))

      pub overrides_at_once : (m k : ℕ) → is_above_method p t m k ≡ true → is_reachable p m k ≡ true → Decides true (Overrides p t m k)
      overrides_at_once m k e r = (λ h. Overrides.direct ((above_method_tells p t headed m k).0 e) ((reachable_tells p m k).0 r), λ o. refl)

      pub overrides_by_steps : (m k : ℕ) (is : Bool) → is_above_method p t m k ≡ true → Decides is (Reaches (OverridesDirectly p t) m k) → Decides is (Overrides p t m k)
      overrides_by_steps m k is e d = like d (reached_overridden m k ((above_method_tells p t headed m k).0 e)) (overridden_reached m k)
