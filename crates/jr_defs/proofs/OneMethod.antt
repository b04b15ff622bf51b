-- A call finds one method: a type has at most one superclass, and in each body the first that serves is one.
use Rattle.std.proofs.Common.{le_antisymm, ◌≡◌, ◌⊎◌, refl, sym, ◌∙◌, subst, ⊎_elim, ℕ, Option}
use Rattle.jr_tree.specs.Rows.{Rows}
use Rattle.jr_defs.specs.declared.referent.Referent.TheVariants.{Declared}
use Rattle.jr_defs.specs.Referents.{Table}
use Rattle.jr_defs.specs.Supertypes.{Superclass}
use Rattle.jr_defs.specs.Overriding.{FoundFrom, Found, HasOneSuperclass}

module _ (p : Rows) (t : Table) (one : HasOneSuperclass p) where
  one_superclass : (b r s : ℕ) → Superclass p t b r → Superclass p t b s → r ≡ s
  one_superclass b r s (Superclass.named {n = n} {level = k} g d) (Superclass.named {n = m} {level = l} h e) = one_target (sym d ∙ subst (λ x. t x ≡ Declared s l) (one.name b m n h g) e)
    where
      one_target : {r s : ℕ} {k l : Option ℕ} → Declared r k ≡ Declared s l → r ≡ s
      one_target e = cc
  one_superclass b r s (Superclass.named {n = n} g d) (Superclass.implied h e) = absurd (h.unnamed n g)
  one_superclass b r s (Superclass.implied g d) (Superclass.named {n = m} h e) = absurd (g.unnamed m h)
  one_superclass b r s (Superclass.implied g d) (Superclass.implied h e) = one.object r s d e

  one_from : (c m b f g : ℕ) → FoundFrom p t c m b f → FoundFrom p t c m b g → f ≡ g
  one_from c m b f g (FoundFrom.here h) (FoundFrom.here k) = le_antisymm (h.first g k.declared k.serves) (k.first f h.declared h.serves)
  one_from c m b f g (FoundFrom.here h) (FoundFrom.up none u k) = absurd (none f h.declared h.serves)
  one_from c m b f _ (FoundFrom.here h) (FoundFrom.end none top) = absurd (none f h.declared h.serves)
  one_from c m b f g (FoundFrom.up none u h) (FoundFrom.here k) = absurd (none g k.declared k.serves)
  one_from c m b f g (FoundFrom.up {s = r} none u h) (FoundFrom.up {s = s} other v k) = one_from c m r f g h (subst (λ x. FoundFrom p t c m x g) (one_superclass b s r v u) k)
  one_from c m b f _ (FoundFrom.up {s = r} none u h) (FoundFrom.end other top) = absurd (top r u)
  one_from c m b _ g (FoundFrom.end none top) (FoundFrom.here k) = absurd (none g k.declared k.serves)
  one_from c m b _ g (FoundFrom.end none top) (FoundFrom.up {s = s} other v k) = absurd (top s v)
  one_from c m b _ _ (FoundFrom.end none top) (FoundFrom.end other up) = refl

  pub one_method : (c m f g : ℕ) → Found p t c m f → Found p t c m g → f ≡ g
  one_method c m _ _ (Found.fixed h) (Found.fixed k) = refl
  one_method c m _ g (Found.fixed h) (Found.dispatched a b k) = absurd (⊎_elim a b h)
  one_method c m f _ (Found.dispatched a b h) (Found.fixed k) = absurd (⊎_elim a b k)
  one_method c m f g (Found.dispatched a b h) (Found.dispatched x y k) = one_from c m c f g h k
