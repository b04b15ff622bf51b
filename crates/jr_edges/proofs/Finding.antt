-- A call finds one method, so that one look tells whether it finds the copy.
use Rattle.std.proofs.Common.{◌≡◌, refl, sym, ◌∙◌, ap, subst, ℕ, ◌+◌, Bool, List, Option, Some, None, Decides}
use Rattle.std.proofs.lemmas.Bool.{false≢true}
use Rattle.std.proofs.lemmas.Bool.Decides.{Decides-eqb, Decides-at}
use Rattle.std.proofs.lemmas.Option.{none-some, same_Some}
use Rattle.jr_tree.specs.Rows.{Rows}
use Rattle.jr_defs.specs.Referents.{Table}
use Rattle.jr_defs.specs.Overriding.{Dispatches, HasOneSuperclass}
use Rattle.jr_defs.proofs.OneMethod.{one_method}
use Rattle.jr_supers.specs.Supers.{IsWellHeaded}
use Rattle.jr_dispatch.specs.Dispatching.{IsFoundAs}
use Rattle.jr_locks.specs.Origins.{row_by, origin_of}
use Rattle.jr_edges.specs.Dispatched.{IsCopy, is_copy_of, is_copy_found, KeepsCall}

one_super : (p : Rows) → IsWellHeaded p → HasOneSuperclass p
one_super p well = record {
  name = λ c n m g h. well.first n g.names ∙ ap suc_of (g.inside ∙ sym h.inside) ∙ sym (well.first m h.names);
  object = well.one;
}
  where
    suc_of : ℕ → ℕ
    suc_of n = n + 1

pub one_found : (p : Rows) (t : Table) → IsWellHeaded p → (c m f g : ℕ) → Dispatches p t c m f → Dispatches p t c m g → f ≡ g
one_found p t well c m f g h k = one_method p t (one_super p well) c m f g h.found k.found

copy_tells : (o found : Option ℕ) → Decides (is_copy_of o found) ((g : ℕ) × (o ≡ Some g) × (found ≡ Some g))
copy_tells (Some m) (Some x) = (λ e. (m, refl, ap Some (sym ((Decides-eqb m x).0 e))), λ h. (Decides-eqb m x).1 (same_Some m h.0 h.1 ∙ sym (same_Some x h.0 h.2)))
copy_tells None found = (λ e. absurd (false≢true e), λ h. absurd (none-some h.0 h.1))
copy_tells (Some m) None = (λ e. absurd (false≢true e), λ h. absurd (none-some h.0 h.2))

module _ (q : Rows) (l : Table) (copy : List ℕ) (c m f : ℕ) where
  module _ (well : IsWellHeaded q) (d k : ℕ) (class : IsCopy copy c d) (method : IsCopy copy m k) where
    finds_it : (found : Option ℕ) (g : ℕ) → IsFoundAs q l d k found → found ≡ Some g → Dispatches q l d k g
    finds_it (Some x) g h e = subst (λ y. Dispatches q l d k y) (same_Some x g e) h
    finds_it None g h e = absurd (none-some g e)

    it_is_found : (found : Option ℕ) (g : ℕ) → IsFoundAs q l d k found → Dispatches q l d k g → found ≡ Some g
    it_is_found (Some x) g h there = ap Some (one_found q l well d k x g h there)
    it_is_found None g h there = absurd (h there.class there.has)

    pub kept_told : (found : Option ℕ) (is : Bool) → IsFoundAs q l d k found → is ≡ is_copy_found copy f found → Decides is (KeepsCall q l copy c m f)
    kept_told found is finds told = Decides-at _ _ told (
      λ e d' k' class' method'. let g = (copy_tells (row_by (origin_of copy f)) found).0 e in
          (g.0, g.1, subst (λ x. Dispatches q l x k' g.0) (same_Some d d' (sym class ∙ class')) (subst (λ y. Dispatches q l d y g.0) (same_Some k k' (sym method ∙ method')) (finds_it found g.0 finds g.2))),
      λ keeps. let g = keeps d k class method in (copy_tells (row_by (origin_of copy f)) found).1 (g.0, g.1, it_is_found found g.0 finds g.2),
    )
