-- What tables tell of the types above.
use Rattle.std.proofs.Common.{◌≡◌, ◌⊎◌, refl, sym, ◌∙◌, ap, inl, inr, ⊎_elim, arith, ℕ, suc, true, false, Option, Some, None, Decides}
use Rattle.std.proofs.lemmas.Bool.{false≢true}
use Rattle.std.proofs.lemmas.Option.{none-some}
use Rattle.jr_tree.specs.Rows.{Rows}
use Rattle.jr_defs.specs.Referents.{Table}
use Rattle.jr_defs.specs.Declarations.{IsType, IsObject}
use Rattle.jr_defs.specs.Supertypes.{Super, Above}
use Rattle.jr_plain.specs.Search.{has, Reaches}
use Rattle.jr_plain.specs.Headed.{IsHeaded}
use Rattle.jr_plain.proofs.Tests.{itself, both, either, like}
use Rattle.jr_plain.proofs.Declared.{object_tells}
use Rattle.jr_plain.proofs.OfTypes.{interface_type}
use Rattle.jr_plain.proofs.Supertyped.{super_source}
use Rattle.jr_tree.specs.Rows.{label}
use Rattle.jr_supers.specs.declared.above.Link.{Link}
use Rattle.jr_supers.specs.Pairs.{has_pair, uppers}
use Rattle.jr_supers.specs.Above.{Tables, link_at, up_of, up_at, is_branched, is_above_by, is_above_in, is_some_item, IsKnown, OnChain, AreAbove, HasNoOtherObject}
use Rattle.jr_supers.proofs.Keys.{uppers_tell, item_in}
use Rattle.jr_supers.proofs.Chained.{rises, Strictly, strictly_reaches, linked_tells, SomeOn, branched_out, branched_into}

-- what has something above it is a type
pub above_source : (p : Rows) (t : Table) → IsHeaded p → (c s : ℕ) → Above p t c s → IsType p c
above_source p t headed c s (Above.direct h) = super_source p t headed c s h
above_source p t headed c s (Above.further {r = r} h more) = super_source p t headed c r h
above_source p t headed c s (Above.object i o) = interface_type (label p c) i

pub reaches_above : (p : Rows) (t : Table) (c s : ℕ) → Reaches (Super p t) c s → Above p t c s
reaches_above p t c s (Reaches.direct h) = Above.direct h
reaches_above p t c s (Reaches.further {r = r} h more) = Above.further h (reaches_above p t r s more)

pub reaches_source : (p : Rows) (t : Table) → IsHeaded p → (c s : ℕ) → Reaches (Super p t) c s → IsType p c
reaches_source p t headed c s h = above_source p t headed c s (reaches_above p t c s h)

pub above_splits : (p : Rows) (t : Table) (c s : ℕ) → Above p t c s → Reaches (Super p t) c s ⊎ IsObject p s
above_splits p t c s (Above.direct h) = inl (Reaches.direct h)
above_splits p t c s (Above.further {r = r} h more) = ⊎_elim (λ k. inl (Reaches.further h k)) (λ o. inr o) (above_splits p t r s more)
above_splits p t c s (Above.object i o) = inr o

pub reaches_then : {E : ℕ → ℕ → Type 0} {a b c : ℕ} → Reaches E a b → Reaches E b c → Reaches E a c
reaches_then (Reaches.direct e) k = Reaches.further e k
reaches_then (Reaches.further e h) k = Reaches.further e (reaches_then h k)

module _ (p : Rows) (t : Table) (T : Tables) (A : AreAbove p t T) where
  -- what stands above what a type has a pair with, it has a pair with too
  pub pair_reaches : (c r s : ℕ) → has_pair T.pairs c r ≡ true → Reaches (Super p t) r s → has_pair T.pairs c s ≡ true
  pair_reaches c r s h (Reaches.direct e) = A.closed c r s h e
  pair_reaches c r s h (Reaches.further {r = q} e more) = pair_reaches c q s (A.closed c r q h e) more

  abbrev Found : ℕ → ℕ → Type 0
  Found c s = Strictly p t T A c s ⊎ SomeOn p t T A (λ n. has_pair T.pairs n s) c

  pub reaches_found : (c s : ℕ) (l : Link) → link_at T.links c ≡ Some l → Reaches (Super p t) c s → Found c s
  reaches_found c s l is (Reaches.direct h) = ⊎_elim (λ up. inl (s, ap up_of is ∙ up, OnChain.here)) (λ k. inr (c, OnChain.here, k)) ((A.each c l is).supers s h)
  reaches_found c s l is (Reaches.further {r = r} h more) = ⊎_elim
      (λ up. let f = ((A.each c l is).first r up).1 in let at : up_at T.links c ≡ Some r = ap up_of is ∙ up in
      ⊎_elim (λ k. inl (r, at, OnChain.over k.1 k.2)) (λ k. inr (k.0, OnChain.over at k.1, k.2)) (reaches_found r s f.over f.known more))
      (λ k. inr (c, OnChain.here, pair_reaches c r s k more)) ((A.each c l is).supers r h)

  on_reaches : (c y s : ℕ) → OnChain T.links c y → Reaches (Super p t) y s → Reaches (Super p t) c s
  on_reaches c _ s OnChain.here k = k
  on_reaches c y s (OnChain.over {u = u} e on) k = let r = rises p t T A c u e in Reaches.further r.6 (on_reaches u y s on k)

  pub found_reaches : (c s : ℕ) → Found c s → Reaches (Super p t) c s
  found_reaches c s (inl h) = strictly_reaches p t T A c s h
  found_reaches c s (inr h) = on_reaches c h.0 s h.1 (A.sound h.0 s h.2)

  has_uppers : (s y : ℕ) → has_pair T.pairs y s ≡ true → is_some_item (uppers T.pairs y) ≡ true
  has_uppers s y h = item_in (uppers T.pairs y) s (uppers_tell T.pairs y s ∙ h)

  branched_tells : (c s : ℕ) (l : Link) → link_at T.links c ≡ Some l → Decides (is_branched T.links T.pairs l s) (SomeOn p t T A (λ n. has_pair T.pairs n s) c)
  branched_tells c s l is = (
    branched_out p t T A (λ n. has_pair T.pairs n s) (suc l.depth) c l is,
    λ h. branched_into p t T A (λ n. has_pair T.pairs n s) (has_uppers s) c h.0 l.depth l h.1 is (omega arith) h.2,
  )

  module _ (one : HasNoOtherObject p) where
    above_known : (c s : ℕ) (l : Link) → link_at T.links c ≡ Some l → Decides (is_above_by p T c s (Some l)) (Above p t c s)
    above_known c s l is = like (either (either (both (itself l.has_object) (object_tells p s)) (linked_tells p t T A c l is s)) (branched_tells c s l is))
        (⊎_elim (⊎_elim (λ h. ((A.each c l is).object s h.1).0 h.0) (λ h. reaches_above p t c s (found_reaches c s (inl h)))) (λ h. reaches_above p t c s (found_reaches c s (inr h))))
        (λ h. ⊎_elim (λ k. ⊎_elim (λ x. inl (inr x)) (λ x. inr x) (reaches_found c s l is k)) (λ o. inl (inl (((A.each c l is).object s o).1 h, o))) (above_splits p t c s h))

    above_unknown : (c s : ℕ) → (IsType p c → IsKnown T.links c) → IsHeaded p → link_at T.links c ≡ None → Decides false (Above p t c s)
    above_unknown c s all headed is = (λ h. absurd (false≢true h), λ h. let k = all (above_source p t headed c s h) in absurd (none-some k.0 (sym is ∙ k.1)))

    pub above_tells : IsHeaded p → (c s : ℕ) → (IsType p c → IsKnown T.links c) → Decides (is_above_in p T c s) (Above p t c s)
    above_tells headed c s all = by (link_at T.links c) refl
      where
        by : (o : Option Link) → link_at T.links c ≡ o → Decides (is_above_by p T c s o) (Above p t c s)
        by None is = above_unknown c s all headed is
        by (Some l) is = above_known c s l is
