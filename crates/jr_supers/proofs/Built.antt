-- The tables of types in an order tell what stands above them.
use Rattle.std.proofs.Common.{◌≡◌, ◌⊎◌, refl, sym, ◌∙◌, ap, subst, inl, inr, ⊎_elim, arith, ℕ, zero, suc, ◌<◌, true, List, [], ◌∷◌, length, replicate, Option, Some, None, nat_eq}
use Rattle.std.proofs.lemmas.Bool.{false≢true, or_left, or_right, or_cases}
use Rattle.std.proofs.lemmas.Bool.Decides.{Decides-eqb}
use Rattle.std.proofs.lemmas.List.{length-set}
use Rattle.std.proofs.lemmas.Option.{none-some}
use Rattle.jr_tree.specs.Rows.{Rows}
use Rattle.jr_defs.specs.Referents.{Table}
use Rattle.jr_defs.specs.Declarations.{IsType}
use Rattle.jr_defs.specs.Supertypes.{Super}
use Rattle.jr_plain.specs.Search.{has, Reaches}
use Rattle.jr_plain.specs.Headed.{IsHeaded}
use Rattle.jr_plain.proofs.Bounds.{type_below}
use Rattle.jr_places.specs.declared.chains.Entry.{Entry}
use Rattle.jr_supers.specs.declared.above.Link.{Link}
use Rattle.jr_supers.specs.Direct.{supers_in, HasSupers}
use Rattle.jr_supers.specs.Order.{IsSuperIn, HasNoLoop, AreBehind, IsOrderOf}
use Rattle.jr_supers.specs.Above.{Tables, link_at, with_unless, with_type, with_types, no_tables, IsKnown, AreAbove, AreAllAbove, HasNoOtherObject}
use Rattle.jr_supers.specs.Supers.{HasNoCycle}
use Rattle.jr_supers.proofs.Telling.{reaches_above}
use Rattle.jr_supers.proofs.Stepping.{more_above, more_known}

none_linked : (n c : ℕ) → link_at (replicate n None) c ≡ None
none_linked zero c = refl
none_linked (suc n) zero = refl
none_linked (suc n) (suc c) = none_linked n c

length_none : (n : ℕ) → length (replicate {A = Option Link} n None) ≡ n
length_none zero = refl
length_none (suc n) = ap suc (length_none n)

module _ (p : Rows) (t : Table) (headed : IsHeaded p) (one : HasNoOtherObject p) (supers : List Entry) (listed : HasSupers p t supers) where
  -- the tables know the types that are done
  record IsDone (done : List ℕ) (T : Tables) : Type 0 where
    above : AreAbove p t T
    size : length T.links ≡ length p
    knows : (k : ℕ) → has done k ≡ true → IsKnown T.links k

  one_type : (done : List ℕ) (c : ℕ) (T : Tables) → IsDone done T → IsType p c → ((s : ℕ) → IsSuperIn supers c s → IsType p s → has done s ≡ true) → IsDone (c ∷ done) (with_type p (supers_in supers c) c T)
  one_type done c T h type behind = by (link_at T.links c) refl
    where
      new_or_old : (k : ℕ) → has (c ∷ done) k ≡ true → IsKnown T.links k ⊎ (k ≡ c)
      new_or_old k at = ⊎_elim (λ e. inr (sym ((Decides-eqb c k).0 e))) (λ d. inl (h.knows k d)) (or_cases (nat_eq c k) (has done k) at)

      by : (o : Option Link) → link_at T.links c ≡ o → IsDone (c ∷ done) (with_unless p (supers_in supers c) c T o)
      by (Some l) e = record {
        above = h.above;
        size = h.size;
        knows = λ k at. ⊎_elim (λ d. d) (λ same. subst (λ j. IsKnown T.links j) (sym same) (l, e)) (new_or_old k at);
      }
      by None e = let inside = type_below p c type in let size = h.size in let lt : c < length T.links = omega arith in
          let over : (s : ℕ) → Super p t c s → IsType p s → IsKnown T.links s = λ s d of_type. h.knows s (behind s ((listed.each c s).1 d) of_type) in record {
            above = more_above p t T h.above headed one c lt e (supers_in supers c) (listed.each c) over;
            size = length-set T.links c _ ∙ h.size;
            knows = λ k at. more_known p t T h.above headed one c lt e (supers_in supers c) (listed.each c) over k (new_or_old k at);
          }

  all_types : (order done : List ℕ) (T : Tables) → IsDone done T → AreBehind p supers done order
      → AreAbove p t (with_types p supers T order) × ((k : ℕ) → (has done k ≡ true) ⊎ (has order k ≡ true) → IsKnown (with_types p supers T order).links k)
  all_types [] done T h behind = (h.above, λ k. ⊎_elim (λ d. h.knows k d) (λ n. absurd (false≢true n)))
  all_types (c ∷ order) done T h behind = let rest = all_types order (c ∷ done) (with_type p (supers_in supers c) c T) (one_type done c T h behind.0 behind.1) behind.2 in
      (rest.0, λ k. ⊎_elim (λ d. rest.1 k (inl (later k d))) (λ n. ⊎_elim (λ e. rest.1 k (inl (here k e))) (λ n. rest.1 k (inr n)) (or_cases (nat_eq c k) (has order k) n)))
    where
      later : (k : ℕ) → has done k ≡ true → has (c ∷ done) k ≡ true
      later k d = or_right (nat_eq c k) (has done k) d

      here : (k : ℕ) → nat_eq c k ≡ true → has (c ∷ done) k ≡ true
      here k e = or_left (nat_eq c k) (has done k) e

  none_done : IsDone [] (no_tables p)
  none_done = record {
    above = record {
      each = λ c l e. absurd (none-some l (sym (none_linked (length p) c) ∙ e));
      sound = λ c s h. absurd (false≢true h);
      closed = λ c r s h d. absurd (false≢true h);
      known = λ c s h. absurd (false≢true h);
    };
    size = length_none (length p);
    knows = λ k h. absurd (false≢true h);
  }

  pub all_above : (order : List ℕ) → IsOrderOf p supers order → AreAllAbove p t (with_types p supers (no_tables p) order)
  all_above order h = let built = all_types order [] (no_tables p) none_done h.behind in record { above = built.0; all = λ c type. built.1 c (inr (h.all c type)) }

  loop_above : (c s : ℕ) → Reaches (IsSuperIn supers) c s → Reaches (Super p t) c s
  loop_above c s (Reaches.direct h) = Reaches.direct ((listed.each c s).0 h)
  loop_above c s (Reaches.further {r = r} h more) = Reaches.further ((listed.each c r).0 h) (loop_above r s more)

  pub no_loop : HasNoCycle p t → HasNoLoop supers
  no_loop none c h = none c (reaches_above p t c c (loop_above c c h))
