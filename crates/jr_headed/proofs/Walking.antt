-- Where each type stands behind its supertypes, and Object at the top, no type is above itself.
use Rattle.std.proofs.Common.{◌≡◌, ◌⊎◌, sym, subst, inl, inr, ⊎_elim, ℕ, Bool, true, List, [], ◌∷◌, nat_eq, Decides, Result, Ok, Err, IfOk}
use Rattle.std.proofs.lemmas.Bool.{false≢true, or_left, or_right, or_cases}
use Rattle.std.proofs.lemmas.Bool.Decides.{Decides-eqb}
use Rattle.jr_tree.specs.Rows.{Rows}
use Rattle.jr_defs.specs.Referents.{Table}
use Rattle.jr_defs.specs.Declarations.{IsType, IsObject}
use Rattle.jr_defs.specs.Supertypes.{Super, SuperAt, Above}
use Rattle.jr_plain.specs.Search.{has, Reaches}
use Rattle.jr_places.specs.declared.chains.Entry.{Entry}
use Rattle.jr_supers.specs.declared.subtypes.Supers as code
use Rattle.jr_supers.specs.Direct.{HasSupers}
use Rattle.jr_supers.specs.Order.{IsSuperIn, AreBehind}
use Rattle.jr_supers.specs.Supers.{IsWellHeaded, HasNoCycle, AreSupersOf}
use Rattle.jr_supers.proofs.Telling.{above_splits, reaches_source}
use Rattle.jr_members.specs.Held.{ObjectIsBare}
use Rattle.jr_headed.specs.Cycles.{IsOrdered}

module _ (p : Rows) (t : Table) (well : IsWellHeaded p) (supers : List Entry) (listed : HasSupers p t supers) where
  -- the set has the supertypes of its members that are types
  abbrev IsClosed : List ℕ → Type 0
  IsClosed done = (c s : ℕ) → has done c ≡ true → Super p t c s → IsType p s → has done s ≡ true

  -- none of them is above itself
  abbrev IsAcyclic : List ℕ → Type 0
  IsAcyclic done = (c : ℕ) → has done c ≡ true → Reaches (Super p t) c c → ⊥

  stays : (done : List ℕ) → IsClosed done → (x y : ℕ) → has done x ≡ true → Reaches (Super p t) x y → IsType p y → has done y ≡ true
  stays done closed x y at (Reaches.direct e) type = closed x y at e type
  stays done closed x y at (Reaches.further {r = r} e more) type = stays done closed r y (closed x r at e (reaches_source p t well.headed r y more)) more type

  module _ (c : ℕ) (done : List ℕ) (type : IsType p c) (behind : (s : ℕ) → IsSuperIn supers c s → IsType p s → has done s ≡ true) where
    over : (s : ℕ) → Super p t c s → IsType p s → has done s ≡ true
    over s e of_type = behind s ((listed.each c s).1 e) of_type

    one_closed : IsClosed done → IsClosed (c ∷ done)
    one_closed closed x s at e of_type = or_right (nat_eq c s) (has done s)
        (⊎_elim (λ same. over s (subst (λ z. Super p t z s) (sym ((Decides-eqb c x).0 same)) e) of_type) (λ d. closed x s d e of_type) (or_cases (nat_eq c x) (has done x) at))

    returns_not : IsClosed done → IsAcyclic done → Reaches (Super p t) c c → ⊥
    returns_not closed none (Reaches.direct e) = none c (over c e type) (Reaches.direct e)
    returns_not closed none (Reaches.further {r = r} e more) =
        none c (stays done closed r c (over r e (reaches_source p t well.headed r c more)) more type) (Reaches.further e more)

    one_acyclic : IsClosed done → IsAcyclic done → IsAcyclic (c ∷ done)
    one_acyclic closed none x at loop = ⊎_elim (λ same. returns_not closed none (subst (λ z. Reaches (Super p t) z z) (sym ((Decides-eqb c x).0 same)) loop)) (λ d. none x d loop)
        (or_cases (nat_eq c x) (has done x) at)

  each_acyclic : (order done : List ℕ) → IsClosed done → IsAcyclic done → AreBehind p supers done order → (c : ℕ) → (has done c ≡ true) ⊎ (has order c ≡ true) → Reaches (Super p t) c c → ⊥
  each_acyclic [] done closed none behind c (inl d) loop = none c d loop
  each_acyclic [] done closed none behind c (inr n) loop = false≢true n
  each_acyclic (x ∷ order) done closed none behind c at loop =
      each_acyclic order (x ∷ done) (one_closed x done behind.0 behind.1 closed) (one_acyclic x done behind.0 behind.1 closed none) behind.2 c
      (⊎_elim (λ d. inl (or_right (nat_eq x c) (has done c) d)) (λ n. ⊎_elim (λ e. inl (or_left (nat_eq x c) (has done c) e)) (λ n. inr n) (or_cases (nat_eq x c) (has order c) n)) at) loop

  module _ (order : List ℕ) (h : IsOrdered p supers order) where
    object_not : (c : ℕ) → IsObject p c → Above p t c c → ⊥
    object_not c o (Above.direct e) = (h.top c o).1 c ((listed.each c c).1 e)
    object_not c o (Above.further {r = r} e more) = (h.top c o).1 r ((listed.each c r).1 e)
    object_not c o (Above.object i s) = (h.top c o).0 i

    no_cycle : HasNoCycle p t
    no_cycle c above = ⊎_elim
        (λ loop. each_acyclic order [] (λ c s at. absurd (false≢true at)) (λ c at. absurd (false≢true at)) h.order_is.behind c (inr (h.order_is.all c (reaches_source p t well.headed c c loop))) loop)
        (λ o. object_not c o above) (above_splits p t c c above)

  pub no_cycle_told : (order : List ℕ) (entries : List Entry) (items : List ℕ) {E : Type 0} (found : Result Bool E) → entries ≡ supers → items ≡ order → IfOk found (λ is. Decides is (IsOrdered p entries items))
      → IfOk found (λ is. is ≡ true → HasNoCycle p t)
  no_cycle_told order entries items (Ok is) e i d = λ holds. no_cycle order (subst (IsOrdered p supers) i (subst (λ x. IsOrdered p x items) e (d.0 holds)))
  no_cycle_told order entries items (Err x) e i d = tt

-- and the order of supertypes without a cycle is such
bare_super : (p : Rows) (t : Table) (c s : ℕ) → ObjectIsBare p → IsObject p c → Super p t c s → ⊥
bare_super p t c s bare o e = by e.place e.at
  where
    by : (n : ℕ) → SuperAt p t c n s → ⊥
    by n (SuperAt.class name is) = bare c n o (inl name)
    by n (SuperAt.implied i s) = i.below o
    by n (SuperAt.interface name is) = bare c n o (inr name)

ordered_supers : (p : Rows) (t : Table) (supers : code.Supers) → AreSupersOf p t supers → ObjectIsBare p → HasNoCycle p t → IsOrdered p supers.direct.supers supers.order.items
ordered_supers p t supers are bare none = record {
  order_is = are.order;
  top = λ c o. (λ i. none c (Above.object i o), λ s e. bare_super p t c s bare o ((are.direct.each c s).0 e));
}

pub ordered_told : (p : Rows) (t : Table) (supers : code.Supers) → AreSupersOf p t supers → ObjectIsBare p → HasNoCycle p t → (entries : List Entry) (items : List ℕ) {E : Type 0} (found : Result Bool E)
    → entries ≡ supers.direct.supers → items ≡ supers.order.items → IfOk found (λ is. Decides is (IsOrdered p entries items)) → IfOk found (λ is. is ≡ true)
ordered_told p t supers are bare none entries items (Ok is) e i d =
    d.1 (subst (IsOrdered p entries) (sym i) (subst (λ x. IsOrdered p x supers.order.items) (sym e) (ordered_supers p t supers are bare none)))
ordered_told p t supers are bare none entries items (Err x) e i d = tt
