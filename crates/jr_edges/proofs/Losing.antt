-- The first edge that is not kept, of a class and of all classes.
use Rattle.std.proofs.Common.{◌≡◌, ◌⊎◌, refl, sym, ◌∙◌, subst, ⊎_elim, arith, ℕ, zero, suc, ◌+◌, ◌<◌, Bool, true, false, List, [], ◌∷◌, length, map, slice_index_or, nat_eq, Option, Some, None, Decides, Result, Ok, Err, IfOk}
use Rattle.std.proofs.lemmas.Bool.{false≢true, or_cases, or_left, or_right}
use Rattle.std.proofs.lemmas.Bool.Decides.{Decides-eqb}
use Rattle.std.proofs.lemmas.List.Kept.{AllPairs-from_increasing}
use Rattle.jr_tree.specs.Rows.{Rows}
use Rattle.jr_defs.specs.Referents.{Table}
use Rattle.jr_defs.specs.Overriding.{Dispatches}
use Rattle.jr_plain.specs.Search.{has}
use Rattle.jr_plain.proofs.Bounds.{class_below}
use Rattle.jr_plain.proofs.Declared.{class_tells}
use Rattle.jr_plain.specs.Declarations.{is_class}
use Rattle.jr_supers.specs.Supers.{IsWellHeaded}
use Rattle.jr_dispatch.specs.declared.dispatch.Found as code
use Rattle.jr_dispatch.specs.Dispatching.{method_of, AreEdges, AreFoundIn}
use Rattle.jr_edges.specs.declared.dispatched.Lost as lost_call
use Rattle.jr_edges.specs.Dispatched.{KeepsCall, KeepsClass, IsFirstLost, IsLostIn, IsClassTold, IsLost, AreTold, IsTold}
use Rattle.jr_edges.proofs.Finding.{one_found}

-- ---- lists

below_all : (x : ℕ) (xs : List ℕ) → ((k d : ℕ) → k < length xs → x < slice_index_or xs k d) → (y : ℕ) → has xs y ≡ true → x < y
below_all x [] h y at = absurd (false≢true at)
below_all x (z ∷ zs) h y at = ⊎_elim (λ e. subst (λ v. x < v) ((Decides-eqb z y).0 e) (h zero 0 (omega arith))) (λ k. below_all x zs (λ k d lt. h (suc k) d (omega arith)) y k) (or_cases (nat_eq z y) (has zs y) at)

-- each number is below those behind it
abbrev Rises : List ℕ → Type 0
Rises xs = (i j d : ℕ) → i < j → j < length xs → slice_index_or xs i d < slice_index_or xs j d

rises_on : (x : ℕ) (xs : List ℕ) → Rises (x ∷ xs) → Rises xs
rises_on x xs h i j d lt within = h (suc i) (suc j) d (omega arith) (omega arith)

first_below_all : (x : ℕ) (xs : List ℕ) → Rises (x ∷ xs) → (y : ℕ) → has xs y ≡ true → x < y
first_below_all x xs h = below_all x xs (λ k d within. h zero (suc k) d (omega arith) (omega arith))

module _ (q : Rows) (l : Table) (copy : List ℕ) where
  -- ---- the loop over the edges of a class

  pub lost_here : (all left more : List code.Found) (e : code.Found) (is : Bool) → left ≡ e ∷ more → ((found : Option lost_call.Lost) → IsFirstLost q l copy left found → IsFirstLost q l copy all found)
      → Decides is (KeepsCall q l copy e.class e.method e.found) → is ≡ false → IsFirstLost q l copy all (Some (record { class = e.class; method = e.method }))
  lost_here all left more e is left_is before told fails =
      before (Some (record { class = e.class; method = e.method })) (subst (λ xs. IsFirstLost q l copy xs (Some (record { class = e.class; method = e.method }))) (sym left_is) (IsFirstLost.here (λ k. false≢true (sym fails ∙ told.1 k))))

  pub lost_later : (all left more : List code.Found) (e : code.Found) (is : Bool) → left ≡ e ∷ more → ((found : Option lost_call.Lost) → IsFirstLost q l copy left found → IsFirstLost q l copy all found)
      → Decides is (KeepsCall q l copy e.class e.method e.found) → is ≡ true → (found : Option lost_call.Lost) → IsFirstLost q l copy more found → IsFirstLost q l copy all found
  lost_later all left more e is left_is before told holds found h = before found (subst (λ xs. IsFirstLost q l copy xs found) (sym left_is) (IsFirstLost.later (told.0 holds) h))

  pub lost_none : (all left : List code.Found) → left ≡ [] → ((found : Option lost_call.Lost) → IsFirstLost q l copy left found → IsFirstLost q l copy all found) → IsFirstLost q l copy all None
  lost_none all left left_is before = before None (subst (λ xs. IsFirstLost q l copy xs None) (sym left_is) IsFirstLost.none)

  module _ (p : Rows) (t : Table) where
    -- ---- one class

    module _ (c : ℕ) where
      record IsKeptAt (m : ℕ) : Type 0 where
        found : ℕ
        was : Dispatches p t c m found
        keeps : KeepsCall q l copy c m found

      kept_at : (e : code.Found) (m : ℕ) → e.class ≡ c → e.method ≡ m → Dispatches p t c e.method e.found → KeepsCall q l copy e.class e.method e.found → IsKeptAt m
      kept_at e m class method was keeps = record {
        found = e.found;
        was = subst (λ x. Dispatches p t c x e.found) method was;
        keeps = subst (λ x. KeepsCall q l copy c x e.found) method (subst (λ x. KeepsCall q l copy x e.method e.found) class keeps);
      }

      all_kept : (all : List code.Found) → AreEdges p t c all → IsFirstLost q l copy all None → (m : ℕ) → has (map method_of all) m ≡ true → IsKeptAt m
      all_kept [] edges h m at = absurd (false≢true at)
      all_kept (e ∷ more) edges (IsFirstLost.later keeps rest) m at = ⊎_elim (λ same. kept_at e m edges.0 ((Decides-eqb e.method m).0 same) edges.1 keeps)
          (λ k. all_kept more edges.2 rest m k) (or_cases (nat_eq e.method m) (has (map method_of more) m) at)

      record IsGone (all : List code.Found) (lost : lost_call.Lost) : Type 0 where
        in_class : lost.class ≡ c
        found : ℕ
        was : Dispatches p t c lost.method found
        lacks : KeepsCall q l copy c lost.method found → ⊥
        listed : has (map method_of all) lost.method ≡ true
        before : (m : ℕ) → m < lost.method → has (map method_of all) m ≡ true → IsKeptAt m

      one_gone : (all : List code.Found) (lost : lost_call.Lost) → AreEdges p t c all → Rises (map method_of all) → IsFirstLost q l copy all (Some lost) → IsGone all lost
      one_gone [] lost edges rises h = elim h [ ]
      one_gone (e ∷ more) lost edges rises (IsFirstLost.here gone) = record {
        in_class = edges.0;
        found = e.found;
        was = edges.1;
        lacks = λ k. gone (subst (λ x. KeepsCall q l copy x e.method e.found) (sym edges.0) k);
        listed = or_left (nat_eq e.method e.method) (has (map method_of more) e.method) ((Decides-eqb e.method e.method).1 refl);
        before = λ m lt at. ⊎_elim (λ same. let z = (Decides-eqb e.method m).0 same in absurd (omega arith)) (λ k. let over = first_below_all e.method (map method_of more) rises m k in absurd (omega arith))
            (or_cases (nat_eq e.method m) (has (map method_of more) m) at);
      }
      one_gone (e ∷ more) lost edges rises (IsFirstLost.later keeps rest) = let g = one_gone more lost edges.2 (rises_on e.method (map method_of more) rises) rest in record {
        in_class = g.in_class;
        found = g.found;
        was = g.was;
        lacks = g.lacks;
        listed = or_right (nat_eq e.method lost.method) (has (map method_of more) lost.method) g.listed;
        before = λ m lt at. ⊎_elim (λ same. kept_at e m edges.0 ((Decides-eqb e.method m).0 same) edges.1 keeps) (λ k. g.before m lt k) (or_cases (nat_eq e.method m) (has (map method_of more) m) at);
      }

      module _ (well : IsWellHeaded p) where
        kept_so : (m f : ℕ) → IsKeptAt m → Dispatches p t c m f → KeepsCall q l copy c m f
        kept_so m f k d = subst (λ x. KeepsCall q l copy c m x) (one_found p t well c m k.found f k.was d) k.keeps

        class_told : (all : List code.Found) (lost : Option lost_call.Lost) → AreFoundIn p t c all → IsFirstLost q l copy all lost → IsClassTold q l copy p t c lost
        class_told all None are h = λ m f d. kept_so m f (all_kept all are.edges h m (are.told m d.class d.has)) d
        class_told all (Some lost) are h = let g = one_gone all lost are.edges (AllPairs-from_increasing (map method_of all) are.rise) h in record {
          in_class = g.in_class;
          found = g.found;
          was = g.was;
          lacks = g.lacks;
          before = λ m f lt d. kept_so m f (g.before m lt (are.told m d.class d.has)) d;
        }

        pub class_told_so : {E : Type 0} (all same : List code.Found) (found : Result (Option lost_call.Lost) E) → AreFoundIn p t c all → same ≡ all → IfOk found (λ lost. IsFirstLost q l copy same lost)
            → IfOk found (λ lost. IsClassTold q l copy p t c lost)
        class_told_so all same (Ok lost) are e h = class_told all lost are (subst (λ xs. IsFirstLost q l copy xs lost) e h)
        class_told_so all same (Err x) are e h = tt

      -- what is no class has no edges
      pub no_class : (is : Bool) → is ≡ is_class p c → is ≡ false → KeepsClass q l copy p t c
      no_class is told fails m f d = absurd (false≢true (sym fails ∙ told ∙ (class_tells p c).1 d.class))

    -- ---- all classes

    pub one_more : (n : ℕ) → ((c : ℕ) → c < n → KeepsClass q l copy p t c) → KeepsClass q l copy p t n → (c : ℕ) → c < n + 1 → KeepsClass q l copy p t c
    one_more n before here c lt = ⊎_elim (λ below. before c below) (λ e. subst (λ x. KeepsClass q l copy p t x) (sym e) here) (below_or c n lt)
      where
        below_or : (c n : ℕ) → c < n + 1 → (c < n) ⊎ (c ≡ n)
        below_or c n lt = grind arith

    pub lost_there : (c : ℕ) (lost : lost_call.Lost) → ((d : ℕ) → d < c → KeepsClass q l copy p t d) → IsLostIn q l copy p t c lost → IsLost q l copy p t lost
    lost_there c lost before h = record {
      there = subst (λ x. IsLostIn q l copy p t x lost) (sym h.in_class) h;
      classes = λ d lt. before d (subst (λ x. d < x) h.in_class lt);
    }

    pub all_told : (end : ℕ) (lost : Option lost_call.Lost) → end ≡ length p → AreTold q l copy p t end lost → IsTold p t q l copy lost
    all_told end None is h = λ c m f d. h c (subst (λ n. c < n) (sym is) (class_below p c d.class)) m f d
    all_told end (Some lost) is h = h

    pub told_so : {E : Type 0} (end : ℕ) (found : Result (Option lost_call.Lost) E) → end ≡ length p → IfOk found (λ lost. AreTold q l copy p t end lost) → IfOk found (λ lost. IsTold p t q l copy lost)
    told_so end (Ok lost) is h = all_told end lost is h
    told_so end (Err x) is h = tt
