-- The first method in the text of a body that serves a call (JLS 15.12.4.4).
use Rattle.std.proofs.Common.{◌≡◌, ◌⊎◌, refl, sym, ◌∙◌, subst, inl, inr, ⊎_elim, arith, ℕ, zero, suc, ◌+◌, ◌<◌, ◌≤◌, Bool, true, false, cond, ◌&&◌, List, [], ◌∷◌, length, drop, get_or, Option, Some, None, Decides}
use Rattle.std.proofs.lemmas.Bool.{false≢true}
use Rattle.std.proofs.lemmas.List.{drop_more}
use Rattle.std.proofs.lemmas.Option.{none-some, same_Some}
use Rattle.jr_tree.specs.declared.label.Role.TheVariants as role
use Rattle.jr_tree.specs.Rows.{Rows, role_at}
use Rattle.jr_defs.specs.Referents.{Table}
use Rattle.jr_defs.specs.Declarations.{IsInterface}
use Rattle.jr_defs.specs.Enclosing.{DeclaredIn}
use Rattle.jr_defs.specs.Types.{SameSignature}
use Rattle.jr_defs.specs.Supertypes.{Above}
use Rattle.jr_defs.specs.Members.{SameMethods, MemberOf}
use Rattle.jr_defs.specs.Overriding.{Overrides, Implements, Serves, ServesFirst}
use Rattle.jr_plain.specs.Search.{has, Lists}
use Rattle.jr_plain.specs.Headed.{IsHeaded}
use Rattle.jr_plain.specs.Declarations.{is_interface}
use Rattle.jr_plain.specs.Enclosing.{declaring_type}
use Rattle.jr_plain.specs.Modifiers.{is_public}
use Rattle.jr_plain.specs.Supertypes.{is_above}
use Rattle.jr_plain.specs.Types.{is_same_signature}
use Rattle.jr_plain.proofs.Tests.{both, like}
use Rattle.jr_plain.proofs.Declared.{interface_tells}
use Rattle.jr_plain.proofs.Enclosed.{declaring_finds}
use Rattle.jr_plain.proofs.Modified.{found_tells, public_tells}
use Rattle.jr_plain.proofs.Supertyped.{above_tells}
use Rattle.jr_plain.proofs.Typed.{signature_tells}
use Rattle.jr_members.specs.Keys.{falling, is_declared_like}
use Rattle.jr_dispatch.specs.Overridden.{is_of_interface_above}
use Rattle.jr_dispatch.specs.Dispatching.{AreMethodRows, IsLikeOfInterface, IsLastOf, IsFirstServing}
use Rattle.jr_dispatch.proofs.Leading.{head_in, rest_in, in_cons}
use Rattle.jr_dispatch.proofs.Overriding.{overrides_above}
use Rattle.jr_dispatch.proofs.Inheriting.{like_listed}

-- ---- lists that fall

abbrev Falls : List ℕ → Type 0
Falls [] = Unit {0}
Falls (x ∷ xs) = ((y : ℕ) → has xs y ≡ true → y < x) × Falls xs

falling_below : (test : ℕ → Bool) (n y : ℕ) → has (falling n test) y ≡ true → y < n
falling_below test zero y h = absurd (false≢true h)
falling_below test (suc n) y h = by (test n) h (falling_below test n y)
  where
    by : (b : Bool) → has (cond b (n ∷ falling n test) (falling n test)) y ≡ true → (has (falling n test) y ≡ true → y < n) → y < suc n
    by true h more = ⊎_elim (λ same. omega (arith, same)) (λ k. let lt = more k in omega arith) (in_cons n y (falling n test) h)
    by false h more = let lt = more h in omega arith

falling_falls : (test : ℕ → Bool) (n : ℕ) → Falls (falling n test)
falling_falls test zero = tt
falling_falls test (suc n) = by (test n) (falling_falls test n)
  where
    by : (b : Bool) → Falls (falling n test) → Falls (cond b (n ∷ falling n test) (falling n test))
    by true more = ((λ y h. falling_below test n y h), more)
    by false more = more

-- the last one of a list that falls is the least
module _ (P : ℕ → Type 0) where
  abbrev IsLeastOf : Option ℕ → List ℕ → Option ℕ → Type 0
  IsLeastOf before xs found = ((found ≡ before) × ((x : ℕ) → has xs x ≡ true → P x → ⊥))
      ⊎ ((f : ℕ) × (found ≡ Some f) × (has xs f ≡ true) × P f × ((g : ℕ) → has xs g ≡ true → P g → f ≤ g))

  last_least : (before : Option ℕ) (xs : List ℕ) (found : Option ℕ) → Falls xs → IsLastOf P before xs found → IsLeastOf before xs found
  last_least before _ _ falls IsLastOf.end = inl (refl, λ x h. absurd (false≢true h))
  last_least before _ found falls (IsLastOf.yes {x = x} {xs = xs} is more) = ⊎_elim
      (λ k. inr (x, k.0, head_in x xs, is, λ g at pg. ⊎_elim (λ same. omega (arith, same)) (λ b. absurd (k.1 g b pg)) (in_cons x g xs at)))
      (λ k. inr (k.0, k.1, rest_in x k.0 xs k.2, k.3, λ g at pg. ⊎_elim (λ same. let lt = falls.0 k.0 k.2 in omega (arith, same)) (λ b. k.4 g b pg) (in_cons x g xs at)))
      (last_least (Some x) xs found falls.1 more)
  last_least before _ found falls (IsLastOf.no {x = x} {xs = xs} is more) = ⊎_elim
      (λ k. inl (k.0, λ y at py. ⊎_elim (λ same. is (subst P (sym same) py)) (λ b. k.1 y b py) (in_cons x y xs at)))
      (λ k. inr (k.0, k.1, rest_in x k.0 xs k.2, k.3, λ g at pg. ⊎_elim (λ same. absurd (is (subst P (sym same) pg))) (λ b. k.4 g b pg) (in_cons x g xs at)))
      (last_least before xs found falls.1 more)

  -- one more
  pub last_more : (b : Bool) (x : ℕ) (before : Option ℕ) (rest : List ℕ) (found : Option ℕ) → Decides b (P x) → IsLastOf P (cond b (Some x) before) rest found → IsLastOf P before (x ∷ rest) found
  last_more true x before rest found d h = IsLastOf.yes (d.0 refl) h
  last_more false x before rest found d h = IsLastOf.no (λ is. false≢true (d.1 is)) h

  pub last_step : (rows : List ℕ) (i d : ℕ) (before after : Option ℕ) (b : Bool) (found : Option ℕ) → i < length rows → Decides b (P (get_or rows i d)) → after ≡ cond b (Some (get_or rows i d)) before
      → IsLastOf P after (drop (i + 1) rows) found → IsLastOf P before (drop i rows) found
  last_step rows i d before after b found lt tells is h = subst (λ xs. IsLastOf P before xs found) (sym (drop_more rows i d lt))
      (last_more b (get_or rows i d) before (drop (i + 1) rows) found tells (subst (λ o. IsLastOf P o (drop (i + 1) rows) found) is h))

module _ (p : Rows) (t : Table) (headed : IsHeaded p) (c m b : ℕ) (method : role_at p m ≡ role.Method) where
  served_like : (f : ℕ) → Serves p t c m f → (f ≡ m) ⊎ SameMethods p t f m
  served_like f (Serves.itself e) = inl e
  served_like f (Serves.overriding o) = inr (overrides_above p t f m o).signatures
  served_like f (Serves.implementing i) = inr i.signatures

  abbrev Like : ℕ → Type 0
  Like e = DeclaredIn p b e × SameMethods p t e m

  pub like_methods : (rows : List ℕ) → rows ≡ falling (length p) (is_declared_like p t b m) → AreMethodRows p rows
  like_methods rows is k at = ((like_listed p t headed b m method k).0 (subst (λ xs. has xs k ≡ true) is at)).1.first

  module _ (rows : List ℕ) (is : rows ≡ falling (length p) (is_declared_like p t b m)) where
    listed : Lists rows Like
    listed = subst (λ xs. Lists xs Like) (sym is) (like_listed p t headed b m method)

    falls : Falls rows
    falls = subst Falls (sym is) (falling_falls (is_declared_like p t b m) (length p))

    itself_like : (f : ℕ) → SameMethods p t f m → SameMethods p t m m
    itself_like f s = record { first = s.second; second = s.second; signature = record { named = refl; types = s.signature.types; first = s.signature.second; second = s.signature.second } }

    pub serving_some : (f : ℕ) → IsLastOf (Serves p t c m) None rows (Some f) → IsFirstServing p t c m b (Some f)
    serving_some f h = ⊎_elim (λ k. absurd (none-some f (sym k.0))) (λ k. subst (λ g. ServesFirst p t c m b g) (sym (same_Some f k.0 k.1)) (first k.0 k.2 k.3 k.4)) (last_least (Serves p t c m) None rows (Some f) falls h)
      where
        first : (f : ℕ) → has rows f ≡ true → Serves p t c m f → ((g : ℕ) → has rows g ≡ true → Serves p t c m g → f ≤ g) → ServesFirst p t c m b f
        first f at serves least = let like = (listed f).0 at in record {
          declared = like.0;
          serves = serves;
          first = λ g declared also. ⊎_elim (λ same. least g ((listed g).1 (declared, subst (λ e. SameMethods p t e m) (sym same) (itself_like f like.1))) also) (λ s. least g ((listed g).1 (declared, s)) also)
              (served_like g also);
        }

    pub serving_none : (own : Bool) → Decides own (DeclaredIn p b m) → IsLastOf (Serves p t c m) None rows None → IsFirstServing p t c m b (cond own (Some m) None)
    serving_none own d h = ⊎_elim (λ k. by own d k.1) (λ k. absurd (none-some k.0 k.1)) (last_least (Serves p t c m) None rows None falls h)
      where
        by : (own : Bool) → Decides own (DeclaredIn p b m) → ((x : ℕ) → has rows x ≡ true → Serves p t c m x → ⊥) → IsFirstServing p t c m b (cond own (Some m) None)
        by true d none = record {
          declared = d.0 refl;
          serves = Serves.itself refl;
          first = λ g declared also. ⊎_elim (λ same. omega (arith, same)) (λ s. absurd (none g ((listed g).1 (declared, s)) also)) (served_like g also);
        }
        by false d none = λ g declared also. ⊎_elim (λ same. false≢true (d.1 (subst (λ e. DeclaredIn p b e) same declared))) (λ s. none g ((listed g).1 (declared, s)) also) (served_like g also)

-- ---- what serves

module _ (p : Rows) (t : Table) (headed : IsHeaded p) (c m f : ℕ) where
  of_interface_tells : Decides (is_of_interface_above p t c m) ((i : ℕ) × DeclaredIn p i m × (IsInterface p i × Above p t c i))
  of_interface_tells = found_tells (λ i. DeclaredIn p i m) (λ i. is_interface p i && is_above p t c i) (λ i. IsInterface p i × Above p t c i) (λ i. both (interface_tells p i) (above_tells p t headed c i)) (declaring_type p m) (declaring_finds p m)

  pub like_not_public : is_public p f ≡ false → Decides false (IsLikeOfInterface p t c f m)
  like_not_public e = (λ h. absurd (false≢true h), λ k. absurd (false≢true (sym e ∙ (public_tells p f).1 k.public)))

  pub like_not_above : is_of_interface_above p t c m ≡ false → Decides false (IsLikeOfInterface p t c f m)
  like_not_above e = (λ h. absurd (false≢true h), λ k. absurd (false≢true (sym e ∙ of_interface_tells.1 (k.interface, k.declared, (k.is_interface, k.above)))))

  pub like_by : (same : Bool) → is_public p f ≡ true → is_of_interface_above p t c m ≡ true → role_at p f ≡ role.Method → role_at p m ≡ role.Method → same ≡ is_same_signature p t f m
      → Decides same (IsLikeOfInterface p t c f m)
  like_by same e a first second s = let k = of_interface_tells.0 a in like (subst (λ b. Decides b (SameSignature p t f m)) (sym s) (signature_tells p t f m headed.tree))
      (λ h. record { interface = k.0; is_interface = k.2.0; above = k.2.1; declared = k.1; public = (public_tells p f).0 e; signatures = record { first = first; second = second; signature = h } }) (λ i. i.signatures.signature)

module _ (p : Rows) (t : Table) (c m f : ℕ) where
  pub implements_not : (is : Bool) → is ≡ false → Decides is (IsLikeOfInterface p t c f m) → Decides false (Implements p t c f m)
  implements_not is e d = (λ h. absurd (false≢true h), λ k. absurd (false≢true (sym e ∙ d.1 (record { interface = k.interface; is_interface = k.is_interface; above = k.above; declared = k.declared; public = k.public; signatures = k.signatures }))))

  pub implements_by : (is has : Bool) → is ≡ true → Decides is (IsLikeOfInterface p t c f m) → Decides has (MemberOf p t c f) → Decides has (Implements p t c f m)
  implements_by is has e d member = let k = d.0 e in like member
      (λ h. record { interface = k.interface; is_interface = k.is_interface; above = k.above; declared = k.declared; member = h; public = k.public; signatures = k.signatures }) (λ i. i.member)

  pub serves_itself : f ≡ m → Decides true (Serves p t c m f)
  serves_itself e = (λ h. Serves.itself e, λ h. refl)

  pub serves_overriding : (is : Bool) → is ≡ true → Decides is (Overrides p t f m) → Decides true (Serves p t c m f)
  serves_overriding is e d = (λ h. Serves.overriding (d.0 e), λ h. refl)

  pub serves_by : (is : Bool) (last : Bool) → (f ≡ m → ⊥) → is ≡ false → Decides is (Overrides p t f m) → Decides last (Implements p t c f m) → Decides last (Serves p t c m f)
  serves_by is last apart e d i = like i Serves.implementing back
    where
      back : Serves p t c m f → Implements p t c f m
      back (Serves.itself h) = absurd (apart h)
      back (Serves.overriding h) = absurd (false≢true (sym e ∙ d.1 h))
      back (Serves.implementing h) = h
