-- What a row refers to, and what its copy does.
use Rattle.std.proofs.Common.{◌≡◌, ◌⊎◌, refl, sym, ◌∙◌, ap, subst, inl, inr, ⊎_elim, ℕ, ◌+◌, ◌<◌, Bool, true, false, not, ◌&&◌, if◌then◌else◌, List, Option, Some, None, nat_eq, nat_le, nat_lt}
use Rattle.std.proofs.lemmas.Bool.Decides.{Decides-ltb}
use Rattle.jr_tree.specs.Rows.{Rows, end}
use Rattle.jr_defs.specs.declared.referent.Referent.{Referent}
use Rattle.jr_defs.specs.declared.referent.Referent.TheVariants.{Unbound, Ambiguous, ArrayLength, Package, Declared}
use Rattle.jr_plain.proofs.Tests.{both, decide}
use Rattle.jr_plain.proofs.Enclosed.{most}
use Rattle.jr_flow_defs.specs.Meaning.{declared}
use Rattle.jr_flow_laws.specs.Shifted.{IsIn, moved_row, IsMovedReferent}
use Rattle.jr_change.specs.declared.change.Raised.{Raised}
use Rattle.jr_change.specs.declared.change.RowRange.{RowRange}
use Rattle.jr_locks.specs.Locked.{IsFirstCopyOf, IsGone, is_within, is_in, IsSeenFrom, IsLockOf, raised_level, raised_to}

-- ---- rows of a body

pub in_or_not : (p : Rows) (body d : ℕ) → IsIn p body d ⊎ (IsIn p body d → ⊥)
in_or_not p body d = ⊎_elim (λ h. inl (record { from = h.0; to = h.1 })) (λ h. inr (λ i. h (i.from, i.to))) (decide (both (most body d) (Decides-ltb d (end p body))))

module _ (p : Rows) (body s : ℕ) (outside : ℕ → ℕ) where
  pub row_inside : (d : ℕ) → IsIn p body d → moved_row p body s outside d ≡ d + s
  row_inside d i = ap (λ t. if t then d + s else outside d) ((both (most body d) (Decides-ltb d (end p body))).1 (i.from, i.to))

  pub row_outside : (d : ℕ) → (IsIn p body d → ⊥) → moved_row p body s outside d ≡ outside d
  row_outside d none = ap (λ t. if t then d + s else outside d) (false_from (nat_le body d && nat_lt d (end p body)) (λ h. none (in_from h))) where
    in_from : (nat_le body d && nat_lt d (end p body)) ≡ true → IsIn p body d
    in_from h = let parts = (both (most body d) (Decides-ltb d (end p body))).0 h in record { from = parts.0; to = parts.1 }

    false_from : (b : Bool) → (b ≡ true → ⊥) → b ≡ false
    false_from true h = absurd (h refl)
    false_from false h = refl

-- ---- referents

module _ (inner : Option RowRange) (origin : List ℕ) (old at : ℕ) where
  -- the old row d, one of so many, is seen as the row c
  pub record Sees (d c : ℕ) : Type 0 where
    pub stood : d < old
    pub seen : IsSeenFrom inner origin old at d c

  pub record IsSeenAs (d : ℕ) (b : Referent) : Type 0 where
    pub row : ℕ
    pub over : Option ℕ
    pub is : b ≡ Declared row over
    pub sees : Sees d row

  -- what a row refers to, and what its copy does
  abbrev pub GoesTo : Referent → Referent → Type 0
  GoesTo Unbound b = b ≡ Unbound
  GoesTo Ambiguous b = b ≡ Ambiguous
  GoesTo ArrayLength b = b ≡ ArrayLength
  GoesTo Package b = b ≡ Package
  GoesTo (Declared d level) b = IsSeenAs d b

  -- what is seen from a row on the same side
  beside_same : (n d c : ℕ) → is_in inner n ≡ is_in inner at → IsSeenFrom inner origin old n d c → IsSeenFrom inner origin old at d c
  beside_same n d c e (IsSeenFrom.beside f) = IsSeenFrom.beside (subst (λ b. IsFirstCopyOf (λ k. if b then is_in inner k else not (is_in inner k)) origin c d) e f)
  beside_same n d c e (IsSeenFrom.beyond g f) = IsSeenFrom.beyond (subst (λ b. IsGone (λ k. if b then is_in inner k else not (is_in inner k)) origin old d) e g) f

  of_lock : (n : ℕ) → is_in inner n ≡ is_in inner at → (a b : Referent) → IsLockOf inner origin old n a b
      → ((d : ℕ) → declared a ≡ Some d → d < old) → ((d : ℕ) → declared a ≡ Some d → b ≡ Unbound → ⊥) → GoesTo a b
  of_lock n e _ _ IsLockOf.unbound known bound = refl
  of_lock n e _ _ IsLockOf.ambiguous known bound = refl
  of_lock n e _ _ IsLockOf.array_length known bound = refl
  of_lock n e _ _ IsLockOf.a_package known bound = refl
  of_lock n e _ _ (IsLockOf.copied {c} {d} {level} {over} s l) known bound = record { row = c; over = over; is = refl; sees = record { stood = known d refl; seen = beside_same n d c e s } }
  of_lock n e _ _ (IsLockOf.gone {d} {level} g) known bound = absurd (bound d refl refl)
  of_lock n e _ _ (IsLockOf.gone_over {d} {s} g) known bound = absurd (bound d refl refl)

  -- ---- the level is no matter

  declared_raised : (r : Raised) (a : Referent) → declared (raised_level r a) ≡ declared a
  declared_raised r (Declared d (Some s)) = by_test (nat_eq s r.from) where
    by_test : (b : Bool) → declared (if b then Declared d (Some r.to) else Declared d (Some s)) ≡ Some d
    by_test true = refl
    by_test false = refl
  declared_raised r (Declared d None) = refl
  declared_raised r Unbound = refl
  declared_raised r Ambiguous = refl
  declared_raised r ArrayLength = refl
  declared_raised r Package = refl

  declared_same : (r : Option Raised) (n : ℕ) (a : Referent) → declared (raised_to r n a) ≡ declared a
  declared_same None n a = refl
  declared_same (Some r) n a = by_test (is_within r.method n) where
    by_test : (b : Bool) → declared (if b then raised_level r a else a) ≡ declared a
    by_test true = declared_raised r a
    by_test false = refl

  goes_raised : (r : Raised) (a b : Referent) → GoesTo (raised_level r a) b → GoesTo a b
  goes_raised r (Declared d (Some s)) b g = by_test (nat_eq s r.from) g where
    by_test : (t : Bool) → GoesTo (if t then Declared d (Some r.to) else Declared d (Some s)) b → IsSeenAs d b
    by_test true g = g
    by_test false g = g
  goes_raised r (Declared d None) b g = g
  goes_raised r Unbound b g = g
  goes_raised r Ambiguous b g = g
  goes_raised r ArrayLength b g = g
  goes_raised r Package b g = g

  goes_same : (r : Option Raised) (n : ℕ) (a b : Referent) → GoesTo (raised_to r n a) b → GoesTo a b
  goes_same None n a b g = g
  goes_same (Some r) n a b g = by_test (is_within r.method n) g where
    by_test : (t : Bool) → GoesTo (if t then raised_level r a else a) b → GoesTo a b
    by_test true g = goes_raised r a b g
    by_test false g = g

  pub goes_by_lock : (r : Option Raised) (from n : ℕ) → is_in inner n ≡ is_in inner at → (a b : Referent) → IsLockOf inner origin old n (raised_to r from a) b
      → ((d : ℕ) → declared a ≡ Some d → d < old) → ((d : ℕ) → declared a ≡ Some d → b ≡ Unbound → ⊥) → GoesTo a b
  goes_by_lock r from n e a b l known bound = goes_same r from a b (of_lock n e (raised_to r from a) b l
      (λ d h. known d (sym (declared_same r from a) ∙ h)) (λ d h. bound d (sym (declared_same r from a) ∙ h)))

  -- ---- there and back

  pub moved_there : (f : ℕ → ℕ) (a b : Referent) → GoesTo a b → ((d c : ℕ) → Sees d c → f d ≡ c) → IsMovedReferent f a b
  moved_there f Unbound b g h = subst (λ z. IsMovedReferent f Unbound z) (sym g) IsMovedReferent.unbound
  moved_there f Ambiguous b g h = subst (λ z. IsMovedReferent f Ambiguous z) (sym g) IsMovedReferent.ambiguous
  moved_there f ArrayLength b g h = subst (λ z. IsMovedReferent f ArrayLength z) (sym g) IsMovedReferent.array_length
  moved_there f Package b g h = subst (λ z. IsMovedReferent f Package z) (sym g) IsMovedReferent.a_package
  moved_there f (Declared d level) b g h = subst (λ z. IsMovedReferent f (Declared d level) z) (ap (λ z. Declared z g.over) (h d g.row g.sees) ∙ sym g.is) IsMovedReferent.declared

  pub moved_back : (f : ℕ → ℕ) (a b : Referent) → GoesTo a b → ((d c : ℕ) → Sees d c → f c ≡ d) → IsMovedReferent f b a
  moved_back f Unbound b g h = subst (λ z. IsMovedReferent f z Unbound) (sym g) IsMovedReferent.unbound
  moved_back f Ambiguous b g h = subst (λ z. IsMovedReferent f z Ambiguous) (sym g) IsMovedReferent.ambiguous
  moved_back f ArrayLength b g h = subst (λ z. IsMovedReferent f z ArrayLength) (sym g) IsMovedReferent.array_length
  moved_back f Package b g h = subst (λ z. IsMovedReferent f z Package) (sym g) IsMovedReferent.a_package
  moved_back f (Declared d level) b g h = subst (λ z. IsMovedReferent f z (Declared d level)) (sym g.is)
      (subst (λ z. IsMovedReferent f (Declared g.row g.over) (Declared z level)) (h d g.row g.sees) IsMovedReferent.declared)
