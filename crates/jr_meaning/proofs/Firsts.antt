-- First copies of old rows, and which one a row sees.
use Rattle.std.proofs.Common.{◌≡◌, refl, sym, ◌∙◌, ap, ⊎_elim, arith, ℕ, zero, suc, ◌+◌, ◌-◌, ◌<◌, ◌≤◌, Bool, true, ◌&&◌, if◌then◌else◌, List, [], ◌∷◌, length, Option, Some, None, Decides, nat_eq}
use Rattle.std.proofs.lemmas.Bool.{cases_lt, eq-eqb, ne_eqb}
use Rattle.std.proofs.lemmas.Bool.Decides.{Decides-eqb}
use Rattle.std.proofs.lemmas.List.{get_or_past}
use Rattle.std.proofs.lemmas.List.FromFn.{get_or-map-range_with_len}
use Rattle.jr_tree.specs.Rows.{Rows, end}
use Rattle.jr_plain.specs.Search.{first_below}
use Rattle.jr_plain.proofs.Tests.{itself, both}
use Rattle.jr_plain.proofs.Searches.{finds_first}
use Rattle.jr_flow_laws.specs.Shifted.{IsIn}
use Rattle.jr_change.specs.declared.change.Change.{Change}
use Rattle.jr_change.specs.declared.change.RowRange.{RowRange}
use Rattle.jr_locks.specs.Origins.{no_row, origin_of}
use Rattle.jr_locks.specs.Locked.{IsFirstCopyOf, IsGone, IsSeenFrom, every, is_beside}
use Rattle.jr_locks.specs.Changed.{origins_by, first_copy, copies_by}
use Rattle.jr_locks.proofs.Standing.{each_origin}
use Rattle.jr_copied_flow.specs.Alone.{copy_in, IsLeftAlone}

-- a copy of an old row is a row
is_row : (origin : List ℕ) (c d : ℕ) → origin_of origin c ≡ d → d < no_row → c < length origin
is_row origin c d is real = ⊎_elim (λ lt. lt) (λ past. let e = sym is ∙ get_or_past origin c no_row past in absurd (omega (arith, e, real))) (cases_lt c (length origin))

-- ---- the copy that is seen

-- the row is one of some, and a copy of the old row d
abbrev such : (ℕ → Bool) → List ℕ → ℕ → ℕ → Bool
such among origin d c = among c && nat_eq (origin_of origin c) d

abbrev first_among : (ℕ → Bool) → List ℕ → ℕ → Option ℕ
first_among among origin d = first_below (length origin) (such among origin d)

abbrev either_row : Option ℕ → Option ℕ → ℕ
either_row (Some c) other = c
either_row None (Some c) = c
either_row None None = 0

-- the copy of the old row d that the row n sees
abbrev pub seen_from : Option RowRange → List ℕ → ℕ → ℕ → ℕ
seen_from inner origin n d = either_row (first_among (is_beside inner n) origin d) (first_among every origin d)

module _ (among : ℕ → Bool) (origin : List ℕ) (d : ℕ) where
  abbrev IsSuch : ℕ → Type 0
  IsSuch c = (among c ≡ true) × (origin_of origin c ≡ d)

  tells : (c : ℕ) → Decides (such among origin d c) (IsSuch c)
  tells c = both (itself (among c)) (Decides-eqb (origin_of origin c) d)

  first_is_found : (c : ℕ) → d < no_row → IsFirstCopyOf among origin c d → first_among among origin d ≡ Some c
  first_is_found c real f = (finds_first (such among origin d) IsSuch tells (length origin) c).1
      (is_row origin c d f.copy real, (f.one, f.copy), λ j s. ⊎_elim (λ less. absurd (f.first j less s.0 s.1)) (λ le. le) (cases_lt j c))

  -- what is gone is not found
  gone_is_none : (old c : ℕ) → d < old → IsGone among origin old d → first_among among origin d ≡ Some c → ⊥
  gone_is_none old c few g e = let f = (finds_first (such among origin d) IsSuch tells (length origin) c).0 e in g.no c few f.0 f.1.0 f.1.1

pub sees_first : (inner : Option RowRange) (origin : List ℕ) (old n d c : ℕ) → old ≤ no_row → d < old → IsSeenFrom inner origin old n d c → seen_from inner origin n d ≡ c
sees_first inner origin old n d c fits few (IsSeenFrom.beside f) =
    ap (λ o. either_row o (first_among every origin d)) (first_is_found (is_beside inner n) origin d c (omega (arith, few, fits)) f)
sees_first inner origin old n d c fits few (IsSeenFrom.beyond g f) =
    ap (either_row (first_among (is_beside inner n) origin d)) (first_is_found every origin d c (omega (arith, few, fits)) f)
    ∙ by_near (first_among (is_beside inner n) origin d) refl
  where
    by_near : (o : Option ℕ) → first_among (is_beside inner n) origin d ≡ o → either_row o (Some c) ≡ c
    by_near None e = refl
    by_near (Some k) e = absurd (gone_is_none (is_beside inner n) origin d old k few g e)

-- ---- the first copy

first_is : (xs : List ℕ) (d at c : ℕ) → c < length xs → origin_of xs c ≡ d → ((e : ℕ) → e < c → origin_of xs e ≡ d → ⊥) → first_copy xs d at ≡ at + c
first_is [] d at c lt is first = absurd (omega (arith, lt))
first_is (x ∷ xs) d at zero lt is first = ap (λ b. if b then at else first_copy xs d (at + 1)) (eq-eqb x d is) ∙ omega arith
first_is (x ∷ xs) d at (suc c) lt is first = ap (λ b. if b then at else first_copy xs d (at + 1)) (ne_eqb x d (first zero (omega arith)))
    ∙ first_is xs d (at + 1) c (omega (arith, lt)) is (λ e less same. first (suc e) (omega (arith, less)) same) ∙ omega arith

module _ (p : Rows) (change : Change) (body at : ℕ) (fits : end p body ≤ no_row) (alone : IsLeftAlone p change body at) where
  pub from_copy : (n : ℕ) → IsIn p body n → origin_of (origins_by change) (copy_in body at n) ≡ n
  from_copy n i = let f = i.from in let t = i.to in let back : body + (n - body) ≡ n = omega (arith, f) in
      each_origin p change body at alone.one (n - body) (omega (arith, f, t)) ∙ back

  -- the copy of a row of the body is a row
  pub copy_is_row : (n : ℕ) → IsIn p body n → copy_in body at n < length (origins_by change)
  copy_is_row n i = let t = i.to in is_row (origins_by change) (copy_in body at n) n (from_copy n i) (omega (arith, t, fits))

  -- a row of the body has its copy in that of the body
  pub copy_is : (n : ℕ) → IsIn p body n → n < length p → origin_of (copies_by (origins_by change) (length p)) n ≡ copy_in body at n
  copy_is n i few =
      let zeroth : 0 + copy_in body at n ≡ copy_in body at n = omega arith in
      get_or-map-range_with_len (λ d. first_copy (origins_by change) d 0) 0 (length p) n n no_row few (omega arith)
      ∙ (first_is (origins_by change) n 0 (copy_in body at n) (copy_is_row n i) (from_copy n i)
      (λ e less same. let one = alone.once n e i same in absurd (omega (arith, one, less))) ∙ zeroth)
