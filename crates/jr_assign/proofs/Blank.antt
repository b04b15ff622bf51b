-- Whether a blank final field is assigned where a member ends, and before each member of its class, has one answer.
use Rattle.std.proofs.Common.{◌≡◌, refl, sym, ◌∙◌, ap, ap₂, subst, ⊎_elim, arith, ℕ, zero, suc, ◌+◌, ◌-◌, ◌<◌, ◌≤◌, Bool, true, false, ◌&&◌, ◌||◌, if◌then◌else◌, List, [], ◌∷◌, ◌++◌, length, Option, Some, None}
use Rattle.std.proofs.lemmas.Bool.{false≢true, cases_eq, cases_lt}
use Rattle.jr_tree.specs.Rows.{Rows, label, end}
use Rattle.jr_tree.specs.Tree.{IsTree}
use Rattle.jr_plain.proofs.Children.{IsChild}
use Rattle.jr_assign.specs.Changes.{Facts, fact}
use Rattle.jr_assign.specs.Sets.{only, both_of}
use Rattle.jr_assign.specs.Assigned.{Seen, AreAssigned, has_last, has_parts, last_part, behind_part, behind_last, is_guarded, passes, passed, arrives, guarded_from, guarded_in}
use Rattle.jr_assign.specs.Blank.{is_part, is_return, ends_with, EndsSo, IsBefore, HaveParts, EachMakingIsOne}
use Rattle.jr_assign.proofs.Inside.{child_ends, last_tells, next_child}
use Rattle.jr_assign.proofs.Following.{each_member_once}

-- ---- where a member ends

module _ (v : ℕ) (p : Rows) (f : Facts) (tree : IsTree p) (lasts : (n : ℕ) → has_last p f n ≡ true) (root : ℕ) (there : root < length p) (a b : ℕ → Seen Bool)
    (same : (n : ℕ) → root ≤ n → n < end p root → a n ≡ b n) where
  last_once : (n : ℕ) → root ≤ n → n < end p root → behind_last f a n ≡ behind_last f b n
  last_once n low high = by (last_part f n) refl
    where
      by : (o : Option ℕ) → last_part f n ≡ o → behind_part f a o n ≡ behind_part f b o n
      by None e = ap (λ (x : Seen Bool). x.before) (same n low high)
      by (Some c) e = let last = last_tells p tree f lasts n c e in let after = last.child.0 in let inside = (child_ends p tree n c last.child).0 in
          ap (λ (x : Seen Bool). x.done) (same c (omega arith) (within c inside))
        where
          within : (c : ℕ) → c < end p n → c < end p root
          within c inside = ⊎_elim (λ at. subst (λ r. c < end p r) (sym at) inside) (λ apart. let ends = tree.apart root n (omega arith) high in omega arith) (cases_eq root n)

  passed_append : (t : ℕ → Seen Bool) (j : ℕ) (xs ys : List ℕ) (x : Bool) → passed (only v) p f (guarded_in p root) t j (xs ++ ys) x ≡ passed (only v) p f (guarded_in p root) t j ys (passed (only v) p f (guarded_in p root) t j xs x)
  passed_append t j [] ys x = refl
  passed_append t j (n ∷ xs) ys x = passed_append t j xs ys _

  pass_once : (j n : ℕ) (x y : Bool) (guarded through : Bool) → root ≤ n → n < end p root → x ≡ y → passed (only v) p f (guarded_in p root) a j (if guarded then n ∷ [] else []) x ≡ passed (only v) p f (guarded_in p root) b j (if guarded then n ∷ [] else []) y
  pass_once j n x y false through low high e = e
  pass_once j n x y true through low high e = by (passes p f j n)
    where
      by : (h : Bool) → (if h then x || behind_last f a n else x) ≡ (if h then y || behind_last f b n else y)
      by true = ap₂ (λ x y. x || y) e (last_once n low high)
      by false = e

  passed_once : (j k : ℕ) (x y : Bool) → root + k ≤ end p root → x ≡ y → passed (only v) p f (guarded_in p root) a j (guarded_from p root k) x ≡ passed (only v) p f (guarded_in p root) b j (guarded_from p root k) y
  passed_once j zero x y le e = e
  passed_once j (suc k) x y le e = passed_append a j (guarded_from p root k) _ x
      ∙ pass_once j (root + k) _ _ (is_guarded (label p (root + k))) true (omega arith) (omega arith) (passed_once j k x y (omega arith) e)
      ∙ sym (passed_append b j (guarded_from p root k) _ y)

  arrives_once : (n : ℕ) → root ≤ n → n < end p root → arrives (only v) p f (guarded_in p root) a n ≡ arrives (only v) p f (guarded_in p root) b n
  arrives_once n low high = passed_once n (end p root - root) _ _ (omega arith) (last_once n low high)

  -- at each return of the first k rows
  abbrev met : (ℕ → Seen Bool) → ℕ → Bool
  met t k = both_of (only v) (λ i. is_return (fact f (root + i)).way) (λ i. arrives (only v) p f (guarded_in p root) t (root + i)) k

  met_if : (k : ℕ) (h : Bool) → root ≤ root + k → root + k < end p root → met a k ≡ met b k → (if h then met a k && arrives (only v) p f (guarded_in p root) a (root + k) else met a k)
      ≡ (if h then met b k && arrives (only v) p f (guarded_in p root) b (root + k) else met b k)
  met_if k true low high more = ap₂ (λ x y. x && y) more (arrives_once (root + k) low high)
  met_if k false low high more = more

  returns_once : (k : ℕ) → root + k ≤ end p root → met a k ≡ met b k
  returns_once zero le = refl
  returns_once (suc k) le = met_if k (is_return (fact f (root + k)).way) (omega arith) (omega arith) (returns_once k (omega arith))

  pub ends_same : ends_with v p f root a ≡ ends_with v p f root b
  ends_same = let up = tree.nested root in ap₂ (λ x y. x && y) (ap (λ (x : Seen Bool). x.done) (same root (omega arith) up)) (returns_once (end p root - root) (omega arith))

module _ (v : ℕ) (p : Rows) (f : Facts) (tree : IsTree p) (lasts : (n : ℕ) → has_last p f n ≡ true) where
  abbrev HasAllParts : ℕ → Type 0
  HasAllParts root = (n : ℕ) → root ≤ n → n < end p root → has_parts p f n ≡ true

  pub ends_once : (root : ℕ) → root < length p → HasAllParts root → (start more x y : Bool) → start ≡ more → EndsSo v p f root start x → EndsSo v p f root more y → x ≡ y
  ends_once root there parts start more x y e h k = sym h.is
      ∙ ends_same v p f tree lasts root there h.table k.table (each_member_once v p f root more tree there lasts parts h.table k.table (subst (λ start. AreAssigned (only v) p f root start h.table) e h.assigned) k.assigned)
      ∙ k.is

  -- ---- the parts of a body

  module _ (body : ℕ) (is_static : Bool) (parts : HaveParts p f body) where
    low : {k : ℕ} {b : Bool} → IsBefore v p f body is_static k b → body < k
    low IsBefore.begins = omega arith
    low (IsBefore.behind {k = k} h up is ends) = let less = low h in let nested = tree.nested k in omega arith
    low (IsBefore.passes {k = k} h up is) = let less = low h in let nested = tree.nested k in omega arith

    ends_apart : (k m : ℕ) → IsChild p body k → IsChild p body m → end p k ≡ end p m → k ≡ m
    ends_apart k m one other e = ⊎_elim (λ same. same) (λ apart. ⊎_elim
        (λ lt. let next = next_child p tree body k m one lt other in let nested = tree.nested m in absurd (omega arith))
        (λ le. let next = next_child p tree body m k other (omega arith) one in let nested = tree.nested k in absurd (omega arith))
        (cases_lt k m)) (cases_eq k m)

    pub before_once : {k m : ℕ} {x y : Bool} → IsBefore v p f body is_static k x → IsBefore v p f body is_static m y → k ≡ m → x ≡ y
    before_once IsBefore.begins IsBefore.begins e = refl
    before_once IsBefore.begins (IsBefore.behind {k = m} h up is ends) e = let less = low h in let nested = tree.nested m in absurd (omega arith)
    before_once IsBefore.begins (IsBefore.passes {k = m} h up is) e = let less = low h in let nested = tree.nested m in absurd (omega arith)
    before_once (IsBefore.behind {k = k} h up is ends) IsBefore.begins e = let less = low h in let nested = tree.nested k in absurd (omega arith)
    before_once (IsBefore.passes {k = k} h up is) IsBefore.begins e = let less = low h in let nested = tree.nested k in absurd (omega arith)
    before_once (IsBefore.behind {k = k} {start = s} {out = x} h up is ends) (IsBefore.behind {k = m} {start = r} {out = y} g up2 is2 ends2) e =
        let at = ends_apart k m (low h, up) (low g, up2) e in let fits = parts k up (low h) in
        ends_once k fits.0 fits.1 s r x y (before_once h g at) ends (subst (λ j. EndsSo v p f j r y) (sym at) ends2)
    before_once (IsBefore.passes {k = k} h up is) (IsBefore.passes {k = m} g up2 is2) e = before_once h g (ends_apart k m (low h, up) (low g, up2) e)
    before_once (IsBefore.behind {k = k} h up is ends) (IsBefore.passes {k = m} g up2 is2) e =
        let at = ends_apart k m (low h, up) (low g, up2) e in absurd (false≢true (sym is2 ∙ sym (ap (λ j. is_part (label p j) is_static) at) ∙ is))
    before_once (IsBefore.passes {k = k} h up is) (IsBefore.behind {k = m} g up2 is2 ends) e =
        let at = ends_apart k m (low h, up) (low g, up2) e in absurd (false≢true (sym is ∙ ap (λ j. is_part (label p j) is_static) at ∙ is2))

pub each_making : EachMakingIsOne
each_making v p f body is_static tree lasts parts k x y h g = before_once v p f tree lasts body is_static parts h g refl
