-- What stands round rows, by a list.
use Rattle.std.proofs.Common.{◌≡◌, refl, sym, ◌∙◌, ap, ap₂, add-one, ⊎_elim, arith, ℕ, zero, suc, ◌+◌, ◌-◌, ◌<◌, ◌≤◌, Bool, true, false, if◌then◌else◌, List, [], ◌∷◌, ◌++◌, length, Some, nat_le}
use Rattle.std.proofs.lemmas.Bool.{cases_lt, leb-false, le-leb}
use Rattle.std.proofs.lemmas.List.{get_or_past, get_or_append_left, get_or-append_right, length-append}
use Rattle.std.proofs.lemmas.Option.{none-some}
use Rattle.jr_tree.specs.declared.label.Label.{Label}
use Rattle.jr_tree.specs.Rows.{Rows, label, parent}
use Rattle.jr_locks.specs.Origins.{no_row, origin_of}
use Rattle.jr_flow_defs.specs.Acts.{around}
use Rattle.jr_meaning.specs.Whole.{is_target, near_by, nears}

pub near_more : (p : Rows) (b : Bool) (n : ℕ) (all known more : List ℕ) (x : ℕ) → all ≡ nears p b n → known ≡ all → x ≡ near_by p b known n → more ≡ all ++ x ∷ [] → more ≡ nears p b (n + 1)
near_more p b n all known more x h same is pushed = rw add-one (pushed ∙ ap₂ (λ xs y. xs ++ y ∷ []) h (is ∙ ap (λ xs. near_by p b xs n) (same ∙ h)))

-- with more room the same is found
more_room : (p : Rows) (test : Label → Bool) (room other n x : ℕ) → room ≤ other → around p test room n ≡ Some x → around p test other n ≡ Some x
more_room p test zero other n x h e = absurd (none-some x e)
more_room p test (suc room) zero n x h e = absurd (omega (arith, h))
more_room p test (suc room) (suc other) n x h e = by_test (test (label p (parent p n))) e (λ f. more_room p test room other (parent p n) x (omega (arith, h)) f) where
  by_test : (b : Bool) → (if b then Some (parent p n) else around p test room (parent p n)) ≡ Some x → (around p test room (parent p n) ≡ Some x → around p test other (parent p n) ≡ Some x)
      → (if b then Some (parent p n) else around p test other (parent p n)) ≡ Some x
  by_test true e rest = e
  by_test false e rest = rest e

module _ (p : Rows) (b : Bool) where
  -- what the list has for a row stands round it
  abbrev pub Tells : List ℕ → Type 0
  Tells near = (n x : ℕ) → origin_of near n ≡ x → (x ≡ no_row → ⊥) → around p (is_target b) n n ≡ Some x

  near_tells : (near : List ℕ) (n x : ℕ) → Tells near → near_by p b near n ≡ x → (x ≡ no_row → ⊥) → around p (is_target b) n n ≡ Some x
  near_tells near zero x h e real = absurd (real (sym e ∙ ap (λ t. if t then no_row else if is_target b (label p (parent p 0)) then parent p 0 else origin_of near (parent p 0)) (le-leb 0 (parent p 0) (omega arith))))
  near_tells near (suc n) x h e real = by_order (nat_le (suc n) (parent p (suc n))) refl e where
    by_label : (t : Bool) → parent p (suc n) < suc n → (if t then parent p (suc n) else origin_of near (parent p (suc n))) ≡ x
        → (if t then Some (parent p (suc n)) else around p (is_target b) n (parent p (suc n))) ≡ Some x
    by_label true low e = ap Some e
    by_label false low e = more_room p (is_target b) (parent p (suc n)) n (parent p (suc n)) x (omega (arith, low)) (h (parent p (suc n)) x e real)

    by_order : (t : Bool) → nat_le (suc n) (parent p (suc n)) ≡ t
        → (if t then no_row else if is_target b (label p (parent p (suc n))) then parent p (suc n) else origin_of near (parent p (suc n))) ≡ x → around p (is_target b) (suc n) (suc n) ≡ Some x
    by_order true f e = absurd (real (sym e))
    by_order false f e = by_label (is_target b (label p (parent p (suc n)))) (leb-false (suc n) (parent p (suc n)) f) e

  nears_length : (count : ℕ) → length (nears p b count) ≡ count
  nears_length zero = refl
  nears_length (suc n) = length-append (nears p b n) (near_by p b (nears p b n) n ∷ []) ∙ (ap (λ k. k + 1) (nears_length n) ∙ add-one n)

  tells_more : (count : ℕ) → Tells (nears p b count) → Tells (nears p b (suc count))
  tells_more count known n x e real = ⊎_elim
      (λ less. let long = nears_length count in known n x (sym (get_or_append_left (nears p b count) (near_by p b (nears p b count) count ∷ []) no_row n (omega (arith, less, long))) ∙ e) real)
      (λ past. at_end past)
      (cases_lt n count)
    where
      behind : (k : ℕ) → origin_of (near_by p b (nears p b count) count ∷ []) k ≡ x → k + count ≡ n → around p (is_target b) n n ≡ Some x
      behind zero f same = let at : count ≡ n = omega (arith, same) in near_tells (nears p b count) n x known (ap (λ z. near_by p b (nears p b count) z) (sym at) ∙ f) real
      behind (suc k) f same = absurd (real (sym f ∙ get_or_past (near_by p b (nears p b count) count ∷ []) (suc k) no_row (omega arith)))

      at_end : count ≤ n → around p (is_target b) n n ≡ Some x
      at_end past = behind (n - count) (sym (get_or-append_right (nears p b count) (near_by p b (nears p b count) count ∷ []) count n no_row (nears_length count) past) ∙ e) (omega (arith, past))

  pub nears_tell : (count : ℕ) → Tells (nears p b count)
  nears_tell zero n x e real = absurd (real (sym e ∙ get_or_past [] n no_row (omega arith)))
  nears_tell (suc count) n x e real = tells_more count (nears_tell count) n x e real
