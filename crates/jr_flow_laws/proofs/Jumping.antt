-- A jump has the same target in the copy.
use Rattle.std.proofs.Common.{◌≡◌, refl, sym, ◌∙◌, ap, subst, ⊎_elim, arith, ℕ, zero, suc, ◌+◌, ◌<◌, ◌≤◌, Bool, true, false, if◌then◌else◌, Option, Some, None}
use Rattle.std.proofs.lemmas.Bool.{false≢true}
use Rattle.std.proofs.lemmas.Option.{none-some, same_Some}
use Rattle.jr_tree.specs.declared.label.Label.{Label}
use Rattle.jr_tree.specs.declared.label.Label.TheVariants as is
use Rattle.jr_tree.specs.Rows.{Rows, label, parent}
use Rattle.jr_defs.specs.declared.referent.Referent.{Referent}
use Rattle.jr_flow_defs.specs.Meaning.{Meaning, declared}
use Rattle.jr_flow_defs.specs.Acts.{is_loop, is_loop_or_switch, around, break_target, labeled_loop, continue_target, breaks, continues}
use Rattle.jr_flow_laws.specs.Shifted.{moved_completion, IsIn, declares_code, IsWholeBody, moved_row, IsMovedReferent, AreShiftedRows}
use Rattle.jr_flow_laws.proofs.Moving.{at_or_below}
use Rattle.jr_flow_laws.proofs.Standing.{stands_below, parent_in, parent_less, label_over, next_over}
use Rattle.jr_flow_laws.proofs.Meant.{moved_inside, declared_over, parent_label_over}

pub code_is_no_loop : (l : Label) → declares_code l ≡ true → is_loop l ≡ false
code_is_no_loop is.While e = absurd (false≢true e)
code_is_no_loop is.Do e = absurd (false≢true e)
code_is_no_loop (is.For f c) e = absurd (false≢true e)
code_is_no_loop _ e = refl

pub code_is_no_target : (l : Label) → declares_code l ≡ true → is_loop_or_switch l ≡ false
code_is_no_target is.Switch e = absurd (false≢true e)
code_is_no_target is.While e = absurd (false≢true e)
code_is_no_target is.Do e = absurd (false≢true e)
code_is_no_target (is.For f c) e = absurd (false≢true e)
code_is_no_target _ e = refl

module _ (p : Rows) (m : Meaning) (body : ℕ) (whole : IsWholeBody p m body) (test : Label → Bool) (none : test (label p body) ≡ false) where
  parent_low : (n : ℕ) → n ≤ body → parent p n ≤ n
  parent_low zero h = let r = whole.tree.root in omega (arith, r)
  parent_low (suc n) h = let f = whole.few in let u = whole.tree.up (suc n) (omega (arith, f, h)) (omega arith) in omega (arith, u)

  -- what is found from the body's declaration on stands before it
  pub outside_of : (room n x : ℕ) → n ≤ body → around p test room n ≡ Some x → x < body
  outside_of zero n x low e = absurd (none-some x e)
  outside_of (suc room) n x low e = by_test (test (label p (parent p n))) refl e (λ f. let l = parent_low n low in outside_of room (parent p n) x (omega (arith, l, low)) f) where
    by_test : (b : Bool) → test (label p (parent p n)) ≡ b → (if b then Some (parent p n) else around p test room (parent p n)) ≡ Some x → (around p test room (parent p n) ≡ Some x → x < body) → x < body
    by_test true t e rest = let same = same_Some (parent p n) x e in let l = parent_low n low in
        ⊎_elim (λ less. less) (λ at. absurd (false≢true (sym none ∙ (ap (λ k. test (label p k)) (sym at ∙ sym same) ∙ t)))) (at_or_below x body (omega (arith, same, l, low)))
    by_test false t e rest = rest e

module _ (p q : Rows) (m w : Meaning) (body s : ℕ) (outside : ℕ → ℕ) (whole : IsWholeBody p m body) (rows : AreShiftedRows p q m w body s outside) where
  abbrev In : ℕ → Type 0
  In = IsIn p body

  module _ (test : Label → Bool) (none : test (label p body) ≡ false) where
    found_next : (b c : Bool) (k l x : ℕ) (o r : Option ℕ) → c ≡ b → l ≡ k + s → (if b then Some k else o) ≡ Some x → (o ≡ Some x → r ≡ Some (x + s)) → (if c then Some l else r) ≡ Some (x + s)
    found_next true true k l x o r e f h rest = ap Some (f ∙ ap (λ z. z + s) (same_Some k x h))
    found_next false false k l x o r e f h rest = rest h
    found_next true false k l x o r e f h rest = absurd (false≢true e)
    found_next false true k l x o r e f h rest = absurd (false≢true (sym e))

    around_over : (room other n l x : ℕ) → In n → body < n → In x → l ≡ n + s → n ≤ other + body → around p test room n ≡ Some x → around q test other l ≡ Some (x + s)
    around_over zero other n l x i less j same fuel e = absurd (none-some x e)
    around_over (suc room) zero n l x i less j same fuel e = absurd (omega (arith, less, fuel))
    around_over (suc room) (suc other) n l x i less j same fuel e = subst (λ z. around q test (suc other) z ≡ Some (x + s)) (sym same)
        (found_next (test (label p (parent p n))) (test (label q (parent q (n + s)))) (parent p n) (parent q (n + s)) x (around p test room (parent p n)) (around q test other (parent q (n + s)))
        (ap test (parent_label_over p q m w body s outside whole rows n i less)) (rows.parents n i less) e
        (λ f. ⊎_elim (λ below. let u = parent_less p m body whole n i less in around_over room other (parent p n) (parent q (n + s)) x (parent_in p m body whole n i less) below j (rows.parents n i less) (omega (arith, u, fuel)) f)
        (λ at. let before = outside_of p m body whole test none room (parent p n) x (omega (arith, at)) f in let from = j.from in absurd (omega (arith, before, from)))
        (at_or_below body (parent p n) (parent_in p m body whole n i less).from)))

  -- ---- `break`

  break_over : (n : ℕ) (has_label : Bool) → In n → label p n ≡ is.Break has_label → (x : ℕ) → In x → break_target p m n has_label ≡ Some x → break_target q w (n + s) has_label ≡ Some (x + s)
  break_over n true i e x j h = declared_over p q m w body s outside whole rows (m.targets n) (w.targets (n + s)) x (rows.referents n i) h j
  break_over n false i e x j h = around_over is_loop_or_switch (code_is_no_target (label p body) whole.declares) n (n + s) n (n + s) x i (stands_below p m body whole n i (ap declares_code e)) j refl (omega arith) h

  pub breaks_over : (n : ℕ) (has_label : Bool) → In n → label p n ≡ is.Break has_label → breaks (break_target q w (n + s) has_label) ≡ moved_completion s (breaks (break_target p m n has_label))
  breaks_over n has_label i e = let t = whole.breaks n has_label i e in
      ap breaks (break_over n has_label i e t.row t.inside t.is_target) ∙ ap (λ o. moved_completion s (breaks o)) (sym t.is_target)

  -- ---- `continue`

  labeled_at : (d x : ℕ) → In x → labeled_loop p (Some d) ≡ Some x → labeled_loop q (Some (moved_row p body s outside d)) ≡ Some (x + s)
  labeled_at d x i e = by_test (is_loop (label p (d + 1))) refl e where
    no_loop : is_loop (label p body) ≡ false
    no_loop = code_is_no_loop (label p body) whole.declares

    by_test : (b : Bool) → is_loop (label p (d + 1)) ≡ b → (if b then Some (d + 1) else None) ≡ Some x → labeled_loop q (Some (moved_row p body s outside d)) ≡ Some (x + s)
    by_test true t e =
        let same = same_Some (d + 1) x e in
        let j : In (d + 1) = subst In (sym same) i in
        let less : body < d + 1 = ⊎_elim (λ less. less) (λ at. absurd (false≢true (sym no_loop ∙ (ap (λ k. is_loop (label p k)) at ∙ t)))) (at_or_below body (d + 1) j.from) in
        let to = j.to in
        let k : In d = record { from = omega (arith, less); to = omega (arith, to) } in
        ap (λ z. labeled_loop q (Some z)) (moved_inside p q m w body s outside whole rows d k)
        ∙ (ap (λ t. if t then Some (d + s + 1) else None) (ap is_loop (label_over p q m w body s outside whole rows (d + 1) (d + s + 1) j (next_over p q m w body s outside whole rows d)) ∙ t)
        ∙ ap Some (next_over p q m w body s outside whole rows d ∙ ap (λ z. z + s) same))
    by_test false t e = absurd (none-some x e)

  labeled_over : (a b : Referent) (x : ℕ) → IsMovedReferent (moved_row p body s outside) a b → In x → labeled_loop p (declared a) ≡ Some x → labeled_loop q (declared b) ≡ Some (x + s)
  labeled_over _ _ x IsMovedReferent.unbound i e = absurd (none-some x e)
  labeled_over _ _ x IsMovedReferent.ambiguous i e = absurd (none-some x e)
  labeled_over _ _ x IsMovedReferent.array_length i e = absurd (none-some x e)
  labeled_over _ _ x IsMovedReferent.a_package i e = absurd (none-some x e)
  labeled_over _ _ x (IsMovedReferent.declared {d} {level} {over}) i e = labeled_at d x i e

  continue_over : (n : ℕ) (has_label : Bool) → In n → label p n ≡ is.Continue has_label → (x : ℕ) → In x → continue_target p m n has_label ≡ Some x → continue_target q w (n + s) has_label ≡ Some (x + s)
  continue_over n true i e x j h = labeled_over (m.targets n) (w.targets (n + s)) x (rows.referents n i) j h
  continue_over n false i e x j h = around_over is_loop (code_is_no_loop (label p body) whole.declares) n (n + s) n (n + s) x i (stands_below p m body whole n i (ap declares_code e)) j refl (omega arith) h

  pub continues_over : (n : ℕ) (has_label : Bool) → In n → label p n ≡ is.Continue has_label → continues (continue_target q w (n + s) has_label) ≡ moved_completion s (continues (continue_target p m n has_label))
  continues_over n has_label i e = let t = whole.continues n has_label i e in
      ap continues (continue_over n has_label i e t.row t.inside t.is_target) ∙ ap (λ o. moved_completion s (continues o)) (sym t.is_target)
