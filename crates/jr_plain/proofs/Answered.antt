-- The answer of a list of candidates.
use Rattle.std.proofs.Common.{◌≡◌, refl, sym, ◌∙◌, ap, ⊎_elim, ℕ, Bool, true, false, cond, List, [], ◌∷◌, Option, Decides}
use Rattle.std.specs.List.{list_all}
use Rattle.std.proofs.lemmas.Bool.{false≢true, or_left, or_right, or_cases, and_cases}
use Rattle.jr_defs.specs.declared.referent.Referent.{Referent}
use Rattle.jr_defs.specs.declared.referent.Referent.TheVariants.{Ambiguous, Declared}
use Rattle.jr_defs.specs.Referents.{IsAnswer}
use Rattle.jr_defs.proofs.Unique.{IsOne, answer_unique}
use Rattle.jr_plain.specs.Search.{among}
use Rattle.jr_plain.specs.Same.{same_candidate}
use Rattle.jr_plain.specs.Referents.{answer_of, is_candidate}
use Rattle.jr_plain.proofs.Searches.{every_item}
use Rattle.jr_plain.proofs.Same.{candidate_tells}

module _ {A : Type 0} (same : A → A → Bool) (tells : (a b : A) → Decides (same a b) (a ≡ b)) (test : A → Bool) where
  some_fails : (xs : List A) → list_all test xs ≡ false → (x : A) × (among same xs x ≡ true) × (test x ≡ false)
  some_fails [] none = absurd (false≢true (sym none))
  some_fails (y ∷ ys) none = ⊎_elim (λ e. (y, or_left (same y y) (among same ys y) ((tells y y).1 refl), e))
      (λ e. let h = some_fails ys e in (h.0, or_right (same y h.0) (among same ys h.0) h.1, h.2)) (and_cases (test y) (list_all test ys) none)

module _ (C : ℕ → Option ℕ → Type 0) (Otherwise : Referent → Type 0) where
  answer_by : (one : ℕ × Option ℕ) (more : List (ℕ × Option ℕ)) → ((d : ℕ) (level : Option ℕ) → Decides (is_candidate (one ∷ more) d level) (C d level))
      → (b : Bool) → list_all (same_candidate one) more ≡ b → IsAnswer C Otherwise (cond b (Declared one.0 one.1) Ambiguous)
  answer_by one more tells true e = IsAnswer.one one.0 one.1 here only
    where
      here : C one.0 one.1
      here = (tells one.0 one.1).0 (or_left (same_candidate one one) (among same_candidate more one) ((candidate_tells one one).1 refl))

      only : (d : ℕ) (other : Option ℕ) → C d other → (d ≡ one.0) × (other ≡ one.1)
      only d other c = let same = (candidate_tells one (d, other)).0
          (⊎_elim (λ h. h) (λ h. (every_item same_candidate candidate_tells (same_candidate one) more).0 e (d, other) h)
          (or_cases (same_candidate one (d, other)) (among same_candidate more (d, other)) ((tells d other).1 c))) in
          (ap (λ x. x.0) (sym same), ap (λ x. x.1) (sym same))
  answer_by one more tells false e =
      let h = some_fails same_candidate candidate_tells (same_candidate one) more e in
      IsAnswer.several one.0 h.0.0 one.1 h.0.1
      ((tells one.0 one.1).0 (or_left (same_candidate one one) (among same_candidate more one) ((candidate_tells one one).1 refl)))
      ((tells h.0.0 h.0.1).0 (or_right (same_candidate one h.0) (among same_candidate more h.0) h.1))
      (λ k. false≢true (sym h.2 ∙ (candidate_tells one h.0).1 (λ i. (k.0 i, k.1 i))))

  -- a list of all candidates gives the answer of their set
  pub answer_is : (candidates : List (ℕ × Option ℕ)) → ((d : ℕ) (level : Option ℕ) → Decides (is_candidate candidates d level) (C d level))
      → (otherwise : Referent) → (((d : ℕ) (level : Option ℕ) → C d level → ⊥) → Otherwise otherwise) → IsAnswer C Otherwise (answer_of candidates otherwise)
  answer_is [] tells otherwise other =
      let never : (d : ℕ) (level : Option ℕ) → C d level → ⊥ = λ d level c. false≢true ((tells d level).1 c) in IsAnswer.none never (other never)
  answer_is (one ∷ more) tells otherwise other = answer_by one more tells (list_all (same_candidate one) more) refl

  -- and it is the only one, where there is one answer for want of a candidate
  pub answer_finds : (candidates : List (ℕ × Option ℕ)) → ((d : ℕ) (level : Option ℕ) → Decides (is_candidate candidates d level) (C d level)) → IsOne Otherwise
      → (otherwise : Referent) → (((d : ℕ) (level : Option ℕ) → C d level → ⊥) → Otherwise otherwise) → (a : Referent) → IsAnswer C Otherwise a → a ≡ answer_of candidates otherwise
  answer_finds candidates tells one otherwise other a h = answer_unique C Otherwise one a (answer_of candidates otherwise) h (answer_is candidates tells otherwise other)
