-- The modifiers that stand before a declaration, one after the other.
use Rattle.std.proofs.Common.{◌≡◌, ◌⊎◌, inl, inr, ⊎_elim, refl, sym, ◌∙◌, ap, subst, arith, ℕ, ◌+◌, ◌<◌, ◌≤◌, Bool, true, false, ◌||◌, List, [], ◌∷◌, length, drop, slice_index_or, Some, None, Decides}
use Rattle.std.specs.List.{Contains}
use Rattle.std.proofs.lemmas.Bool.{false≢true, or_cases}
use Rattle.std.proofs.lemmas.List.{drop_all, drop_more}
use Rattle.std.proofs.lemmas.List.Elements.{Contains-push, Contains-push_cases, Contains-append_left, Contains-append_right, Contains-append_cases}
use Rattle.jr_base.specs.declared.token.Token.{Token}
use Rattle.jr_tree.specs.declared.label.Modifiers.{Modifiers}
use Rattle.jr_tree.specs.declared.tree.Modifier.{Modifier}
use Rattle.jr_tree.specs.declared.tree.Modifier.TheVariants.{Public, Protected, Private, Abstract, Static, Final, Native}
use Rattle.jr_tree.specs.Decls.{modifiers_of, with_modifier}
use Rattle.jr_marks.specs.declared.marks.Marks.{Marks}
use Rattle.jr_front.specs.Modifiers.{has_modifier, modifier_in, before, leading, IsTwice, repeats, RepeatsModifier, repeats_modifier, standing_before}

-- ---- sets of modifiers

with_out : (seen : Modifiers) (x m : Modifier) → has_modifier (with_modifier x seen) m ≡ true → (x ≡ m) ⊎ (has_modifier seen m ≡ true)
with_out seen Public Public e = inl refl
with_out seen Protected Protected e = inl refl
with_out seen Private Private e = inl refl
with_out seen Abstract Abstract e = inl refl
with_out seen Static Static e = inl refl
with_out seen Final Final e = inl refl
with_out seen Native Native e = inl refl
with_out seen _ _ e = inr e

with_own : (seen : Modifiers) (x : Modifier) → has_modifier (with_modifier x seen) x ≡ true
with_own seen Public = refl
with_own seen Protected = refl
with_own seen Private = refl
with_own seen Abstract = refl
with_own seen Static = refl
with_own seen Final = refl
with_own seen Native = refl

with_kept : (seen : Modifiers) (x m : Modifier) → has_modifier seen m ≡ true → has_modifier (with_modifier x seen) m ≡ true
with_kept seen Public Public e = refl
with_kept seen Protected Protected e = refl
with_kept seen Private Private e = refl
with_kept seen Abstract Abstract e = refl
with_kept seen Static Static e = refl
with_kept seen Final Final e = refl
with_kept seen Native Native e = refl
with_kept seen _ _ e = e

none_has : (m : Modifier) → has_modifier (modifiers_of []) m ≡ true → ⊥
none_has Public e = false≢true e
none_has Protected e = false≢true e
none_has Private e = false≢true e
none_has Abstract e = false≢true e
none_has Static e = false≢true e
none_has Final e = false≢true e
none_has Native e = false≢true e

-- ---- what stands twice

first_or : (x m : Modifier) (more : List Modifier) → Contains (x ∷ more) m → (x ≡ m) ⊎ Contains more m
first_or x m more h = ⊎_elim (λ one. ⊎_elim (λ none. absurd (omega (arith, none.1))) (λ e. inl e) (Contains-push_cases [] x m one)) (λ later. inr later) (Contains-append_cases (x ∷ []) more m h)

-- the modifier is among those that were seen and stands again, or stands twice
abbrev Again : Modifiers → List Modifier → Type 0
Again seen all = (m : Modifier) × (((has_modifier seen m ≡ true) × Contains all m) ⊎ IsTwice m all)

again : (seen : Modifiers) (all : List Modifier) → repeats seen all ≡ true → Again seen all
again seen [] e = absurd (false≢true e)
again seen (x ∷ more) e = ⊎_elim (λ h. (x, inl (h, Contains-append_left (x ∷ []) more x (Contains-push [] x)))) (λ h. later (again (with_modifier x seen) more h)) (or_cases (has_modifier seen x) (repeats (with_modifier x seen) more) e)
  where
    later : Again (with_modifier x seen) more → Again seen (x ∷ more)
    later h = (
      h.0,
      ⊎_elim (λ k. ⊎_elim (λ same. inr (subst (λ m. IsTwice m (x ∷ more)) same (IsTwice.here (subst (λ m. Contains more m) (sym same) k.1)))) (λ own. inl (own, Contains-append_right (x ∷ []) more h.0 k.1)) (with_out seen x h.0 k.0))
          (λ k. inr (IsTwice.behind k)) h.1,
    )

or_second : (a b : Bool) → b ≡ true → (a || b) ≡ true
or_second true b e = refl
or_second false b e = e

or_first : (a b : Bool) → a ≡ true → (a || b) ≡ true
or_first true b e = refl
or_first false b e = absurd (false≢true e)

seen_again : (seen : Modifiers) (all : List Modifier) (m : Modifier) → has_modifier seen m ≡ true → Contains all m → repeats seen all ≡ true
seen_again seen [] m e h = absurd (omega (arith, h.1))
seen_again seen (x ∷ more) m e h = ⊎_elim (λ same. or_first (has_modifier seen x) (repeats (with_modifier x seen) more) (ap (has_modifier seen) same ∙ e))
    (λ k. or_second (has_modifier seen x) (repeats (with_modifier x seen) more) (seen_again (with_modifier x seen) more m (with_kept seen x m e) k)) (first_or x m more h)

twice_again : (seen : Modifiers) (all : List Modifier) (m : Modifier) → IsTwice m all → repeats seen all ≡ true
twice_again seen [] m h = absurd (elim h [ ])
twice_again seen (x ∷ more) m (IsTwice.here h) = or_second (has_modifier seen x) (repeats (with_modifier x seen) more) (seen_again (with_modifier x seen) more x (with_own seen x) h)
twice_again seen (x ∷ more) m (IsTwice.behind h) = or_second (has_modifier seen x) (repeats (with_modifier x seen) more) (twice_again (with_modifier x seen) more m h)

pub repeats_tells : (m : Marks) (d : ℕ) → Decides (repeats_modifier m d) (RepeatsModifier m d)
repeats_tells m d = (
  λ e. let h = again (modifiers_of []) (standing_before m d) e in record { repeated = h.0; twice = ⊎_elim (λ k. absurd (none_has h.0 k.0)) (λ k. k) h.1 },
  λ h. twice_again (modifiers_of []) (standing_before m d) h.repeated h.twice,
)

-- ---- one token after the other

module _ (seen : Modifiers) (ts : List Token) (at : ℕ) where
  here_is : (d : Token) → at < length ts → leading (drop at ts) ≡ before (modifier_in (slice_index_or ts at d).kind) (leading (drop (at + 1) ts))
  here_is d lt = ap leading (drop_more ts at d lt)

  pub step_none : (d : Token) → at < length ts → modifier_in (slice_index_or ts at d).kind ≡ None → repeats seen (leading (drop at ts)) ≡ false
  step_none d lt e = ap (repeats seen) (here_is d lt ∙ ap (λ o. before o (leading (drop (at + 1) ts))) e)

  module _ (d : Token) (x : Modifier) (lt : at < length ts) (e : modifier_in (slice_index_or ts at d).kind ≡ Some x) where
    abbrev rest : List Modifier
    rest = leading (drop (at + 1) ts)

    step_some : repeats seen (leading (drop at ts)) ≡ (has_modifier seen x || repeats (with_modifier x seen) rest)
    step_some = ap (repeats seen) (here_is d lt ∙ ap (λ o. before o rest) e)

    pub step_seen : has_modifier seen x ≡ true → repeats seen (leading (drop at ts)) ≡ true
    step_seen h = step_some ∙ ap (λ b. b || repeats (with_modifier x seen) rest) h

    pub step_more : has_modifier seen x ≡ false → repeats seen (leading (drop at ts)) ≡ repeats (with_modifier x seen) rest
    step_more h = step_some ∙ ap (λ b. b || repeats (with_modifier x seen) rest) h

  pub step_end : length ts ≤ at → repeats seen (leading (drop at ts)) ≡ false
  step_end le = ap (λ l. repeats seen (leading l)) (drop_all at ts le)
