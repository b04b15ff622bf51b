-- A run of steps, as far as it has come.
use Rattle.std.proofs.Common.{◌≡◌, ◌≢◌, List, [], ◌∷◌, ℕ, zero, suc, ◌+◌, ◌<◌, length, get_or, drop, ◌∙◌, ap, arith, add-one}
use Rattle.std.specs.Prelude.{Option}
use Rattle.jr_store.specs.Image.{Image, Puts, Tells, ChangesOnly, Follows}
use Rattle.jr_commit.specs.SidesAt.{ChangesOnlyOn, IsOff, with_sides}
use Rattle.jr_commit.specs.Steps.{path_of, side_of, sides_of}
use Rattle.jr_commit.specs.declared.actions.Step.{Step}
use Rattle.jr_commit.proofs.Told.{tells_then}
use Rattle.jr_commit.proofs.Putting.{puts_is}

-- k of the steps are taken: the others make of f what all make of d
abbrev pub Going : List Step → ℕ → Image → Image → Type 0
Going steps k d f = ChangesOnlyOn (sides_of steps) d f × (with_sides (drop k (sides_of steps)) f ≡ with_sides (sides_of steps) d)

off_step : (steps : List Step) (k : ℕ) (s : Step) (q : List ℕ) → k < length steps → s ≡ get_or steps k s → IsOff (sides_of steps) q → q ≢ path_of s
off_step [] k s q h is off = absurd (omega arith)
off_step (x ∷ steps) zero s q h is off = λ e. off.0 (e ∙ ap path_of is)
off_step (x ∷ steps) (suc k) s q h is off = off_step steps k s q (omega arith) is off.1

next : (steps : List Step) (k : ℕ) (s : Step) (f g : Image) → k < length steps → s ≡ get_or steps k s → Puts (path_of s) (side_of s) f g → with_sides (drop (suc k) (sides_of steps)) g ≡ with_sides (drop k (sides_of steps)) f
next [] k s f g h is puts = absurd (omega arith)
next (x ∷ steps) zero s f g h is puts = ap (with_sides (sides_of steps)) (puts_is (path_of s) (side_of s) f g puts) ∙ (λ i. with_sides (drop zero (sides_of (is i ∷ steps))) f)
next (x ∷ steps) (suc k) s f g h is puts = next steps k s f g (omega arith) is puts

module _ (steps : List Step) (k : ℕ) (s : Step) (h : k < length steps) (is : s ≡ get_or steps k s) where
  pub told_step : (a b c : Option Image) → Tells a b (Going steps k) → Tells b c (ChangesOnly (path_of s)) → Tells a c (ChangesOnlyOn (sides_of steps))
  told_step a b c first second =
      tells_then a b c (Going steps k) (ChangesOnly (path_of s)) (ChangesOnlyOn (sides_of steps)) first second (λ d f g going one q off. one q (off_step steps k s q h is off) ∙ going.0 q off)

  pub told_next : (a b c : Option Image) → Tells a b (Going steps k) → Tells b c (Puts (path_of s) (side_of s)) → Tells a c (Going steps (k + 1))
  told_next a b c first second =
      tells_then a b c (Going steps k) (Puts (path_of s) (side_of s)) (Going steps (k + 1)) first second
      (λ d f g going puts. (λ q off. puts.1 q (off_step steps k s q h is off) ∙ going.0 q off, rw add-one (next steps k s f g h is puts ∙ going.1)))

  pub crash_step : (before mid after : Image → Type 0) → Follows (ChangesOnlyOn (sides_of steps)) before mid → Follows (ChangesOnly (path_of s)) mid after → Follows (ChangesOnlyOn (sides_of steps)) before after
  crash_step before mid after first second c left =
      let m = second c left in
      let b = first m.0 m.1 in
      (b.0, b.1, λ q off. m.2 q (off_step steps k s q h is off) ∙ b.2 q off)
