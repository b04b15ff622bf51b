-- What is found is the lock, by its cases.
use Rattle.std.proofs.Common.{◌≡◌, sym, ◌∙◌, ap, ℕ, Bool, false, Option, Some, None, nat_eq, Decides}
use Rattle.std.specs.Option.{option_map_or}
use Rattle.std.proofs.lemmas.Bool.Decides.{same_from_decides}
use Rattle.jr_defs.specs.declared.referent.Referent.{Referent}
use Rattle.jr_plain.specs.Same.{same_referent}
use Rattle.jr_plain.proofs.Same.{referent_tells}
use Rattle.jr_spelling_rules.specs.Candidates.{target}
use Rattle.jr_spelling_rules.specs.Fitting.{is_lock}

abbrev lock_by : Referent → Referent → Option ℕ → Bool
lock_by lock found o = elim o as (λ _. Bool) [ Some d ↦ option_map_or (λ e. nat_eq e d) (target found) false | None ↦ same_referent found lock ]

pub lock_declared : (lock found : Referent) (b : Bool) (d : ℕ) → target lock ≡ Some d → b ≡ option_map_or (λ e. nat_eq e d) (target found) false → b ≡ is_lock lock found
lock_declared lock found b d e h = h ∙ sym (ap (lock_by lock found) e)

pub lock_other : (lock found : Referent) (b : Bool) → target lock ≡ None → Decides b (found ≡ lock) → b ≡ is_lock lock found
lock_other lock found b e h = same_from_decides b (same_referent found lock) h (referent_tells found lock) ∙ sym (ap (lock_by lock found) e)
