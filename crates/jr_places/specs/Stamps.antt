-- Sets of numbers below a bound, by the round in which each was put in.
use Rattle.std.specs.Prelude.{◌≡◌, ◌⊎◌, ℕ, ◌<◌, ◌≤◌, Bool, true, false, Option, Some, None, length, nat_eq, slice_get}
use Rattle.jr_places.specs.declared.stamps.Stamps.{Stamps}

abbrev pub is_now : ℕ → Option ℕ → Bool
is_now round None = false
is_now round (Some stamp) = nat_eq stamp round

-- the number is in the set
abbrev pub is_stamped : Stamps → ℕ → Bool
is_stamped stamps n = is_now stamps.round (slice_get stamps.stamps.items n)

-- no number has the stamp of a later round
pub record IsStamping (stamps : Stamps) (bound : ℕ) : Type 0 where
  pub size : length stamps.stamps.items ≡ bound
  pub past : (n stamp : ℕ) → slice_get stamps.stamps.items n ≡ Some stamp → stamp ≤ stamps.round

-- none is in the set
pub record IsEmptied (stamps : Stamps) (bound : ℕ) : Type 0 where
  pub counted : IsStamping stamps bound
  pub none : (n : ℕ) → is_stamped stamps n ≡ false

-- the number at is in the set now, and was not where that is told
pub record AddsStamp (old new : Stamps) (bound at : ℕ) (is_new : Bool) : Type 0 where
  pub counted : IsStamping new bound
  pub out : (n : ℕ) → is_stamped new n ≡ true → (is_stamped old n ≡ true) ⊎ (at ≡ n)
  pub kept : (n : ℕ) → is_stamped old n ≡ true → is_stamped new n ≡ true
  pub was : at < bound → is_new ≡ false → is_stamped old at ≡ true
  pub new_one : is_new ≡ true → (is_stamped old at ≡ false) × (is_stamped new at ≡ true)
