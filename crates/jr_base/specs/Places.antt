-- Characters at places of a text, and runs of them.
use Rattle.std.specs.Prelude.{◌≡◌, ℕ, ◌+◌, Bool, true, List, ◌++◌, drop, encode_utf8}
use Rattle.std.specs.Char.{IsScalar, len_utf8}

-- the bytes of the character stand at the place
pub record CharAt (bytes : List ℕ) (place c : ℕ) : Type 0 where
  pub scalar : IsScalar c
  pub rest : List ℕ
  pub split : drop place bytes ≡ encode_utf8 c ++ rest

-- from start up to end stand characters, one after another, that pass the test
pub data CharRun (p : ℕ → Bool) (bytes : List ℕ) : ℕ → ℕ → Type 0 where
  none : {start : ℕ} → CharRun p bytes start start
  more : {start c end : ℕ} → CharAt bytes start c → p c ≡ true → CharRun p bytes (start + len_utf8 c) end → CharRun p bytes start end
