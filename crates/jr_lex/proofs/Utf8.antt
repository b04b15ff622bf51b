-- Bytes have one longest front that is UTF-8.
use Rattle.std.proofs.Common.{◌≡◌, ℕ, List, length, sym, ◌∙◌, subst}
use Rattle.std.specs.Str.{IsUtf8, IsValidUpTo}
use Rattle.std.proofs.Math.Seq.{take-length}
use Rattle.std.proofs.lemmas.Str.{utf8_valid_len-IsValidUpTo}

pub front_one : (bytes : List ℕ) (m n : ℕ) → IsValidUpTo bytes m → IsValidUpTo bytes n → m ≡ n
front_one bytes m n g h = sym (utf8_valid_len-IsValidUpTo bytes m g) ∙ utf8_valid_len-IsValidUpTo bytes n h

pub front_short : (bytes : List ℕ) (n : ℕ) → IsValidUpTo bytes n → IsUtf8 bytes → ⊥
front_short bytes n h u = h.longest (length bytes) h.short (subst (λ xs. IsUtf8 xs) (sym (take-length bytes)) u)
