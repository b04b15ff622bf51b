-- Which texts are identifiers (JLS 3.8, with the character classes of Unicode's annex 31).
use Rattle.std.specs.Prelude.{◌≡◌, ◌≢◌, ℕ, ◌+◌, Bool, true, ◌||◌, ◌==◌, List, length}
use Rattle.std.specs.Char.{len_utf8}
use Rattle.unicode_ident.specs.Ident.{is_xid_start, is_xid_continue}
use Rattle.jr_base.specs.Places.{CharAt, CharRun}
use Rattle.jr_base.specs.Spellings.{keyword_text}
use Rattle.jr_base.specs.declared.kind.Keyword.{Keyword}

-- an identifier begins with the character: `_`, `$` or XID_Start
abbrev pub is_start_char : ℕ → Bool
is_start_char c = is_xid_start c || ((c == 95) || (c == 36))

-- an identifier goes on with the character: `$` or XID_Continue
abbrev pub is_word_char : ℕ → Bool
is_word_char c = is_xid_continue c || (c == 36)

-- from start up to end stand characters that make a word: a keyword or an identifier
pub record WordAt (bytes : List ℕ) (start end : ℕ) : Type 0 where
  pub first : ℕ
  pub here : CharAt bytes start first
  pub starts : is_start_char first ≡ true
  pub run : CharRun is_word_char bytes (start + len_utf8 first) end

-- the whole text is a word that is no keyword and not true, false or null
pub record IsIdentifier (bytes : List ℕ) : Type 0 where
  pub word : WordAt bytes 0 (length bytes)
  pub free : (k : Keyword) → keyword_text k ≢ bytes
