-- How bytes read is determined, step by step.
use Rattle.std.proofs.Common.{◌≡◌, ⊎_elim, ℕ, ◌+◌, ◌-◌, ◌<◌, ◌≤◌, true, List, [], ◌∷◌, ◌++◌, length, take, drop, refl, sym, ◌∙◌, ap, subst, arith, Bool, length-drop}
use Rattle.std.specs.Prelude.{slice_index}
use Rattle.std.specs.Str.{IsUtf8, IsCharBoundary}
use Rattle.std.proofs.lemmas.Bool.Decides.{nat_tests}
use Rattle.std.proofs.lemmas.List.{length-take-le}
use Rattle.std.proofs.lemmas.Str.{IsCharBoundary-after_ascii, IsCharBoundary-before_ascii, IsCharBoundary-end, IsCharBoundary-start, IsCharBoundary-from_rest, IsUtf8-drop}
use Rattle.jr_base.specs.Gaps.{is_blank, is_line_end, closes_comment, IsGap}
use Rattle.jr_base.specs.Identifiers.{WordAt}
use Rattle.jr_base.specs.Places.{CharRun, none, more}
use Rattle.jr_base.specs.Reading.{Reads, here, gap, token, Lex, StopsAt}
use Rattle.jr_base.specs.Spellings.{symbol_text}
use Rattle.jr_base.specs.Tokens.{IsToken, NothingStarts, GapAt, LongestAt}
use Rattle.jr_base.specs.declared.kind.Kind.{Kind}
use Rattle.jr_base.specs.declared.kind.Kind.TheVariants.{Word, Ident, Int, IntMin, Long, LongMin, Char, Str, Sym}
use Rattle.jr_base.specs.declared.kind.Symbol.{Symbol}
use Rattle.jr_base.specs.declared.token.Token.{Token}
use Rattle.jr_base.proofs.Runs.{after_char}
use Rattle.jr_lex.specs.Faults.{Tells, IsStop, IsFirstFault, IsMemory}
use Rattle.jr_lex.specs.Items.{IsFault}
use Rattle.jr_lex.specs.declared.fault.LexFault.{LexFault}
use Rattle.jr_lex.specs.declared.fault.LexFault.TheVariants.{BadByte, OpenComment, OpenLiteral, BadEscape, BadNumber, NotUtf8, OutOfMemory}
use Rattle.jr_lex.proofs.CharacterLemmas.{quoted_from}
use Rattle.jr_lex.proofs.Classes.{token_word, token_some, integer_run, take_first}
use Rattle.jr_lex.proofs.EscapeLemmas.{index_inside}
use Rattle.jr_lex.proofs.Longest.{gap_one, gap_or_token, longest_one}
use Rattle.jr_lex.proofs.SpellingTables.{is_sign, symbol_some, symbol_signs}
use Rattle.jr_lex.proofs.ByteLemmas.{all_each, le_or_lt}

-- each gap goes on, within the text
close_inside : (text : List ℕ) (place : ℕ) → closes_comment text place ≡ true → (place + 1 < length text) × (slice_index text (place + 1) < 128)
close_inside text place h =
    let e : slice_index text (place + 1) ≡ 47 = grind (arith, nat_tests) in
    (index_inside text (place + 1) (omega arith), omega arith)

blank_bounds : (b : ℕ) → is_blank b ≡ true → (0 < b) × (b < 128)
blank_bounds b h = (grind (arith, nat_tests), grind (arith, nat_tests))

line_bounds : (b : ℕ) → is_line_end b ≡ true → b < 128
line_bounds b h = grind (arith, nat_tests)

pub gap_inside : (text : List ℕ) (len : ℕ) → IsGap text len → (0 < len) × (len ≤ length text)
gap_inside text len g = ⊎_elim
    (λ h. (omega (arith, h.one), omega (arith, h.one, index_inside text 0 (blank_bounds (slice_index text 0) h.blank).0)))
    (⊎_elim (λ h. (omega (arith, h.some), h.inside))
    (λ h. (omega (arith, h.ends), omega (arith, h.ends, (close_inside text h.close h.closes).0))))
    g

-- a text may be cut behind a gap, and behind a token
after_byte : (text : List ℕ) (len place : ℕ) → IsUtf8 text → len ≡ place + 1 → place < length text → slice_index text place < 128 → IsCharBoundary text len
after_byte text len place u e l low = subst (λ x. IsCharBoundary text x) (sym e) (IsCharBoundary-after_ascii text place u l low)

pub gap_boundary : (text : List ℕ) (len : ℕ) → IsUtf8 text → IsGap text len → IsCharBoundary text len
gap_boundary text len u g = ⊎_elim
    (λ h. let b = blank_bounds (slice_index text 0) h.blank in after_byte text len 0 u (omega (arith, h.one)) (index_inside text 0 b.0) b.1)
    (⊎_elim
    (λ h. ⊎_elim
    (λ l. subst (λ x. IsCharBoundary text x) (let e : length text ≡ len = omega (arith, h.inside) in e) (IsCharBoundary-end text))
    (λ l. IsCharBoundary-before_ascii text len l (line_bounds (slice_index text len) (h.ends l)))
    (le_or_lt (length text) len))
    (λ h. let c = close_inside text h.close h.closes in after_byte text len (h.close + 1) u (omega (arith, h.ends)) c.0 c.1))
    g

run_boundary : {p : ℕ → Bool} {text : List ℕ} {start end : ℕ} → IsUtf8 text → IsCharBoundary text start → CharRun p text start end → IsCharBoundary text end
run_boundary u b none = b
run_boundary {text = text} u b (more {start = s} {c = c} h y r) = run_boundary u (after_char text s c u b h) r

word_boundary : (text : List ℕ) (len : ℕ) → IsUtf8 text → WordAt text 0 len → IsCharBoundary text len
word_boundary text len u h = run_boundary u (after_char text 0 h.first u (IsCharBoundary-start text u) h.here) h.run

sign_low : (b : ℕ) → is_sign b ≡ true → b < 128
sign_low b h = grind (arith, nat_tests)

symbol_boundary : (text : List ℕ) (len : ℕ) (s : Symbol) → IsUtf8 text → IsToken text len (Sym s) → IsCharBoundary text len
symbol_boundary text len s u h =
    let size : length (take len text) ≡ len = length-take-le len text h.inside in
    let wide : length (symbol_text s) ≡ len = sym (ap length h.spells) ∙ size in
    let some : 0 < len = omega (arith, symbol_some s) in
    let last = all_each is_sign (symbol_text s) (symbol_signs s) (len - 1) (omega arith) in
    let read : slice_index (symbol_text s) (len - 1) ≡ slice_index text (len - 1) = ap (λ w. slice_index w (len - 1)) (sym h.spells) ∙ take_first text len (len - 1) (omega arith) in
    let low : slice_index text (len - 1) < 128 = sign_low (slice_index text (len - 1)) (subst (λ b. is_sign b ≡ true) read last) in
    let inside : len ≤ length text = h.inside in
    after_byte text len (len - 1) u (omega arith) (omega arith) low

pub token_boundary : (text : List ℕ) (len : ℕ) (k : Kind) → IsUtf8 text → IsToken text len k → IsCharBoundary text len
token_boundary text len (Word k) u t = word_boundary text len u (token_word text len (Word k) refl t)
token_boundary text len (Ident n) u t = word_boundary text len u (token_word text len (Ident n) refl t)
token_boundary text len (Int v) u t = run_boundary u (IsCharBoundary-start text u) (integer_run text len (Int v) refl t)
token_boundary text len IntMin u t = run_boundary u (IsCharBoundary-start text u) (integer_run text len IntMin refl t)
token_boundary text len (Long v) u t = run_boundary u (IsCharBoundary-start text u) (integer_run text len (Long v) refl t)
token_boundary text len LongMin u t = run_boundary u (IsCharBoundary-start text u) (integer_run text len LongMin refl t)
token_boundary text len (Char c) u t = let h = quoted_from 39 text len (c ∷ []) t.inside t.spells in after_byte text len h.close u h.ends h.inside (omega (arith, h.closes))
token_boundary text len (Str us) u t = let h = quoted_from 34 text len us t.inside t.spells in after_byte text len h.close u h.ends h.inside (omega (arith, h.closes))
token_boundary text len (Sym s) u t = symbol_boundary text len s u t

-- the same, at a place of the bytes
pub gap_at : (bytes : List ℕ) (start len : ℕ) → IsUtf8 bytes → IsCharBoundary bytes start → IsGap (drop start bytes) len → IsCharBoundary bytes (start + len)
gap_at bytes start len u b g = IsCharBoundary-from_rest bytes start len b.0 (gap_boundary (drop start bytes) len (IsUtf8-drop bytes start u b) g)

pub token_at : (bytes : List ℕ) (start len : ℕ) (k : Kind) → IsUtf8 bytes → IsCharBoundary bytes start → IsToken (drop start bytes) len k → IsCharBoundary bytes (start + len)
token_at bytes start len k u b t = IsCharBoundary-from_rest bytes start len b.0 (token_boundary (drop start bytes) len k (IsUtf8-drop bytes start u b) t)

-- one more gap, or one more token, at the end
pub reads_gap : {bytes : List ℕ} {start end stop : ℕ} {ts : List Token} → Reads bytes start ts end → GapAt bytes end stop → Reads bytes start ts stop
reads_gap here h = gap h here
reads_gap (gap g r) h = gap g (reads_gap r h)
reads_gap (token p l r) h = token p l (reads_gap r h)

pub reads_token : {bytes : List ℕ} {start end : ℕ} {ts : List Token} {t : Token} → Reads bytes start ts end → t.span.start ≡ end → LongestAt bytes end t.span.end t.kind → Reads bytes start (ts ++ t ∷ []) t.span.end
reads_token here p l = token p l here
reads_token (gap g r) p l = gap g (reads_token r p l)
reads_token (token q m r) p l = token q m (reads_token r p l)

pub nothing_at_end : (bytes : List ℕ) → NothingStarts (drop (length bytes) bytes)
nothing_at_end bytes = record {
  no_gap = λ len g. absurd (omega (arith, gap_inside (drop (length bytes) bytes) len g, length-drop (length bytes) bytes));
  no_token = λ len k t. absurd (omega (arith, token_some (drop (length bytes) bytes) len k t, t.inside, length-drop (length bytes) bytes));
}

-- a token is its kind and its place
pub token_same : (t u : Token) → t.span.start ≡ u.span.start → t.span.end ≡ u.span.end → t.kind ≡ u.kind → t ≡ u
token_same t u a b c =
    let made : ℕ → ℕ → Kind → Token = λ s e k. record { kind = k; span = record { start = s; end = e } } in
    ap (λ s. made s t.span.end t.kind) a ∙ ap (λ e. made u.span.start e t.kind) b ∙ ap (λ k. made u.span.start u.span.end k) c

pub cons_same : {t u : Token} {ts us : List Token} → t ≡ u → ts ≡ us → t ∷ ts ≡ u ∷ us
cons_same a b = cc

from_same : {bytes : List ℕ} {a b stop : ℕ} {ts : List Token} → a ≡ b → Reads bytes b ts stop → Reads bytes a ts stop
from_same {bytes} {stop = stop} {ts = ts} e r = subst (λ x. Reads bytes x ts stop) (sym e) r

gap_at_one : (bytes : List ℕ) (start end stop : ℕ) → GapAt bytes start end → GapAt bytes start stop → end ≡ stop
gap_at_one bytes start end stop g h = g.1 ∙ (ap (λ n. start + n) (gap_one (drop start bytes) g.0 h.0 g.2 h.2) ∙ sym h.1)

longest_at_one : (bytes : List ℕ) (start end stop : ℕ) (k l : Kind) → LongestAt bytes start end k → LongestAt bytes start stop l → (end ≡ stop) × (k ≡ l)
longest_at_one bytes start end stop k l g h =
    let one = longest_one (drop start bytes) g.0 h.0 k l g.2 h.2 in
    (g.1 ∙ (ap (λ n. start + n) one.0 ∙ sym h.1), one.1)

-- two readings that both go as far as they can are one
pub one_reading : {bytes : List ℕ} {start end stop : ℕ} {ts us : List Token} → Reads bytes start ts end → NothingStarts (drop end bytes) → Reads bytes start us stop → NothingStarts (drop stop bytes) → (ts ≡ us) × (end ≡ stop)
one_reading here n here m = (refl, refl)
one_reading here n (gap g r) m = absurd (n.no_gap _ g.2)
one_reading here n (token p l r) m = absurd (n.no_token _ _ l.2.stands)
one_reading (gap g r) n here m = absurd (m.no_gap _ g.2)
one_reading {bytes} (gap g r) n (gap h s) m = one_reading r n (from_same (gap_at_one bytes _ _ _ g h) s) m
one_reading {bytes} (gap {start = start} g r) n (token p l s) m = absurd (gap_or_token (drop start bytes) _ _ _ g.2 l.2.stands)
one_reading (token p l r) n here m = absurd (m.no_token _ _ l.2.stands)
one_reading {bytes} (token {start = start} p l r) n (gap h s) m = absurd (gap_or_token (drop start bytes) _ _ _ h.2 l.2.stands)
one_reading {bytes} (token {t = t} p l r) n (token {t = u} q k s) m =
    let one = longest_at_one bytes _ _ _ _ _ l k in
    let rest = one_reading r n (from_same one.0 s) m in
    (cons_same (token_same t u (p ∙ sym q) one.0 one.1) rest.0, rest.1)

stop_at : (bytes : List ℕ) (before : List Token) (place at : ℕ) (fault : LexFault) → IsUtf8 bytes → Reads bytes 0 before place → place < length bytes → NothingStarts (drop place bytes) → Tells (drop place bytes) place fault → at ≡ place → IsStop bytes at fault
stop_at bytes before place at fault u r l n t e = subst (λ p. IsStop bytes p fault) (sym e) (record { stops = record { utf8 = u; before = before; reads = r; inside = l; nothing = n }; tells = t })

-- what is known where the reading of the whole text has come to a fault, or to the end
pub fault_first : (bytes : List ℕ) (before : List Token) (place : ℕ) (fault : LexFault) → IsUtf8 bytes → Reads bytes 0 before place → place < length bytes → IsFault (drop place bytes) place fault → IsFirstFault bytes fault
fault_first bytes before place (BadByte at) u r l h = stop_at bytes before place at (BadByte at) u r l h.0 h.1 h.1.0
fault_first bytes before place (OpenComment at) u r l h = stop_at bytes before place at (OpenComment at) u r l h.0 h.1 h.1.0
fault_first bytes before place (OpenLiteral at) u r l h = stop_at bytes before place at (OpenLiteral at) u r l h.0 h.1 h.1.0
fault_first bytes before place (BadEscape at) u r l h = stop_at bytes before place at (BadEscape at) u r l h.0 h.1 h.1.0
fault_first bytes before place (BadNumber at) u r l h = stop_at bytes before place at (BadNumber at) u r l h.0 h.1 h.1.0
fault_first bytes before place (NotUtf8 at) u r l h = absurd h.1
fault_first bytes before place OutOfMemory u r l h = tt

pub fault_only : (bytes : List ℕ) (before : List Token) (place : ℕ) (fault : LexFault) → Reads bytes 0 before place → place < length bytes → IsFault (drop place bytes) place fault → (ts : List Token) → Lex bytes ts → IsMemory fault
fault_only bytes before place OutOfMemory r l h ts x = tt
fault_only bytes before place fault r l h ts x = absurd (omega (arith, (one_reading r h.0 x.reads (nothing_at_end bytes)).1))

pub fault_same : (bytes : List ℕ) (before : List Token) (place : ℕ) (fault : LexFault) → Reads bytes 0 before place → place < length bytes → IsFault (drop place bytes) place fault → (other : ℕ) → StopsAt bytes other → IsStop bytes other fault
fault_same bytes before place OutOfMemory r l h other x = record { stops = x; tells = tt }
fault_same bytes before place fault r l h other x =
    let e = (one_reading r h.0 x.reads x.nothing).1 in
    record { stops = x; tells = subst (λ p. Tells (drop p bytes) p fault) e h.1 }

pub whole : {bytes : List ℕ} {before : List Token} {place : ℕ} → IsUtf8 bytes → Reads bytes 0 before place → place ≤ length bytes → length bytes ≤ place → Lex bytes before
whole {bytes} {before} {place} u r l m = let e : place ≡ length bytes = omega arith in record { utf8 = u; reads = subst (λ x. Reads bytes 0 before x) e r }

-- bytes have one list of tokens
pub lex_one : (bytes : List ℕ) (ts us : List Token) → Lex bytes ts → Lex bytes us → ts ≡ us
lex_one bytes ts us r x = (one_reading r.reads (nothing_at_end bytes) x.reads (nothing_at_end bytes)).0

pub no_fault : (bytes : List ℕ) (ts : List Token) (place : ℕ) → Lex bytes ts → StopsAt bytes place → ⊥
no_fault bytes ts place r x = omega (arith, (one_reading r.reads (nothing_at_end bytes) x.reads x.nothing).1, x.inside)
