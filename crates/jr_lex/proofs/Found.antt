-- What the scanners find is the longest token, or nothing starts there.
use Rattle.std.proofs.Common.{◌≡◌, ◌⊎◌, ⊎_elim, inl, inr, ℕ, ◌+◌, ◌<◌, ◌≤◌, Bool, true, false, cond, ◌||◌, ◌==◌, nat_lt, List, [], ◌∷◌, ◌++◌, length, take, drop, refl, sym, ◌∙◌, ap, subst, arith, Option, Some, None}
use Rattle.std.specs.Prelude.{slice_index, pos}
use Rattle.std.specs.Int.{cast_signed, w32, w64}
use Rattle.std.specs.Char.{is_ascii_digit}
use Rattle.std.proofs.lemmas.Bool.{false≢true}
use Rattle.std.proofs.lemmas.Bool.Decides.{nat_tests}
use Rattle.std.proofs.lemmas.List.{append-nil, take-append-drop, length-take-le}
use Rattle.jr_base.specs.Gaps.{is_blank, is_line_end, opens_line_comment, opens_block_comment, closes_comment, IsGap}
use Rattle.jr_base.specs.Identifiers.{is_start_char, is_word_char, WordAt}
use Rattle.jr_base.specs.Literals.{is_quote, Characters, escape_of}
use Rattle.jr_base.specs.Numerals.{radix_of, is_numeral, numeral_value, int_of, long_of, has_long_mark, numeral_in, integer_of}
use Rattle.jr_base.specs.Places.{CharAt, CharRun}
use Rattle.jr_base.specs.Reading.{HasOpenComment, HasBadEscape, HasOpenLiteral, HasBadNumber, HasBadByte}
use Rattle.jr_base.specs.Tokens.{Spells, IsApart, IsToken, IsLongest, NothingStarts, EndsInteger, opens_fraction}
use Rattle.jr_base.specs.declared.kind.Kind.{Kind}
use Rattle.jr_base.specs.declared.kind.Kind.TheVariants.{Word, Ident, Int, IntMin, Long, LongMin, Char, Str, Sym}
use Rattle.jr_base.specs.declared.kind.Symbol.{Symbol}
use Rattle.jr_base.proofs.Runs.{char_one, run_longest}
use Rattle.jr_lex.specs.Items.{HasSymbol, IsKindOf, NoInteger}
use Rattle.jr_lex.proofs.CharacterLemmas.{drop_first, Ends, Quoted, quoted_from, literal_from, chars_one, ends_at_quote, ends_at_line, ends_at_end, ends_at_bad}
use Rattle.jr_lex.proofs.Classes.{Digit, Single, Double, Sign, kind_class, class_of, class_of_digit, token_class, token_word, integer_token, integer_bytes, integer_run}
use Rattle.jr_lex.proofs.EscapeLemmas.{index_inside}
use Rattle.jr_lex.proofs.Fronts.{word_front}
use Rattle.jr_lex.proofs.Longest.{WordStops, ends_word, word_longest, integer_longest, char_longest, string_longest, symbol_longest, no_comment, comment_not_blank, line_or_block, line_opens, block_opens, quoted_one}

-- words
pub word_found : (text : List ℕ) (len : ℕ) (k : Kind) → len ≤ length text → WordAt text 0 len → WordStops text len → IsKindOf (take len text) k → IsLongest text len k
word_found text len (Word k) l h stop e = word_longest text len h stop (Word k) refl (record { inside = l; spells = sym e; apart = tt })
word_found text len (Ident n) l h stop e =
    let w = take len text in
    let size : length w ≡ len = length-take-le len text l in
    let front : WordAt (w ++ drop len text) 0 len = subst (λ t. WordAt t 0 len) (sym (take-append-drop len text)) h in
    let alone : WordAt w 0 (length w) = subst (λ t. WordAt t 0 (length w)) (append-nil w) (subst (λ n. WordAt (w ++ []) 0 n) (sym size) (word_front w (drop len text) [] len (omega arith) front)) in
    word_longest text len h stop (Ident n) refl (record { inside = l; spells = (e.0, record { word = alone; free = e.1 }); apart = tt })
word_found text len k l h stop e = absurd e

pub no_word : (text : List ℕ) (c : ℕ) → CharAt text 0 c → is_start_char c ≡ false → (len : ℕ) → WordAt text 0 len → ⊥
no_word text c h fails len g = false≢true (sym fails ∙ (ap is_start_char (char_one text 0 c g.first h g.here) ∙ g.starts))

-- integers
some_none : {A : Type 0} {x : A} → Some x ≡ None → ⊥
some_none h = cc

some_same : {A : Type 0} {x y : A} → Some x ≡ Some y → x ≡ y
some_same h = cc

-- an optional kind is an integer's
abbrev IsDigits : Option Kind → Type 0
IsDigits o = (k : Kind) → o ≡ Some k → kind_class k ≡ Digit

one_kind : (k : Kind) → kind_class k ≡ Digit → IsDigits (Some k)
one_kind k e l h = sym (ap kind_class (some_same h)) ∙ e

no_kind : IsDigits None
no_kind k h = absurd (some_none (sym h))

pick : (b : Bool) (x y : Option Kind) → IsDigits x → IsDigits y → IsDigits (cond b x y)
pick true x y f g = f
pick false x y f g = g

int_kind : (r v : ℕ) → IsDigits (int_of r v)
int_kind r v = pick (r == 10) _ _
    (pick (nat_lt v 2147483648) _ _ (one_kind (Int (pos v)) refl) (pick (v == 2147483648) _ _ (one_kind IntMin refl) no_kind))
    (pick (nat_lt v 4294967296) _ _ (one_kind (Int (cast_signed w32 v)) refl) no_kind)

long_kind : (r v : ℕ) → IsDigits (long_of r v)
long_kind r v = pick (r == 10) _ _
    (pick (nat_lt v 9223372036854775808) _ _ (one_kind (Long (pos v)) refl) (pick (v == 9223372036854775808) _ _ (one_kind LongMin refl) no_kind))
    (pick (nat_lt v 18446744073709551616) _ _ (one_kind (Long (cast_signed w64 v)) refl) no_kind)

integer_kind : (w : List ℕ) → IsDigits (integer_of w)
unfolding integer_of
integer_kind w = pick (is_numeral (numeral_in w)) _ _
    (pick (has_long_mark w) _ _ (long_kind (radix_of (numeral_in w)) (numeral_value (numeral_in w))) (int_kind (radix_of (numeral_in w)) (numeral_value (numeral_in w))))
    no_kind

integer_spells : (w : List ℕ) (k : Kind) → kind_class k ≡ Digit → integer_of w ≡ Some k → Spells k w
integer_spells w (Int v) e h = h
integer_spells w IntMin e h = h
integer_spells w (Long v) e h = h
integer_spells w LongMin e h = h
integer_spells w k e h = absurd (let no : kind_class k ≡ Digit = e in cc)

integer_apart : (text : List ℕ) (len : ℕ) (k : Kind) → kind_class k ≡ Digit → EndsInteger (drop len text) → IsApart k text len
integer_apart text len (Int v) e h = h
integer_apart text len IntMin e h = h
integer_apart text len (Long v) e h = h
integer_apart text len LongMin e h = h
integer_apart text len k e h = absurd (let no : kind_class k ≡ Digit = e in cc)

integer_made : (text : List ℕ) (len : ℕ) (k : Kind) → len ≤ length text → integer_of (take len text) ≡ Some k → EndsInteger (drop len text) → IsToken text len k
integer_made text len k l h e =
    let c = integer_kind (take len text) k h in
    record { inside = l; spells = integer_spells (take len text) k c h; apart = integer_apart text len k c e }

text_char : (text : List ℕ) (len c : ℕ) → CharAt (drop len text) 0 c → CharAt text len c
text_char text len c h = record { scalar = h.scalar; rest = h.rest; split = h.split }

pub integer_found : (text : List ℕ) (end : ℕ) (k : Kind) → end ≤ length text → WordStops text end → (slice_index text end ≡ 46 → ⊥) → integer_of (take end text) ≡ Some k → IsLongest text end k
integer_found text end k l stop point h =
    let ends : EndsInteger (drop end text) = record { whole = λ c at. stop c (text_char text end c at); no_point = λ e. point (sym (drop_first text end) ∙ e) } in
    integer_longest text end k (integer_kind (take end text) k h) (integer_made text end k l h ends)

pub no_integer : (text : List ℕ) (end : ℕ) → CharRun is_word_char text 0 end → WordStops text end → ((integer_of (take end text) ≡ None) ⊎ (slice_index text end ≡ 46)) → NoInteger text
no_integer text end run stop why len k l h e =
    let c = integer_kind (take len text) k h in
    let other = integer_run text len k c (integer_made text len k l h e) in
    let same : len ≡ end = omega (arith, run_longest run stop other, run_longest other (ends_word text len e) run) in
    ⊎_elim
    (λ n. some_none (sym h ∙ (ap (λ x. integer_of (take x text)) same ∙ n)))
    (λ p. e.no_point (drop_first text len ∙ (ap (slice_index text) same ∙ p)))
    why

-- literals
pub string_found : (text : List ℕ) (len : ℕ) (us : List ℕ) → Quoted 34 text len us → IsLongest text len (Str us)
string_found text len us h = let l = literal_from 34 text len us h in string_longest text len us (record { inside = l.0; spells = l.1; apart = tt })

pub char_found : (text : List ℕ) (len u : ℕ) → Quoted 39 text len (u ∷ []) → IsLongest text len (Char u)
char_found text len u h = let l = literal_from 39 text len (u ∷ []) h in char_longest text len u (record { inside = l.0; spells = l.1; apart = tt })

quote_not_blank : (b : ℕ) → is_quote b ≡ true → is_blank b ≡ true → ⊥
quote_not_blank b h k = grind (arith, nat_tests)

quote_not_slash : (b : ℕ) → is_quote b ≡ true → b ≡ 47 → ⊥
quote_not_slash b h e = grind (arith, nat_tests)

no_gap_quote : (text : List ℕ) (len : ℕ) → is_quote (slice_index text 0) ≡ true → IsGap text len → ⊥
no_gap_quote text len h g =
    ⊎_elim (λ b. quote_not_blank (slice_index text 0) h b.blank) (⊎_elim (λ c. quote_not_slash (slice_index text 0) h (line_opens text c.opens)) (λ c. quote_not_slash (slice_index text 0) h (block_opens text c.opens))) g

quote_class : (q : ℕ) → is_quote q ≡ true → (class_of q ≡ Single) ⊎ (class_of q ≡ Double)
quote_class q h = ⊎_elim (λ e. inl (ap class_of e)) (λ e. inr (ap class_of e)) (which q h)
  where
    which : (q : ℕ) → is_quote q ≡ true → (q ≡ 39) ⊎ (q ≡ 34)
    which q h = grind (arith, nat_tests)

-- a token that begins with a quote is a literal
literal_only : (text : List ℕ) (q len : ℕ) (k : Kind) → is_quote q ≡ true → slice_index text 0 ≡ q → IsToken text len k → (us : List ℕ) × Quoted q text len us
literal_only text q len (Char u) e o t = let h = quoted_from 39 text len (u ∷ []) t.inside t.spells in (u ∷ [], subst (λ x. Quoted x text len (u ∷ [])) (sym h.opens ∙ o) h)
literal_only text q len (Str us) e o t = let h = quoted_from 34 text len us t.inside t.spells in (us, subst (λ x. Quoted x text len us) (sym h.opens ∙ o) h)
literal_only text q len k e o t =
    let a : kind_class k ≡ class_of q = sym (token_class text len k t) ∙ ap class_of o in
    ⊎_elim (λ s. absurd (let no : kind_class k ≡ Single = a ∙ s in cc)) (λ d. absurd (let no : kind_class k ≡ Double = a ∙ d in cc)) (quote_class q e)

module _ (text : List ℕ) (q : ℕ) (is_q : is_quote q ≡ true) (opens : slice_index text 0 ≡ q) where
  first_quote : is_quote (slice_index text 0) ≡ true
  first_quote = ap is_quote opens ∙ is_q

  nothing_quoted : (end : ℕ) (us : List ℕ) → Characters q text 1 end us → Ends q text end → (slice_index text end ≡ q → ⊥) → NothingStarts text
  nothing_quoted end us body ends unclosed = record {
    no_gap = λ len g. no_gap_quote text len first_quote g;
    no_token = λ len k t.
        let h = literal_only text q len k is_q opens t in
        let same = chars_one body ends h.1.body (ends_at_quote q text h.1.close is_q h.1.closes) in
        unclosed (ap (slice_index text) same.0 ∙ h.1.closes);
  }

  open_not_bad : (end : ℕ) (us : List ℕ) → Characters q text 1 end us → Ends q text end → (slice_index text end ≡ 92 → ⊥) → HasBadEscape text → ⊥
  open_not_bad end us body ends other bad =
      let theirs : Characters q text 1 bad.place bad.units = subst (λ x. Characters x text 1 bad.place bad.units) opens bad.body in
      let same = chars_one body ends theirs (ends_at_bad q text bad.place bad.backslash bad.none) in
      other (ap (slice_index text) same.0 ∙ bad.backslash)

  -- a backslash that starts no escape
  pub bad_escape : (end : ℕ) (us : List ℕ) → Characters q text 1 end us → slice_index text end ≡ 92 → escape_of (drop end text) ≡ None → NothingStarts text × HasBadEscape text
  bad_escape end us body back none = (
    nothing_quoted end us body (ends_at_bad q text end back none) (λ e. quote_not_back q is_q (sym e ∙ back)),
    record { opens = first_quote; place = end; units = us; body = subst (λ x. Characters x text 1 end us) (sym opens) body; backslash = back; none = none },
  )
    where
      quote_not_back : (q : ℕ) → is_quote q ≡ true → q ≡ 92 → ⊥
      quote_not_back q h e = grind (arith, nat_tests)

  -- the line's end or the text's
  pub open_literal : (end : ℕ) (us : List ℕ) → Characters q text 1 end us → ((length text ≤ end) ⊎ (is_line_end (slice_index text end) ≡ true)) → NothingStarts text × HasOpenLiteral text
  open_literal end us body why =
      let ends : Ends q text end = ⊎_elim (λ l. ends_at_end q text end l) (λ l. ends_at_line q text end l) why in
      let not_byte : (b : ℕ) → 0 < b → is_line_end b ≡ false → slice_index text end ≡ b → ⊥ = λ b some h e.
      ⊎_elim (λ l. absurd (omega (arith, index_inside text end (omega arith)))) (λ l. false≢true (sym h ∙ (ap is_line_end (sym e) ∙ l))) why in (
        nothing_quoted end us body ends (λ e. not_byte q (quote_some q is_q) (quote_no_line q is_q) e),
        record { opens = first_quote; escapes = open_not_bad end us body ends (λ e. not_byte 92 (omega arith) refl e) },
      )
    where
      quote_some : (q : ℕ) → is_quote q ≡ true → 0 < q
      quote_some q h = grind (arith, nat_tests)

      quote_no_line : (q : ℕ) → is_quote q ≡ true → is_line_end q ≡ false
      quote_no_line q h = grind (arith, nat_tests)

-- several characters, or none, between single quotes
pub no_char_literal : (text : List ℕ) (len : ℕ) (us : List ℕ) → Quoted 39 text len us → (length us ≡ 1 → ⊥) → NothingStarts text × HasOpenLiteral text
no_char_literal text len us h several =
    let first : is_quote (slice_index text 0) ≡ true = ap is_quote h.opens in (
      record { no_gap = λ n g. no_gap_quote text n first g; no_token = λ n k t. by n k t (sym (token_class text n k t) ∙ ap class_of h.opens) },
      record { opens = first; escapes = open_not_bad text 39 refl h.opens h.close us h.body (ends_at_quote 39 text h.close refl h.closes) (λ e. let no : 39 ≡ 92 = sym h.closes ∙ e in omega (arith, no)) },
    )
  where
    by : (n : ℕ) (k : Kind) → IsToken text n k → kind_class k ≡ Single → ⊥
    by n (Char u) t e = several (ap length (quoted_one 39 text len n us (u ∷ []) refl h (quoted_from 39 text n (u ∷ []) t.inside t.spells)).1)
    by n k t e = absurd (let no : kind_class k ≡ Single = e in cc)

-- what a scan up to a closing quote has found
abbrev pub Closed : ℕ → List ℕ → List ℕ → ℕ → Type 0
Closed q text us len = (place : ℕ) × Characters q text 1 place us × ((slice_index text place ≡ q) × (place < length text)) × (len ≡ place + 1)

closed : (q : ℕ) (text us : List ℕ) (len : ℕ) → slice_index text 0 ≡ q → Closed q text us len → Quoted q text len us
closed q text us len o h = record { opens = o; close = h.0; body = h.1; closes = h.2.0; inside = h.2.1; ends = h.3 }

single_quote : (q : ℕ) → is_quote q ≡ true → (q ≡ 34 → ⊥) → q ≡ 39
single_quote q h other = grind (arith, nat_tests)

pub closed_string : (q : ℕ) (text us : List ℕ) (len : ℕ) → slice_index text 0 ≡ q → q ≡ 34 → Closed q text us len → IsLongest text len (Str us)
closed_string q text us len o e h = string_found text len us (subst (λ x. Quoted x text len us) e (closed q text us len o h))

pub closed_char : (q : ℕ) (text us : List ℕ) (len u : ℕ) → slice_index text 0 ≡ q → is_quote q ≡ true → (q ≡ 34 → ⊥) → us ≡ u ∷ [] → Closed q text us len → IsLongest text len (Char u)
closed_char q text us len u o e other one h =
    char_found text len u (subst (λ x. Quoted x text len (u ∷ [])) (single_quote q e other) (subst (λ xs. Quoted q text len xs) one (closed q text us len o h)))

pub closed_several : (q : ℕ) (text us : List ℕ) (len : ℕ) → slice_index text 0 ≡ q → is_quote q ≡ true → (q ≡ 34 → ⊥) → (length us ≡ 1 → ⊥) → Closed q text us len → NothingStarts text × HasOpenLiteral text
closed_several q text us len o e other several h =
    no_char_literal text len us (subst (λ x. Quoted x text len us) (single_quote q e other) (closed q text us len o h)) several

-- comments
pub open_comment : (text : List ℕ) → opens_block_comment text ≡ true → ((k : ℕ) → 2 ≤ k → closes_comment text k ≡ false) → NothingStarts text × HasOpenComment text
open_comment text b never = (
  record {
    no_gap = λ len g. ⊎_elim (λ h. comment_not_blank text (inr b) h.blank) (⊎_elim (λ h. line_or_block text h.opens b) (λ h. false≢true (sym (never h.close h.after) ∙ h.closes))) g;
    no_token = λ len k t. no_comment text len k (inr b) t;
  },
  record { opens = b; never = never },
)

module _ (text : List ℕ) (blank : is_blank (slice_index text 0) ≡ false) (line : opens_line_comment text ≡ false) (block : opens_block_comment text ≡ false) where
  no_gap_here : (len : ℕ) → IsGap text len → ⊥
  no_gap_here len g = ⊎_elim (λ h. false≢true (sym blank ∙ h.blank)) (⊎_elim (λ h. false≢true (sym line ∙ h.opens)) (λ h. false≢true (sym block ∙ h.opens))) g

  pub bad_number : is_ascii_digit (slice_index text 0) ≡ true → NoInteger text → NothingStarts text × HasBadNumber text
  bad_number d none = (
    record {
      no_gap = no_gap_here;
      no_token = λ len k t.
          let c : kind_class k ≡ Digit = sym (token_class text len k t) ∙ class_of_digit (slice_index text 0) d in
          let h = integer_token text len k c t in none len k t.inside h.0 h.1;
    },
    rw d refl,
  )

  pub fraction : opens_fraction text ≡ true → NothingStarts text × HasBadNumber text
  fraction f =
      (record { no_gap = no_gap_here; no_token = λ len k t. by len k t (sym (token_class text len k t) ∙ ap class_of (point text f)) }, either (is_ascii_digit (slice_index text 0)) (opens_fraction text) f)
    where
      point : (text : List ℕ) → opens_fraction text ≡ true → slice_index text 0 ≡ 46
      point text h = grind (arith, nat_tests)

      either : (x y : Bool) → y ≡ true → (x || y) ≡ true
      either true y h = refl
      either false y h = h

      by : (len : ℕ) (k : Kind) → IsToken text len k → kind_class k ≡ Sign → ⊥
      by len (Sym s) t e = false≢true (sym t.apart.no_fraction ∙ f)
      by len k t e = absurd (let no : kind_class k ≡ Sign = e in cc)

  pub symbol_found : (len : ℕ) (s : Symbol) → opens_fraction text ≡ false → HasSymbol text len s → ((other : ℕ) (r : Symbol) → HasSymbol text other r → other ≤ len) → IsLongest text len (Sym s)
  symbol_found len s f h most = symbol_longest text len s (record { inside = h.inside; spells = h.spells; apart = record { no_line = line; no_block = block; no_fraction = f } }) most

  pub bad_byte : is_ascii_digit (slice_index text 0) ≡ false → is_quote (slice_index text 0) ≡ false → ((len : ℕ) → WordAt text 0 len → ⊥) → opens_fraction text ≡ false
      → ((len : ℕ) (s : Symbol) → HasSymbol text len s → ⊥) → NothingStarts text × HasBadByte text
  bad_byte d q word f symbols =
      (record { no_gap = no_gap_here; no_token = by }, record { no_comment = block; no_quote = q; no_number = rw (d, f) refl })
    where
      by : (len : ℕ) (k : Kind) → IsToken text len k → ⊥
      by len (Word k) t = word len (token_word text len (Word k) refl t)
      by len (Ident n) t = word len (token_word text len (Ident n) refl t)
      by len (Int v) t = false≢true (sym d ∙ (integer_bytes text len (Int v) refl t).1)
      by len IntMin t = false≢true (sym d ∙ (integer_bytes text len IntMin refl t).1)
      by len (Long v) t = false≢true (sym d ∙ (integer_bytes text len (Long v) refl t).1)
      by len LongMin t = false≢true (sym d ∙ (integer_bytes text len LongMin refl t).1)
      by len (Char u) t = false≢true (sym q ∙ ap is_quote (quoted_from 39 text len (u ∷ []) t.inside t.spells).opens)
      by len (Str us) t = false≢true (sym q ∙ ap is_quote (quoted_from 34 text len us t.inside t.spells).opens)
      by len (Sym s) t = symbols len s (record { inside = t.inside; spells = t.spells })
