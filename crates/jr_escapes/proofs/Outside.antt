-- Which places are in no token, and how many backslashes stand before a place.
use Rattle.std.proofs.Common.{◌≡◌, ℕ, ◌+◌, ◌<◌, ◌≤◌, nat_lt, nat_le, Bool, true, false, not, ◌||◌, ◌&&◌, ◌==◌, List, [], ◌∷◌, length, get_or, drop, refl, sym, ap, ◌∙◌, arith, add-one}
use Rattle.std.proofs.lemmas.Bool.{lt-ltb, lt-leb}
use Rattle.std.specs.Prelude.{slice_index}
use Rattle.jr_base.specs.declared.token.Token.{Token}
use Rattle.jr_base.specs.Reading.{Lex}
use Rattle.jr_lex.specs.Laws.{Rising}
use Rattle.jr_lex.proofs.Spans.{spans_rise}
use Rattle.jr_escapes.specs.Escapes.{AreRising, IsAhead, is_outside, is_even_before, is_bad_escape, is_bad_escape_at}

rising_later : (from : ℕ) (ts : List Token) (to : ℕ) → Rising from ts to → Rising 0 ts to
rising_later from [] to h = omega arith
rising_later from (t ∷ ts) to h = (omega arith, h.1, h.2)

-- all tokens behind a place leave it outside
all_behind : (from at to : ℕ) (ts : List Token) → Rising from ts to → at < from → is_outside ts at ≡ true
all_behind from at to [] h l = refl
all_behind from at to (t ∷ ts) h l =
    let before : nat_lt at t.span.start ≡ true = lt-ltb at t.span.start (omega (arith, h.0)) in
    rw before (all_behind t.span.end at to ts h.2 (omega (arith, h.0, h.1)))

alone : (b : Bool) → (b || false) && true ≡ b
alone true = refl
alone false = refl

pub outside_first : (ts : List Token) (t : Token) (at : ℕ) → 1 ≤ length ts → t ≡ get_or ts 0 t → AreRising ts → IsAhead ts at → nat_lt at t.span.start ≡ is_outside ts at
outside_first [] t at some is rise ahead = absurd (omega arith)
outside_first (u ∷ ts) t at some is rise ahead =
    let later : is_outside ts at ≡ true = all_behind u.span.end at rise.0 ts rise.1.2 ahead in
    let end : nat_le u.span.end at ≡ false = lt-leb u.span.end at ahead in
    ap (λ (x : Token). nat_lt at x.span.start) is ∙ sym (rw (end, later) (alone (nat_lt at u.span.start)))

pub even_behind : (bytes : List ℕ) (at : ℕ) (before behind : Bool) → before ≡ is_even_before bytes at → behind ≡ not (slice_index bytes at == 92) || not before → behind ≡ is_even_before bytes (at + 1)
even_behind bytes at before behind even is = rw add-one (rw even at is)

pub bad_at : (bytes : List ℕ) (tokens rest : List Token) (at : ℕ) (even bad : Bool) → even ≡ is_even_before bytes at → is_outside rest at ≡ is_outside tokens at
    → bad ≡ ((slice_index bytes at == 92) && even) && (is_outside rest at && is_bad_escape (drop (at + 1) bytes)) → bad ≡ is_bad_escape_at bytes tokens at
bad_at bytes tokens rest at even bad is_even same is = rw (is_even, same) at is

-- what bytes read as rises
pub lex_rising : (bytes : List ℕ) (tokens same : List Token) → same ≡ tokens → Lex bytes tokens → AreRising same
lex_rising bytes tokens same is lex = (length bytes, rw is (spans_rise bytes tokens lex))
