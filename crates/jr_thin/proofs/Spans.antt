-- Tokens stand one after another, and a token more is spelled.
use Rattle.std.proofs.Common.{◌≡◌, ℕ, ◌+◌, ◌-◌, ◌<◌, ◌≤◌, Bool, cond, List, [], ◌∷◌, ◌++◌, length, drop, get_or, slice_range, Some, None, Option, sym, ap, subst, ◌∙◌, arith, append_assoc}
use Rattle.std.specs.Prelude.{slice_index_or}
use Rattle.std.proofs.lemmas.List.{at_drop_more, drop-drop}
use Rattle.jr_base.specs.Reading.{Lex, Reads}
use Rattle.jr_base.specs.Reading.Reads.{here, gap, token}
use Rattle.jr_base.specs.Respelled.{Choice, respelled, new_spelling, new_width, moved_tokens}
use Rattle.jr_base.specs.declared.token.Token.{Token}
use Rattle.jr_thin.specs.Served.{SpansRise}
use Rattle.jr_thin.specs.Text.{choices, is_of}

rise_from : (a b to : ℕ) (tokens : List Token) → a ≤ b → SpansRise b to tokens → SpansRise a to tokens
rise_from a b to [] le rise = omega arith
rise_from a b to (t ∷ ts) le rise = (omega (arith, rise.0), rise.1, rise.2)

rise_le : (from to : ℕ) (tokens : List Token) → SpansRise from to tokens → from ≤ to
rise_le from to [] rise = rise
rise_le from to (t ∷ ts) rise = omega (arith, rise.0, rise.1, rise_le t.span.end to ts rise.2)

reads_rise : (bytes : List ℕ) (start stop : ℕ) (tokens : List Token) → Reads bytes start tokens stop → SpansRise start stop tokens
reads_rise bytes start stop tokens (here) = omega arith
reads_rise bytes start stop tokens (gap {end = end} gap_at more) = rise_from start end stop tokens (omega (arith, gap_at.1)) (reads_rise bytes end stop tokens more)
reads_rise bytes start stop tokens (token {t = t} {ts = ts} begins longest more) = (omega arith, omega (arith, longest.1), reads_rise bytes t.span.end stop ts more)

pub lex_rise : (bytes : List ℕ) (tokens : List Token) → Lex bytes tokens → SpansRise 0 (length bytes) tokens
lex_rise bytes tokens lex = reads_rise bytes 0 (length bytes) tokens lex.reads

pub next_token : (tokens : List Token) (i : ℕ) (t : Token) → i < length tokens → t ≡ get_or tokens i t → drop i tokens ≡ t ∷ drop (i + 1) tokens
next_token tokens i t inside is = at_drop_more (λ l. l) tokens i t inside ∙ ap (λ (h : Token). h ∷ drop (i + 1) tokens) (sym is)

-- the spans of the next token
pub record RiseHere (from to : ℕ) (tokens : List Token) (i : ℕ) (t : Token) : Type 0 where
  pub order : from ≤ t.span.start
  pub within : t.span.start ≤ t.span.end
  pub inside : t.span.end ≤ to
  pub rest : SpansRise t.span.end to (drop (i + 1) tokens)

pub rise_here : (from to : ℕ) (tokens : List Token) (i : ℕ) (t : Token) → i < length tokens → t ≡ get_or tokens i t → SpansRise from to (drop i tokens) → RiseHere from to tokens i t
rise_here from to tokens i t inside is rise =
    let here : SpansRise from to (t ∷ drop (i + 1) tokens) = subst (SpansRise from to) (next_token tokens i t inside is) rise in
    record { order = here.0; within = here.1; inside = rise_le t.span.end to (drop (i + 1) tokens) here.2; rest = here.2 }

pub next_choice : (d : ℕ) (name : List ℕ) (tokens : List Token) (targets : List (Option ℕ)) (i : ℕ) (t : Token) → length targets ≡ length tokens → i < length tokens → t ≡ get_or tokens i t
    → choices d name (drop i tokens) (drop i targets) ≡ (t, cond (is_of d (slice_index_or targets i None)) (Some name) None) ∷ choices d name (drop (i + 1) tokens) (drop (i + 1) targets)
next_choice d name tokens targets i t size inside is =
    ap (λ l. choices d name l (drop i targets)) (next_token tokens i t inside is)
    ∙ at_drop_more (choices d name (t ∷ drop (i + 1) tokens)) targets i None (omega arith)

pub spelled_more : (bytes : List ℕ) (d : ℕ) (name : List ℕ) (tokens : List Token) (targets : List (Option ℕ)) (i from : ℕ) (t : Token) (old new : List ℕ) (anew : Bool) → length targets ≡ length tokens → i < length tokens → t ≡ get_or tokens i t
    → anew ≡ is_of d (slice_index_or targets i None)
    → new ≡ old ++ (slice_range bytes from t.span.start ++ new_spelling bytes (t, cond anew (Some name) None))
    → new ++ respelled bytes t.span.end (choices d name (drop (i + 1) tokens) (drop (i + 1) targets)) ≡ old ++ respelled bytes from (choices d name (drop i tokens) (drop i targets))
spelled_more bytes d name tokens targets i from t old new anew size inside is how written =
    let c : Choice = (t, cond anew (Some name) None) in
    let more = choices d name (drop (i + 1) tokens) (drop (i + 1) targets) in
    let rest = respelled bytes t.span.end more in
    ap (λ l. l ++ rest) written
    ∙ append_assoc old (slice_range bytes from t.span.start ++ new_spelling bytes c) rest
    ∙ ap (λ l. old ++ l) (append_assoc (slice_range bytes from t.span.start) (new_spelling bytes c) rest)
    ∙ ap (λ b. old ++ respelled bytes from ((t, cond b (Some name) None) ∷ more)) how
    ∙ ap (λ l. old ++ respelled bytes from l) (sym (next_choice d name tokens targets i t size inside is))

-- a token more is moved
pub moved_more : (d : ℕ) (name : List ℕ) (tokens all : List Token) (targets : List (Option ℕ)) (i from at : ℕ) (t : Token) (anew : Bool) (start width next : ℕ) → length targets ≡ length tokens → i < length tokens → t ≡ get_or tokens i t
    → anew ≡ is_of d (slice_index_or targets i None) → start ≡ at + (t.span.start - from) → width ≡ new_width (t, cond anew (Some name) None) → next ≡ start + width
    → drop i all ≡ moved_tokens from at (choices d name (drop i tokens) (drop i targets))
    → drop (i + 1) all ≡ moved_tokens t.span.end next (choices d name (drop (i + 1) tokens) (drop (i + 1) targets))
moved_more d name tokens all targets i from at t anew start width next size inside is how begins wide ends same =
    let more = choices d name (drop (i + 1) tokens) (drop (i + 1) targets) in
    let first : Choice = (t, cond (is_of d (slice_index_or targets i None)) (Some name) None) in
    let there : next ≡ (at + (t.span.start - from)) + new_width first = ends ∙ ap (λ n. n + width) begins ∙ ap (λ n. (at + (t.span.start - from)) + n) (wide ∙ ap (λ b. new_width (t, cond b (Some name) None)) how) in
    sym (drop-drop 1 i all)
    ∙ ap (drop 1) (same ∙ ap (moved_tokens from at) (next_choice d name tokens targets i t size inside is))
    ∙ ap (λ n. moved_tokens t.span.end n more) (sym there)
