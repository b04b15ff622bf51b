-- What the loops over brackets and dots keep.
use Rattle.std.proofs.Common.{◌≡◌, ℕ, zero, suc, ◌+◌, zero-add, ◌≤◌, Bool, true, false, List, [], ◌∷◌, ◌++◌, drop, length, Ok, Err, refl, sym, ap, ◌∙◌, subst, arith}
use Rattle.jr_base.specs.declared.text.Text.{Text}
use Rattle.jr_base.specs.declared.kind.Kind.{Kind}
use Rattle.jr_base.specs.declared.kind.Kind.TheVariants as kind
use Rattle.jr_base.specs.declared.kind.Symbol.TheVariants as y
use Rattle.jr_parse_laws.specs.declared.fault.Fault.{Fault}
use Rattle.jr_parse_laws.specs.declared.fault.Fault.TheVariants.{NoTree, TooDeep, OutOfMemory}
use Rattle.jr_parse_laws.specs.Parsers.{Outcome, and_then, is_at, is_at_word, begins_with, expect, identifier, with_front, Fails, ◌>>◌}
use Rattle.jr_parse_laws.proofs.Lists.{many_over, many_turn}
use Rattle.jr_parse_laws.proofs.Turns.{at_first, behind, behind_shortens, behind_more, behind_fails, behind_done, expect_keeps, identifier_keeps}
use Rattle.jr_parse_expr.specs.Names.{pairs, counted, parts, named_all, name_of, dotted_from, dotted_behind, dotted}
use Rattle.jr_parse_laws.proofs.Outcomes.{ok_is, ok_err, err_ok}
use Rattle.jr_base.specs.declared.kind.Keyword.TheVariants as word

-- ---- pairs of brackets

one_more : (n : ℕ) (o : Outcome (List (Unit {0}))) → counted n (and_then o (λ all rest. Ok (tt ∷ all, rest))) ≡ counted (n + 1) o
one_more n (Ok p) = let e : n + length (tt ∷ p.0) ≡ n + 1 + length p.0 = omega arith in ap (λ n. Ok (n, p.1)) e
one_more n (Err e) = refl

pairs_turn : (ts : List Kind) → is_at y.OpenBracket ts ≡ true → pairs ts ≡ and_then (expect y.CloseBracket (drop 1 ts)) (λ a rest. and_then (pairs rest) (λ all rest. Ok (a ∷ all, rest)))
pairs_turn ts h =
    many_turn (begins_with y.OpenBracket) (expect y.OpenBracket >> expect y.CloseBracket) refl (behind_shortens y.OpenBracket (expect y.CloseBracket) (expect_keeps y.CloseBracket)) ts (at_first y.OpenBracket ts ∙ h)
    ∙ ap (λ o. and_then o (λ a rest. and_then (pairs rest) (λ all rest. Ok (a ∷ all, rest)))) (behind y.OpenBracket (expect y.CloseBracket) ts h)

pub dims_more : (n : ℕ) (ts : List Kind) (u : Unit {0}) (rest : List Kind) → is_at y.OpenBracket ts ≡ true → expect y.CloseBracket (drop 1 ts) ≡ Ok (u, rest) → counted n (pairs ts) ≡ counted (n + 1) (pairs rest)
dims_more n ts u rest h e = rw (pairs_turn ts h, e) (one_more n (pairs rest))

pub dims_fails : (n : ℕ) (ts : List Kind) (f : Fault) (new : List Kind) → is_at y.OpenBracket ts ≡ true → Fails (expect y.CloseBracket (drop 1 ts)) f new → Fails (counted n (pairs ts)) f new
dims_fails n ts NoTree new h e = rw (pairs_turn ts h, e) refl
dims_fails n ts TooDeep new h e = rw (pairs_turn ts h, e) refl
dims_fails n ts OutOfMemory new h e = tt

pub dims_done : (n : ℕ) (ts : List Kind) → is_at y.OpenBracket ts ≡ false → counted n (pairs ts) ≡ Ok (n, ts)
dims_done n ts h =
    ap (counted n) (many_over (begins_with y.OpenBracket) (expect y.OpenBracket >> expect y.CloseBracket) ts (at_first y.OpenBracket ts ∙ h))
    ∙ (let e : n + 0 ≡ n = omega arith in ap (λ n. Ok (n, ts)) e)

pub closed_shorter : (ts : List Kind) (u : Unit {0}) (rest : List Kind) → is_at y.OpenBracket ts ≡ true → expect y.CloseBracket (drop 1 ts) ≡ Ok (u, rest) → suc (length rest) ≤ length ts
closed_shorter ts u rest h e =
    behind_shortens y.OpenBracket (expect y.CloseBracket) (expect_keeps y.CloseBracket) ts u rest (behind y.OpenBracket (expect y.CloseBracket) ts h ∙ e)

-- ---- identifiers behind dots

pub name_more : (front : List Text) (ts : List Kind) (part : Text) (rest : List Kind) → is_at y.Dot ts ≡ true → identifier (drop 1 ts) ≡ Ok (part, rest)
    → named_all (with_front front (parts ts)) ≡ named_all (with_front (front ++ part ∷ []) (parts rest))
name_more front ts part rest h e = ap named_all (behind_more y.Dot identifier identifier_keeps front ts part rest h e)

pub named_fails : (o : Outcome (List Text)) (f : Fault) (new : List Kind) → Fails o f new → Fails (named_all o) f new
named_fails o NoTree new h = rw h refl
named_fails o TooDeep new h = rw h refl
named_fails o OutOfMemory new h = tt

pub name_fails : (front : List Text) (ts : List Kind) (f : Fault) (new : List Kind) → is_at y.Dot ts ≡ true → Fails (identifier (drop 1 ts)) f new → Fails (named_all (with_front front (parts ts))) f new
name_fails front ts f new h e = named_fails (with_front front (parts ts)) f new (behind_fails y.Dot identifier identifier_keeps front ts f new h e)

pub name_done : (front : List Text) (ts : List Kind) → is_at y.Dot ts ≡ false → named_all (with_front front (parts ts)) ≡ Ok (name_of front, ts)
name_done front ts h = ap named_all (behind_done y.Dot identifier identifier_keeps front ts h)

-- ---- a name at the head of an expression

more_turns : (b : Bool) (turns : ℕ) (before : List Text) (last : Text) (ts : List Kind) → length ts ≤ turns → dotted_from b (suc turns) before last ts ≡ dotted_from b turns before last ts
more_turns b zero before last [] h = refl
more_turns b zero before last (k ∷ ts) h = absurd (omega arith)
more_turns b (suc turns) before last (kind.Sym y.Dot ∷ kind.Ident name ∷ ts) h = more_turns b turns (before ++ last ∷ []) name ts (omega arith)
more_turns b (suc turns) before last (kind.Sym y.Dot ∷ kind.Word word.This ∷ ts) h = refl
more_turns b (suc turns) before last (kind.Sym y.Dot ∷ ts) h = refl
more_turns b (suc turns) before last ts h = refl

enough_turns : (b : Bool) (d : ℕ) (before : List Text) (last : Text) (ts : List Kind) → dotted_from b (d + length ts) before last ts ≡ dotted_from b (length ts) before last ts
enough_turns b zero before last ts = rw zero-add refl
enough_turns b (suc d) before last ts =
    let e : suc d + length ts ≡ suc (d + length ts) = omega arith in
    ap (λ n. dotted_from b n before last ts) e ∙ more_turns b (d + length ts) before last ts (omega arith) ∙ enough_turns b d before last ts

pub dotted_more : (b : Bool) (before : List Text) (last : Text) (ts : List Kind) (name : Text) (rest : List Kind) → is_at y.Dot ts ≡ true → identifier (drop 1 ts) ≡ Ok (name, rest)
    → dotted b before last ts ≡ dotted b (before ++ last ∷ []) name rest
unfolding dotted
dotted_more b before last [] name rest h e = absurd (cc)
dotted_more b before last (kind.Sym y.Dot ∷ []) name rest h e = absurd (err_ok e)
dotted_more b before last (kind.Sym y.Dot ∷ kind.Ident other ∷ ts) name rest h e =
    let same : (other, ts) ≡ (name, rest) = ok_is e in
    let one : suc (length ts) ≡ 1 + length ts = omega arith in
    ap (λ n. dotted_from b n (before ++ last ∷ []) other ts) one ∙ enough_turns b 1 (before ++ last ∷ []) other ts
    ∙ ap (λ (p : Text × List Kind). dotted_from b (length p.1) (before ++ last ∷ []) p.0 p.1) same
dotted_more b before last (kind.Sym y.Dot ∷ k ∷ ts) name rest h e = absurd (err_ok e)
dotted_more b before last (k ∷ ts) name rest h e = absurd (cc)

pub dotted_at_dot : (b : Bool) (before : List Text) (last : Text) (ts : List Kind) → dotted b before last (kind.Sym y.Dot ∷ ts) ≡ dotted_behind b (length ts) before last ts
unfolding dotted
dotted_at_dot b before last ts = let e : length (kind.Sym y.Dot ∷ ts) ≡ suc (length ts) = omega arith in ap (λ n. dotted_from b n before last (kind.Sym y.Dot ∷ ts)) e

behind_fails_dot : (b : Bool) (before : List Text) (last : Text) (turns : ℕ) (ts : List Kind) (f : Fault) (new : List Kind) → is_at_word word.This ts ≡ false → Fails (identifier ts) f new → Fails (dotted_behind b turns before last ts) f new
behind_fails_dot b before last turns ts OutOfMemory new g e = tt
behind_fails_dot b before last turns [] NoTree new g e = cc
behind_fails_dot b before last turns [] TooDeep new g e = cc
behind_fails_dot b before last turns (kind.Ident other ∷ ts) NoTree new g e = absurd (ok_err e)
behind_fails_dot b before last turns (kind.Ident other ∷ ts) TooDeep new g e = absurd (ok_err e)
behind_fails_dot b before last turns (kind.Word word.This ∷ ts) f new g e = absurd (cc)
behind_fails_dot b before last turns (k ∷ ts) NoTree new g e = cc
behind_fails_dot b before last turns (k ∷ ts) TooDeep new g e = cc

pub dotted_fails : (b : Bool) (before : List Text) (last : Text) (ts : List Kind) (f : Fault) (new : List Kind) → is_at y.Dot ts ≡ true → is_at_word word.This (drop 1 ts) ≡ false → Fails (identifier (drop 1 ts)) f new → Fails (dotted b before last ts) f new
dotted_fails b before last [] f new h g e = absurd (cc)
dotted_fails b before last (kind.Sym y.Dot ∷ ts) f new h g e =
    subst (λ o. Fails o f new) (sym (dotted_at_dot b before last ts)) (behind_fails_dot b before last (length ts) ts f new g e)
dotted_fails b before last (k ∷ ts) f new h g e = absurd (cc)
