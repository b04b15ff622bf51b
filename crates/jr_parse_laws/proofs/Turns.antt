-- What a loop over items behind a symbol keeps.
use Rattle.std.proofs.Common.{◌≡◌, ◌≤◌, true, false, List, [], ◌∷◌, ◌++◌, drop, length, Ok, refl, sym, ap, ◌∙◌, subst, arith}
use Rattle.jr_base.specs.declared.text.Text.{Text}
use Rattle.jr_base.specs.declared.kind.Symbol.{Symbol}
use Rattle.jr_base.specs.declared.kind.Kind.{Kind}
use Rattle.jr_base.specs.declared.kind.Kind.TheVariants.{Ident}
use Rattle.jr_parse_laws.specs.declared.fault.Fault.{Fault}
use Rattle.jr_parse_laws.specs.Parsers.{Parser, first, is_at, begins_with, expect, identifier, many, with_front, Fails, ◌>>◌}
use Rattle.jr_parse_laws.proofs.Outcomes.{ok_is, err_ok, bind_ok}
use Rattle.jr_parse_laws.proofs.Exact.{expect_sound}
use Rattle.jr_parse_laws.proofs.Lists.{Shortens, front_more, front_fails, front_done}

-- a reader that gives no token back
abbrev pub Keeps : {A : Type 0} → Parser A → Type 0
Keeps {A} p = (ts : List Kind) (a : A) (rest : List Kind) → p ts ≡ Ok (a, rest) → length rest ≤ length ts

pub at_first : (s : Symbol) (ts : List Kind) → begins_with s (first ts) ≡ is_at s ts
at_first s [] = refl
at_first s (k ∷ ts) = refl

pub expect_keeps : (s : Symbol) → Keeps (expect s)
expect_keeps s ts u rest h = let e = ap (λ (l : List Kind). length l) (expect_sound s ts (u, rest) h) in omega arith

pub identifier_keeps : Keeps identifier
identifier_keeps [] name rest h = absurd (err_ok h)
identifier_keeps (Ident other ∷ ts) name rest h = let e = ap (λ (y : Text × List Kind). length y.1) (ok_is h) in omega arith
identifier_keeps (k ∷ ts) name rest h = absurd (err_ok h)

pub behind : {A : Type 0} (s : Symbol) (p : Parser A) (ts : List Kind) → is_at s ts ≡ true → (expect s >> p) ts ≡ p (drop 1 ts)
behind s p [] h = absurd (cc)
behind s p (k ∷ ts) h = rw h refl

pub behind_shortens : {A : Type 0} (s : Symbol) (p : Parser A) → Keeps p → Shortens (expect s >> p)
behind_shortens s p keeps ts a rest h =
    let b = bind_ok (expect s ts) (λ u. p) (a, rest) h in
    let e = ap (λ (l : List Kind). length l) (expect_sound s ts b.0 b.1) in
    let k = keeps b.0.1 a rest b.2 in
    omega arith

module _ {A : Type 0} (s : Symbol) (p : Parser A) (keeps : Keeps p) where
  abbrev pub items : Parser (List A)
  items = many (begins_with s) (expect s >> p)

  pub behind_more : (front : List A) (ts : List Kind) (a : A) (rest : List Kind) → is_at s ts ≡ true → p (drop 1 ts) ≡ Ok (a, rest)
      → with_front front (items ts) ≡ with_front (front ++ a ∷ []) (items rest)
  behind_more front ts a rest h e = front_more (begins_with s) (expect s >> p) refl (behind_shortens s p keeps) front ts a rest (at_first s ts ∙ h) (behind s p ts h ∙ e)

  pub behind_fails : (front : List A) (ts : List Kind) (f : Fault) (new : List Kind) → is_at s ts ≡ true → Fails (p (drop 1 ts)) f new → Fails (with_front front (items ts)) f new
  behind_fails front ts f new h e =
      front_fails (begins_with s) (expect s >> p) refl (behind_shortens s p keeps) front ts f new (at_first s ts ∙ h) (subst (λ o. Fails o f new) (sym (behind s p ts h)) e)

  pub behind_done : (front : List A) (ts : List Kind) → is_at s ts ≡ false → with_front front (items ts) ≡ Ok (front, ts)
  behind_done front ts h = front_done (begins_with s) (expect s >> p) front ts (at_first s ts ∙ h)
