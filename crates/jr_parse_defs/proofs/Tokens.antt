-- What follows from a token that was taken.
use Rattle.std.proofs.Common.{◌≡◌, ℕ, ◌≤◌, ltb, cond, true, false, List, [], ◌∷◌, Option, Some, None, Ok, Err, refl, ap, inl, inr}
use Rattle.std.proofs.lemmas.Bool.{le-ltb}
use Rattle.jr_base.specs.declared.kind.Kind.{Kind}
use Rattle.jr_base.specs.declared.kind.Kind.TheVariants as kind
use Rattle.jr_base.specs.declared.kind.Symbol.{Symbol}
use Rattle.jr_base.specs.declared.kind.Symbol.TheVariants as y
use Rattle.jr_base.specs.declared.kind.Keyword.{Keyword}
use Rattle.jr_parse_laws.specs.declared.fault.Fault.{Fault}
use Rattle.jr_parse_laws.specs.Parsers.{Outcome, Parser, and_then, expect, expect_word, is_at, is_at_word, begins_with}
use Rattle.jr_parse_laws.proofs.Outcomes.{bind_ok, chosen, err_ok, is_symbol_is, is_word_is}
use Rattle.jr_parse_laws.proofs.Exact.{expect_sound, word_sound}
use Rattle.jr_parse_starts.specs.Starts.{within}
use Rattle.jr_parse_expr.specs.Exprs.{skipping}
use Rattle.jr_parse_expr.proofs.Followers.{Closes}

-- a token and what is read behind it
pub record Eaten {B : Type 0} (token : Kind) (ts : List Kind) (f : Unit {0} → Parser B) (r : B × List Kind) : Type 0 where
  pub unit : Unit {0}
  pub rest : List Kind
  pub written : ts ≡ token ∷ rest
  pub more : f unit rest ≡ Ok r

pub eats : {B : Type 0} (s : Symbol) (ts : List Kind) (f : Unit {0} → Parser B) (r : B × List Kind) → and_then (expect s ts) f ≡ Ok r → Eaten (kind.Sym s) ts f r
eats s ts f r h = let a = bind_ok (expect s ts) f r h in record { unit = a.0.0; rest = a.0.1; written = expect_sound s ts a.0 a.1; more = a.2 }

pub eats_word : {B : Type 0} (w : Keyword) (ts : List Kind) (f : Unit {0} → Parser B) (r : B × List Kind) → and_then (expect_word w ts) f ≡ Ok r → Eaten (kind.Word w) ts f r
eats_word w ts f r h = let a = bind_ok (expect_word w ts) f r h in record { unit = a.0.0; rest = a.0.1; written = word_sound w ts a.0 a.1; more = a.2 }

pub skipped : {B : Type 0} (s : Symbol) (p : Parser B) (ts : List Kind) (r : B × List Kind) → is_at s ts ≡ true → skipping p ts ≡ Ok r → (us : List Kind) × (ts ≡ kind.Sym s ∷ us) × (p us ≡ Ok r)
skipped s p [] r h g = absurd (cc)
skipped s p (token ∷ us) r h g = (us, ap (λ token. token ∷ us) (is_symbol_is s token h), g)

pub skipped_word : {B : Type 0} (w : Keyword) (p : Parser B) (ts : List Kind) (r : B × List Kind) → is_at_word w ts ≡ true → skipping p ts ≡ Ok r → (us : List Kind) × (ts ≡ kind.Word w ∷ us) × (p us ≡ Ok r)
skipped_word w p [] r h g = absurd (cc)
skipped_word w p (token ∷ us) r h g = (us, ap (λ token. token ∷ us) (is_word_is w token h), g)

pub within_sound : {A : Type 0} (room levels : ℕ) (stop : Fault × List Kind) (o : Outcome A) (r : A × List Kind) → cond (ltb room levels) (Err stop) o ≡ Ok r → o ≡ Ok r
within_sound room levels stop o r h =
    elim (chosen (ltb room levels) _ _ _ h) [
      | inl t ↦ absurd (err_ok t.1)
      | inr t ↦ t.1
    ]

pub within_read : {A : Type 0} (room : ℕ) (token : Kind) (p : Parser A) (ts : List Kind) → 1 ≤ room → within 1 room token p ts ≡ p ts
within_read room token p ts some = rw (le-ltb room 1 some) refl

-- ---- what goes on with no declaration of a variable

pub record Apart (o : Option Kind) : Type 0 where
  pub closes : Closes o
  pub no_assign : begins_with y.Assign o ≡ false
  pub no_bracket : begins_with y.OpenBracket o ≡ false

pub apart_semicolon : Apart (Some (kind.Sym y.Semicolon))
apart_semicolon = record { closes = record { cast = refl; none = refl }; no_assign = refl; no_bracket = refl }

pub apart_comma : (o : Option Kind) → begins_with y.Comma o ≡ true → Apart o
apart_comma None h = absurd (cc)
apart_comma (Some (kind.Sym y.Comma)) h = record { closes = record { cast = refl; none = refl }; no_assign = refl; no_bracket = refl }
apart_comma (Some token) h = absurd (cc)
