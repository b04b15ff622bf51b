-- The text of a class with a name spelled anew.
use Rattle.std.specs.Prelude.{◌≢◌, ℕ, ◌<◌, ◌≤◌, Bool, false, ◌==◌, List, [], ◌∷◌, Option, Some, None, if◌then◌else◌, slice_index_or}
use Rattle.jr_base.specs.declared.kind.Kind.TheVariants.{IntMin}
use Rattle.jr_base.specs.declared.token.Span.{Span}
use Rattle.jr_base.specs.declared.token.Token.{Token}
use Rattle.jr_base.specs.Respelled.{Choice}
use Rattle.jr_thin.specs.declared.sites.Site.{Site}
use Rattle.jr_thin.specs.declared.sites.Role.TheVariants.{Plain}
use Rattle.jr_thin.specs.Sites.{site_at}

abbrev pub no_token : Token
no_token = record { kind = IntMin; span = record { start = 0; end = 0 } }

abbrev pub span_at : List Token → ℕ → Span
span_at tokens i = (slice_index_or tokens i no_token).span

-- the offset lies in the name i: at its first byte, or before its end
pub record Covers (tokens : List Token) (sites : List Site) (at i : ℕ) : Type 0 where
  pub name : (site_at sites i).role ≢ Plain
  pub start : (span_at tokens i).start ≤ at
  pub end : at < (span_at tokens i).end

-- the token refers to the declaration
abbrev pub is_of : ℕ → Option ℕ → Bool
is_of declaration None = false
is_of declaration (Some target) = target == declaration

-- each token with the new spelling where it refers to the declaration, and without one where it stays
abbrev pub choices : ℕ → List ℕ → List Token → List (Option ℕ) → List Choice
choices declaration spelling [] targets = []
choices declaration spelling (token ∷ tokens) [] = (token, None) ∷ choices declaration spelling tokens []
choices declaration spelling (token ∷ tokens) (target ∷ targets) =
    (token, (if is_of declaration target then Some spelling else None)) ∷ choices declaration spelling tokens targets
