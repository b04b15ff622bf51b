-- Scope, shadowing and what a name refers to (JLS 6.3, 6.3.1, 6.5.6.1, 8.4.1, 14.4.2). A name is named by the index of its token.
use Rattle.std.specs.Prelude.{◌≡◌, ◌≢◌, ◌⊎◌, ℕ, ◌<◌, List, length, Option, Some, None, slice_index_or}
use Rattle.jr_thin.specs.declared.sites.Site.{Site}
use Rattle.jr_thin.specs.declared.sites.Role.{Role}
use Rattle.jr_thin.specs.declared.sites.Role.TheVariants.{Plain, Param, Local, Use}
use Rattle.jr_thin.specs.Sites.{site_at}

abbrev pub is_declaration : Role → Type 0
is_declaration Param = Unit {0}
is_declaration Local = Unit {0}
is_declaration other = ⊥

-- The name i stands in the scope of the declaration d: the whole body for a parameter, and for a local
-- its own initializer and the rest of its block, which is the body of the method.
pub record InScope (sites : List Site) (d i : ℕ) : Type 0 where
  pub declared : is_declaration (site_at sites d).role
  pub name : (site_at sites i).role ≢ Plain
  pub method : (site_at sites d).method ≡ (site_at sites i).method
  pub after : d < i
  pub body : (site_at sites d).role ≡ Param → (site_at sites i).role ≢ Param

-- a declaration of the spelling of the name i, whose scope holds it
pub record IsCandidate (sites : List Site) (i d : ℕ) : Type 0 where
  pub scope : InScope sites d i
  pub spelling : (site_at sites d).text ≡ (site_at sites i).text

-- a candidate that shadows the others: none is declared in its scope
pub record IsVisible (sites : List Site) (i d : ℕ) : Type 0 where
  pub candidate : IsCandidate sites i d
  pub not_shadowed : (e : ℕ) → IsCandidate sites i e → InScope sites d e → ⊥

-- the one declaration that a use binds to
pub record Binds (sites : List Site) (i d : ℕ) : Type 0 where
  pub is_use : (site_at sites i).role ≡ Use
  pub visible : IsVisible sites i d
  pub only : (e : ℕ) → IsVisible sites i e → e ≡ d

-- what a name refers to: a declaration to itself, a use to what it binds to
abbrev pub RefersTo : List Site → ℕ → ℕ → Type 0
RefersTo sites i d = (is_declaration (site_at sites i).role × (d ≡ i)) ⊎ Binds sites i d

-- what a token refers to, where it is a name
abbrev pub IsTarget : List Site → ℕ → Option ℕ → Type 0
IsTarget sites i None = (site_at sites i).role ≡ Plain
IsTarget sites i (Some d) = RefersTo sites i d

-- what each token refers to
pub record IsBinding (sites : List Site) (targets : List (Option ℕ)) : Type 0 where
  pub size : length targets ≡ length sites
  pub each : (i : ℕ) → i < length sites → IsTarget sites i (slice_index_or targets i None)

-- d is a parameter after the parameter e in one list of parameters
pub record IsLaterParam (sites : List Site) (e d : ℕ) : Type 0 where
  pub first : (site_at sites e).role ≡ Param
  pub second : (site_at sites d).role ≡ Param
  pub method : (site_at sites e).method ≡ (site_at sites d).method
  pub after : e < d

-- d is declared in the scope of e, which has its name, or after it in one list of parameters
pub record Redeclares (sites : List Site) (e d : ℕ) : Type 0 where
  pub declared : is_declaration (site_at sites d).role
  pub spelling : (site_at sites e).text ≡ (site_at sites d).text
  pub scope : InScope sites e d ⊎ IsLaterParam sites e d

-- no local or parameter is declared in the scope of one of the same name in the same method
abbrev pub KeepsRule : List Site → Type 0
KeepsRule sites = (e d : ℕ) → Redeclares sites e d → ⊥
