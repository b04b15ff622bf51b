-- What becomes of the names of a method when one of its declarations takes the name of another.
use Rattle.std.specs.Prelude.{◌≡◌, ◌≢◌, ◌⊎◌, ℕ, ◌<◌, List, Option, Some, None, slice_index_or}
use Rattle.jr_thin.specs.declared.sites.Site.{Site}
use Rattle.jr_thin.specs.declared.sites.Role.TheVariants.{Param, Use}
use Rattle.jr_thin.specs.Sites.{site_at}
use Rattle.jr_thin.specs.Scopes.{is_declaration}

-- the token declares the name in the method
pub record IsNamed (site : Site) (method : ℕ) (name : List ℕ) : Type 0 where
  pub declared : is_declaration site.role
  pub own : site.method ≡ method
  pub spelling : site.text ≡ name

-- another declaration of the method has the name
pub record IsClash (sites : List Site) (name : List ℕ) (d e : ℕ) : Type 0 where
  pub declared : is_declaration (site_at sites e).role
  pub method : (site_at sites e).method ≡ (site_at sites d).method
  pub spelling : (site_at sites e).text ≡ name
  pub apart : e ≢ d

pub record AreParams (sites : List Site) (first last : ℕ) : Type 0 where
  pub first_is : (site_at sites first).role ≡ Param
  pub last_is : (site_at sites last).role ≡ Param

-- The declarations first and last have one name now. The use behind the last is lost where it binds to the first,
-- which the last shadows, and where both are parameters of one list.
pub record IsLostUse (sites : List Site) (targets : List (Option ℕ)) (first last u : ℕ) : Type 0 where
  pub is_use : (site_at sites u).role ≡ Use
  pub after : last < u
  pub had : (slice_index_or targets u None ≡ Some first) ⊎ ((slice_index_or targets u None ≡ Some last) × AreParams sites first last)

-- the first such use
pub record IsFirstLostUse (sites : List Site) (targets : List (Option ℕ)) (first last u : ℕ) : Type 0 where
  pub lost : IsLostUse sites targets first last u
  pub before : (j : ℕ) → j < u → IsLostUse sites targets first last j → ⊥

-- the same sites, with the name in the place of each name that refers to the declaration
pub record IsRespelled (old new : List Site) (targets : List (Option ℕ)) (d : ℕ) (name : List ℕ) : Type 0 where
  pub role : (i : ℕ) → (site_at new i).role ≡ (site_at old i).role
  pub method : (i : ℕ) → (site_at new i).method ≡ (site_at old i).method
  pub node : (i : ℕ) → (site_at new i).node ≡ (site_at old i).node
  pub chosen : (i : ℕ) → slice_index_or targets i None ≡ Some d → (site_at new i).text ≡ name
  pub kept : (i : ℕ) → slice_index_or targets i None ≢ Some d → (site_at new i).text ≡ (site_at old i).text
