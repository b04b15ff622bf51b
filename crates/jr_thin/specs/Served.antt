-- What is known of a file while a rename is decided.
use Rattle.std.specs.Prelude.{◌≡◌, ℕ, ◌≤◌, List, [], ◌∷◌, length, Option, Some, None, slice_index_or}
use Rattle.jr_base.specs.Identifiers.{IsIdentifier}
use Rattle.jr_base.specs.declared.token.Token.{Token}
use Rattle.jr_thin.specs.declared.sites.Site.{Site}
use Rattle.jr_base.specs.Reading.{Lex}
use Rattle.jr_escapes.specs.Escapes.{HasNoBadEscape}
use Rattle.jr_thin.specs.declared.answers.Renaming.{Renaming}
use Rattle.jr_thin.specs.declared.answers.Renaming.TheVariants.{NoSpelling, BrokenRule}
use Rattle.jr_thin.specs.Clashes.{IsLostUse, IsFirstLostUse}
use Rattle.jr_thin.specs.Renaming.{occurrence, declaration_id}
use Rattle.jr_thin.specs.Trees.{ThinClass, ReadsThin}
use Rattle.jr_thin.specs.Sites.{site_at, sites_of}
use Rattle.jr_thin.specs.Scopes.{IsBinding, KeepsRule}
use Rattle.jr_thin.specs.Text.{Covers, span_at}

-- the file is a class without a bad escape in its comments, with what each token is and refers to, and keeps the rule
pub record IsRead (bytes : List ℕ) (tokens : List Token) (sites : List Site) (targets : List (Option ℕ)) : Type 0 where
  pub tree : ThinClass
  pub reads : ReadsThin bytes tokens tree
  pub plain : HasNoBadEscape bytes tokens
  pub same : sites ≡ sites_of tree
  pub size : length sites ≡ length tokens
  pub only : (others : List Token) (tree : ThinClass) → ReadsThin bytes others tree → (tokens ≡ others) × (sites ≡ sites_of tree)
  pub binding : IsBinding sites targets
  pub rule : KeepsRule sites

-- the file is no such class
abbrev pub IsUnread : List ℕ → Type 0
IsUnread bytes = (tokens : List Token) (tree : ThinClass) (targets : List (Option ℕ)) → ReadsThin bytes tokens tree → HasNoBadEscape bytes tokens → IsBinding (sites_of tree) targets → KeepsRule (sites_of tree) → ⊥

-- the rename of the declaration at the offset is served
pub record IsServed (bytes : List ℕ) (at : ℕ) (name : List ℕ) (tokens : List Token) (sites : List Site) (targets : List (Option ℕ)) (declaration : ℕ) : Type 0 where
  pub read : IsRead bytes tokens sites targets
  pub asked : ℕ
  pub covers : Covers tokens sites at asked
  pub declared : slice_index_or targets asked None ≡ Some declaration
  pub identifier : IsIdentifier name

-- the tokens of a text, which has no others, and no bad escape between them
abbrev pub AreTokens : List ℕ → List Token → Type 0
AreTokens bytes tokens = Lex bytes tokens × ((others : List Token) → Lex bytes others → tokens ≡ others) × HasNoBadEscape bytes tokens

-- the tokens stand one after another, from a place up to another
abbrev pub SpansRise : ℕ → ℕ → List Token → Type 0
SpansRise from to [] = from ≤ to
SpansRise from to (t ∷ ts) = (from ≤ t.span.start) × (t.span.start ≤ t.span.end) × SpansRise t.span.end to ts

-- the same, from a place on
abbrev pub RiseFrom : ℕ → List Token → Type 0
RiseFrom from tokens = (to : ℕ) × SpansRise from to tokens

-- Where the declarations first and last have one name now: the first lost use with its node, its place and the node of its
-- declaration, or that none is lost, and the place of the last in the changed text.
abbrev pub IsRefusal : List Token → List Site → List (Option ℕ) → List Token → ℕ → ℕ → Renaming → Type 0
IsRefusal tokens sites targets changed first last (NoSpelling occ place lock) =
    (u : ℕ) × (d : ℕ) × IsFirstLostUse sites targets first last u × (slice_index_or targets u None ≡ Some d)
    × (occ ≡ occurrence (site_at sites u).node) × (place ≡ (span_at tokens u).start) × (lock ≡ declaration_id (site_at sites d).node)
IsRefusal tokens sites targets changed first last (BrokenRule place) =
    ((u : ℕ) → IsLostUse sites targets first last u → ⊥) × (place ≡ (span_at changed last).start)
IsRefusal tokens sites targets changed first last other = ⊥
