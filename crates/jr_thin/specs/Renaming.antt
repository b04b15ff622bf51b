-- What a rename of a local or parameter answers.
use Rattle.std.specs.Prelude.{◌≡◌, ℕ, ◌<◌, List, length, Option, Some, None, slice_index_or}
use Rattle.jr_base.specs.Identifiers.{IsIdentifier}
use Rattle.jr_base.specs.declared.ids.OccId.{OccId}
use Rattle.jr_base.specs.declared.ids.DeclId.{DeclId}
use Rattle.jr_base.specs.declared.token.Token.{Token}
use Rattle.jr_escapes.specs.Escapes.{HasNoBadEscape}
use Rattle.jr_thin.specs.declared.answers.Renaming.{Renaming}
use Rattle.jr_thin.specs.declared.answers.Renaming.TheVariants.{NotServed, NoSpelling, BrokenRule, Renamed}
use Rattle.jr_thin.specs.Trees.{ThinClass, ReadsThin}
use Rattle.jr_thin.specs.Sites.{site_at, sites_of}
use Rattle.jr_thin.specs.Scopes.{IsBinding, IsTarget, KeepsRule, Redeclares}
use Rattle.jr_base.specs.Respelled.{respelled}
use Rattle.jr_thin.specs.Text.{Covers, span_at, choices}

-- The rename of the name at an offset is served: the file is a class without a bad escape in its comments (JLS 3.3) all of whose names bind and which keeps the rule,
-- the offset lies in the name of a local or parameter, and the new name is an identifier.
pub record Serves (old : List ℕ) (at : ℕ) (name : List ℕ) : Type 0 where
  pub tokens : List Token
  pub tree : ThinClass
  pub reads : ReadsThin old tokens tree
  pub plain : HasNoBadEscape old tokens
  pub targets : List (Option ℕ)
  pub binding : IsBinding (sites_of tree) targets
  pub rule : KeepsRule (sites_of tree)
  pub asked : ℕ
  pub covers : Covers tokens (sites_of tree) at asked
  pub declaration : ℕ
  pub declared : slice_index_or targets asked None ≡ Some declaration
  pub identifier : IsIdentifier name

-- The changed text: just the names of that declaration are spelled anew, and the text reads as a class.
pub record Changes (old : List ℕ) (at : ℕ) (name new : List ℕ) : Type 0 where
  pub serves : Serves old at name
  pub change : new ≡ respelled old 0 (choices serves.declaration name serves.tokens serves.targets)
  pub tokens : List Token
  pub tree : ThinClass
  pub reads : ReadsThin new tokens tree

-- the name i of the changed text refers to the declaration that it had; a declaration keeps the index of its token, and its node
abbrev pub KeepsTarget : {old : List ℕ} {at : ℕ} {name new : List ℕ} → Changes old at name new → ℕ → Type 0
KeepsTarget c i = IsTarget (sites_of c.tree) i (slice_index_or c.serves.targets i None)

abbrev pub KeepsTargets : {old : List ℕ} {at : ℕ} {name new : List ℕ} → Changes old at name new → Type 0
KeepsTargets c = (i : ℕ) → i < length c.tokens → KeepsTarget c i

-- the occurrence whose Name is that node of the file, which is unit 2, after the prelude's
abbrev pub occurrence : ℕ → OccId
occurrence node = record { at = record { cu = record { 0 = 2 }; node = record { 0 = node } }; part = 0 }

abbrev pub declaration_id : ℕ → DeclId
declaration_id node = record { at = record { cu = record { 0 = 2 }; node = record { 0 = node } }; part = 0 }

-- the name i is the first of the changed text that does not bind to the declaration that it had
pub record IsFirstLost (old : List ℕ) (at : ℕ) (name : List ℕ) (i d : ℕ) : Type 0 where
  pub new : List ℕ
  pub changes : Changes old at name new
  pub inside : i < length changes.tokens
  pub had : slice_index_or changes.serves.targets i None ≡ Some d
  pub lost : KeepsTarget changes i → ⊥
  pub before : (j : ℕ) → j < i → KeepsTarget changes j

-- its node, its place in the old file and the node of its old declaration
pub record IsLost (old : List ℕ) (at : ℕ) (name : List ℕ) (occ : OccId) (place : ℕ) (lock : DeclId) : Type 0 where
  pub index : ℕ
  pub declaration : ℕ
  pub first : IsFirstLost old at name index declaration
  pub occurs : occ ≡ occurrence (site_at (sites_of first.changes.serves.tree) index).node
  pub starts : place ≡ (span_at first.changes.serves.tokens index).start
  pub locks : lock ≡ declaration_id (site_at (sites_of first.changes.serves.tree) declaration).node

-- every name keeps its declaration, and the first local or parameter that is declared in the scope of one of its name stands at that place of the changed text
pub record IsBroken (old : List ℕ) (at : ℕ) (name : List ℕ) (place : ℕ) : Type 0 where
  pub new : List ℕ
  pub changes : Changes old at name new
  pub kept : KeepsTargets changes
  pub declared : ℕ
  pub earlier : ℕ
  pub redeclares : Redeclares (sites_of changes.tree) earlier declared
  pub first : (e d : ℕ) → Redeclares (sites_of changes.tree) e d → d < declared → ⊥
  pub starts : place ≡ (span_at changes.tokens declared).start

-- the new bytes are the changed text, every name keeps its declaration and its node, and the rule is kept
pub record IsDone (old : List ℕ) (at : ℕ) (name new : List ℕ) : Type 0 where
  pub changes : Changes old at name new
  pub kept : KeepsTargets changes
  pub nodes : (i : ℕ) → (site_at (sites_of changes.tree) i).node ≡ (site_at (sites_of changes.serves.tree) i).node
  pub rule : KeepsRule (sites_of changes.tree)

abbrev pub IsRenaming : List ℕ → ℕ → List ℕ → Renaming → Type 0
IsRenaming old at name NotServed = Serves old at name → ⊥
IsRenaming old at name (NoSpelling occ place lock) = IsLost old at name occ place lock
IsRenaming old at name (BrokenRule place) = IsBroken old at name place
IsRenaming old at name (Renamed new) = IsDone old at name new.items
