-- From the bytes that were found to the decision on a rename.
use Rattle.std.proofs.Common.{◌≡◌, ◌≢◌, ℕ, ◌≤◌, List, [], ◌∷◌, length, Some, None, Option, sym, ap, subst, ◌∙◌}
use Rattle.std.specs.Prelude.{MatchOption}
use Rattle.jr_base.specs.declared.limits.Size.TheVariants.{File}
use Rattle.jr_base.specs.declared.request.Request.TheVariants.{Rename}
use Rattle.jr_store.specs.Image.{Image}
use Rattle.jr_thin.specs.Renaming.{Serves, IsLost, IsBroken, IsDone}
use Rattle.jr_top.specs.Changing.{IsPlanOf, IsTooLong}
use Rattle.jr_top.specs.Renaming.{Holds, IsUnserved, ForTold}
use Rattle.jr_top.specs.Decisions.{IsHeld, HoldsSome, DecidesFound, DecidesRename}
use Rattle.jr_top.specs.Engine.{IsPassedOn}
use Rattle.jr_top.specs.declared.decide.Decision.{Decision}
use Rattle.jr_top.specs.declared.decide.Decision.TheVariants.{Answer, Refuse, Change}
use Rattle.jr_top.specs.declared.decide.Found.{Found}
use Rattle.jr_top.specs.declared.status.Report.TheVariants.{Changed}
use Rattle.jr_top.specs.declared.status.Status.TheVariants.{Done, NoSpelling, BrokenRule, TooLarge, OutOfMemory}

same_some : {A : Type 0} (x y : A) → Some x ≡ Some y → x ≡ y
same_some x y e = cc

first_same : (p q : List ℕ) → p ∷ [] ≡ q ∷ [] → p ≡ q
first_same p q e = cc

some_of : (told : Option Image) (file bytes : List ℕ) (P : List ℕ → Type 0) → ForTold told (λ files. Holds files file bytes) → P bytes → HoldsSome told file P
some_of None file bytes P held p = tt
some_of (Some files) file bytes P held p = (bytes, held, p)

only_of : (told : Option Image) (file : List ℕ) (at : ℕ) (name bytes : List ℕ) → ForTold told (λ files. Holds files file bytes) → IsUnserved file bytes at name → IsPassedOn (Rename file at name) told
only_of None file at name bytes held unserved = tt
only_of (Some files) file at name bytes held unserved = λ b holds. subst (λ (x : List ℕ). IsUnserved file x at name) (same_some bytes b (sym held.there ∙ holds.there)) unserved

-- where the file is not held, the rename is left to the engine
pub none_held : (told : Option Image) (file : List ℕ) (at : ℕ) (name : List ℕ) → ForTold told (λ files. IsHeld files file None) → IsPassedOn (Rename file at name) told
none_held None file at name none = tt
none_held (Some files) file at name none = λ bytes holds. absurd (none bytes holds)

module _ (told : Option Image) (file name : List ℕ) (at before after : ℕ) (found : Found) (held : ForTold told (λ files. Holds files file found.bytes.items)) (one : found.paths.items ≡ file ∷ [])
    (short : length file ≤ 1024) where
  -- a decision on the bytes found is one on the rename
  chosen : (decision : Decision) → DecidesFound found at name decision → DecidesRename file at name told before after decision
  chosen (Answer (Done (Changed files))) (none, done) = (none, short, some_of told file found.bytes.items (λ bytes. IsDone bytes at name bytes) held done)
  chosen (Answer (Done other)) never = absurd never
  chosen (Answer (TooLarge File request)) (single, long) = (single, short, some_of told file found.bytes.items (λ bytes. IsTooLong bytes at name) held long)
  chosen (Answer (TooLarge other request)) never = absurd never
  chosen (Answer OutOfMemory) free = tt
  chosen (Answer other) never = absurd never
  chosen (Refuse (NoSpelling request occ place lock) paths) (single, unit, named, lost) =
      (single, unit, named ∙ one, short, some_of told file found.bytes.items (λ bytes. IsLost bytes at name occ place.at lock) held lost)
  chosen (Refuse (BrokenRule request rule place) paths) (single, six, unit, named, broken) =
      (single, six, unit, named ∙ one, short, some_of told file found.bytes.items (λ bytes. IsBroken bytes at name place.at) held broken)
  chosen (Refuse other paths) never = absurd never
  chosen (Change plan) (path, path_is, new, done, differs, fits, is) = (
    short,
    ap length is.steps,
    some_of told file found.bytes.items (λ old. (new : List ℕ) × IsDone old at name new × (new ≢ old) × (length new ≤ 1048576) × IsPlanOf file old new plan) held
        (new, done, differs, fits, subst (λ (p : List ℕ). IsPlanOf p found.bytes.items new plan) (first_same path file (sym path_is ∙ one)) is),
  )

  -- so is none, where the rename is left to the engine
  pub chosen_or_left : (decision : Option Decision) → MatchOption decision (Serves found.bytes.items at name → ⊥) (DecidesFound found at name)
      → MatchOption decision (IsPassedOn (Rename file at name) told) (DecidesRename file at name told before after)
  chosen_or_left (Some decision) decides = chosen decision decides
  chosen_or_left None unserved = only_of told file at name found.bytes.items held (short, unserved)
