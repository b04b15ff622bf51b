-- What a crash leaves, from recovery's end on.
use Rattle.std.proofs.Common.{◌≡◌, ◌≢◌, inl, ℕ, ◌≤◌, List, [], ◌∷◌, length, Bool, true, false, Some, None, Option, IsSome, refl, sym, ap, subst, ◌∙◌, arith}
use Rattle.std.specs.Prelude.{bytes_eq, if◌then◌else◌}
use Rattle.std.proofs.lemmas.Slice.Eq.{bytes_eq-Decides}
use Rattle.jr_commit.specs.Planned.{Planned, StartsCommit, KeepsJournal, ChangesOnlyPlanned}
use Rattle.jr_commit.specs.Restoring.{IsOpen, RestoresTo, SameFiles}
use Rattle.jr_commit.specs.SidesAt.{SideAt, with_sides, IsOff}
use Rattle.jr_commit.proofs.Phases.{shut_image}
use Rattle.jr_store.specs.Image.{Image, Tells}
use Rattle.jr_store.specs.Sides.{put_side}
use Rattle.jr_thin.specs.Renaming.{IsDone}
use Rattle.jr_top.specs.Changing.{IsCommitted, IsPlanOf}
use Rattle.jr_top.specs.Crash.{StandsForChange, IsSettled}
use Rattle.jr_top.specs.Performing.{IsTaken}
use Rattle.jr_top.specs.Renaming.{AsksRename, Holds}

pub put_here : (p : List ℕ) (side : Option (List ℕ)) (f : Image) → put_side p side f p ≡ side
put_here p side f = ap (λ (b : Bool). if b then side else f p) ((bytes_eq-Decides p p).1 refl)

pub put_off : (p : List ℕ) (side : Option (List ℕ)) (f : Image) (q : List ℕ) → q ≢ p → put_side p side f q ≡ f q
put_off p side f q other = decided (bytes_eq q p) refl
  where
    decided : (b : Bool) → bytes_eq q p ≡ b → put_side p side f q ≡ f q
    decided true is = absurd (other ((bytes_eq-Decides q p).0 is))
    decided false is = ap (λ (b : Bool). if b then side else f q) is

pub restores_same : (c a b : Image) → RestoresTo c a → SameFiles a b → RestoresTo c b
restores_same c a b stands same = (stands.0, stands.1, λ q java. stands.2 q java ∙ same q java)

pub holds_same : (f r : Image) (file bytes : List ℕ) → SameFiles f r → Holds f file bytes → Holds r file bytes
holds_same f r file bytes same holds = record {
  only = (holds.only.0, λ path java there. holds.only.1 path java (subst IsSome (sym (same path java)) there));
  there = sym (same file holds.only.0) ∙ holds.there;
  small = holds.small;
}

pub holds_back : (f r : Image) (file bytes : List ℕ) → SameFiles f r → Holds r file bytes → Holds f file bytes
holds_back f r file bytes same holds = holds_same r f file bytes (λ q java. sym (same q java)) holds

pub settled_stands : (f r : Image) (outcomes : Image → Type 0) → IsSettled f r outcomes → (c : Image) → outcomes c → RestoresTo c r
settled_stands f r outcomes settled c left = shut_image c r (settled.left c left).0 (settled.left c left).1

-- the plan's only step is at the file
pub off_one : (file old new : List ℕ) (plan : Planned) → IsPlanOf file old new plan → (q : List ℕ) → q ≢ file → IsOff plan.steps q
off_one file old new plan is q other = subst (λ (ss : List SideAt). IsOff ss q) (sym is.steps) (other, tt)

one_long : (ss : List SideAt) (s : SideAt) → ss ≡ s ∷ [] → length ss ≡ 1
one_long ss s is = ap length is

none_long : (ss : List SideAt) → ss ≡ [] → length ss ≡ 0
none_long ss is = ap length is

module _ (f : Image) (file old new : List ℕ) (plan : Planned) (holds : Holds f file old) (is : IsPlanOf file old new plan) where
  pub starts : (r : Image) (outcomes : Image → Type 0) → IsSettled f r outcomes → StartsCommit f outcomes plan
  starts r outcomes settled = record {
    shut = settled.shut;
    gate = λ c left. (settled.left c left).0;
    files = λ c left q java. (settled.left c left).1 q java ∙ sym (settled.same q java);
    olds = is.olds f holds;
  }

  pub some_step : plan.steps ≢ []
  some_step none = absurd (omega (arith, one_long plan.steps (file, Some new) is.steps, none_long plan.steps none))

  after_is : with_sides plan.steps f ≡ put_side file (Some new) f
  after_is = ap (λ (ss : List SideAt). with_sides ss f) is.steps

  module _ (at : ℕ) (name : List ℕ) (done : IsDone old at name new) (differs : new ≢ old) (fits : length new ≤ 1048576) where
    pub stands_changed : (words : List (List ℕ)) (r c : Image) → AsksRename words file at name → SameFiles f r → RestoresTo c (with_sides plan.steps f) → StandsForChange words r c
    stands_changed words r c asked same stands = inl (
      file,
      at,
      name,
      asked,
      put_side file (Some new) r,
      record {
        before = old;
        after = new;
        held = holds_same f r file old same holds;
        renamed = done;
        differs = differs;
        fits = fits;
        there = put_here file (Some new) r;
        others = λ q java other. put_off file (Some new) r q other;
      },
      restores_same c (with_sides plan.steps f) (put_side file (Some new) r) stands
          (λ q java. ap (λ (h : Image). h q) after_is ∙ ap (λ (o : Option (List ℕ)). if bytes_eq q file then Some new else o) (same q java)),
    )

    pub committed : (g : Image) → IsTaken plan f g → IsCommitted file at name f g
    committed g taken =
        let there : g file ≡ Some new = taken.files file holds.only.0 ∙ ap (λ (h : Image). h file) after_is ∙ put_here file (Some new) f in
        record {
          changed = record {
            before = old;
            after = new;
            held = holds;
            renamed = done;
            differs = differs;
            fits = fits;
            there = there;
            others = λ q java other. taken.files q java ∙ ap (λ (h : Image). h q) after_is ∙ put_off file (Some new) f q other;
          };
          journal = (taken.journal some_step).0 ∙ ap Some is.journal;
          undoable = record { journal = (plan.journal, (taken.journal some_step).0, is.kept); holds = (ap Some (sym there), tt) };
          gate = (taken.journal some_step).1;
          others = λ q other no_journal no_gate. taken.others q no_journal no_gate (off_one file old new plan is q other);
        }

    -- what is left by a change that is done stands for it
    pub stands_committed : (words : List (List ℕ)) (r g : Image) → AsksRename words file at name → SameFiles f r → IsTaken plan f g → (IsOpen g → ⊥) → StandsForChange words r g
    stands_committed words r g asked same taken shut = stands_changed words r g asked same (shut_image g (with_sides plan.steps f) shut taken.files)

pub taken_all : (a b : Option Image) (plan : Planned) → Tells a b (λ f g. SameFiles g (with_sides plan.steps f)) → Tells a b (ChangesOnlyPlanned plan) → (plan.steps ≢ [] → Tells a b (λ f g. KeepsJournal plan g)) → Tells a b (IsTaken plan)
taken_all None None plan steps others journal = tt
taken_all None (Some g) plan steps others journal = steps
taken_all (Some f) None plan steps others journal = steps
taken_all (Some f) (Some g) plan steps others journal = record { files = steps; others = others; journal = journal }
