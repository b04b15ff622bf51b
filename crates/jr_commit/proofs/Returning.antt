-- What a change has left can be taken back, and that gives the files of before.
use Rattle.std.proofs.Common.{◌≡◌, ◌≢◌, inl, inr, ℕ, ◌≤◌, List, [], ◌∷◌, length, Option, Some, None, refl, sym, ◌∙◌, ap, subst}
use Rattle.std.specs.Prelude.{IsSome}
use Rattle.std.specs.List.{AllByRecursion}
use Rattle.std.specs.FinMap as finite
use Rattle.std.proofs.lemmas.Option.{same_Some}
use Rattle.jr_base.specs.Files.{FileMap}
use Rattle.jr_store.specs.Image.{Image}
use Rattle.jr_store.specs.Replay.{image_of}
use Rattle.jr_store.specs.Sides.{IsNoneOf}
use Rattle.jr_commit.specs.Differences.{pairs, differences}
use Rattle.jr_commit.specs.Entries.{PlainEntry, names_of}
use Rattle.jr_commit.specs.Journal.{spelling, old_sides, new_sides, IsShaped, IsChange, IsIn}
use Rattle.jr_commit.specs.Planned.{IsPlan, HasEntries}
use Rattle.jr_commit.specs.Reading.{journal_at}
use Rattle.jr_commit.specs.Restoring.{journal_path, SameFiles}
use Rattle.jr_commit.specs.SidesAt.{SideAt, paths_of, with_sides}
use Rattle.jr_commit.specs.Undoing.{KeepsBoth, HoldsNew, IsUndoable, Undone, IsFirstEdited, exchanged}
use Rattle.jr_commit.specs.declared.entry.Version.{Version}
use Rattle.jr_commit.specs.declared.entry.Version.TheVariants.{Two}
use Rattle.jr_commit.proofs.Exact.{found_again, only_found}
use Rattle.jr_commit.proofs.Fields.{some_is}
use Rattle.jr_commit.proofs.Olds.{names_olds}
use Rattle.jr_commit.proofs.Planning.{changes_shaped, count_news}
use Rattle.jr_commit.proofs.Putting.{back, with_sides_at, with_sides_off}
use Rattle.jr_commit.proofs.Undoing.{news_held, olds_exchanged}
use Rattle.jr_commit.proofs.Values.{read_again, first_sides, second_sides, is_difference}

-- ---- the journal of a plan

-- The journal of a plan is in the grammar, with the differences as its entries.
pub differences_kept : (old new : FileMap) (journal at_journal at_gate : List ℕ) (steps : List SideAt) → IsPlan journal steps at_journal at_gate → journal ≡ spelling Two (differences old new) → steps ≢ [] → IsIn Two journal (differences old new)
differences_kept old new journal at_journal at_gate steps is journal_is some =
    let has : HasEntries journal steps = is.entries some in
    let made : Version × List PlainEntry = (Two, has.0) in
    let read : Version × List PlainEntry = (Two, differences old new) in
    let short : length (spelling Two (differences old new)) ≤ 50331648 = subst (λ (b : List ℕ). length b ≤ 50331648) journal_is has.1.short in
    let one : made ≡ read = some_is made read (sym (found_again Two journal has.0 has.1) ∙ ap journal_at journal_is ∙ read_again (pairs (finite.entries old) (finite.entries new)) short) in
    subst (λ (x : Version × List PlainEntry). IsIn Two journal x.1) one has.1

pub as_many_steps : (old new : FileMap) → length (new_sides (differences old new)) ≡ length (differences old new)
as_many_steps old new = count_news (pairs (finite.entries old) (finite.entries new))

-- ---- the files left

holds_sides : (g : Image) (new : FileMap) (es : List PlainEntry) → SameFiles g (image_of new) → AllByRecursion IsChange es → AllByRecursion (λ e. e.2 ≡ Some (finite.get new e.0)) es → AllByRecursion (HoldsNew g) es
holds_sides g new [] same changes sides = tt
holds_sides g new (e ∷ es) same changes sides = (sides.0 ∙ ap Some (sym (same e.0 changes.0.java)), holds_sides g new es same changes.1 sides.1)

-- where the journal of the differences stands and the files are the new ones, the change can be taken back
pub undoable_between : (old new : FileMap) (journal : List ℕ) (g : Image) → IsIn Two journal (differences old new) → g journal_path ≡ Some journal → SameFiles g (image_of new) → IsUndoable g (differences old new)
undoable_between old new journal g is at same = record {
  journal = (journal, at, is);
  holds = holds_sides g new (differences old new) same is.changes (second_sides old new (differences old new) (is_difference old new).sides);
}

olds_as : (g : Image) (old : FileMap) (es : List PlainEntry) → ((q : List ℕ) → g q ≡ finite.get old q) → AllByRecursion (λ e. e.1 ≡ Some (finite.get old e.0)) es → AllByRecursion (λ e. g e.0 ≡ e.1) (old_sides es)
olds_as g old [] same at = tt
olds_as g old ((path, None, new) ∷ es) same at = olds_as g old es same at.1
olds_as g old ((path, Some side, new) ∷ es) same at = (same path ∙ sym (same_Some side (finite.get old path) at.0), olds_as g old es same at.1)

-- taken back, it gives the old files
pub gives_old : (old new : FileMap) (g h : Image) → SameFiles g (image_of new) → Undone (differences old new) g h → SameFiles h (image_of old)
gives_old old new g h same undone q java =
    let es = differences old new in
    let diff = is_difference old new in
    let shaped = changes_shaped (pairs (finite.entries old) (finite.entries new)) in
    undone q java
    ∙ back (old_sides es) g (image_of old) q (olds_as (image_of old) old es (λ _. refl) (first_sides old new es diff.sides))
    (λ off. same q java ∙ sym (diff.others q (subst (λ (ps : List (List ℕ)). IsNoneOf ps q) (names_olds Two es shaped) off)))

-- ---- a change back, taken back in its turn

-- what undoes an undo gives the files that the undo found
pub gives_undone : (bytes : List ℕ) (es : List PlainEntry) (f g h : Image) → IsIn Two bytes es → AllByRecursion (HoldsNew f) es → Undone es f g → Undone (exchanged es) g h → SameFiles h f
gives_undone bytes es f g h is held first second q java =
    second q java
    ∙ ap (λ (l : List SideAt). with_sides l g q) (olds_exchanged es)
    ∙ back (new_sides es) g f q (news_held f es held)
    (λ off. first q java ∙ with_sides_off (old_sides es) f q (subst (λ (ps : List (List ℕ)). IsNoneOf ps q) (names_news es is.shaped ∙ sym (names_olds Two es is.shaped)) off))
  where
    names_news : (es : List PlainEntry) → AllByRecursion (IsShaped Two) es → paths_of (new_sides es) ≡ names_of es
    names_news [] shaped = refl
    names_news ((path, old, None) ∷ es) shaped = let new : IsSome {T = Option (List ℕ)} None = shaped.0.new in absurd cc
    names_news ((path, old, Some new) ∷ es) shaped = ap (λ (l : List (List ℕ)). path ∷ l) (names_news es shaped.1)

-- ---- one journal has one list of entries

pub one_kept : (f : Image) (es others : List PlainEntry) → KeepsBoth f es → KeepsBoth f others → others ≡ es
one_kept f es others first second =
    let bytes_are : second.0 ≡ first.0 = same_Some second.0 first.0 (sym second.1 ∙ first.1) in
    let is : IsIn Two first.0 others = subst (λ (b : List ℕ). IsIn Two b others) bytes_are second.2 in
    (only_found first.0 (Two, es) 2 others (found_again Two first.0 es first.2) (Two, refl, is)).1

-- where each path holds its new side, none was edited
pub none_edited : (f : Image) (es : List PlainEntry) (path : List ℕ) → AllByRecursion (HoldsNew f) es → IsFirstEdited f es path → ⊥
none_edited f [] path held edited = edited
none_edited f (e ∷ es) path held (inl (differs, is)) = differs held.0
none_edited f (e ∷ es) path held (inr (here, rest)) = none_edited f es path held.1 rest

-- the files undone do not depend on anything but the files
pub undone_from : (es : List PlainEntry) (f g h : Image) → SameFiles f g → Undone es f h → Undone es g h
undone_from es f g h same undone q java = undone q java ∙ with_sides_at (old_sides es) f g q (same q java)
