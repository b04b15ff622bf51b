-- A change that is done is taken back by an undo, which gives the files of before.
use Rattle.std.proofs.Common.{inl, inr, ⊎_elim, ℕ, List, [], ◌∷◌, length, Option, Some, None, sym, ap, subst, ◌∙◌}
use Rattle.std.proofs.lemmas.List.{length-map}
use Rattle.std.proofs.lemmas.Option.{none-some}
use Rattle.jr_base.specs.declared.request.Request.{Request}
use Rattle.jr_commit.specs.Differences.{differences}
use Rattle.jr_commit.specs.Entries.{PlainEntry}
use Rattle.jr_commit.specs.Restoring.{SameFiles}
use Rattle.jr_commit.specs.Undoing.{IsUndoable, IsFirstEdited, Undone, exchanged}
use Rattle.jr_commit.proofs.Putting.{same_or_not}
use Rattle.jr_commit.proofs.Returning.{as_many_steps, gives_old, gives_undone, one_kept, none_edited, undone_from}
use Rattle.jr_store.specs.Image.{Image, Tells}
use Rattle.jr_store.specs.Sides.{put_side}
use Rattle.jr_top.specs.Changing.{IsCommitted}
use Rattle.jr_top.specs.Engine.{IsReplaced}
use Rattle.jr_top.specs.Undoing.{IsNotUndoable, IsTakenBack, IsUndoAnswer, IsKept, GivesBack}
use Rattle.jr_top.specs.declared.status.Report.TheVariants.{Changed}
use Rattle.jr_top.specs.declared.status.Status.{Status}
use Rattle.jr_top.specs.declared.status.Status.TheVariants.{Done, NoUndo}
use Rattle.jr_top.proofs.Settled.{put_here, put_off}
use Rattle.jr_top.proofs.UndoAnswers.{undoable_same}

-- where a change can be taken back, an undo is not refused
not_refused : (f : Image) (es : List PlainEntry) → IsUndoable f es → (reason : ℕ) (path : Option (List ℕ)) → IsNotUndoable f reason path → ⊥
not_refused f es undoable reason None (inl (one, none)) = none-some undoable.journal.0 (sym none ∙ undoable.journal.1)
not_refused f es undoable reason None (inr (two, some, other)) = other es undoable.journal
not_refused f es undoable reason (Some path) (three, (others, kept, edited)) =
    none_edited f es path undoable.holds (subst (λ (l : List PlainEntry). IsFirstEdited f l path) (one_kept f es others undoable.journal kept) edited)

module _ (es : List PlainEntry) (old new : Image) (undoable : IsUndoable new es) (back : (last : Image) → Undone es new last → SameFiles last old) where
  gives_back : (later : Image) (left : Option Image) (said : Status) → IsKept new later → IsUndoAnswer later left said → GivesBack (length es) old left said
  gives_back later left (Done (Changed count)) kept (others, can, counted, tells) =
      let here = undoable_same new later (λ q java. sym (kept.0 q java)) (sym kept.1) es undoable in
      let one = one_kept later es others here.journal can.journal in
      (ap (λ (n : ℕ). Done (Changed n)) (counted ∙ ap length one), tell left (subst (λ (l : List PlainEntry). Tells (Some later) left (Undone l)) one tells))
    where
      tell : (l : Option Image) → Tells (Some later) l (Undone es) → Tells (Some old) l (λ was now. SameFiles now was)
      tell None never = absurd never
      tell (Some last) undone = back last (undone_from es later new last kept.0 undone)
  gives_back later left (Done other) kept never = absurd never
  gives_back later left (NoUndo reason path) kept (refused, same) = absurd (not_refused later es (undoable_same new later (λ q java. sym (kept.0 q java)) (sym kept.1) es undoable) reason path refused)
  gives_back later left other kept never = absurd never

-- a rename in a small file
pub renamed_back : (file : List ℕ) (at : ℕ) (name : List ℕ) (old new later : Image) (left : Option Image) (said : Status) → IsCommitted file at name old new → IsKept new later → IsUndoAnswer later left said → GivesBack 1 old left said
renamed_back file at name old new later left said is kept answer = gives_back ((file, Some (Some is.changed.before), Some (Some is.changed.after)) ∷ []) old new is.undoable back later left said kept answer
  where
    back : (last : Image) → Undone ((file, Some (Some is.changed.before), Some (Some is.changed.after)) ∷ []) new last → SameFiles last old
    back last undone q java = undone q java ∙ ⊎_elim
        (λ here. ap (put_side file (Some is.changed.before) new) here ∙ put_here file (Some is.changed.before) new ∙ sym is.changed.held.there ∙ ap old (sym here))
        (λ other. put_off file (Some is.changed.before) new q other ∙ is.changed.others q java other) (same_or_not q file)

-- what the engine made
pub replaced_back : (requests : List Request) (count : ℕ) (old new later : Image) (left : Option Image) (said : Status) → IsReplaced requests count old new → IsKept new later → IsUndoAnswer later left said → GivesBack count old left said
replaced_back requests count old new later left said is kept answer =
    subst (λ (n : ℕ). GivesBack n old left said) (sym (is.counted ∙ as_many_steps is.found is.left))
    (gives_back (differences is.found is.left) old new is.undoable
    (λ last undone q java. gives_old is.found is.left new last is.files undone q java ∙ sym (is.holds.each q java)) later left said kept answer)

-- an undo
pub undone_back : (es : List PlainEntry) (old new later : Image) (left : Option Image) (said : Status) → IsTakenBack es old new → IsKept new later → IsUndoAnswer later left said → GivesBack (length es) old left said
undone_back es old new later left said is kept answer =
    subst (λ (n : ℕ). GivesBack n old left said) (length-map {B = PlainEntry} es (λ e. (e.0, e.2, e.1)))
    (gives_back (exchanged es) old new is.again
    (λ last undone. gives_undone is.undoable.journal.0 es old new last is.undoable.journal.2 is.undoable.holds is.files undone) later left said kept answer)
