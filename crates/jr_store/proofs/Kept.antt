-- One more call joins those that a store has had.
use Rattle.std.proofs.Common.{◌≡◌, ◌≢◌, ◌⊎◌, inl, inr, ⊎_elim, ℕ, zero, suc, get_or, ◌<◌, ◌+◌, List, [], ◌∷◌, ◌++◌, length, take, refl, sym, ◌∙◌, ap, subst, arith, length-append}
use Rattle.std.proofs.lemmas.Bool.{cases_lt}
use Rattle.std.proofs.lemmas.List.{take-append-le}
use Rattle.std.specs.Prelude.{Option, Some, None, Result, Ok, Err, OnOk, OnErr}
use Rattle.jr_base.specs.Files.{FileMap}
use Rattle.jr_store.specs.Calls.{Call}
use Rattle.jr_store.specs.Image.{Image, ChangesOnly, Puts, Tells, Follows, OnlyTold, Elapses}
use Rattle.jr_store.specs.MemoryLaws.{all_taken}
use Rattle.jr_store.specs.Replay.{State, IsLeft, LeftIn, KeepsOne, state_of, image_of, after_call, after_calls}
use Rattle.jr_store.specs.Sides.{put_side}
use Rattle.jr_store.proofs.Putting.{same_or_not, put_here, put_elsewhere}
use Rattle.jr_store.specs.declared.record.Action.{Action}
use Rattle.jr_store.specs.declared.record.Action.TheVariants.{Wrote, Removed, Unsure, Synced}

pub after_push : (calls : List Call) (call : Call) (s : State) → after_calls (calls ++ call ∷ []) s ≡ after_call call (after_calls calls s)
after_push [] call s = refl
after_push (x ∷ calls) call s = after_push calls call (after_call x s)

pub state_push : (files : FileMap) (old new : List Call) (call : Call) → new ≡ old ++ call ∷ [] → state_of files new ≡ after_call call (state_of files old)
state_push files old new call kept = ap (state_of files) kept ∙ after_push old call (image_of files, [])

module _ (files : FileMap) (old : List Call) (call : Call) where
  elapses_push : Elapses (length old) (length (old ++ call ∷ [])) (LeftIn files old) (LeftIn files (old ++ call ∷ [])) (IsLeft (state_of files (old ++ call ∷ [])))
  elapses_push = record {
    later = omega (arith, length-append old (call ∷ []));
    nothing_else = λ t c le left. elim (cases_lt (length old) left.0) [
      | inr within ↦ inl (left.0, left.1, within, subst (λ (l : List Call). IsLeft (state_of files l) c) (take-append-le left.0 old (call ∷ []) within) left.3)
      | inl past ↦ inr (subst (λ s. IsLeft s c) (all_taken files (old ++ call ∷ []) left.0 (omega (arith, past, length-append old (call ∷ [])))) left.3)
    ];
    keeps = λ t c le left. (left.0, left.1, omega (arith, left.2, length-append old (call ∷ [])), subst (λ (l : List Call). IsLeft (state_of files l) c) (sym (take-append-le left.0 old (call ∷ []) left.2)) left.3);
  }

-- a path more is pending, where a side is put: what may be left was left before, but for that path
pending_crash : (s : State) (path : List ℕ) (f : Image) → ((q : List ℕ) → q ≢ path → f q ≡ s.0 q) → Follows (ChangesOnly path) (IsLeft s) (IsLeft (f, path ∷ s.1))
pending_crash s path f same c left = (
  put_side path (s.0 path) c,
  λ q none. ⊎_elim (λ here. put_here path q (s.0 path) c here ∙ ap s.0 (sym here)) (λ other. put_elsewhere path q (s.0 path) c other ∙ left q (other, none) ∙ same q other) (same_or_not q path),
  λ q other. sym (put_elsewhere path q (s.0 path) c other),
)

-- an action that changes what reads give at this path at most, and leaves it pending
abbrev pub Touches : Action → List ℕ → List ℕ → Type 0
Touches action path bytes =
    (number : ℕ) (s : State) →
    let call : Call = record { number = number; action = action; path = path; bytes = bytes } in
    (f : Image) × (after_call call s ≡ (f, path ∷ s.1)) × ((q : List ℕ) → q ≢ path → f q ≡ s.0 q)

pub wrote_touches : (path bytes : List ℕ) → Touches Wrote path bytes
wrote_touches path bytes number s = (put_side path (Some bytes) s.0, refl, λ q other. put_elsewhere path q (Some bytes) s.0 other)

pub removed_touches : (path bytes : List ℕ) → Touches Removed path bytes
removed_touches path bytes number s = (put_side path None s.0, refl, λ q other. put_elsewhere path q None s.0 other)

unsure_touches : (path bytes : List ℕ) → Touches Unsure path bytes
unsure_touches path bytes number s = (s.0, refl, λ q other. refl)

-- what a store in memory tells and leaves after a write or a removal: the record as it was, or one call more
module _ (fa fn : FileMap) (same_files : fn ≡ fa) (old new : List Call) where
  abbrev Time : Type 0
  Time = Elapses (length old) (length new) (LeftIn fa old) (LeftIn fn new) (IsLeft (state_of fn new))

  time_at : ((files : FileMap) → Elapses (length old) (length new) (LeftIn files old) (LeftIn files new) (IsLeft (state_of files new))) → Time
  time_at at = subst (λ (l : FileMap). Elapses (length old) (length new) (LeftIn fa old) (LeftIn l new) (IsLeft (state_of l new))) (sym same_files) (at fa)

  pub time_same : new ≡ old → Time
  time_same same = time_at (λ files.
      subst (λ (l : List Call). Elapses (length old) (length l) (LeftIn files old) (LeftIn files l) (IsLeft (state_of files l))) (sym same)
      (record { later = omega arith; nothing_else = λ t c le left. inl left; keeps = λ t c le left. left }))

  pub time_more : (call : Call) → new ≡ old ++ call ∷ [] → Time
  time_more call kept = time_at (λ files.
      subst (λ (l : List Call). Elapses (length old) (length l) (LeftIn files old) (LeftIn files l) (IsLeft (state_of files l))) (sym kept) (elapses_push files old call))

  same_state : new ≡ old → state_of fa old ≡ state_of fn new
  same_state same = sym (ap (state_of fn) same ∙ ap (λ (l : FileMap). state_of l old) same_files)

  kept_state : (call : Call) → new ≡ old ++ call ∷ [] → after_call call (state_of fa old) ≡ state_of fn new
  kept_state call kept = sym (state_push fn old new call kept ∙ ap (λ (l : FileMap). after_call call (state_of l old)) same_files)

  module _ (path bytes : List ℕ) where
    abbrev ToldTo : State → Type 0
    ToldTo s = Tells (Some (state_of fa old).0) (Some s.0) (ChangesOnly path)

    abbrev LeftTo : State → Type 0
    LeftTo s = Follows (ChangesOnly path) (IsLeft (state_of fa old)) (IsLeft s)

    told_more : (action : Action) → Touches action path bytes → KeepsOne action path bytes old new → ToldTo (state_of fn new)
    told_more action touches kept =
        let t = touches kept.0 (state_of fa old) in
        subst ToldTo (sym t.1 ∙ kept_state _ kept.1) t.2

    left_more : (action : Action) → Touches action path bytes → KeepsOne action path bytes old new → LeftTo (state_of fn new)
    left_more action touches kept =
        let t = touches kept.0 (state_of fa old) in
        subst LeftTo (sym t.1 ∙ kept_state _ kept.1) (pending_crash (state_of fa old) path t.0 t.2)

    module _ {T E : Type 0} (action : Action) (r : Result T E) (touches : Touches action path bytes) (ok : OnOk r (KeepsOne action path bytes old new)) (err : OnErr r ((new ≡ old) ⊎ KeepsOne Unsure path bytes old new)) where
      pub change_told : ToldTo (state_of fn new)
      change_told = at r ok err
        where
          at : (r : Result T E) → OnOk r (KeepsOne action path bytes old new) → OnErr r ((new ≡ old) ⊎ KeepsOne Unsure path bytes old new) → ToldTo (state_of fn new)
          at (Ok v) ok err = told_more action touches ok
          at (Err e) ok err = ⊎_elim (λ same. subst ToldTo (same_state same) (λ q other. refl)) (told_more Unsure (unsure_touches path bytes)) err

      pub change_crash : LeftTo (state_of fn new)
      change_crash = at r ok err
        where
          at : (r : Result T E) → OnOk r (KeepsOne action path bytes old new) → OnErr r ((new ≡ old) ⊎ KeepsOne Unsure path bytes old new) → LeftTo (state_of fn new)
          at (Ok v) ok err = left_more action touches ok
          at (Err e) ok err = ⊎_elim (λ same. subst LeftTo (same_state same) (λ c left. (c, left, λ q other. refl))) (left_more Unsure (unsure_touches path bytes)) err

      pub change_time : Time
      change_time = at r ok err
        where
          at : (r : Result T E) → OnOk r (KeepsOne action path bytes old new) → OnErr r ((new ≡ old) ⊎ KeepsOne Unsure path bytes old new) → Time
          at (Ok v) ok err = time_more _ ok.1
          at (Err e) ok err = ⊎_elim time_same (λ kept. time_more _ kept.1) err

    pub puts : {T E : Type 0} (action : Action) (side : Option (List ℕ)) (r : Result T E) → ((number : ℕ) (s : State) → let call : Call = record { number = number; action = action; path = path; bytes = bytes } in after_call call s ≡ (put_side path side s.0, path ∷ s.1)) → OnOk r (KeepsOne action path bytes old new)
        → OnOk r (Tells (Some (state_of fa old).0) (Some (state_of fn new).0) (Puts path side))
    puts action side (Ok v) sides kept =
        subst (λ (s : State). Puts path side (state_of fa old).0 s.0) (sym (sides kept.0 (state_of fa old)) ∙ kept_state _ kept.1)
        (put_here path path side (state_of fa old).0 refl, λ q other. put_elsewhere path q side (state_of fa old).0 other)
    puts action side (Err e) sides kept = tt

  -- a sync: what reads give stays, and a crash leaves that alone
  module _ (number : ℕ) where
    abbrev pub sync_call : Call
    sync_call = record { number = number; action = Synced; path = []; bytes = [] }

    abbrev pub Syncs : Type 0
    Syncs = new ≡ old ++ sync_call ∷ []

    pub sync_told : {T E : Type 0} (r : Result T E) → OnOk r Syncs → OnErr r (new ≡ old) → (state_of fn new).0 ≡ (state_of fa old).0
    sync_told (Ok v) kept same = ap (λ (s : State). s.0) (sym (kept_state sync_call kept))
    sync_told (Err e) kept same = ap (λ (s : State). s.0) (sym (same_state same))

    pub sync_only : {T E : Type 0} (r : Result T E) → OnOk r Syncs → OnOk r (OnlyTold (Some (state_of fa old).0) (IsLeft (state_of fn new)))
    sync_only (Ok v) kept = subst (λ (s : State). (c : Image) → IsLeft s c → c ≡ (state_of fa old).0) (kept_state sync_call kept) (λ c left i q. left q tt i)
    sync_only (Err e) kept = tt

    pub sync_crash : {T E : Type 0} (r : Result T E) → OnOk r Syncs → OnErr r (new ≡ old) → (c : Image) → IsLeft (state_of fn new) c → IsLeft (state_of fa old) c
    sync_crash (Ok v) kept same c left = let l = subst (λ (s : State). IsLeft s c) (sym (kept_state sync_call kept)) left in λ q none. l q tt
    sync_crash (Err e) kept same c left = subst (λ (s : State). IsLeft s c) (sym (same_state same)) left

    pub sync_time : {T E : Type 0} (r : Result T E) → OnOk r Syncs → OnErr r (new ≡ old) → Time
    sync_time (Ok v) kept same = time_more sync_call kept
    sync_time (Err e) kept same = time_same same

pub taken_next : (calls : List Call) (k : ℕ) (call : Call) → k < length calls → call ≡ get_or calls k call → take (k + 1) calls ≡ take k calls ++ call ∷ []
taken_next [] k call lt is = absurd (omega arith)
taken_next (x ∷ calls) zero call lt is = λ i. sym is i ∷ []
taken_next (x ∷ calls) (suc k) call lt is =
    let next : suc k + 1 ≡ suc (k + 1) = omega arith in
    ap (λ (n : ℕ). take n (x ∷ calls)) next ∙ ap (λ (l : List Call). x ∷ l) (taken_next calls k call (omega arith) is)
