-- What an image stands for while the old files are put back, and the calls of a recovery up to each of its exits.
use Rattle.std.proofs.Common.{◌≡◌, inl, inr, ⊎_elim, List, [], ◌∷◌, ℕ, false, refl, sym, ◌∙◌, ap, subst}
use Rattle.std.specs.Prelude.{Option, Some, None, IsTrue}
use Rattle.std.proofs.lemmas.Option.{same_Some, none-some}
use Rattle.jr_base.specs.Paths.{is_java}
use Rattle.jr_store.specs.Image.{Image, ChangesOnly, Puts, Tells, OnlyTold, Elapses, LeavesOnly}
use Rattle.jr_commit.specs.SidesAt.{SideAt, with_sides, paths_of, IsOff, ChangesOnlyOn, HasSides, After}
use Rattle.jr_commit.specs.Journal.{PutsBack}
use Rattle.jr_commit.specs.Restoring.{journal_path, gate_path, IsOpen, Restored, SameFiles, RestoresTo, StartsRecover, FindsOlds}
use Rattle.jr_commit.proofs.Olds.{java_of}
use Rattle.jr_commit.proofs.Putting.{put_same, with_sides_off}
use Rattle.jr_commit.proofs.Told.{IsTold, told_on, only_told}
use Rattle.jr_commit.proofs.Moments.{started, goes_on, goes_further}
use Rattle.jr_commit.proofs.Phases.{apart, off_all, journal_apart, gate_apart, gate_journal, open_or_not, shut_image}
use Rattle.jr_commit.proofs.Run.{after_only}

-- what is found of the entries in files that are told
abbrev pub IsFound : Image → List SideAt → Type 0
IsFound f es = (bytes : List ℕ) × (f journal_path ≡ Some bytes) × PutsBack bytes es × ((others : List SideAt) → PutsBack bytes others → others ≡ es)

pub found_on : (files : Option Image) (es : List SideAt) (f : Image) → files ≡ Some f → FindsOlds files journal_path es → IsFound f es
found_on None es f is found = absurd (none-some f is)
found_on (Some d) es f is found = subst (λ h. IsFound h es) (same_Some d f is) found

pub restored_is : (f r : Image) (es : List SideAt) → IsOpen f → IsFound f es → Restored f r → r ≡ with_sides es f
restored_is f r es open_gate found (inl shut) = absurd (shut.0 open_gate)
restored_is f r es open_gate found (inr way) =
    let same : way.1 ≡ found.0 = same_Some way.1 found.0 (sym way.3 ∙ found.1) in
    let one : way.2 ≡ es = found.3 way.2 (subst (λ b. PutsBack b way.2) same way.4) in
    way.5 ∙ ap (λ (l : List SideAt). with_sides l f) one

armed_as : (bytes : List ℕ) (es : List SideAt) (c f r : Image) → PutsBack bytes es → IsOpen c → c journal_path ≡ Some bytes → ((q : List ℕ) → IsTrue (is_java q) → IsOff es q → c q ≡ f q) → r ≡ with_sides es f → RestoresTo c r
armed_as bytes es c f r is open_gate at same whole =
    (with_sides es c, inr (open_gate, bytes, es, at, is, refl), λ q java. put_same es c f q (same q java) ∙ sym (ap (λ (h : Image). h q) whole))

here_by : (f r : Image) (outcomes : Image → Type 0) → StartsRecover f outcomes → Restored f r → (c : Image) → outcomes c → RestoresTo c r
here_by f r outcomes start (inl shut) c left =
    shut_image c r (λ open_gate. shut.0 (sym (start.gate c left) ∙ open_gate)) (λ q java. start.shut shut.0 c left q java ∙ sym (ap (λ (h : Image). h q) shut.1))
here_by f r outcomes start (inr way) c left =
    armed_as way.1 way.2 c f r way.4 (start.gate c left ∙ way.0) (start.journal way.0 c left ∙ way.3) (start.files way.1 way.2 way.0 way.3 way.4 c left) way.5

module _ {S : Type 0} (files : S → Option Image) (may_leave : S → Image → Type 0) (moment : S → ℕ) (left_since : S → ℕ → Image → Type 0)
    (f r : Image) (s0 : S) (told : files s0 ≡ Some f) (restored : Restored f r) (start : StartsRecover f (may_leave s0))
    (now : (c : Image) → left_since s0 (moment s0) c → may_leave s0 c) where
  abbrev Same : Image → Type 0
  Same c = RestoresTo c r

  pub here : (c : Image) → may_leave s0 c → RestoresTo c r
  here = here_by f r (may_leave s0) start restored

  pub at_start : LeavesOnly moment left_since s0 s0 Same
  at_start = started moment left_since s0 Same (λ c left. here c (now c left))

  module _ (s1 : S) (time1 : Elapses (moment s0) (moment s1) (left_since s0) (left_since s1) (may_leave s1)) (crash1 : (c : Image) → may_leave s1 c → may_leave s0 c) where
    pub read_run : LeavesOnly moment left_since s0 s1 Same
    read_run = goes_on moment left_since s0 s0 s1 Same (may_leave s1) at_start time1 (λ c left. here c (crash1 c left))

    -- the gate read as closed
    pub clean : (IsOpen f → ⊥) → (c : Image) → may_leave s1 c → (IsOpen c → ⊥) × SameFiles c r
    clean shut c left =
        let was = crash1 c left in
        (λ open_gate. shut (sym (start.gate c was) ∙ open_gate), λ q java. start.shut shut c was q java ∙ sym (ap (λ (h : Image). h q) (⊎_elim (λ way. way.1) (λ way. absurd (shut way.0)) restored)))

    module _ (s2 : S) (time2 : Elapses (moment s1) (moment s2) (left_since s1) (left_since s2) (may_leave s2)) (crash2 : (c : Image) → may_leave s2 c → may_leave s1 c) where
      pub entries_run : LeavesOnly moment left_since s0 s2 Same
      entries_run = goes_on moment left_since s0 s1 s2 Same (may_leave s2) read_run time2 (λ c left. here c (crash1 c (crash2 c left)))

      module _ (same1 : files s1 ≡ files s0) (same2 : files s2 ≡ files s1) (opened : IsOpen f) (es : List SideAt) (finds : FindsOlds (files s1) journal_path es) where
        abbrev found : IsFound f es
        found = found_on (files s1) es f (same1 ∙ told) finds

        whole : r ≡ with_sides es f
        whole = restored_is f r es opened found restored

        off : (path : List ℕ) → is_java path ≡ false → IsOff es path
        off path none = off_all (paths_of es) path (java_of found.0 es found.2) none

        module _ (s3 : S) (run3 : LeavesOnly moment left_since s2 s3 (After (ChangesOnlyOn es) (may_leave s2))) where
          back_phase : (c : Image) → After (ChangesOnlyOn es) (may_leave s2) c → RestoresTo c r
          back_phase c after =
              let was = crash1 after.0 (crash2 after.0 after.1) in
              armed_as found.0 es c f r found.2 (after.2 gate_path (off gate_path gate_apart) ∙ start.gate after.0 was ∙ opened)
              (after.2 journal_path (off journal_path journal_apart) ∙ start.journal opened after.0 was ∙ found.1)
              (λ q java o. after.2 q o ∙ start.files found.0 es opened found.1 found.2 after.0 was q java o) whole

          pub back_run : LeavesOnly moment left_since s0 s3 Same
          back_run = goes_further moment left_since s0 s2 s3 Same (After (ChangesOnlyOn es) (may_leave s2)) entries_run run3 back_phase

          module _ (tells3 : Tells (files s2) (files s3) (HasSides es)) (only3 : OnlyTold (files s3) (may_leave s3)) where
            abbrev g3 : IsTold (files s3) (λ g. HasSides es f g)
            g3 = told_on (files s2) (files s3) (HasSides es) f (same2 ∙ same1 ∙ told) tells3

            left3 : (q : List ℕ) → IsOff es q → g3.0 q ≡ f q
            left3 q o = ap (λ (h : Image). h q) g3.2 ∙ with_sides_off es f q o

            files3 : SameFiles g3.0 r
            files3 q java = ap (λ (h : Image). h q) (g3.2 ∙ sym whole)

            module _ (gp : List ℕ) (gp_is : gp ≡ gate_path) (s4 : S) (run4 : LeavesOnly moment left_since s3 s4 (After (ChangesOnly gp) (may_leave s3))) where
              close_phase : (c : Image) → ChangesOnly gate_path g3.0 c → RestoresTo c r
              close_phase c after =
                  ⊎_elim
                  (λ open_gate. armed_as found.0 es c f r found.2 open_gate (after journal_path (λ e. gate_journal (sym e)) ∙ left3 journal_path (off journal_path journal_apart) ∙ found.1)
                  (λ q java o. after q (apart q gate_path java gate_apart) ∙ left3 q o) whole)
                  (λ shut. shut_image c r shut (λ q java. after q (apart q gate_path java gate_apart) ∙ files3 q java))
                  (open_or_not c)

              pub close_run : LeavesOnly moment left_since s0 s4 Same
              close_run = goes_further moment left_since s0 s3 s4 Same (After (ChangesOnly gp) (may_leave s3)) back_run run4
                  (λ c after. close_phase c (after_only (ChangesOnly gate_path) (files s3) (may_leave s3) g3.0 c g3.1 only3 (subst (λ p. After (ChangesOnly p) (may_leave s3) c) gp_is after)))

              module _ (tells4 : Tells (files s3) (files s4) (Puts gp None)) (only4 : OnlyTold (files s4) (may_leave s4)) where
                abbrev g4 : IsTold (files s4) (λ g. Puts gate_path None g3.0 g)
                g4 = told_on (files s3) (files s4) (Puts gate_path None) g3.0 g3.1 (subst (λ p. Tells (files s3) (files s4) (Puts p None)) gp_is tells4)

                pub ended : (c : Image) → may_leave s4 c → (IsOpen c → ⊥) × SameFiles c r
                ended c left =
                    subst (λ h. (IsOpen h → ⊥) × SameFiles h r) (sym (only_told (files s4) (may_leave s4) g4.0 c g4.1 only4 left))
                    (λ open_gate. none-some (49 ∷ []) (sym g4.2.0 ∙ open_gate), λ q java. g4.2.1 q (apart q gate_path java gate_apart) ∙ files3 q java)
