-- The calls of a commit one after another, up to each of its exits.
use Rattle.std.proofs.Common.{◌≡◌, ◌≢◌, ◌⊎◌, false, ap, inl, List, [], ◌∷◌, ℕ, refl, sym, ◌∙◌, subst}
use Rattle.std.specs.Prelude.{Option, Some, None, IsTrue}
use Rattle.jr_base.specs.Paths.{is_java}
use Rattle.jr_store.specs.Image.{Image, ChangesOnly, Puts, Tells, OnlyTold, LeavesOnly}
use Rattle.jr_commit.specs.SidesAt.{SideAt, with_sides, paths_of, IsOff, ChangesOnlyOn, HasSides, After}
use Rattle.jr_commit.specs.Journal.{PutsBack, old_sides}
use Rattle.jr_commit.specs.Planned.{Planned, HasEntries, StartsCommit, KeepsJournal}
use Rattle.jr_commit.specs.declared.entry.Version.TheVariants.{Two}
use Rattle.jr_commit.proofs.Olds.{names_olds, java_of}
use Rattle.jr_store.specs.Sides.{IsNoneOf}
use Rattle.jr_commit.specs.Restoring.{journal_path, gate_path, RestoresTo, SameFiles}
use Rattle.jr_commit.proofs.Told.{IsTold, told_on, only_told, tells_then}
use Rattle.jr_commit.proofs.Putting.{with_sides_at, with_sides_off}
use Rattle.jr_commit.proofs.Moments.{started, goes_further}
use Rattle.jr_commit.proofs.Phases.{Starts, apart, off_all, gate_apart, journal_apart, gate_journal, shut_image, journal_phase, gate_phase, steps_phase, close_phase, closed}

pub after_only : (step : Image → Image → Type 0) (files : Option Image) (outcomes : Image → Type 0) (g c : Image) → files ≡ Some g → OnlyTold files outcomes → After step outcomes c → step g c
after_only step files outcomes g c is only after = subst (λ d. step d c) (only_told files outcomes g after.0 is only after.1) after.2

-- before the first call
pub before : (outcomes : Image → Type 0) (plan : Planned) (f : Image) → StartsCommit f outcomes plan → (c : Image) → outcomes c → RestoresTo c f
before outcomes plan f begins c left = shut_image c f (begins.gate c left) (begins.files c left)

module _ {S : Type 0} (files : S → Option Image) (may_leave : S → Image → Type 0) (moment : S → ℕ) (left_since : S → ℕ → Image → Type 0)
    (journal jp gp : List ℕ) (jp_is : jp ≡ journal_path) (gp_is : gp ≡ gate_path)
    (f : Image) (ss : List SideAt) (s0 : S) (has : HasEntries journal ss) (begins : StartsCommit f (may_leave s0) (record { journal = journal; steps = ss }))
    (told : files s0 ≡ Some f) (now : (c : Image) → left_since s0 (moment s0) c → may_leave s0 c) where
  abbrev es : List SideAt
  es = old_sides has.0

  is : PutsBack journal es
  is = record { version = Two; entries = has.0; journal = has.1; sides = refl }

  paths : paths_of es ≡ paths_of ss
  paths = names_olds Two has.0 has.1.shaped ∙ has.2

  start : Starts f (may_leave s0) es
  start = record { shut = begins.shut; gate = begins.gate; files = begins.files; olds = begins.olds es is }

  abbrev Either : Image → Type 0
  Either c = RestoresTo c f ⊎ RestoresTo c (with_sides ss f)

  at_start : LeavesOnly moment left_since s0 s0 Either
  at_start = started moment left_since s0 Either (λ c left. inl (before (may_leave s0) (record { journal = journal; steps = ss }) f begins c (now c left)))

  module _ (s1 : S) (run1 : LeavesOnly moment left_since s0 s1 (After (ChangesOnly jp) (may_leave s0))) where
    pub journal_run : LeavesOnly moment left_since s0 s1 Either
    journal_run =
        goes_further moment left_since s0 s0 s1 Either (After (ChangesOnly jp) (may_leave s0)) at_start run1
        (λ c after. inl (journal_phase journal es ss f (may_leave s0) is paths start c (subst (λ p. After (ChangesOnly p) (may_leave s0) c) jp_is after)))

    module _ (tells1 : Tells (files s0) (files s1) (Puts jp (Some journal))) (only1 : OnlyTold (files s1) (may_leave s1)) where
      abbrev g1 : IsTold (files s1) (λ g. Puts journal_path (Some journal) f g)
      g1 = told_on (files s0) (files s1) (Puts journal_path (Some journal)) f told (subst (λ p. Tells (files s0) (files s1) (Puts p (Some journal))) jp_is tells1)

      module _ (s2 : S) (run2 : LeavesOnly moment left_since s1 s2 (After (ChangesOnly gp) (may_leave s1))) where
        pub gate_run : LeavesOnly moment left_since s0 s2 Either
        gate_run =
            goes_further moment left_since s0 s1 s2 Either (After (ChangesOnly gp) (may_leave s1)) journal_run run2
            (λ c after. inl (gate_phase journal es ss f (may_leave s0) is paths start g1.0 g1.2 c
            (after_only (ChangesOnly gate_path) (files s1) (may_leave s1) g1.0 c g1.1 only1 (subst (λ p. After (ChangesOnly p) (may_leave s1) c) gp_is after))))

        module _ (tells2 : Tells (files s1) (files s2) (Puts gp (Some (49 ∷ [])))) (only2 : OnlyTold (files s2) (may_leave s2)) where
          abbrev g2 : IsTold (files s2) (λ g. Puts gate_path (Some (49 ∷ [])) g1.0 g)
          g2 = told_on (files s1) (files s2) (Puts gate_path (Some (49 ∷ []))) g1.0 g1.1 (subst (λ p. Tells (files s1) (files s2) (Puts p (Some (49 ∷ [])))) gp_is tells2)

          module _ (s3 : S) (run3 : LeavesOnly moment left_since s2 s3 (After (ChangesOnlyOn ss) (may_leave s2))) where
            pub steps_run : LeavesOnly moment left_since s0 s3 Either
            steps_run =
                goes_further moment left_since s0 s2 s3 Either (After (ChangesOnlyOn ss) (may_leave s2)) gate_run run3
                (λ c after. inl (steps_phase journal es ss f (may_leave s0) is paths start g1.0 g1.2 g2.0 g2.2 c
                (after_only (ChangesOnlyOn ss) (files s2) (may_leave s2) g2.0 c g2.1 only2 after)))

            module _ (tells3 : Tells (files s2) (files s3) (HasSides ss)) (only3 : OnlyTold (files s3) (may_leave s3)) where
              abbrev g3 : IsTold (files s3) (λ g. HasSides ss g2.0 g)
              g3 = told_on (files s2) (files s3) (HasSides ss) g2.0 g2.1 tells3

              module _ (s4 : S) (run4 : LeavesOnly moment left_since s3 s4 (After (ChangesOnly gp) (may_leave s3))) where
                pub close_run : LeavesOnly moment left_since s0 s4 Either
                close_run =
                    goes_further moment left_since s0 s3 s4 Either (After (ChangesOnly gp) (may_leave s3)) steps_run run4
                    (λ c after. close_phase journal es ss f (may_leave s0) is paths start g1.0 g1.2 g2.0 g2.2 g3.0 g3.2 c
                    (after_only (ChangesOnly gate_path) (files s3) (may_leave s3) g3.0 c g3.1 only3 (subst (λ p. After (ChangesOnly p) (may_leave s3) c) gp_is after)))

                module _ (tells4 : Tells (files s3) (files s4) (Puts gp None)) (only4 : OnlyTold (files s4) (may_leave s4)) where
                  abbrev g4 : IsTold (files s4) (λ g. Puts gate_path None g3.0 g)
                  g4 = told_on (files s3) (files s4) (Puts gate_path None) g3.0 g3.1 (subst (λ p. Tells (files s3) (files s4) (Puts p None)) gp_is tells4)

                  pub ended : (c : Image) → may_leave s4 c → RestoresTo c (with_sides ss f)
                  ended c left =
                      subst (λ h. RestoresTo h (with_sides ss f)) (sym (only_told (files s4) (may_leave s4) g4.0 c g4.1 only4 left))
                      (closed journal es ss f (may_leave s0) is paths start g1.0 g1.2 g2.0 g2.2 g3.0 g3.2 g4.0 g4.2)

-- what is told after all the calls, whatever stood before
pub all_done : (a b c d e : Option Image) (journal jp gp : List ℕ) (ss : List SideAt) → jp ≡ journal_path → gp ≡ gate_path
    → Tells a b (Puts jp (Some journal)) → Tells b c (Puts gp (Some (49 ∷ []))) → Tells c d (HasSides ss) → Tells d e (Puts gp None) → Tells a e (λ f g. SameFiles g (with_sides ss f))
all_done a b c d e journal jp gp ss jp_is gp_is first second third fourth =
    let after : Image → Image → Type 0 = λ f g. SameFiles g (with_sides ss f) in
    let last : Tells c e after = tells_then c d e (HasSides ss) (Puts gp None) after third fourth
    (λ f g h taken gone q java. gone.1 q (elsewhere gp gate_path gp_is gate_apart q java) ∙ ap (λ (k : Image). k q) taken) in
    let middle : Tells b e after = tells_then b c e (Puts gp (Some (49 ∷ []))) after after second last
    (λ f g h opened done q java. done q java ∙ with_sides_at ss g f q (opened.1 q (elsewhere gp gate_path gp_is gate_apart q java))) in
    tells_then a b e (Puts jp (Some journal)) after after first middle
    (λ f g h wrote done q java. done q java ∙ with_sides_at ss g f q (wrote.1 q (elsewhere jp journal_path jp_is journal_apart q java)))
  where
    elsewhere : (p path : List ℕ) → p ≡ path → is_java path ≡ false → (q : List ℕ) → IsTrue (is_java q) → q ≢ p
    elsewhere p path is none q java = λ e. apart q path java none (e ∙ is)

-- after all the calls the journal stands, and the gate is closed
pub journal_kept : (a b c d e : Option Image) (journal jp gp : List ℕ) (ss : List SideAt) → jp ≡ journal_path → gp ≡ gate_path → IsOff ss journal_path
    → Tells a b (Puts jp (Some journal)) → Tells b c (Puts gp (Some (49 ∷ []))) → Tells c d (HasSides ss) → Tells d e (Puts gp None) → Tells a e (λ f g. KeepsJournal (record { journal = journal; steps = ss }) g)
journal_kept a b c d e journal jp gp ss jp_is gp_is off first second third fourth =
    let kept : Image → Image → Type 0 = λ f g. KeepsJournal (record { journal = journal; steps = ss }) g in
    let apart_gate : journal_path ≢ gp = λ is. gate_journal (sym (is ∙ gp_is)) in
    let last : Tells c e (λ f g. (f journal_path ≡ Some journal) → kept f g) = tells_then c d e (HasSides ss) (Puts gp None) (λ f g. (f journal_path ≡ Some journal) → kept f g) third fourth
    (λ f g h taken gone stands. (gone.1 journal_path apart_gate ∙ ap (λ (k : Image). k journal_path) taken ∙ with_sides_off ss f journal_path off ∙ stands, ap h (sym gp_is) ∙ gone.0)) in
    let middle : Tells b e (λ f g. (f journal_path ≡ Some journal) → kept f g) = tells_then b c e (Puts gp (Some (49 ∷ []))) (λ f g. (f journal_path ≡ Some journal) → kept f g) (λ f g. (f journal_path ≡ Some journal) → kept f g) second last
    (λ f g h opened rest stands. rest (opened.1 journal_path apart_gate ∙ stands)) in
    tells_then a b e (Puts jp (Some journal)) (λ f g. (f journal_path ≡ Some journal) → kept f g) kept first middle
    (λ f g h wrote rest. rest (ap g (sym jp_is) ∙ wrote.0))

-- no step is at the journal's path
pub journal_off : (journal : List ℕ) (ss : List SideAt) → HasEntries journal ss → IsOff ss journal_path
journal_off journal ss has =
    let is : PutsBack journal (old_sides has.0) = record { version = Two; entries = has.0; journal = has.1; sides = refl } in
    let same : paths_of (old_sides has.0) ≡ paths_of ss = names_olds Two has.0 has.1.shaped ∙ has.2 in
    subst (λ ps. IsNoneOf ps journal_path) same (off_all (paths_of (old_sides has.0)) journal_path (java_of journal (old_sides has.0) is) journal_apart)
