-- What an image stands for while a change is made.
use Rattle.std.proofs.Common.{◌≡◌, ◌≢◌, ◌⊎◌, inl, inr, ⊎_elim, List, [], ◌∷◌, ℕ, false, refl, sym, ◌∙◌, ap, subst}
use Rattle.std.specs.Prelude.{Option, Some, None, IsTrue}
use Rattle.std.specs.List.{AllByRecursion}
use Rattle.std.proofs.lemmas.Option.{same_Some, none-some}
use Rattle.jr_base.specs.Paths.{is_java}
use Rattle.jr_store.specs.Image.{Image, ChangesOnly, Puts}
use Rattle.jr_commit.specs.SidesAt.{SideAt, with_sides, paths_of, IsOff, ChangesOnlyOn, After}
use Rattle.jr_store.specs.Sides.{IsNoneOf}
use Rattle.jr_commit.specs.Journal.{PutsBack}
use Rattle.jr_commit.specs.Restoring.{journal_path, gate_path, IsOpen, SameFiles, RestoresTo}
use Rattle.jr_commit.proofs.Olds.{java_of}
use Rattle.jr_commit.proofs.Putting.{same_or_not, back, with_sides_off, with_sides_at}

-- what is no `.java` path is no other such path
pub apart : (q path : List ℕ) → IsTrue (is_java q) → is_java path ≡ false → q ≢ path
apart q path java none is = cc (java, none, ap is_java is)

pub off_all : (ps : List (List ℕ)) (path : List ℕ) → AllByRecursion (λ p. IsTrue (is_java p)) ps → is_java path ≡ false → IsNoneOf ps path
off_all [] path java none = tt
off_all (p ∷ ps) path java none = (λ is. apart p path java.0 none (sym is), off_all ps path java.1 none)

pub journal_apart : is_java journal_path ≡ false
journal_apart = refl

pub gate_apart : is_java gate_path ≡ false
gate_apart = refl

pub gate_journal : gate_path ≢ journal_path
gate_journal is = cc is

pub open_or_not : (c : Image) → IsOpen c ⊎ (IsOpen c → ⊥)
open_or_not c = decided (c gate_path) refl
  where
    decided : (o : Option (List ℕ)) → c gate_path ≡ o → IsOpen c ⊎ (IsOpen c → ⊥)
    decided None is = inr (λ open_gate. none-some (49 ∷ []) (sym is ∙ open_gate))
    decided (Some bytes) is = ⊎_elim (λ one. inl (is ∙ ap Some one)) (λ other. inr (λ open_gate. other (same_Some bytes (49 ∷ []) (sym is ∙ open_gate)))) (same_or_not bytes (49 ∷ []))

-- a closed gate: the image itself
pub shut_image : (c f : Image) → (IsOpen c → ⊥) → SameFiles c f → RestoresTo c f
shut_image c f shut same = (c, inl (shut, refl), same)

-- An open gate over the journal of the files f, and an image that is f but for the entries: it stands for f.
pub armed_image : (journal : List ℕ) (es : List SideAt) (c f : Image) → PutsBack journal es → AllByRecursion (λ e. f e.0 ≡ e.1) es
    → IsOpen c → c journal_path ≡ Some journal → ((q : List ℕ) → IsTrue (is_java q) → IsOff es q → c q ≡ f q) → RestoresTo c f
armed_image journal es c f is olds open_gate at same =
    (with_sides es c, inr (open_gate, journal, es, at, is, refl), λ q java. back es c f q olds (same q java))

-- the files are f, with a closed gate, and hold the old sides; a crash leaves a closed gate and the same files
pub record Starts (f : Image) (outcomes : Image → Type 0) (es : List SideAt) : Type 0 where
  pub shut : IsOpen f → ⊥
  pub gate : (c : Image) → outcomes c → IsOpen c → ⊥
  pub files : (c : Image) → outcomes c → SameFiles c f
  pub olds : AllByRecursion (λ e. f e.0 ≡ e.1) es

module _ (journal : List ℕ) (es ss : List SideAt) (f : Image) (outcomes : Image → Type 0) (is : PutsBack journal es) (paths : paths_of es ≡ paths_of ss) (start : Starts f outcomes es) where
  off_steps : (path : List ℕ) → is_java path ≡ false → IsOff ss path
  off_steps path none = subst (λ ps. IsNoneOf ps path) paths (off_all (paths_of es) path (java_of journal es is) none)

  -- the journal is written
  pub journal_phase : (c : Image) → After (ChangesOnly journal_path) outcomes c → RestoresTo c f
  journal_phase c after =
      let d = after.0 in
      let gate : c gate_path ≡ d gate_path = after.2 gate_path gate_journal in
      shut_image c f (λ open_gate. start.gate d after.1 (sym gate ∙ open_gate)) (λ q java. after.2 q (apart q journal_path java journal_apart) ∙ start.files d after.1 q java)

  module _ (g1 : Image) (wrote : Puts journal_path (Some journal) f g1) where
    files1 : SameFiles g1 f
    files1 q java = wrote.1 q (apart q journal_path java journal_apart)

    -- the gate is written
    pub gate_phase : (c : Image) → ChangesOnly gate_path g1 c → RestoresTo c f
    gate_phase c after =
        let same : SameFiles c f = λ q java. after q (apart q gate_path java gate_apart) ∙ files1 q java in
        let at : c journal_path ≡ Some journal = after journal_path (λ e. gate_journal (sym e)) ∙ wrote.0 in
        ⊎_elim (λ open_gate. armed_image journal es c f is start.olds open_gate at (λ q java off. same q java)) (λ shut. shut_image c f shut same) (open_or_not c)

    module _ (g2 : Image) (opened : Puts gate_path (Some (49 ∷ [])) g1 g2) where
      files2 : SameFiles g2 f
      files2 q java = opened.1 q (apart q gate_path java gate_apart) ∙ files1 q java

      at2 : g2 journal_path ≡ Some journal
      at2 = opened.1 journal_path (λ e. gate_journal (sym e)) ∙ wrote.0

      -- the steps are taken
      pub steps_phase : (c : Image) → ChangesOnlyOn ss g2 c → RestoresTo c f
      steps_phase c after =
          armed_image journal es c f is start.olds (after gate_path (off_steps gate_path gate_apart) ∙ opened.0) (after journal_path (off_steps journal_path journal_apart) ∙ at2)
          (λ q java off. after q (subst (λ ps. IsNoneOf ps q) paths off) ∙ files2 q java)

      module _ (g3 : Image) (taken : g3 ≡ with_sides ss g2) where
        files3 : SameFiles g3 (with_sides ss f)
        files3 q java = ap (λ (h : Image). h q) taken ∙ with_sides_at ss g2 f q (files2 q java)

        -- the gate is removed
        pub close_phase : (c : Image) → ChangesOnly gate_path g3 c → RestoresTo c f ⊎ RestoresTo c (with_sides ss f)
        close_phase c after =
            let left : (q : List ℕ) → IsOff ss q → g3 q ≡ g2 q = λ q off. ap (λ (h : Image). h q) taken ∙ with_sides_off ss g2 q off in
            ⊎_elim
            (λ open_gate. inl (armed_image journal es c f is start.olds open_gate (after journal_path (λ e. gate_journal (sym e)) ∙ left journal_path (off_steps journal_path journal_apart) ∙ at2)
            (λ q java off. after q (apart q gate_path java gate_apart) ∙ left q (subst (λ ps. IsNoneOf ps q) paths off) ∙ files2 q java)))
            (λ shut. inr (shut_image c (with_sides ss f) shut (λ q java. after q (apart q gate_path java gate_apart) ∙ files3 q java)))
            (open_or_not c)

        -- the gate is closed
        pub closed : (g4 : Image) → Puts gate_path None g3 g4 → RestoresTo g4 (with_sides ss f)
        closed g4 gone = shut_image g4 (with_sides ss f) (λ open_gate. none-some (49 ∷ []) (sym gone.0 ∙ open_gate)) (λ q java. gone.1 q (apart q gate_path java gate_apart) ∙ files3 q java)
