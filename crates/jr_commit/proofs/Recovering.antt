-- What a recovery's reads say of the files.
use Rattle.std.proofs.Common.{◌≡◌, ℕ, Bool, List, [], ◌∷◌, true, false, length, ⊎_elim, refl, sym, ◌∙◌, ap, subst}
use Rattle.std.specs.Prelude.{Option, Some, None, IsTrue}
use Rattle.std.proofs.lemmas.Option.{same_Some, none-some}
use Rattle.jr_store.specs.Image.{Image, Tells, Puts, ChangesOnly}
use Rattle.std.specs.List.{AllByRecursion}
use Rattle.jr_base.specs.Paths.{is_java}
use Rattle.jr_store.specs.Sides.{IsNoneOf}
use Rattle.jr_commit.specs.SidesAt.{SideAt, HasSides, ChangesOnlyOn, paths_of}
use Rattle.jr_commit.proofs.Told.{tells_same}
use Rattle.jr_commit.specs.Steps.{sides_of}
use Rattle.jr_commit.specs.declared.actions.Step.{Step}
use Rattle.jr_commit.specs.Restoring.{journal_path, gate_path, IsOpen, Restored, SameFiles, KeepsOthers, FindsOlds, HasNoJournal, SaysOpen}
use Rattle.jr_commit.specs.Recovered.{Answers}
use Rattle.jr_commit.specs.declared.recovery.Recovered.TheVariants.{Clean, RolledBack}
use Rattle.jr_commit.proofs.Phases.{apart, gate_apart}
use Rattle.jr_commit.proofs.Olds.{length_olds, java_of}
use Rattle.jr_commit.proofs.Back.{IsFound, restored_is}

pub opened_on : (files : Option Image) (path : List ℕ) (f : Image) → files ≡ Some f → path ≡ gate_path → SaysOpen true files path → IsOpen f
opened_on None path f is gate says = absurd (none-some f is)
opened_on (Some d) path f is gate says = ap (λ (h : Image). h gate_path) (sym (same_Some d f is)) ∙ ap d (sym gate) ∙ says.0 refl

-- the same, by what was read of the gate
pub opened_by : (files : Option Image) (path : List ℕ) (is_open : Bool) (f : Image) → files ≡ Some f → path ≡ gate_path → is_open ≡ true → SaysOpen is_open files path → IsOpen f
opened_by files path is_open f is gate truth says = opened_on files path f is gate (subst (λ b. SaysOpen b files path) truth says)

pub shut_on : (files : Option Image) (path : List ℕ) (f : Image) → files ≡ Some f → path ≡ gate_path → SaysOpen false files path → IsOpen f → ⊥
shut_on None path f is gate says is_open = absurd (none-some f is)
shut_on (Some d) path f is gate says is_open =
    let yes : IsTrue false = says.1 (ap d gate ∙ ap (λ (h : Image). h gate_path) (same_Some d f is) ∙ is_open) in
    absurd cc

pub clean_answer : (files : Option Image) (path : List ℕ) → path ≡ gate_path → SaysOpen false files path → Answers Clean files
clean_answer None path gate says = tt
clean_answer (Some f) path gate says = shut_on (Some f) path f refl gate says

pub rolled_answer : (files : Option Image) (gp jp : List ℕ) (es : List SideAt) (n : ℕ) → gp ≡ gate_path → jp ≡ journal_path → SaysOpen true files gp → FindsOlds files jp es → n ≡ length es → Answers (RolledBack n) files
rolled_answer None gp jp es n gate journal says finds count = tt
rolled_answer (Some f) gp jp es n gate journal says finds count = (opened_on (Some f) gp f refl gate says, finds.0, finds.2.version, finds.2.entries, sym (ap f journal) ∙ finds.1, finds.2.journal, count ∙ ap length finds.2.sides ∙ length_olds finds.2.version finds.2.entries finds.2.journal.shaped)

-- what was read as steps is what they are taken as
pub found_as : (files : Option Image) (path : List ℕ) (read taken : List Step) → taken ≡ read → FindsOlds files path (sides_of read) → FindsOlds files path (sides_of taken)
found_as files path read taken same found = subst (λ (l : List Step). FindsOlds files path (sides_of l)) (sym same) found

pub found_at_journal : (files : Option Image) (path : List ℕ) (read taken : List Step) → path ≡ journal_path → taken ≡ read → FindsOlds files path (sides_of read) → FindsOlds files journal_path (sides_of taken)
found_at_journal files path read taken journal same found = subst (λ p. FindsOlds files p (sides_of taken)) journal (found_as files path read taken same found)

-- the same of the files that the first read found
pub found_first : (first files : Option Image) (path : List ℕ) (read taken : List Step) → files ≡ first → taken ≡ read → FindsOlds files path (sides_of read) → FindsOlds first path (sides_of taken)
found_first first files path read taken told same found = subst (λ o. FindsOlds o path (sides_of taken)) told (found_as files path read taken same found)

pub none_restored : (files : Option Image) (jp : List ℕ) (f r : Image) → files ≡ Some f → jp ≡ journal_path → HasNoJournal files jp → IsOpen f → Restored f r → ⊥
none_restored None jp f r is journal none is_open restored = none-some f is
none_restored (Some d) jp f r is journal none is_open restored =
    let same : d ≡ f = same_Some d f is in
    ⊎_elim (λ way. way.0 is_open) (λ way. none way.1 way.2 (ap d journal ∙ ap (λ (h : Image). h journal_path) same ∙ way.3) way.4) restored

-- the gate is closed, over the files that the image stood for
abbrev pub IsBack : Image → Image → Type 0
IsBack f g = (IsOpen g → ⊥) × ((r : Image) → Restored f r → SameFiles g r)

pub clean_back : (files : Option Image) (path : List ℕ) → path ≡ gate_path → SaysOpen false files path → Tells files files IsBack
clean_back None path gate says = tt
clean_back (Some f) path gate says =
    let shut = shut_on (Some f) path f refl gate says in
    (shut, λ r restored q java. ⊎_elim (λ way. sym (ap (λ (h : Image). h q) way.1)) (λ way. absurd (shut way.0)) restored)

pub rolled_back : (a b c : Option Image) (gp jp : List ℕ) (es : List SideAt) → gp ≡ gate_path → jp ≡ journal_path → SaysOpen true a gp → FindsOlds a jp es → Tells a b (HasSides es) → Tells b c (Puts gp None) → Tells a c IsBack
rolled_back None None None gp jp es gate journal says finds first second = tt
rolled_back None None (Some h) gp jp es gate journal says finds first second = absurd second
rolled_back None (Some g) c gp jp es gate journal says finds first second = absurd first
rolled_back (Some f) None c gp jp es gate journal says finds first second = absurd first
rolled_back (Some f) (Some g) None gp jp es gate journal says finds first second = absurd second
rolled_back (Some f) (Some g) (Some h) gp jp es gate journal says finds first second =
    let found : IsFound f es = (finds.0, sym (ap f journal) ∙ finds.1, finds.2, finds.3) in
    let gone = subst (λ p. Puts p None g h) gate second in (
      λ is_open. none-some (49 ∷ []) (sym gone.0 ∙ is_open),
      λ r restored q java. gone.1 q (apart q gate_path java gate_apart) ∙ ap (λ (k : Image). k q) (first ∙ sym (restored_is f r es (opened_on (Some f) gp f refl gate says) found restored)),
    )

-- what changes sides at Java paths, and then the gate, changes nothing else
pub keeps_others : (a b c : Option Image) (gp jp : List ℕ) (es : List SideAt) → gp ≡ gate_path → FindsOlds a jp es → Tells a b (ChangesOnlyOn es) → Tells b c (ChangesOnly gp) → Tells a c KeepsOthers
keeps_others None None None gp jp es gate finds first second = tt
keeps_others None None (Some h) gp jp es gate finds first second = absurd second
keeps_others None (Some g) c gp jp es gate finds first second = absurd first
keeps_others (Some f) None c gp jp es gate finds first second = absurd first
keeps_others (Some f) (Some g) None gp jp es gate finds first second = absurd second
keeps_others (Some f) (Some g) (Some h) gp jp es gate finds first second = λ q none_java no_gate.
    second q (λ is. no_gate (is ∙ gate)) ∙ first q (off_names (paths_of es) q (java_of finds.0 es finds.2) none_java)
  where
    off_names : (ps : List (List ℕ)) (q : List ℕ) → AllByRecursion (λ p. IsTrue (is_java p)) ps → (IsTrue (is_java q) → ⊥) → IsNoneOf ps q
    off_names [] q java none_java = tt
    off_names (p ∷ ps) q java none_java = (λ is. none_java (subst (λ x. IsTrue (is_java x)) (sym is) java.0), off_names ps q java.1 none_java)

-- the same where the gate was not touched
pub keeps_others_before : (a b : Option Image) (gp jp : List ℕ) (es : List SideAt) → gp ≡ gate_path → FindsOlds a jp es → Tells a b (ChangesOnlyOn es) → Tells a b KeepsOthers
keeps_others_before a b gp jp es gate finds first = keeps_others a b b gp jp es gate finds first (tells_same b (ChangesOnly gp) (λ f q other. refl))
