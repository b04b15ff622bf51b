-- From what the engine makes of requests to the answer of the call.
use Rattle.std.proofs.Common.{◌≡◌, ◌≢◌, ◌⊎◌, inl, inr, ⊎_elim, ℕ, suc, ◌≤◌, List, [], ◌∷◌, length, Option, Some, None, Ok, Vec, Global, refl, sym, ap, subst, ◌∙◌, arith}
use Rattle.std.specs.Io.KnownBytes.{Appends}
use Rattle.std.proofs.lemmas.Option.{same_Some, none-some}
use Rattle.jr_base.specs.Files.{FileMap}
use Rattle.jr_base.specs.declared.request.Request.{Request}
use Rattle.jr_commit.specs.Planned.{Planned, StartsCommit, ChangesOnlyPlanned}
use Rattle.jr_commit.specs.Restoring.{IsOpen, Restored, RestoresTo, SameFiles, StartsRecover}
use Rattle.jr_commit.specs.SidesAt.{SideAt, with_sides, IsOff}
use Rattle.jr_commit.proofs.Moments.{goes_further}
use Rattle.jr_commit.proofs.Phases.{shut_image}
use Rattle.jr_commit.proofs.Returning.{undoable_between}
use Rattle.jr_engine.specs.Planning.{PlannedAs}
use Rattle.jr_engine.specs.declared.fault.EngineFault.{EngineFault}
use Rattle.jr_engine.specs.declared.fault.EngineFault.TheVariants as engine
use Rattle.jr_engine.specs.declared.fault.StepFault.{StepFault}
use Rattle.jr_engine.specs.declared.fault.StepFault.TheVariants as step
use Rattle.jr_front.specs.declared.fault.FrontFault.{FrontFault}
use Rattle.jr_front.specs.declared.fault.FrontFault.TheVariants as front
use Rattle.jr_lex.specs.declared.fault.LexFault.TheVariants as lexing
use Rattle.jr_parse.specs.declared.fault.ParseFault.TheVariants as parsing
use Rattle.jr_gather.specs.Gathering.{HoldsFiles}
use Rattle.jr_request.specs.Words.{command_of}
use Rattle.jr_store.specs.Image.{Image, Tells, OnlyTold, Rose, LeavesOnly}
use Rattle.jr_store.specs.Replay.{image_of}
use Rattle.jr_top.specs.Answers.{Reports, IsReported, OutcomeOf}
use Rattle.jr_top.specs.Checking.{status_of}
use Rattle.jr_top.specs.Crash.{StandsForEither, StandsAfter, IsSettled, Survives, SurvivesSettled}
use Rattle.jr_top.specs.Decisions.{IsPlanFor, files_differ, files_are_same, is_refused, memory_is_short, DecidesAll, on_files, is_too_large, is_not_read, is_short}
use Rattle.jr_top.specs.Engine.{MayAsk, answer_to, step_answer, MayReplace, IsReplaced, IsUnchanged, IsPartlyReplaced, IsRefusedAs, Plans, replaced, unchanged, refused, oversized, not_read, not_written, no_memory, PlansAsked, AnswersPlanned, StandsForPlanned}
use Rattle.jr_top.specs.Line.{line_of}
use Rattle.jr_top.specs.Performing.{IsTaken, Commits, ReportedOf}
use Rattle.jr_top.specs.Recovering.{AsksRecovery, Recovers}
use Rattle.jr_top.specs.Renaming.{ForTold}
use Rattle.jr_top.specs.declared.decide.Decision.TheVariants.{Answer, Refuse, Change}
use Rattle.jr_top.specs.declared.status.Phase.TheVariants.{Reading, Writing}
use Rattle.jr_top.specs.declared.status.Report.TheVariants.{Changed}
use Rattle.jr_top.specs.declared.status.Status.{Status}
use Rattle.jr_top.specs.declared.status.Status.TheVariants.{Done, StoreFault, SinkFault, TooLarge, OutOfMemory}
use Rattle.jr_top.proofs.Carried.{weaker, settled as settled_after, still_told}
use Rattle.jr_top.proofs.Outcomes.{for_told, rose_earlier}
use Rattle.jr_top.proofs.Settled.{settled_stands, restores_same}

-- ---- decisions and statuses apart

same_answer : (a b : Status) → Answer a ≡ Answer b → a ≡ b
same_answer a b is = cc

same_refusal : (a b : Status) (ps qs : Vec (List ℕ) Global) → Refuse a ps ≡ Refuse b qs → (a ≡ b) × (ps ≡ qs)
same_refusal a b ps qs is = (cc, cc)

same_change : (a b : Planned) → Change a ≡ Change b → a ≡ b
same_change a b is = cc

no_change : (a : Status) (p : Planned) → Answer a ≡ Change p → ⊥
no_change a p is = cc

no_refusal : (a b : Status) (ps : Vec (List ℕ) Global) → Answer a ≡ Refuse b ps → ⊥
no_refusal a b ps is = cc

refused_no_change : (a : Status) (ps : Vec (List ℕ) Global) (p : Planned) → Refuse a ps ≡ Change p → ⊥
refused_no_change a ps p is = cc

refused_no_answer : (a b : Status) (ps : Vec (List ℕ) Global) → Refuse a ps ≡ Answer b → ⊥
refused_no_answer a b ps is = cc

changed_no_answer : (p : Planned) (b : Status) → Change p ≡ Answer b → ⊥
changed_no_answer p b is = cc

changed_no_refusal : (p : Planned) (b : Status) (ps : Vec (List ℕ) Global) → Change p ≡ Refuse b ps → ⊥
changed_no_refusal p b ps is = cc

-- an answer that is no change and no fault
abbrev pub IsRefusal : Status → Type 0
IsRefusal (Done report) = ⊥
IsRefusal (StoreFault phase) = ⊥
IsRefusal SinkFault = ⊥
IsRefusal other = Unit {0}

front_refusal : (why : FrontFault) → IsRefusal (status_of why)
front_refusal (front.TooLarge what) = tt
front_refusal (front.Lex cu (lexing.BadByte at)) = tt
front_refusal (front.Lex cu (lexing.OpenComment at)) = tt
front_refusal (front.Lex cu (lexing.OpenLiteral at)) = tt
front_refusal (front.Lex cu (lexing.BadEscape at)) = tt
front_refusal (front.Lex cu (lexing.BadNumber at)) = tt
front_refusal (front.Lex cu (lexing.NotUtf8 at)) = tt
front_refusal (front.Lex cu lexing.OutOfMemory) = tt
front_refusal (front.Parse (parsing.NoTree number) place) = tt
front_refusal (front.Parse (parsing.TooDeep number) place) = tt
front_refusal (front.Parse parsing.OutOfMemory place) = tt
front_refusal (front.PathMismatch cu) = tt
front_refusal (front.Duplicate place) = tt
front_refusal (front.Cycle place) = tt
front_refusal (front.Unbound place) = tt
front_refusal (front.Broken rule place) = tt
front_refusal front.OutOfMemory = tt

step_refusal : (request : ℕ) (why : StepFault) → IsRefusal (step_answer request why)
step_refusal request (step.BadRequest reason) = tt
step_refusal request (step.NoSpelling occ place lock) = tt
step_refusal request (step.LostEdge kind first second is_old) = tt
step_refusal request (step.StillUsed place) = tt
step_refusal request (step.Broken rule place) = tt
step_refusal request (step.Differs place) = tt
step_refusal request (step.TooLarge what) = tt
step_refusal request step.OutOfMemory = tt

pub engine_refusal : (request : ℕ) (why : EngineFault) → IsRefusal (answer_to request why)
engine_refusal request (engine.Front why) = front_refusal why
engine_refusal request (engine.Step why) = step_refusal request why

refusal_stands : (words : List (List ℕ)) (found image : Image) (status : Status) → IsRefusal status → RestoresTo image found → StandsAfter words found status image
refusal_stands words found image (Done report) never stands = absurd never
refusal_stands words found image (StoreFault phase) never stands = absurd never
refusal_stands words found image other is stands = stands

told_for : (told : Option Image) (P : Image → Type 0) → ForTold told P → (f : Image) → told ≡ Some f → P f
told_for None P all f is = absurd (none-some f is)
told_for (Some g) P all f is = subst P (same_Some g f is) all

pub told_for_files : (told : Option Image) (found : FileMap) → ForTold told (λ files. HoldsFiles files found) → (f : Image) → told ≡ Some f → HoldsFiles f found
told_for_files told found holds f is = told_for told (λ files. HoldsFiles files found) holds f is

-- ---- the plan

pub holds_files : (f g : Image) (found : FileMap) → SameFiles f g → HoldsFiles f found → HoldsFiles g found
holds_files f g found same holds = record { java = holds.java; each = λ path java. sym (same path java) ∙ holds.each path java }

module _ (requests : List Request) (found left : FileMap) (plan : Planned) (planned : PlannedAs found requests (Ok left)) (is : IsPlanFor found left plan) where
  module _ (f : Image) (holds : HoldsFiles f found) where
    held_as : SameFiles f (image_of found)
    held_as q java = holds.each q java

    left_as : plan.steps ≡ [] → SameFiles f (image_of left)
    left_as none = subst (λ (ss : List SideAt). SameFiles (with_sides ss f) (image_of left)) none (is.gives f held_as)

    starts_planned : (r : Image) (outcomes : Image → Type 0) → IsSettled f r outcomes → StartsCommit f outcomes plan
    starts_planned r outcomes settled = record {
      shut = settled.shut;
      gate = λ c left. (settled.left c left).0;
      files = λ c left q java. (settled.left c left).1 q java ∙ sym (settled.same q java);
      olds = λ olds puts. is.olds f held_as olds puts;
    }

    others_as : (g : Image) → ChangesOnlyPlanned plan f g → MayReplace found left f g
    others_as g part = λ q off no_journal no_gate. part q no_journal no_gate (subst (λ (ss : List SideAt). IsOff ss q) (sym is.steps) off)

    replaced_by : (n : ℕ) (g : Image) → n ≡ length plan.steps → plan.steps ≢ [] → IsTaken plan f g → IsReplaced requests n f g
    replaced_by n g count some taken = record {
      found = found;
      left = left;
      holds = holds;
      planned = planned;
      counted = count ∙ ap length is.steps;
      files = λ q java. taken.files q java ∙ is.gives f held_as q java;
      journal = (taken.journal some).0 ∙ ap Some is.journal;
      undoable = undoable_between found left plan.journal g (is.kept some) (taken.journal some).0 (λ q java. taken.files q java ∙ is.gives f held_as q java);
      gate = (taken.journal some).1;
      others = others_as g taken.others;
    }

    module _ (words : List (List ℕ)) (may : MayAsk (command_of words) requests) where
      stands_planned : (r c : Image) → SameFiles f r → RestoresTo c (with_sides plan.steps f) → StandsForPlanned words r c
      stands_planned r c same stands = (requests, may, (found, left, holds_files f r found same holds, planned, restores_same c (with_sides plan.steps f) (image_of left) stands (is.gives f held_as)))

      -- the run of the reads and the change
      pub run_planned : {S : Type 0} (moment : S → ℕ) (left_since : S → ℕ → Image → Type 0) (r : Image) (kept entered : Image → Type 0) (s0 s1 s2 : S) → IsSettled f r kept → ((c : Image) → entered c → kept c)
          → LeavesOnly moment left_since s0 s1 kept → (StartsCommit f entered plan → LeavesOnly moment left_since s1 s2 (λ c. RestoresTo c f ⊎ RestoresTo c (with_sides plan.steps f)))
          → LeavesOnly moment left_since s0 s2 (StandsForEither words r)
      run_planned moment left_since r kept entered s0 s1 s2 settled fewer first second =
          goes_further moment left_since s0 s1 s2 (StandsForEither words r) (λ c. RestoresTo c f ⊎ RestoresTo c (with_sides plan.steps f))
          (weaker moment left_since s0 s1 (StandsForEither words r) kept first (λ c l. inl (settled_stands f r kept settled c l)))
          (second (starts_planned r entered (record { shut = settled.shut; same = settled.same; journal = settled.journal; left = λ c l. settled.left c (fewer c l) })))
          (λ c stands. ⊎_elim (λ was. inl (restores_same c f r was settled.same)) (λ now. inr (inr (inr (stands_planned r c settled.same now)))) stands)

pub no_steps : (steps : List SideAt) → length steps ≡ 0 → steps ≡ []
no_steps [] none = refl
no_steps (s ∷ steps) none = absurd (omega (arith, none))

next_of : (steps : List SideAt) → steps ≢ [] → (n : ℕ) × (length steps ≡ suc n)
next_of [] some = absurd (some refl)
next_of (s ∷ steps) some = (length steps, refl)

-- the plan that is decided on
pub plan_of : (requests : List Request) (told : Option Image) (before after : ℕ) (plan : Planned) → DecidesAll requests told before after (Change plan)
    → (found : FileMap) × (left : FileMap) × ForTold told (λ files. HoldsFiles files found) × PlannedAs found requests (Ok left) × IsPlanFor found left plan × (plan.steps ≢ [])
plan_of requests told before after plan (on_files {found = found} holds (files_differ {left = left} {plan = made} is planned makes some)) =
    let same = same_change plan made is in
    (found, left, holds, planned, subst (λ (p : Planned). IsPlanFor found left p) (sym same) makes, subst (λ (p : Planned). p.steps ≢ []) (sym same) some)
plan_of requests told before after plan (on_files holds (files_are_same is planned makes none)) = absurd (changed_no_answer plan _ is)
plan_of requests told before after plan (on_files holds (is_refused why is planned)) = absurd (changed_no_refusal plan _ _ is)
plan_of requests told before after plan (on_files holds (memory_is_short is)) = absurd (changed_no_answer plan _ is)
plan_of requests told before after plan (is_too_large is large) = absurd (changed_no_answer plan _ is)
plan_of requests told before after plan (is_not_read is rose) = absurd (changed_no_answer plan _ is)
plan_of requests told before after plan (is_short is) = absurd (changed_no_answer plan _ is)

-- what is so of a status, and of want of memory, is so of what is reported
report_of : (paths : List (List ℕ)) (P : Status → Type 0) (status result : Status) (old new : Option (List ℕ)) (fewer more : ℕ) → P status → P OutOfMemory → IsReported status paths result old new fewer more
    → ReportedOf (line_of paths) P result old new fewer more
report_of paths P status result old new fewer more here memory (final, inl final_is, r) = (status, here, subst (λ (x : Status). Reports x (line_of paths x) result old new fewer more) final_is r)
report_of paths P status result old new fewer more here memory (final, inr final_is, r) = (OutOfMemory, memory, subst (λ (x : Status). Reports x (line_of paths x) result old new fewer more) final_is r)

-- ---- what is answered after recovery

module _ (words : List (List ℕ)) (Asks : Option Image → List Request → Type 0) (told left : Option Image) (kept outcomes : Image → Type 0) (before after : ℕ) where
  abbrev pub SaidFound : List (List ℕ) → Status → Type 0
  SaidFound paths status = PlansAsked Asks paths told left outcomes before after status × SurvivesSettled words told kept outcomes status

  module _ (requests : List Request) (asks : Asks told requests) where
    module _ (same : left ≡ told) (fewer : (c : Image) → outcomes c → kept c) where
      stays : (f r : Image) → told ≡ Some f → IsSettled f r kept → (c : Image) → outcomes c → RestoresTo c r
      stays f r told_is is c l = settled_stands f r kept is c (fewer c l)

      short_so : (paths : List (List ℕ)) → SaidFound paths OutOfMemory
      short_so paths = ((requests, asks, no_memory refl same), stays)

      answered_so : (status : Status) → DecidesAll requests told before after (Answer status) → SaidFound [] status
      answered_so status (on_files holds (files_differ {plan = made} is planned makes some)) = absurd (no_change status made is)
      answered_so status (on_files {found = found} holds (files_are_same {left = next} {plan = made} is planned makes none)) =
          let status_is = same_answer status (Done (Changed 0)) is in (
            (
              requests,
              asks,
              unchanged status_is same (for_told told (IsUnchanged requests) (λ f told_is.
                  let here = told_for told (λ files. HoldsFiles files found) holds f told_is in
                  (found, next, here, planned, left_as requests found next made planned makes f here none))),
            ),
            λ f r told_is settled c l. subst (λ (s : Status). StandsAfter words r s c) (sym status_is) (stays f r told_is settled c l),
          )
      answered_so status (on_files holds (is_refused why is planned)) = absurd (no_refusal status _ _ is)
      answered_so status (on_files holds (memory_is_short is)) = subst (SaidFound []) (sym (same_answer status OutOfMemory is)) (short_so [])
      answered_so status (is_too_large {what = what} is large) =
          let status_is = same_answer status (TooLarge what 0) is in (
            (requests, asks, oversized status_is same large),
            λ f r told_is settled c l. subst (λ (s : Status). StandsAfter words r s c) (sym status_is) (stays f r told_is settled c l),
          )
      answered_so status (is_not_read is rose) =
          let status_is = same_answer status (StoreFault Reading) is in (
            (requests, asks, not_read status_is same rose),
            λ f r told_is settled c l. subst (λ (s : Status). StandsAfter words r s c) (sym status_is) (inl (stays f r told_is settled c l)),
          )
      answered_so status (is_short is) = subst (SaidFound []) (sym (same_answer status OutOfMemory is)) (short_so [])

      refused_so : (status : Status) (paths : Vec (List ℕ) Global) → DecidesAll requests told before after (Refuse status paths) → SaidFound paths.items status
      refused_so status paths (on_files {found = found} holds (is_refused why is planned)) =
          let both = same_refusal status (answer_to why.request why.fault) paths why.paths is in (
            (
              requests,
              asks,
              refused why both.0 (ap (λ (ps : Vec (List ℕ) Global). ps.items) both.1) same
                  (for_told told (IsRefusedAs requests why) (λ f told_is. (found, told_for told (λ files. HoldsFiles files found) holds f told_is, planned))),
            ),
            λ f r told_is settled c l. refusal_stands words r c status (subst IsRefusal (sym both.0) (engine_refusal why.request why.fault)) (stays f r told_is settled c l),
          )
      refused_so status paths (on_files holds (files_differ {plan = made} is planned makes some)) = absurd (refused_no_change status paths made is)
      refused_so status paths (on_files holds (files_are_same is planned makes none)) = absurd (refused_no_answer status _ paths is)
      refused_so status paths (on_files holds (memory_is_short is)) = absurd (refused_no_answer status _ paths is)
      refused_so status paths (is_too_large is large) = absurd (refused_no_answer status _ paths is)
      refused_so status paths (is_not_read is rose) = absurd (refused_no_answer status _ paths is)
      refused_so status paths (is_short is) = absurd (refused_no_answer status _ paths is)

      pub reports_answered : (status result : Status) (old new : Option (List ℕ)) (quiet loud : ℕ) → DecidesAll requests told before after (Answer status) → IsReported status [] result old new quiet loud
          → (paths : List (List ℕ)) × ReportedOf (line_of paths) (SaidFound paths) result old new quiet loud
      reports_answered status result old new quiet loud decided r = ([], report_of [] (SaidFound []) status result old new quiet loud (answered_so status decided) (short_so []) r)

      pub reports_refused : (status result : Status) (paths : Vec (List ℕ) Global) (old new : Option (List ℕ)) (quiet loud : ℕ) → DecidesAll requests told before after (Refuse status paths) → IsReported status paths.items result old new quiet loud
          → (paths : List (List ℕ)) × ReportedOf (line_of paths) (SaidFound paths) result old new quiet loud
      reports_refused status result paths old new quiet loud decided r =
          (paths.items, report_of paths.items (SaidFound paths.items) status result old new quiet loud (refused_so status paths decided) (short_so paths.items) r)

    module _ (may : MayAsk (command_of words) requests) (found next : FileMap) (plan : Planned) (held : ForTold told (λ files. HoldsFiles files found)) (planned : PlannedAs found requests (Ok next)) (is : IsPlanFor found next plan)
        (some : plan.steps ≢ []) where
      holds_at : (f : Image) → told ≡ Some f → HoldsFiles f found
      holds_at f told_is = told_for told (λ files. HoldsFiles files found) held f told_is

      tell_replaced : (n : ℕ) → n ≡ length plan.steps → (t l : Option Image) → ((f : Image) → t ≡ Some f → HoldsFiles f found) → Tells t l (IsTaken plan) → Tells t l (IsReplaced requests n)
      tell_replaced n count None None can taken = tt
      tell_replaced n count None (Some g) can taken = taken
      tell_replaced n count (Some f) None can taken = taken
      tell_replaced n count (Some f) (Some g) can taken = replaced_by requests found next plan planned is f (can f refl) n g count some taken

      tell_part : (t l : Option Image) → ((f : Image) → t ≡ Some f → HoldsFiles f found) → Tells t l (ChangesOnlyPlanned plan) → Tells t l (IsPartlyReplaced requests)
      tell_part None None can part = tt
      tell_part None (Some g) can part = part
      tell_part (Some f) None can part = part
      tell_part (Some f) (Some g) can part = (found, next, can f refl, planned, others_as requests found next plan planned is f (can f refl) g part)

      survives_replaced : (t l : Option Image) (f r : Image) → t ≡ Some f → HoldsFiles f found → IsSettled f r kept → Tells t l (IsTaken plan) → OnlyTold l outcomes → (c : Image) → outcomes c → StandsForPlanned words r c
      survives_replaced None l f r told_is can settled taken only c left_so = absurd (none-some f told_is)
      survives_replaced (Some h) None f r told_is can settled taken only c left_so = absurd taken
      survives_replaced (Some h) (Some g) f r told_is can settled taken only c left_so =
          let here : IsTaken plan f g = subst (λ (i : Image). IsTaken plan i g) (same_Some h f told_is) taken in
          let gate = (here.journal some).1 in
          subst (StandsForPlanned words r) (sym (only c left_so))
          (stands_planned requests found next plan planned is f can words may r g settled.same (shut_image g (with_sides plan.steps f) (λ opened. none-some (49 ∷ []) (sym gate ∙ opened)) here.files))

      changed_so : (middle : ℕ) (mid : Option Image) (entered : Image → Type 0) (status : Status) → mid ≡ told → before ≤ middle → ((c : Image) → entered c → kept c)
          → ((f r : Image) → told ≡ Some f → IsSettled f r kept → (c : Image) → outcomes c → StandsForEither words r c)
          → Commits plan mid left entered outcomes middle after status → SaidFound [] status
      changed_so middle mid entered (Done (Changed files)) same later fewer either (count, taken_mid, only) =
          let taken : Tells told left (IsTaken plan) = subst (λ (t : Option Image). Tells t left (IsTaken plan)) same taken_mid in
          let more = next_of plan.steps some in
          let files_are : files ≡ suc more.0 = count ∙ more.1 in (
            (requests, asks, replaced {n = more.0} (ap (λ n. Done (Changed n)) files_are) (tell_replaced (suc more.0) (sym more.1) told left holds_at taken) (only some)),
            λ f r told_is settled c l. subst (λ (n : ℕ). StandsAfter words r (Done (Changed n)) c) (sym files_are)
                (inr (inr (survives_replaced told left f r told_is (holds_at f told_is) settled taken (only some) c l))),
          )
      changed_so middle mid entered (StoreFault Writing) same later fewer either (part, rose) =
          ((requests, asks, not_written refl (tell_part told left holds_at (subst (λ (t : Option Image). Tells t left (ChangesOnlyPlanned plan)) same part)) (rose_earlier before middle after later rose)), either)
      changed_so middle mid entered OutOfMemory same later fewer either (left_is, outcomes_are) =
          ((requests, asks, no_memory refl (left_is ∙ same)), λ f r told_is settled c l. settled_stands f r kept settled c (fewer c (outcomes_are c l)))
      changed_so middle mid entered other same later fewer either never_so = absurd never_so

      pub reports_changed : (middle : ℕ) (mid : Option Image) (entered : Image → Type 0) (status result : Status) (old new : Option (List ℕ)) (quiet loud : ℕ) → mid ≡ told → before ≤ middle → ((c : Image) → entered c → kept c)
          → ((f r : Image) → told ≡ Some f → IsSettled f r kept → (c : Image) → outcomes c → StandsForEither words r c)
          → Commits plan mid left entered outcomes middle after status → Reports status (line_of [] status) result old new quiet loud
          → (paths : List (List ℕ)) × ReportedOf (line_of paths) (SaidFound paths) result old new quiet loud
      reports_changed middle mid entered status result old new quiet loud same later fewer either commits r =
          ([], (status, changed_so middle mid entered status same later fewer either commits, r))

-- ---- what is answered by the whole call

earlier_plans : (requests : List Request) (paths : List (List ℕ)) (found left : Option Image) (outcomes : Image → Type 0) (before middle after : ℕ) (status : Status) → before ≤ middle → Plans requests paths found left outcomes middle after status
    → Plans requests paths found left outcomes before after status
earlier_plans requests paths found left outcomes before middle after status later (replaced is tells only) = replaced is tells only
earlier_plans requests paths found left outcomes before middle after status later (unchanged is same none) = unchanged is same none
earlier_plans requests paths found left outcomes before middle after status later (refused why is named same because) = refused why is named same because
earlier_plans requests paths found left outcomes before middle after status later (oversized is same large) = oversized is same large
earlier_plans requests paths found left outcomes before middle after status later (not_read is same rose) = not_read is same (rose_earlier before middle after later rose)
earlier_plans requests paths found left outcomes before middle after status later (not_written is tells rose) = not_written is tells (rose_earlier before middle after later rose)
earlier_plans requests paths found left outcomes before middle after status later (no_memory is same) = no_memory is same

sink_no_refusal : (status : Status) → IsRefusal status → SinkFault ≡ status → ⊥
sink_no_refusal status is same = subst IsRefusal (sym same) is

silent : (requests : List Request) (paths : List (List ℕ)) (found left : Option Image) (outcomes : Image → Type 0) (before after : ℕ) → Plans requests paths found left outcomes before after SinkFault → ⊥
silent requests paths found left outcomes before after (replaced is tells only) = cc
silent requests paths found left outcomes before after (unchanged is same none) = cc
silent requests paths found left outcomes before after (refused why is named same because) = sink_no_refusal (answer_to why.request why.fault) (engine_refusal why.request why.fault) is
silent requests paths found left outcomes before after (oversized is same large) = cc
silent requests paths found left outcomes before after (not_read is same rose) = cc
silent requests paths found left outcomes before after (not_written is tells rose) = cc
silent requests paths found left outcomes before after (no_memory is same) = cc

module _ (words : List (List ℕ)) (Asks : Option Image → List Request → Type 0) (told left : Option Image) (kept outcomes : Image → Type 0) (before after : ℕ) where
  abbrev pub Said : List (List ℕ) → Status → Type 0
  Said paths status = AnswersPlanned words Asks paths told left outcomes before after status × Survives words told kept outcomes status

  module _ (asks : AsksRecovery words) (found : Option Image) (settled_outcomes : Image → Type 0) (middle : ℕ) (later : before ≤ middle) (recovered : Recovers told found)
      (closed : (f r : Image) → told ≡ Some f → Restored f r → StartsRecover f kept → (c : Image) → settled_outcomes c → (IsOpen c → ⊥) × SameFiles c r) where
    pub carried_planned : (result : Status) (old new : Option (List ℕ)) (fewer more : ℕ)
        → (paths : List (List ℕ)) × ReportedOf (line_of paths) (λ status. PlansAsked Asks paths found left outcomes middle after status × SurvivesSettled words found settled_outcomes outcomes status) result old new fewer more
        → (paths : List (List ℕ)) × ReportedOf (line_of paths) (Said paths) result old new fewer more
    carried_planned result old new fewer more (paths, (status, ((requests, asked, plans), survives), reports)) = (
      paths,
      (
        status,
        (
          (found, asks, recovered, (requests, asked, earlier_plans requests paths found left outcomes before middle after status later plans)),
          λ f r told_is restored start c l.
              let g = still_told told found f recovered told_is in
              survives g.0 r g.1 (settled_after told found settled_outcomes f g.0 r recovered told_is g.1 restored (closed f r told_is restored start)) c l,
        ),
        reports,
      ),
    )

  module _ (old new : Option (List ℕ)) (fewer more : ℕ) where
    written : (paths : List (List ℕ)) (status : Status) → Said paths status → Appends old new (line_of paths status) → OutcomeOf (line_of paths) (Said paths) old new fewer more status
    written paths SinkFault ((found, asks, recovered, (requests, asked, plans)), survives) appends = absurd (silent requests paths found left outcomes before after plans)
    written paths other said appends = (said, appends)

    outcome_of : (paths : List (List ℕ)) (result : Status) → ReportedOf (line_of paths) (Said paths) result old new fewer more → OutcomeOf (line_of paths) (Said paths) old new fewer more result
    outcome_of paths result (status, said, inl done) = subst (OutcomeOf (line_of paths) (Said paths) old new fewer more) (sym done.0) (written paths status said done.1)
    outcome_of paths result (status, said, inr failed) = subst (OutcomeOf (line_of paths) (Said paths) old new fewer more) (sym failed.0) (status, said, failed.1, failed.2)

    pub outcome : (result : Status) → (paths : List (List ℕ)) × ReportedOf (line_of paths) (Said paths) result old new fewer more → (paths : List (List ℕ)) × OutcomeOf (line_of paths) (Said paths) old new fewer more result
    outcome result (paths, reported) = (paths, outcome_of paths result reported)

    -- what was asked for when recovery had found files
    pub asked_of : (result : Status) → (paths : List (List ℕ)) × ReportedOf (line_of paths) (Said paths) result old new fewer more
        → (found : Option Image) × (requests : List Request) × AsksRecovery words × Recovers told found × Asks found requests
    asked_of result (paths, (status, ((found, asks, recovered, (requests, asked, plans)), survives), reports)) = (found, requests, asks, recovered, asked)
