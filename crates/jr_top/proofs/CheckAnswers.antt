-- From what is said of the files to the answer to a command that reads them.
use Rattle.std.proofs.Common.{◌≡◌, ◌⊎◌, inl, inr, ℕ, zero, suc, ◌+◌, ◌<◌, ◌≤◌, List, [], ◌∷◌, Option, Some, None, Err, IsTrue, refl, sym, ap, subst, ◌∙◌, arith}
use Rattle.std.specs.Prelude.{IsSome, Contains}
use Rattle.std.specs.FinMap as map
use Rattle.jr_base.specs.Files.{FileMap}
use Rattle.jr_base.specs.Paths.{is_java}
use Rattle.jr_base.specs.declared.limits.Size.{Size}
use Rattle.jr_base.specs.declared.limits.TheConstants.Limits as limits
use Rattle.jr_lex.specs.declared.fault.LexFault.TheVariants as lexing
use Rattle.jr_parse.specs.declared.fault.ParseFault.TheVariants as parsing
use Rattle.jr_front.specs.Checking.{CheckedAs}
use Rattle.jr_front.specs.declared.fault.FrontFault.{FrontFault}
use Rattle.jr_front.specs.declared.fault.FrontFault.TheVariants as front
use Rattle.jr_gather.specs.Gathering.{HoldsFiles, AreFiles, IsTooLarge, IsFirstTooLarge, many_files, long_path, large_file, much_in_all, size_of, sizes}
use Rattle.std.proofs.lemmas.Option.{same_Some}
use Rattle.jr_commit.specs.Restoring.{Restored, RestoresTo, SameFiles, StartsRecover}
use Rattle.jr_request.specs.Words.{command_of}
use Rattle.jr_request.specs.declared.command.Command.{Command}
use Rattle.jr_request.specs.declared.command.Command.TheVariants.{Check, Run, Refs, Subtypes, Callers}
use Rattle.jr_store.specs.Image.{Image, AreJava, Tells, Rose}
use Rattle.jr_top.specs.Answers.{IsFailure}
use Rattle.jr_top.specs.Checking.{IsReading, AsksReading, IsVerdict, accepted, refused, oversized, Fronted, front_accepts, front_refuses, front_wants_memory, IsShown, shows, shows_none, shows_refusal, shows_size, Showed, has_text, has_reason, has_refusal, has_no_memory, IsSaid, Checks, AnswersReading, IsCheckedSo, status_of}
use Rattle.jr_top.specs.Crash.{Survives}
use Rattle.jr_top.specs.Line.{line_of}
use Rattle.jr_top.specs.Performing.{ReportedOf}
use Rattle.jr_top.specs.Recovering.{NeedsFiles, Recovers}
use Rattle.jr_top.specs.Reasons.{reason_number}
use Rattle.jr_top.specs.Renaming.{AsksRename, ForTold}
use Rattle.jr_top.specs.declared.status.Phase.TheVariants.{Recovering, Reading}
use Rattle.jr_top.specs.declared.status.Report.TheVariants.{Checked, Printed}
use Rattle.jr_top.specs.declared.status.Status.{Status}
use Rattle.jr_top.specs.declared.status.Status.TheVariants.{Done, BadRequest, NotCompiling, StoreFault, TooLarge, OutOfMemory, BadJournal}
use Rattle.jr_top.proofs.Outcomes.{for_told, rose_earlier, found_files, no_bad_journal}
use Rattle.jr_top.proofs.PlainAnswers.{IsPlain}

-- a command that reads the files needs them
pub reading_needs : (command : Command) → IsReading command → NeedsFiles command
reading_needs Check reads = tt
reading_needs (Run class steps) reads = tt
reading_needs (Refs file at) reads = tt
reading_needs (Subtypes file at) reads = tt
reading_needs (Callers file at) reads = tt
reading_needs other reads = absurd reads

-- words that ask for a rename ask for none
pub no_reading : (words : List (List ℕ)) (file : List ℕ) (at : ℕ) (name : List ℕ) → AsksRename words file at name → AsksReading words → ⊥
no_reading words file at name asks (command, is, reads) = subst IsReading (same_Some _ _ (sym is ∙ asks)) reads

-- the line shows these paths
pub reading_plain : (words : List (List ℕ)) → AsksReading words → (paths : List (List ℕ)) → IsPlain words paths (line_of paths)
reading_plain words (command, is, reads) paths = record { recovery = (command, is, reading_needs command reads); shown = λ status. refl }

-- ---- what is said of the files

module _ (told : Option Image) (before after : ℕ) where
  pub oversized_said : (what : Size) → ((f : Image) → told ≡ Some f → IsFirstTooLarge f what) → Checks (Some Check) told [] before after (TooLarge what 0)
  oversized_said what large = for_told told (λ f. IsVerdict f [] (TooLarge what 0)) (λ f is. oversized (large f is) refl)

  module _ (found : FileMap) (holds : (f : Image) → told ≡ Some f → HoldsFiles f found) (paths : List (List ℕ)) where
    refused_as : (why : FrontFault) → CheckedAs found (Err why) → paths ≡ map.keys found → (status : Status) → status ≡ status_of why → ForTold told (λ f. IsVerdict f paths status)
    refused_as why checked keys status is = for_told told (λ f. IsVerdict f paths status) (λ f told_is. refused (holds f told_is) checked keys is)

    by_fault : (why : FrontFault) → CheckedAs found (Err why) → paths ≡ map.keys found → Checks (Some Check) told paths before after (status_of why)
    by_fault (front.TooLarge what) checked keys = refused_as (front.TooLarge what) checked keys (status_of (front.TooLarge what)) refl
    by_fault (front.Lex cu (lexing.BadByte at)) checked keys = refused_as (front.Lex cu (lexing.BadByte at)) checked keys (status_of (front.Lex cu (lexing.BadByte at))) refl
    by_fault (front.Lex cu (lexing.OpenComment at)) checked keys = refused_as (front.Lex cu (lexing.OpenComment at)) checked keys (status_of (front.Lex cu (lexing.OpenComment at))) refl
    by_fault (front.Lex cu (lexing.OpenLiteral at)) checked keys = refused_as (front.Lex cu (lexing.OpenLiteral at)) checked keys (status_of (front.Lex cu (lexing.OpenLiteral at))) refl
    by_fault (front.Lex cu (lexing.BadEscape at)) checked keys = refused_as (front.Lex cu (lexing.BadEscape at)) checked keys (status_of (front.Lex cu (lexing.BadEscape at))) refl
    by_fault (front.Lex cu (lexing.BadNumber at)) checked keys = refused_as (front.Lex cu (lexing.BadNumber at)) checked keys (status_of (front.Lex cu (lexing.BadNumber at))) refl
    by_fault (front.Lex cu (lexing.NotUtf8 at)) checked keys = refused_as (front.Lex cu (lexing.NotUtf8 at)) checked keys (status_of (front.Lex cu (lexing.NotUtf8 at))) refl
    by_fault (front.Lex cu lexing.OutOfMemory) checked keys = tt
    by_fault (front.Parse (parsing.NoTree number) place) checked keys = refused_as (front.Parse (parsing.NoTree number) place) checked keys (status_of (front.Parse (parsing.NoTree number) place)) refl
    by_fault (front.Parse (parsing.TooDeep number) place) checked keys = refused_as (front.Parse (parsing.TooDeep number) place) checked keys (status_of (front.Parse (parsing.TooDeep number) place)) refl
    by_fault (front.Parse parsing.OutOfMemory place) checked keys = tt
    by_fault (front.PathMismatch cu) checked keys = refused_as (front.PathMismatch cu) checked keys (status_of (front.PathMismatch cu)) refl
    by_fault (front.Duplicate place) checked keys = refused_as (front.Duplicate place) checked keys (status_of (front.Duplicate place)) refl
    by_fault (front.Cycle place) checked keys = refused_as (front.Cycle place) checked keys (status_of (front.Cycle place)) refl
    by_fault (front.Unbound place) checked keys = refused_as (front.Unbound place) checked keys (status_of (front.Unbound place)) refl
    by_fault (front.Broken rule place) checked keys = refused_as (front.Broken rule place) checked keys (status_of (front.Broken rule place)) refl
    by_fault front.OutOfMemory checked keys = tt

    pub fronted_said : (status : Status) → Fronted found paths status → Checks (Some Check) told paths before after status
    fronted_said status (front_accepts checked is) =
        subst (Checks (Some Check) told paths before after) (sym is) (for_told told (λ f. IsVerdict f paths (Done (Checked (map.len found)))) (λ f told_is. accepted (holds f told_is) checked refl))
    fronted_said status (front_refuses {why = why} checked keys is) = subst (Checks (Some Check) told paths before after) (sym is) (by_fault why checked keys)
    fronted_said status (front_wants_memory is) = subst (Checks (Some Check) told paths before after) (sym is) tt

-- ---- what is shown

-- what is shown is said to a command that is no check
to_asked : (asked : Option Command) (f : Image) (paths : List (List ℕ)) (status : Status) → (asked ≡ Some Check → ⊥) → IsShown asked f paths status → IsSaid asked f paths status
to_asked None f paths status none shown = shown
to_asked (Some Check) f paths status none shown = absurd (none refl)
to_asked (Some other) f paths status none shown = shown

module _ (asked : Option Command) (no_check : asked ≡ Some Check → ⊥) (told : Option Image) (before after : ℕ) where
  told_shown : (paths : List (List ℕ)) (status : Status) → ((f : Image) → told ≡ Some f → IsShown asked f paths status) → ForTold told (λ f. IsSaid asked f paths status)
  told_shown paths status each = for_told told (λ f. IsSaid asked f paths status) (λ f is. to_asked asked f paths status no_check (each f is))

  pub shown_size : (what : Size) → ((f : Image) → told ≡ Some f → IsFirstTooLarge f what) → Checks asked told [] before after (TooLarge what 0)
  shown_size what large = told_shown [] (TooLarge what 0) (λ f is. shows_size (large f is) refl)

  module _ (found : FileMap) (holds : (f : Image) → told ≡ Some f → HoldsFiles f found) (paths : List (List ℕ)) where
    shown_refusal : (why : FrontFault) → CheckedAs found (Err why) → paths ≡ map.keys found → (status : Status) → status ≡ status_of why → ForTold told (λ f. IsSaid asked f paths status)
    shown_refusal why checked keys status is = told_shown paths status (λ f told_is. shows_refusal (holds f told_is) checked keys is)

    shown_fault : (why : FrontFault) → CheckedAs found (Err why) → paths ≡ map.keys found → Checks asked told paths before after (status_of why)
    shown_fault (front.TooLarge what) checked keys = shown_refusal (front.TooLarge what) checked keys (status_of (front.TooLarge what)) refl
    shown_fault (front.Lex cu (lexing.BadByte at)) checked keys = shown_refusal (front.Lex cu (lexing.BadByte at)) checked keys (status_of (front.Lex cu (lexing.BadByte at))) refl
    shown_fault (front.Lex cu (lexing.OpenComment at)) checked keys = shown_refusal (front.Lex cu (lexing.OpenComment at)) checked keys (status_of (front.Lex cu (lexing.OpenComment at))) refl
    shown_fault (front.Lex cu (lexing.OpenLiteral at)) checked keys = shown_refusal (front.Lex cu (lexing.OpenLiteral at)) checked keys (status_of (front.Lex cu (lexing.OpenLiteral at))) refl
    shown_fault (front.Lex cu (lexing.BadEscape at)) checked keys = shown_refusal (front.Lex cu (lexing.BadEscape at)) checked keys (status_of (front.Lex cu (lexing.BadEscape at))) refl
    shown_fault (front.Lex cu (lexing.BadNumber at)) checked keys = shown_refusal (front.Lex cu (lexing.BadNumber at)) checked keys (status_of (front.Lex cu (lexing.BadNumber at))) refl
    shown_fault (front.Lex cu (lexing.NotUtf8 at)) checked keys = shown_refusal (front.Lex cu (lexing.NotUtf8 at)) checked keys (status_of (front.Lex cu (lexing.NotUtf8 at))) refl
    shown_fault (front.Lex cu lexing.OutOfMemory) checked keys = tt
    shown_fault (front.Parse (parsing.NoTree number) place) checked keys = shown_refusal (front.Parse (parsing.NoTree number) place) checked keys (status_of (front.Parse (parsing.NoTree number) place)) refl
    shown_fault (front.Parse (parsing.TooDeep number) place) checked keys = shown_refusal (front.Parse (parsing.TooDeep number) place) checked keys (status_of (front.Parse (parsing.TooDeep number) place)) refl
    shown_fault (front.Parse parsing.OutOfMemory place) checked keys = tt
    shown_fault (front.PathMismatch cu) checked keys = shown_refusal (front.PathMismatch cu) checked keys (status_of (front.PathMismatch cu)) refl
    shown_fault (front.Duplicate place) checked keys = shown_refusal (front.Duplicate place) checked keys (status_of (front.Duplicate place)) refl
    shown_fault (front.Cycle place) checked keys = shown_refusal (front.Cycle place) checked keys (status_of (front.Cycle place)) refl
    shown_fault (front.Unbound place) checked keys = shown_refusal (front.Unbound place) checked keys (status_of (front.Unbound place)) refl
    shown_fault (front.Broken rule place) checked keys = shown_refusal (front.Broken rule place) checked keys (status_of (front.Broken rule place)) refl
    shown_fault front.OutOfMemory checked keys = tt

    pub showed_said : (status : Status) → Showed asked found paths status → Checks asked told paths before after status
    showed_said status (has_text {text = text} checked answers is) = subst (Checks asked told paths before after) (sym is) (told_shown paths (Done (Printed text)) (λ f told_is. shows (holds f told_is) checked answers refl))
    showed_said status (has_reason reason checked answers is) =
        subst (Checks asked told paths before after) (sym is) (told_shown paths (BadRequest 0 (reason_number reason) None) (λ f told_is. shows_none reason (holds f told_is) checked answers refl))
    showed_said status (has_refusal {why = why} checked keys is) = subst (Checks asked told paths before after) (sym is) (shown_fault why checked keys)
    showed_said status (has_no_memory is) = subst (Checks asked told paths before after) (sym is) tt

-- ---- the same of files that are the same

java_at : (paths : List (List ℕ)) → AreJava paths → (path : List ℕ) → Contains paths path → IsTrue (is_java path)
java_at [] java path (k, below, is) = absurd (omega arith)
java_at (p ∷ paths) java path (zero, below, is) = subst (λ (q : List ℕ). IsTrue (is_java q)) is java.0
java_at (p ∷ paths) java path (suc k, below, is) = java_at paths java.1 path (k, omega arith, is)

module _ (f g : Image) (same : SameFiles f g) where
  files_same : (found : FileMap) → HoldsFiles f found → HoldsFiles g found
  files_same found holds = record { java = holds.java; each = λ path java. sym (same path java) ∙ holds.each path java }

  sizes_same : (paths : List (List ℕ)) → AreJava paths → sizes g paths ≡ sizes f paths
  sizes_same [] java = refl
  sizes_same (path ∷ paths) java = ap (λ (o : Option (List ℕ)). size_of o + sizes g paths) (sym (same path java.0)) ∙ ap (λ (n : ℕ). size_of (f path) + n) (sizes_same paths java.1)

  are_same : (paths : List (List ℕ)) → AreFiles f paths → AreFiles g paths
  are_same paths are = record {
    distinct = are.distinct;
    java = are.java;
    there = λ path contains. subst IsSome (same path (java_at paths are.java path contains)) (are.there path contains);
  }

  large_same : {what : Size} → IsTooLarge f what → IsTooLarge g what
  large_same (many_files paths are many) = many_files paths (are_same paths are) many
  large_same (long_path path java there long) = long_path path java (subst IsSome (same path java) there) long
  large_same (large_file path bytes java there long) = large_file path bytes java (sym (same path java) ∙ there) long
  large_same (much_in_all paths are many) = much_in_all paths (are_same paths are) (subst (λ (n : ℕ). limits.TOTAL < n) (sym (sizes_same paths are.java)) many)

module _ (f g : Image) (same : SameFiles f g) where
  first_same : {what : Size} → IsFirstTooLarge f what → IsFirstTooLarge g what
  first_same it = record { passes = large_same f g same it.passes; first = λ other large. it.first other (large_same g f (λ path java. sym (same path java)) large) }

  verdict_same : (paths : List (List ℕ)) (status : Status) → IsVerdict f paths status → IsVerdict g paths status
  verdict_same paths status (accepted {found} holds checked is) = accepted (files_same f g same found holds) checked is
  verdict_same paths status (refused {found} holds checked keys is) = refused (files_same f g same found holds) checked keys is
  verdict_same paths status (oversized {what} large is) = oversized (first_same large) is

  shown_same : (asked : Option Command) (paths : List (List ℕ)) (status : Status) → IsShown asked f paths status → IsShown asked g paths status
  shown_same asked paths status (shows {found} holds checked answers is) = shows (files_same f g same found holds) checked answers is
  shown_same asked paths status (shows_none {found} reason holds checked answers is) = shows_none reason (files_same f g same found holds) checked answers is
  shown_same asked paths status (shows_refusal {found} holds checked keys is) = shows_refusal (files_same f g same found holds) checked keys is
  shown_same asked paths status (shows_size large is) = shows_size (first_same large) is

  said_same : (asked : Option Command) (paths : List (List ℕ)) (status : Status) → IsSaid asked f paths status → IsSaid asked g paths status
  said_same (Some Check) paths status said = verdict_same paths status said
  said_same other paths status said = shown_same other paths status said

-- ---- the answer

module _ (words : List (List ℕ)) (paths : List (List ℕ)) (told left : Option Image) (kept outcomes : Image → Type 0) (before after : ℕ) where
  abbrev Said : Status → Type 0
  Said status = AnswersReading words paths told left outcomes before after status × Survives words told kept outcomes status

  -- what was said of the files that recovery has found, which are left
  module _ (middle : ℕ) (later : before ≤ middle) (recovered : Recovers told left) (stands : (f found : Image) → told ≡ Some f → Restored f found → StartsRecover f kept → (c : Image) → outcomes c → RestoresTo c found) where
    pub checked_so : (status : Status) → Checks (command_of words) left paths middle after status → Said status
    checked_so (Done (Checked files)) h = ((recovered, h), stands)
    checked_so (Done (Printed text)) h = ((recovered, h), stands)
    checked_so (Done other) h = absurd h
    checked_so (BadRequest request reason field) h = ((recovered, h), stands)
    checked_so (NotCompiling why) h = ((recovered, h), stands)
    checked_so (TooLarge what request) h = ((recovered, h), stands)
    checked_so (StoreFault Reading) h = ((recovered, rose_earlier before middle after later h), λ f found told_is restored start c l. inl (stands f found told_is restored start c l))
    checked_so (StoreFault other) h = absurd h
    checked_so OutOfMemory h = (inr recovered, stands)
    checked_so other h = absurd h

  -- the one answer of the files found
  module _ (old new : Option (List ℕ)) (fewer more : ℕ) (files found : Image) (is : told ≡ Some files) (restored : Restored files found) where
    as_found : (g : Image) → left ≡ Some g → SameFiles g found → Tells (Some found) left (λ before_it after_it. SameFiles after_it before_it)
    as_found g left_is same = subst (λ (o : Option Image). Tells (Some found) o (λ before_it after_it. SameFiles after_it before_it)) (sym left_is) same

    judged : (status : Status) → Recovers told left → ForTold left (λ f. IsSaid (command_of words) f paths status) → IsCheckedSo (command_of words) found left status
    judged status recovered verdict =
        let there = found_files files found told left is restored recovered in
        let said : IsSaid (command_of words) there.0 paths status = subst (λ (o : Option Image). ForTold o (λ f. IsSaid (command_of words) f paths status)) there.1 verdict in
        record { paths = paths; answer = said_same there.0 found there.2 (command_of words) paths status said; files = as_found there.0 there.1 there.2 }

    each : (status : Status) → AnswersReading words paths told left outcomes before after status → IsCheckedSo (command_of words) found left status ⊎ IsFailure before after fewer more status
    each BadJournal a = absurd (no_bad_journal files found told is restored a.2)
    each (StoreFault Recovering) a = inr a.2
    each (StoreFault Reading) a = inr a.1
    each (StoreFault other) a = absurd a.1
    each OutOfMemory a = inr tt
    each (Done (Checked files)) a = inl (judged (Done (Checked files)) a.0 a.1)
    each (Done (Printed text)) a = inl (judged (Done (Printed text)) a.0 a.1)
    each (Done other) a = absurd a.1
    each (BadRequest request reason field) a = inl (judged (BadRequest request reason field) a.0 a.1)
    each (NotCompiling why) a = inl (judged (NotCompiling why) a.0 a.1)
    each (TooLarge what request) a = inl (judged (TooLarge what request) a.0 a.1)
    each other a = absurd a.1

    pub exact : (result : Status) → ReportedOf (line_of paths) Said result old new fewer more → IsCheckedSo (command_of words) found left result ⊎ IsFailure before after fewer more result
    exact result (status, said, inl done) = subst (λ (x : Status). IsCheckedSo (command_of words) found left x ⊎ IsFailure before after fewer more x) (sym done.0) (each status said.0)
    exact result (status, said, inr failed) = inr (subst (IsFailure before after fewer more) (sym failed.0) failed.2)
