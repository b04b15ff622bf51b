-- From what each kind of command comes to, to the equation of the command.
use Rattle.std.proofs.Common.{◌≡◌, ◌⊎◌, inl, inr, ⊎_elim, ℕ, List, Option, Some, None, IsSome, Err, refl, sym, subst, ◌∙◌}
use Rattle.std.proofs.lemmas.Option.{same_Some, none-some}
use Rattle.jr_base.specs.declared.request.Request.{Request}
use Rattle.jr_base.specs.declared.request.Request.TheVariants.{Rename}
use Rattle.jr_request.specs.Input.{IsInputAnswer}
use Rattle.jr_request.specs.declared.input_fault.BatchFault.{BatchFault}
use Rattle.jr_commit.specs.Restoring.{Restored}
use Rattle.jr_request.specs.Words.{command_of}
use Rattle.jr_request.specs.declared.command.Command.{Command}
use Rattle.jr_request.specs.declared.command.Command.TheVariants.{One, Batch, Check, Run, Demo, Undo, Refs, Subtypes, Callers}
use Rattle.jr_store.specs.Image.{Image}
use Rattle.jr_thin.specs.Renaming.{Serves, IsRenaming}
use Rattle.jr_thin.specs.declared.answers.Renaming.{Renaming}
use Rattle.jr_top.specs.Answers.{OutcomeOf, IsDemonstrated, IsServedAnswer}
use Rattle.jr_top.specs.Batches.{AsksBatch, status_of, IsBatchFailure}
use Rattle.jr_top.specs.Calls.{Call, IsTold, IsOwn, IsPlannedFor, IsInputRefused, IsReadBy, IsUndone, Obeys, Comes, Fails, Finds, ObeysAlone, IsTheAnswer}
use Rattle.jr_top.specs.Checking.{IsReading, AsksReading, IsCheckedSo}
use Rattle.jr_top.specs.Crash.{Survives}
use Rattle.jr_top.specs.Engine.{AsksOne, AsksAll, AnswersPlanned}
use Rattle.jr_top.specs.Exact.{IsAnswered}
use Rattle.jr_top.specs.Line.{line_of}
use Rattle.jr_top.specs.Recovering.{AsksRecovery, NeedsFiles}
use Rattle.jr_top.specs.Renaming.{AsksRename, Holds}
use Rattle.jr_top.specs.Undoing.{AsksUndo, IsUndoAnswer}
use Rattle.jr_top.specs.declared.status.Status.{Status}
use Rattle.jr_top.specs.declared.status.Status.TheVariants.{SinkFault, BadWords}

-- what is so of the answer whose line was written or being written
so_of : (line : Status → List ℕ) (IsSo : Status → Type 0) (old new : Option (List ℕ)) (fewer more : ℕ) (said : Status) → OutcomeOf line IsSo old new fewer more said → (status : Status) × IsSo status
so_of line IsSo old new fewer more SinkFault told = (told.0, told.1)
so_of line IsSo old new fewer more other told = (other, told.0)

told_so : (c : Call) (line : Status → List ℕ) (IsSo : Status → Type 0) (said : Status) → IsTold c line IsSo said → (status : Status) × IsSo status
told_so c line IsSo said told =
    let so = so_of line (λ status. IsSo status × Survives c.words c.store.told c.store.kept c.store.outcomes status) c.output.old c.output.new c.output.before c.output.after said told in
    (so.0, so.1.0)

abbrev IsOne : Option Command → Type 0
IsOne (Some (One request)) = Unit {0}
IsOne other = ⊥

abbrev IsBatch : Option Command → Type 0
IsBatch (Some Batch) = Unit {0}
IsBatch other = ⊥

abbrev IsUndo : Option Command → Type 0
IsUndo (Some Undo) = Unit {0}
IsUndo other = ⊥

abbrev IsRead : Option Command → Type 0
IsRead None = ⊥
IsRead (Some command) = IsReading command

-- what is told of a call by what its words ask for
module _ (c : Call) (said : Status)
    (own : (AsksBatch c.words → ⊥) → (AsksReading c.words → ⊥) → (AsksUndo c.words → ⊥) → IsOwn c said ⊎ IsPlannedFor c (AsksOne c.words) said)
    (batch : AsksBatch c.words → IsInputRefused c said ⊎ IsPlannedFor c (AsksAll c.words c.input.heard) said)
    (reading : AsksReading c.words → IsReadBy (command_of c.words) c said)
    (undo : AsksUndo c.words → IsUndone c said) where
  -- what is planned is one request
  one_is_planned : (command : Option Command) → command_of c.words ≡ command → (IsOne command → ⊥) → IsPlannedFor c (AsksOne c.words) said → ⊥
  one_is_planned command is none (paths, told) =
      let planned = (told_so c (line_of paths) (AnswersPlanned c.words (AsksOne c.words) paths c.store.told c.store.left c.store.outcomes c.store.before c.store.after) said told).1 in
      none (subst IsOne (sym planned.3.1.1 ∙ is) tt)

  -- a command that is none of the others
  other_comes : (command : Option Command) → command_of c.words ≡ command → (IsBatch command → ⊥) → (IsRead command → ⊥) → (IsUndo command → ⊥) → IsOwn c said ⊎ IsPlannedFor c (AsksOne c.words) said
  other_comes command is no_batch no_read no_undo =
      own (λ asks. no_batch (subst IsBatch (sym asks ∙ is) tt)) (λ (one, asks, reads). no_read (subst IsRead (sym asks ∙ is) reads)) (λ asks. no_undo (subst IsUndo (sym asks ∙ is) tt))

  own_comes : (command : Option Command) → command_of c.words ≡ command → (IsOne command → ⊥) → (IsBatch command → ⊥) → (IsRead command → ⊥) → (IsUndo command → ⊥) → IsOwn c said
  own_comes command is no_one no_batch no_read no_undo =
      ⊎_elim (λ mine. mine) (λ planned. absurd (one_is_planned command is no_one planned)) (other_comes command is no_batch no_read no_undo)

  read_comes : (command : Command) → command_of c.words ≡ Some command → IsReading command → IsReadBy (Some command) c said
  read_comes command is reads = subst (λ asked. IsReadBy asked c said) is (reading (command, is, reads))

  pub comes : (command : Option Command) → command_of c.words ≡ command → Obeys command c said
  comes None is = own_comes None is (λ never. never) (λ never. never) (λ never. never) (λ never. never)
  comes (Some (Demo count)) is = own_comes (Some (Demo count)) is (λ never. never) (λ never. never) (λ never. never) (λ never. never)
  comes (Some (One request)) is = other_comes (Some (One request)) is (λ never. never) (λ never. never) (λ never. never)
  comes (Some Batch) is = batch is
  comes (Some Undo) is = undo is
  comes (Some Check) is = read_comes Check is tt
  comes (Some (Run class steps)) is = read_comes (Run class steps) is tt
  comes (Some (Refs file at)) is = read_comes (Refs file at) is tt
  comes (Some (Subtypes file at)) is = read_comes (Subtypes file at) is tt
  comes (Some (Callers file at)) is = read_comes (Callers file at) is tt

-- a call by all that is seen of it
abbrev pub call : List (List ℕ) → Option Image → Option Image → (Image → Type 0) → (Image → Type 0) → ℕ → ℕ → Option (List ℕ) → ℕ → ℕ → Option (List ℕ) → Option (List ℕ) → ℕ → ℕ → Call
call words told left kept outcomes before after heard quiet loud old new fewer more = record {
  words = words;
  store = record { told = told; left = left; kept = kept; outcomes = outcomes; before = before; after = after };
  input = record { heard = heard; before = quiet; after = loud };
  output = record { old = old; new = new; before = fewer; after = more };
}

-- the one answer, told by what the words ask for
pub record TellsAlone (c : Call) (said : Status) : Type 0 where
  pub complete : (files found : Image) → c.store.told ≡ Some files → Restored files found → (file : List ℕ) (at : ℕ) (name bytes : List ℕ) → AsksRename c.words file at name → Holds found file bytes → Serves bytes at name
      → IsServedAnswer c.store.before c.store.after c.output.before c.output.after said
  pub exact : (files found : Image) → c.store.told ≡ Some files → Restored files found → (file : List ℕ) (at : ℕ) (name bytes : List ℕ) (comes_to : Renaming) → AsksRename c.words file at name → Holds found file bytes
      → Serves bytes at name → IsRenaming bytes at name comes_to → IsAnswered found file bytes comes_to c.store.left said ⊎ Fails c said
  pub demonstrated : IsSome (command_of c.words) → (AsksRecovery c.words → ⊥) → IsDemonstrated said ⊎ Fails c said
  pub bad_words : command_of c.words ≡ None → (said ≡ BadWords) ⊎ Fails c said
  pub batch : (files found : Image) (bytes : List ℕ) (why : BatchFault) → c.store.told ≡ Some files → Restored files found → AsksBatch c.words → c.input.heard ≡ Some bytes → IsInputAnswer bytes (Err why)
      → (said ≡ status_of why) ⊎ IsBatchFailure c.store.before c.store.after c.output.before c.output.after c.input.before c.input.after said
  pub reading : (files found : Image) → c.store.told ≡ Some files → Restored files found → AsksReading c.words → IsCheckedSo (command_of c.words) found c.store.left said ⊎ Fails c said
  pub undo : (files found : Image) → c.store.told ≡ Some files → Restored files found → AsksUndo c.words → IsUndoAnswer found c.store.left said ⊎ Fails c said

abbrev IsDemo : Command → Type 0
IsDemo (Demo count) = Unit {0}
IsDemo other = ⊥

demo_needs_nothing : (command : Command) → IsDemo command → NeedsFiles command → ⊥
demo_needs_nothing (Demo count) is needs = needs
demo_needs_nothing other is needs = is

module _ (c : Call) (said : Status) (told : TellsAlone c said) where
  read_alone : (command : Command) → command_of c.words ≡ Some command → IsReading command → (found : Image) → Finds c found → IsCheckedSo (Some command) found c.store.left said ⊎ Fails c said
  read_alone command is reads found f =
      subst (λ asked. IsCheckedSo asked found c.store.left said ⊎ Fails c said) is (told.reading f.files found f.told f.restored (command, is, reads))

  pub alone : (command : Option Command) → command_of c.words ≡ command → ObeysAlone command c said
  alone None is = told.bad_words is
  alone (Some (Demo count)) is = told.demonstrated (subst IsSome (sym is) refl) (λ (one, asks, needs). demo_needs_nothing one (subst IsDemo (same_Some _ _ (sym is ∙ asks)) tt) needs)
  alone (Some (One (Rename file at name))) is = record {
    complete = λ found bytes f holds serves. told.complete f.files found f.told f.restored file at name bytes is holds serves;
    exact = λ found bytes comes_to f holds serves renames. told.exact f.files found f.told f.restored file at name bytes comes_to is holds serves renames;
  }
  alone (Some (One other)) is = tt
  alone (Some Batch) is = λ found bytes why f heard refused. told.batch f.files found bytes why f.told f.restored is heard refused
  alone (Some Undo) is = λ found f. told.undo f.files found f.told f.restored is
  alone (Some Check) is = read_alone Check is tt
  alone (Some (Run class steps)) is = read_alone (Run class steps) is tt
  alone (Some (Refs file at)) is = read_alone (Refs file at) is tt
  alone (Some (Subtypes file at)) is = read_alone (Subtypes file at) is tt
  alone (Some (Callers file at)) is = read_alone (Callers file at) is tt

-- ---- from the equation of the command, to what is asked for

module _ (c : Call) (said : Status) where
  own_by : (command : Option Command) → command_of c.words ≡ command → Obeys command c said → (AsksBatch c.words → ⊥) → (AsksReading c.words → ⊥) → (AsksUndo c.words → ⊥) → IsOwn c said ⊎ IsPlannedFor c (AsksOne c.words) said
  own_by None is obeys no_batch no_reading no_undo = inl obeys
  own_by (Some (Demo count)) is obeys no_batch no_reading no_undo = inl obeys
  own_by (Some (One request)) is obeys no_batch no_reading no_undo = obeys
  own_by (Some Batch) is obeys no_batch no_reading no_undo = absurd (no_batch is)
  own_by (Some Undo) is obeys no_batch no_reading no_undo = absurd (no_undo is)
  own_by (Some Check) is obeys no_batch no_reading no_undo = absurd (no_reading (Check, is, tt))
  own_by (Some (Run class steps)) is obeys no_batch no_reading no_undo = absurd (no_reading (Run class steps, is, tt))
  own_by (Some (Refs file at)) is obeys no_batch no_reading no_undo = absurd (no_reading (Refs file at, is, tt))
  own_by (Some (Subtypes file at)) is obeys no_batch no_reading no_undo = absurd (no_reading (Subtypes file at, is, tt))
  own_by (Some (Callers file at)) is obeys no_batch no_reading no_undo = absurd (no_reading (Callers file at, is, tt))

  pub own_told : Comes c said → (AsksBatch c.words → ⊥) → (AsksReading c.words → ⊥) → (AsksUndo c.words → ⊥) → IsOwn c said ⊎ IsPlannedFor c (AsksOne c.words) said
  own_told = own_by (command_of c.words) refl

  pub batch_told : Comes c said → AsksBatch c.words → IsInputRefused c said ⊎ IsPlannedFor c (AsksAll c.words c.input.heard) said
  batch_told obeys asks = subst (λ command. Obeys command c said) asks obeys

  pub undo_told : Comes c said → AsksUndo c.words → IsUndone c said
  undo_told obeys asks = subst (λ command. Obeys command c said) asks obeys

  read_by : (command : Command) → IsReading command → Obeys (Some command) c said → IsReadBy (Some command) c said
  read_by Check reads obeys = obeys
  read_by (Run class steps) reads obeys = obeys
  read_by (Refs file at) reads obeys = obeys
  read_by (Subtypes file at) reads obeys = obeys
  read_by (Callers file at) reads obeys = obeys
  read_by other reads obeys = absurd reads

  pub reading_told : Comes c said → AsksReading c.words → IsReadBy (command_of c.words) c said
  reading_told obeys (command, is, reads) = subst (λ asked. IsReadBy asked c said) (sym is) (read_by command reads (subst (λ asked. Obeys asked c said) is obeys))

  -- an undo gets the one answer that it has
  pub undo_alone : IsTheAnswer c said → AsksUndo c.words → (files found : Image) → c.store.told ≡ Some files → Restored files found → IsUndoAnswer found c.store.left said ⊎ Fails c said
  undo_alone one asks files found told restored = subst (λ command. ObeysAlone command c said) asks one.answer found (record { files = files; told = told; restored = restored })
