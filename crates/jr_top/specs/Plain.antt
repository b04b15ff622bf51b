-- The answers to commands that name no file and change none.
use Rattle.std.specs.Prelude.{◌≡◌, ◌⊎◌, ℕ, List, Option}
use Rattle.jr_store.specs.Image.{Image}
use Rattle.jr_top.specs.Answers.{Answers}
use Rattle.jr_top.specs.Recovering.{Recovers}
use Rattle.jr_top.specs.declared.status.Phase.TheVariants.{Recovering}
use Rattle.jr_top.specs.declared.status.Status.{Status}
use Rattle.jr_top.specs.declared.status.Status.TheVariants.{StoreFault, OutOfMemory, BadJournal}

-- When each answer comes: what the command says comes once recovery has found the files, and they are left so.
abbrev pub AnswersPlain : List (List ℕ) → Option Image → Option Image → (Image → Type 0) → ℕ → ℕ → (Status → Type 0) → Status → Type 0
AnswersPlain words told left outcomes before after Says BadJournal = Answers words told left outcomes before after BadJournal
AnswersPlain words told left outcomes before after Says (StoreFault Recovering) = Answers words told left outcomes before after (StoreFault Recovering)
AnswersPlain words told left outcomes before after Says OutOfMemory = (left ≡ told) ⊎ Recovers told left
AnswersPlain words told left outcomes before after Says other = Recovers told left × Says other
