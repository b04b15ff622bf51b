-- Why files may not be left: the front refuses their program, two of them have one path, or a size of theirs passes its limit.
use Rattle.std.specs.Prelude.{◌≡◌, ℕ, true, List, ◌++◌, Some, map, ⊤}
use Rattle.std.specs.List.{Contains}
use Rattle.jr_base.specs.Reading.{Lex}
use Rattle.jr_base.specs.declared.limits.Size.{Size}
use Rattle.jr_base.specs.declared.limits.Size.TheVariants as size
use Rattle.jr_base.specs.declared.limits.TheConstants.Limits as limits
use Rattle.jr_base.specs.declared.token.Place.{Place}
use Rattle.jr_base.specs.declared.token.Token.{Token}
use Rattle.jr_rule.specs.declared.Rule.{Rule}
use Rattle.jr_rule.specs.declared.Rule.TheVariants.{TypeNames, PathTwice, HeaderCycle}
use Rattle.jr_parse.specs.Answers.{IsTooDeep}
use Rattle.jr_parse.specs.declared.fault.ParseFault.{ParseFault}
use Rattle.jr_parse.specs.declared.fault.ParseFault.TheVariants as parsing
use Rattle.jr_defs.specs.Program.{AreUnitsOf, prelude_files}
use Rattle.jr_defs.specs.declared.program.Program.{Program}
use Rattle.jr_read.specs.Reading.{AreLexed, have_too_many}
use Rattle.jr_read.specs.Sizes.{first_too_large}
use Rattle.jr_read.specs.declared.lexed.Lexed.{Lexed}
use Rattle.jr_front.specs.Refusing.{IsRefusal}
use Rattle.jr_front.specs.declared.fault.FrontFault.{FrontFault}
use Rattle.jr_front.specs.declared.fault.FrontFault.TheVariants as front
use Rattle.jr_engine.specs.Texts.{first_twice}
use Rattle.jr_engine.specs.declared.fault.StepFault.{StepFault}
use Rattle.jr_engine.specs.declared.fault.StepFault.TheVariants as step

-- ---- sizes

-- the tokens are nested deeper than those of a unit may be
pub record AreTooDeep (tokens : List Token) : Type 0 where
  pub number : ℕ
  pub deep : IsTooDeep limits.NESTING (map (λ t. t.kind) tokens) number

-- the bytes have tokens that are
pub record IsNestedTooDeep (bytes : List ℕ) : Type 0 where
  pub tokens : List Token
  pub reads : Lex bytes tokens
  pub deep : AreTooDeep tokens

-- a file with these bytes is among the texts
pub record HasText (texts : List (List ℕ × List ℕ)) (bytes : List ℕ) : Type 0 where
  pub path : List ℕ
  pub member : Contains texts (path, bytes)

-- one of the texts is nested too deep
pub record HasDeepText (texts : List (List ℕ × List ℕ)) : Type 0 where
  pub bytes : List ℕ
  pub among : HasText texts bytes
  pub deep : IsNestedTooDeep bytes

-- A size of the files with these texts passes its limit: the first of how many they are, the bytes of a path, of a file and of all; the tokens of all; or the levels of one.
pub data AreTooLarge (texts : List (List ℕ × List ℕ)) : Size → Type 0 where
  by_bytes : {what : Size} → first_too_large texts ≡ Some what → AreTooLarge texts what
  by_tokens : {lexed : List Lexed} → AreLexed (prelude_files ++ texts) lexed → have_too_many lexed ≡ true → AreTooLarge texts size.Tokens
  by_levels : HasDeepText (prelude_files ++ texts) → AreTooLarge texts size.Nesting

-- ---- rules

-- the texts are those of a program that the front refuses for this reason
pub record AreRefused (texts : List (List ℕ × List ℕ)) (why : FrontFault) : Type 0 where
  pub program : Program
  pub units : AreUnitsOf (prelude_files ++ texts) program.units
  pub refusal : IsRefusal program why

-- The files with these texts break the rule, which is shown at the place: the front refuses their program for it, or for two top-level types of one name (rule 2), or for a cycle of headers (46); or two of them
-- have one path, of which the first is shown (44).
pub data BreakRule (texts : List (List ℕ × List ℕ)) : Rule → Place → Type 0 where
  by_front : {rule : Rule} {place : Place} → AreRefused texts (front.Broken rule place) → BreakRule texts rule place
  by_names : {place : Place} → AreRefused texts (front.Duplicate place) → BreakRule texts TypeNames place
  by_headers : {place : Place} → AreRefused texts (front.Cycle place) → BreakRule texts HeaderCycle place
  by_paths : {unit : ℕ} → first_twice texts ≡ Some unit → BreakRule texts PathTwice (record { cu = record { 0 = unit }; at = 0 })

-- ---- both

-- why the files with these texts may not be left, by the fault that is told; of what differs, and of want of memory, nothing is said
abbrev pub Bars : List (List ℕ × List ℕ) → StepFault → Type 0
Bars texts (step.Broken rule place) = BreakRule texts rule place
Bars texts (step.TooLarge what) = AreTooLarge texts what
Bars texts (step.Differs place) = ⊤
Bars texts step.OutOfMemory = ⊤
Bars texts other = ⊥

-- ---- what the code holds of it

-- the fault is that of tokens that are nested too deep
abbrev pub IsDepth : ParseFault → Type 0
IsDepth (parsing.TooDeep number) = ⊤
IsDepth other = ⊥

-- the texts are no program: one is nested too deep, or they are not those that were to be written, or memory is wanting
abbrev pub IsUnread : List (List ℕ × List ℕ) → StepFault → Type 0
IsUnread texts (step.TooLarge size.Nesting) = HasDeepText texts
IsUnread texts (step.Differs place) = ⊤
IsUnread texts step.OutOfMemory = ⊤
IsUnread texts other = ⊥

-- what was read is not what was to be written, or memory is wanting
abbrev pub IsDifference : StepFault → Type 0
IsDifference (step.Differs place) = ⊤
IsDifference step.OutOfMemory = ⊤
IsDifference other = ⊥

-- the fault by which it is told that the front refuses the files that were to be left
abbrev pub IsToldFor : FrontFault → StepFault → Type 0
IsToldFor (front.TooLarge what) told = told ≡ step.TooLarge what
IsToldFor (front.Parse (parsing.TooDeep number) place) told = told ≡ step.TooLarge size.Nesting
IsToldFor (front.Duplicate place) told = told ≡ step.Broken TypeNames place
IsToldFor (front.Cycle place) told = told ≡ step.Broken HeaderCycle place
IsToldFor (front.Broken rule place) told = told ≡ step.Broken rule place
IsToldFor other told = IsDifference told

-- and why it refuses them, where that is told as a size or as a rule
abbrev pub AreRefusedFor : List (List ℕ × List ℕ) → FrontFault → Type 0
AreRefusedFor texts (front.TooLarge what) = AreTooLarge texts what
AreRefusedFor texts (front.Parse (parsing.TooDeep number) place) = HasDeepText (prelude_files ++ texts)
AreRefusedFor texts (front.Duplicate place) = AreRefused texts (front.Duplicate place)
AreRefusedFor texts (front.Cycle place) = AreRefused texts (front.Cycle place)
AreRefusedFor texts (front.Broken rule place) = AreRefused texts (front.Broken rule place)
AreRefusedFor texts other = ⊤
