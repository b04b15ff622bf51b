-- Why files that were to be left may not be.
use Rattle.std.proofs.Common.{◌≡◌, ◌⊎◌, inl, inr, refl, sym, subst, List, [], ◌∷◌, ◌++◌, ℕ, ◌<◌, Bool, true, Some, Result, Ok, Err, IfOk, IfErr, length, map, get_or}
use Rattle.std.specs.Prelude.{Vec}
use Rattle.std.specs.FinMap as files
use Rattle.std.specs.List.{Contains}
use Rattle.std.specs.declared.alloc.Global.{Global}
use Rattle.std.proofs.lemmas.Option.{slice_get_read}
use Rattle.std.proofs.lemmas.List.Elements.{Contains-append_left, Contains-append_right, Contains-push}
use Rattle.jr_base.specs.Files.{FileMap, plain}
use Rattle.jr_base.specs.Reading.{Lex}
use Rattle.jr_base.specs.declared.memory.OutOfMemory.{OutOfMemory}
use Rattle.jr_base.specs.declared.ids.CuId.{CuId}
use Rattle.jr_base.specs.declared.limits.Size.{Size}
use Rattle.jr_base.specs.declared.limits.Size.TheVariants as size
use Rattle.jr_base.specs.declared.limits.TheConstants.Limits as limits
use Rattle.jr_base.specs.declared.token.Token.{Token}
use Rattle.jr_rule.specs.declared.Rule.TheVariants.{PathTwice}
use Rattle.jr_parse.specs.Answers.{Answers}
use Rattle.jr_parse.specs.declared.fault.ParseFault.{ParseFault}
use Rattle.jr_parse.specs.declared.fault.ParseFault.TheVariants as parsing
use Rattle.jr_defs.specs.Program.{AreUnitsOf, prelude_files, rows_of}
use Rattle.jr_defs.specs.declared.program.Program.{Program}
use Rattle.jr_marks.specs.Made.{HaveTokensApart}
use Rattle.jr_prelude.specs.Begins.{BeginsWithLang}
use Rattle.jr_read.specs.Reading.{ReadsAs, AreLexed, IsFirstUnparsed, IsLexed, unit_files}
use Rattle.jr_read.specs.declared.fault.ReadFault.{ReadFault}
use Rattle.jr_read.specs.declared.fault.ReadFault.TheVariants as unread
use Rattle.jr_read.specs.declared.lexed.Lexed.{Lexed}
use Rattle.jr_front.specs.Checking.{CheckedAs, fault_of}
use Rattle.jr_front.specs.Refusing.{IsRefusal}
use Rattle.jr_front.specs.declared.fault.FrontFault.{FrontFault}
use Rattle.jr_front.specs.declared.fault.FrontFault.TheVariants as front
use Rattle.jr_flow.proofs.Woven.{in_map}
use Rattle.jr_engine.specs.Barring.{AreRefusedFor, AreTooDeep, AreTooLarge, Bars, BreakRule, HasDeepText, HasText, IsDepth, IsDifference, IsNestedTooDeep, IsToldFor, IsUnread}
use Rattle.jr_engine.specs.Refusing.{IsHinderedIn, IsTooLarge}
use Rattle.jr_engine.specs.Texts.{AreSmall, changed_files, first_twice}
use Rattle.jr_engine.specs.declared.asked.Asked.{Asked}
use Rattle.jr_engine.specs.declared.fault.StepFault.{StepFault}
use Rattle.jr_engine.specs.declared.fault.StepFault.TheVariants as step
use Rattle.jr_engine.specs.declared.left.Left.{Left}
use Rattle.jr_engine.proofs.Beginning.{units_begin}
use Rattle.jr_engine.proofs.Reading.{tokens_apart}

told_as : (texts : List (List ℕ × List ℕ)) (why told : StepFault) → told ≡ why → Bars texts why → Bars texts told
told_as texts why told e h = subst (λ (f : StepFault). Bars texts f) (sym e) h

-- ---- texts that are nested too deep

pub deep_tokens : (tokens : List Token) (why : ParseFault) → Answers limits.NESTING (map (λ t. t.kind) tokens) (Err why) → IsDepth why → AreTooDeep tokens
deep_tokens tokens (parsing.TooDeep number) is deep = record { number = number; deep = is }
deep_tokens tokens (parsing.NoTree number) is deep = absurd deep
deep_tokens tokens parsing.OutOfMemory is deep = absurd deep

pub deep_text_if : (bytes : List ℕ) (tokens held : List Token) (result : Result Bool OutOfMemory) → held ≡ tokens → Lex bytes tokens → IfOk result (λ is. is ≡ true → AreTooDeep held) → IfOk result (λ is. is ≡ true → IsNestedTooDeep bytes)
deep_text_if bytes tokens held (Ok is) same reads deep = λ e. record { tokens = tokens; reads = reads; deep = subst (λ (all : List Token). AreTooDeep all) same (deep e) }
deep_text_if bytes tokens held (Err why) same reads deep = tt

pub text_among : (texts : List (List ℕ × Vec ℕ Global)) (at : ℕ) (file : List ℕ × Vec ℕ Global) (bytes : List ℕ) → bytes ≡ file.1.items → at < length texts → file ≡ get_or texts at file → HasText (plain texts) bytes
text_among texts at file bytes are within is = subst (λ (all : List ℕ). HasText (plain texts) all) (sym are)
    (record { path = file.0; member = in_map (λ (x : List ℕ × Vec ℕ Global). (x.0, x.1.items)) texts at file (slice_get_read texts (length texts) at file refl within is) })

pub deep_among_if : (texts : List (List ℕ × List ℕ)) (bytes : List ℕ) (result : Result Bool OutOfMemory) → HasText texts bytes → IfOk result (λ is. is ≡ true → IsNestedTooDeep bytes) → IfOk result (λ is. is ≡ true → HasDeepText texts)
deep_among_if texts bytes (Ok is) among deep = λ e. record { bytes = bytes; among = among; deep = deep e }
deep_among_if texts bytes (Err why) among deep = tt

deep_among : (texts : List (List ℕ × List ℕ)) (bytes : List ℕ) → HasText texts bytes → IsNestedTooDeep bytes → HasDeepText texts
deep_among texts bytes among deep = record { bytes = bytes; among = among; deep = deep }

behind_prelude : (texts : List (List ℕ × List ℕ)) → HasDeepText texts → HasDeepText (prelude_files ++ texts)
behind_prelude texts h = deep_among (prelude_files ++ texts) h.bytes (record { path = h.among.path; member = Contains-append_right prelude_files texts (h.among.path, h.bytes) h.among.member }) h.deep

pub unread_bars : (texts : List (List ℕ × List ℕ)) (why : StepFault) → IsUnread texts why → Bars texts why
unread_bars texts (step.TooLarge size.Nesting) h = AreTooLarge.by_levels (behind_prelude texts h)
unread_bars texts (step.Differs place) h = tt
unread_bars texts step.OutOfMemory h = tt
unread_bars texts _ h = absurd h

-- so it hinders a change whose texts these are
pub unread_hinders : (a : Asked) (texts : List (List ℕ × List ℕ)) (why : StepFault) → texts ≡ changed_files a.old.now.program.units a.change.now.units.items → IsUnread texts why → IsHinderedIn a why
unread_hinders a texts (step.TooLarge size.Nesting) are h = IsTooLarge.by_change (subst (λ (all : List (List ℕ × List ℕ)). HasDeepText all) are h)
unread_hinders a texts (step.Differs place) are h = tt
unread_hinders a texts step.OutOfMemory are h = tt
unread_hinders a texts _ are h = absurd h

-- ---- files that the front refuses

-- the file with these tokens is among the files
record IsLexedAmong (found : List (List ℕ × List ℕ)) (one : Lexed) : Type 0 where
  path : List ℕ
  bytes : List ℕ
  member : Contains found (path, bytes)
  lexed : IsLexed path bytes one

lexed_among : (found : List (List ℕ × List ℕ)) (front rest : List Lexed) (one : Lexed) → AreLexed found (front ++ one ∷ rest) → IsLexedAmong found one
lexed_among _ [] rest one (AreLexed.more {path = path} {bytes = bytes} {found = found} is others) =
    record { path = path; bytes = bytes; member = Contains-append_left ((path, bytes) ∷ []) found (path, bytes) (Contains-push [] (path, bytes)); lexed = is }
lexed_among _ (first ∷ front) rest one (AreLexed.more {path = path} {bytes = bytes} {found = found} is others) =
    let h = lexed_among found front rest one others in
    record { path = h.path; bytes = h.bytes; member = Contains-append_right ((path, bytes) ∷ []) found (h.path, h.bytes) h.member; lexed = h.lexed }

unparsed_deep : (found : List (List ℕ × List ℕ)) (lexed : List Lexed) (n number at : ℕ) → AreLexed found lexed → IsFirstUnparsed lexed n (parsing.TooDeep number) at → HasDeepText found
unparsed_deep found lexed n number at are first =
    let among = lexed_among found first.front first.rest first.one (subst (λ (all : List Lexed). AreLexed found all) first.split are) in
    deep_among found among.bytes (record { path = among.path; member = among.member }) (record { tokens = first.one.tokens; reads = among.lexed.reads; deep = record { number = number; deep = first.fault } })

read_large : (found : FileMap) (what : Size) → ReadsAs found (Err (unread.TooLarge what)) → AreTooLarge (files.entries found) what
read_large found _ (ReadsAs.oversized first) = AreTooLarge.by_bytes first
read_large found _ (ReadsAs.tokens few lexed many) = AreTooLarge.by_tokens lexed many

read_deep : (found : FileMap) (cu : CuId) (number at : ℕ) → ReadsAs found (Err (unread.Parse cu (parsing.TooDeep number) at)) → HasDeepText (prelude_files ++ files.entries found)
read_deep found cu number at (ReadsAs.no_unit {lexed = lexed} few are within first) = unparsed_deep (unit_files found) lexed cu.0 number at are first

unread_for : (found : FileMap) (why : ReadFault) → ReadsAs found (Err why) → AreRefusedFor (files.entries found) (fault_of why)
unread_for found (unread.TooLarge what) is = read_large found what is
unread_for found (unread.Lex cu why) is = tt
unread_for found (unread.Parse cu (parsing.TooDeep number) at) is = read_deep found cu number at is
unread_for found (unread.Parse cu (parsing.NoTree number) at) is = tt
unread_for found (unread.Parse cu parsing.OutOfMemory at) is = tt
unread_for found unread.OutOfMemory is = tt

-- a program that was read is refused for no size
abbrev IsOfProgram : FrontFault → Type 0
IsOfProgram (front.TooLarge what) = ⊥
IsOfProgram (front.Parse why place) = ⊥
IsOfProgram other = Unit {0}

of_program : (program : Program) (why : FrontFault) → IsRefusal program why → IsOfProgram why
of_program program _ (IsRefusal.misplaced first) = tt
of_program program _ (IsRefusal.named_twice placed are first) = tt
of_program program _ (IsRefusal.on_cycle named are first) = tt
of_program program _ (IsRefusal.lost bound are first) = tt
of_program program _ (IsRefusal.broken bound all are first) = tt
of_program program _ IsRefusal.no_memory = tt

refusal_for : (texts : List (List ℕ × List ℕ)) (program : Program) (why : FrontFault) → AreUnitsOf (prelude_files ++ texts) program.units → IsRefusal program why → AreRefusedFor texts why
refusal_for texts program (front.TooLarge what) units is = absurd (of_program program (front.TooLarge what) is)
refusal_for texts program (front.Parse (parsing.TooDeep number) place) units is = absurd (of_program program (front.Parse (parsing.TooDeep number) place) is)
refusal_for texts program (front.Duplicate place) units is = record { program = program; units = units; refusal = is }
refusal_for texts program (front.Cycle place) units is = record { program = program; units = units; refusal = is }
refusal_for texts program (front.Broken rule place) units is = record { program = program; units = units; refusal = is }
refusal_for texts program _ units is = tt

refusal_read : (found : FileMap) (program : Program) (why : FrontFault) → ReadsAs found (Ok program) → IsRefusal program why → AreRefusedFor (files.entries found) why
refusal_read found program why (ReadsAs.program few lexed within units) is = refusal_for (files.entries found) program why units is

checked_for : (found : FileMap) (result : Result (Unit {0}) FrontFault) → CheckedAs found result → IfErr result (AreRefusedFor (files.entries found))
checked_for found _ (CheckedAs.accepted reads compiles) = tt
checked_for found _ (CheckedAs.refused {program = program} {why = why} reads is) = refusal_read found program why reads is
checked_for found _ (CheckedAs.not_read {why = why} is) = unread_for found why is

-- ---- how it is told

difference_bars : (texts : List (List ℕ × List ℕ)) (told : StepFault) → IsDifference told → Bars texts told
difference_bars texts (step.Differs place) h = tt
difference_bars texts step.OutOfMemory h = tt
difference_bars texts _ h = absurd h

pub difference_unread : (texts : List (List ℕ × List ℕ)) (told : StepFault) → IsDifference told → IsUnread texts told
difference_unread texts (step.Differs place) h = tt
difference_unread texts step.OutOfMemory h = tt
difference_unread texts _ h = absurd h

told_bars : (texts : List (List ℕ × List ℕ)) (why : FrontFault) (told : StepFault) → IsToldFor why told → AreRefusedFor texts why → Bars texts told
told_bars texts (front.TooLarge what) told e h = told_as texts (step.TooLarge what) told e h
told_bars texts (front.Parse (parsing.TooDeep number) place) told e h = told_as texts (step.TooLarge size.Nesting) told e (AreTooLarge.by_levels h)
told_bars texts (front.Duplicate place) told e h = told_as texts _ told e (BreakRule.by_names h)
told_bars texts (front.Cycle place) told e h = told_as texts _ told e (BreakRule.by_headers h)
told_bars texts (front.Broken rule place) told e h = told_as texts (step.Broken rule place) told e (BreakRule.by_front h)
told_bars texts _ told e h = difference_bars texts told e

-- the front refuses a program that was read from the texts
pub program_bars : (texts : List (List ℕ × List ℕ)) (program : Program) (why : FrontFault) (told : StepFault) → IsToldFor why told
    → (BeginsWithLang (rows_of program) → HaveTokensApart program.units → IsRefusal program why) → AreUnitsOf (prelude_files ++ texts) program.units → AreSmall texts → Bars texts told
program_bars texts program why told e is units small =
    told_bars texts why told e (refusal_for texts program why units (is (units_begin texts program.units units) (tokens_apart texts program.units units small)))

-- it refuses the files
pub files_bar : (found : FileMap) (why : FrontFault) (told : StepFault) → IsToldFor why told → CheckedAs found (Err why) → Bars (files.entries found) told
files_bar found why told e is = told_bars (files.entries found) why told e (checked_for found (Err why) is)

-- it refuses them for a size
pub files_large : (found : FileMap) (texts : List (List ℕ × List ℕ)) (why : FrontFault) (what : Size) → texts ≡ files.entries found → why ≡ front.TooLarge what → CheckedAs found (Err why) → AreTooLarge texts what
files_large found texts why what are e is = subst (λ (all : List (List ℕ × List ℕ)). AreTooLarge all what) (sym are) (subst (λ (w : FrontFault). AreRefusedFor (files.entries found) w) e (checked_for found (Err why) is))

pub entries_bar : (texts all : List (List ℕ × List ℕ)) (told : StepFault) → texts ≡ all → Bars texts told → Bars all told
entries_bar texts all told are h = subst (λ (e : List (List ℕ × List ℕ)). Bars e told) are h

pub bars_if : (texts all : List (List ℕ × List ℕ)) (result : Result Left StepFault) → texts ≡ all → IfErr result (Bars texts) → IfErr result (Bars all)
bars_if texts all result are h = subst (λ (e : List (List ℕ × List ℕ)). IfErr result (Bars e)) are h

pub twice_bars : (texts : List (List ℕ × List ℕ)) (unit : ℕ) (told : StepFault) → told ≡ step.Broken PathTwice (record { cu = record { 0 = unit }; at = 0 }) → first_twice texts ≡ Some unit → Bars texts told
twice_bars texts unit told e is = told_as texts _ told e (BreakRule.by_paths is)

-- the front refuses a program of which two units have one path, and this or that is told
pub either_bars : (texts : List (List ℕ × List ℕ)) (program : Program) (unit : ℕ) (why : FrontFault) (told : StepFault)
    → IsToldFor why told ⊎ (told ≡ step.Broken PathTwice (record { cu = record { 0 = unit }; at = 0 })) → (BeginsWithLang (rows_of program) → HaveTokensApart program.units → IsRefusal program why)
    → AreUnitsOf (prelude_files ++ texts) program.units → AreSmall texts → first_twice texts ≡ Some unit → Bars texts told
either_bars texts program unit why told (inl e) refusal units small is = program_bars texts program why told e refusal units small
either_bars texts program unit why told (inr e) refusal units small is = twice_bars texts unit told e is
