-- The line of each answer, with its end. A place is shown by the path of its unit.
use Rattle.std.specs.Prelude.{ℕ, ◌-◌, ◌==◌, nat_lt, List, [], ◌++◌, slice_index_or, Option, Some, None, if◌then◌else◌, codes, decimal}
use Rattle.jr_base.specs.declared.token.Place.{Place}
use Rattle.jr_base.specs.declared.limits.Size.{Size}
use Rattle.jr_base.specs.declared.limits.Size.TheVariants as size
use Rattle.jr_rule.specs.Numbers.{number_of}
use Rattle.jr_top.specs.declared.status.EdgeKind.{EdgeKind}
use Rattle.jr_top.specs.declared.status.EdgeKind.TheVariants.{Control, Dispatch, DefUse}
use Rattle.jr_top.specs.declared.status.NotCompiling.{NotCompiling}
use Rattle.jr_top.specs.declared.status.NotCompiling.TheVariants as fault
use Rattle.jr_top.specs.declared.status.Phase.{Phase}
use Rattle.jr_top.specs.declared.status.Phase.TheVariants.{Recovering, Reading, Writing}
use Rattle.jr_top.specs.declared.status.Report.{Report}
use Rattle.jr_top.specs.declared.status.Report.TheVariants.{Changed, Checked, Printed}
use Rattle.jr_top.specs.declared.status.Status.{Status}
use Rattle.jr_top.specs.declared.status.Status.TheVariants as status

-- `request I: ` in a batch
abbrev pub request_prefix : ℕ → List ℕ
request_prefix request = if request == 0 then [] else (codes "request " ++ decimal request ++ codes ": ")

-- the unit's path, or `prelude` for the units 0 and 1; the paths are those of the units from 2 on
abbrev pub unit_text : List (List ℕ) → ℕ → List ℕ
unit_text paths unit = if nat_lt unit 2 then codes "prelude" else slice_index_or paths (unit - 2) []

-- `FILE:AT`, or `prelude`
abbrev pub place_text : List (List ℕ) → Place → List ℕ
place_text paths place = if nat_lt place.cu.0 2 then codes "prelude" else (unit_text paths place.cu.0 ++ codes ":" ++ decimal place.at)

abbrev pub phase_word : Phase → List ℕ
phase_word Recovering = codes "recovering"
phase_word Reading = codes "reading"
phase_word Writing = codes "writing"

abbrev pub edge_word : EdgeKind → List ℕ
edge_word Control = codes "control"
edge_word Dispatch = codes "dispatch"
edge_word DefUse = codes "def-use"

abbrev pub size_word : Size → List ℕ
size_word size.Files = codes "files"
size_word size.Path = codes "path"
size_word size.File = codes "file"
size_word size.Total = codes "total"
size_word size.Tokens = codes "tokens"
size_word size.Nesting = codes "nesting"
size_word size.Flow = codes "flow"
size_word size.Input = codes "input"
size_word size.Requests = codes "requests"

-- the names of a lexer's faults, from 1 on
abbrev pub lex_word : ℕ → List ℕ
lex_word kind =
    if kind == 1 then codes "BadByte"
    else (if kind == 2 then codes "OpenComment"
    else (if kind == 3 then codes "OpenLiteral"
    else (if kind == 4 then codes "BadEscape"
    else (if kind == 5 then codes "BadNumber" else codes "NotUtf8"))))

-- the names of a parser's faults, from 1 on
abbrev pub parse_word : ℕ → List ℕ
parse_word kind = if kind == 1 then codes "NoTree" else codes "TooDeep"

abbrev pub fault_line : List (List ℕ) → NotCompiling → List ℕ
fault_line paths (fault.Lex kind place) = codes "not compiling: lex " ++ lex_word kind ++ codes " " ++ place_text paths place ++ codes "\n"
fault_line paths (fault.Parse kind place) = codes "not compiling: parse " ++ parse_word kind ++ codes " " ++ place_text paths place ++ codes "\n"
fault_line paths (fault.PathMismatch unit) = codes "not compiling: path " ++ unit_text paths unit.0 ++ codes "\n"
fault_line paths (fault.Duplicate place) = codes "not compiling: duplicate " ++ place_text paths place ++ codes "\n"
fault_line paths (fault.Cycle place) = codes "not compiling: cycle " ++ place_text paths place ++ codes "\n"
fault_line paths (fault.Unbound place) = codes "not compiling: unbound " ++ place_text paths place ++ codes "\n"
fault_line paths (fault.Rule rule place) = codes "not compiling: rule " ++ decimal (number_of rule) ++ codes " " ++ place_text paths place ++ codes "\n"

-- a space and the field of a batch that is at fault, where one is named
abbrev pub field_text : Option (List ℕ) → List ℕ
field_text None = []
field_text (Some field) = codes " " ++ field

-- a space and the path that was edited, where one is named
abbrev pub path_text : Option (List ℕ) → List ℕ
path_text None = []
path_text (Some path) = codes " " ++ path

abbrev pub report_line : Report → List ℕ
report_line (Changed files) = codes "done, files changed: " ++ decimal files ++ codes "\n"
report_line (Checked files) = codes "ok, files: " ++ decimal files ++ codes "\n"
report_line (Printed text) = text

-- the line; none for a fault of the output
abbrev pub line_of : List (List ℕ) → Status → List ℕ
line_of paths (status.Done report) = report_line report
line_of paths status.BadWords = codes "bad words\n"
line_of paths (status.BadRequest request reason field) = request_prefix request ++ codes "bad request: " ++ decimal reason ++ field_text field ++ codes "\n"
line_of paths (status.NotCompiling fault) = fault_line paths fault
line_of paths (status.NoSpelling request occ place lock) = request_prefix request ++ codes "no spelling: " ++ place_text paths place ++ codes "\n"
line_of paths (status.LostEdge request edge) = request_prefix request ++ codes "lost edge: " ++ edge_word edge.kind ++ codes " " ++ place_text paths edge.first ++ codes " " ++ place_text paths edge.second ++ codes "\n"
line_of paths (status.BrokenRule request rule place) = request_prefix request ++ codes "broken rule: " ++ decimal (number_of rule) ++ codes " " ++ place_text paths place ++ codes "\n"
line_of paths (status.StoreFault phase) = codes "store fault: " ++ phase_word phase ++ codes "\n"
line_of paths status.SourceFault = codes "input fault\n"
line_of paths status.SinkFault = []
line_of paths (status.TooLarge what request) = request_prefix request ++ codes "too large: " ++ size_word what ++ codes "\n"
line_of paths status.OutOfMemory = codes "out of memory\n"
line_of paths status.BadJournal = codes "bad journal\n"
line_of paths (status.NoUndo reason path) = codes "no undo: " ++ decimal reason ++ path_text path ++ codes "\n"
line_of paths (status.StillUsed place) = codes "still used: " ++ place_text paths place ++ codes "\n"
line_of paths (status.Differs request place) = request_prefix request ++ codes "differs: " ++ place_text paths place ++ codes "\n"
