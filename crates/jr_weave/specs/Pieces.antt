-- The places of a text that spellings change, by tokens: what stands in place of each reference, opens before what is cast, and closes behind it.
use Rattle.std.specs.Prelude.{ℕ, ◌+◌, ◌-◌, Bool, true, false, not, ◌&&◌, if◌then◌else◌, List, [], ◌∷◌, ◌++◌, length, Option, Some, None, bytes_eq, slice_get, slice_set, slice_index_or, replicate}
use Rattle.jr_base.specs.declared.token.Span.{Span}
use Rattle.jr_tree.specs.declared.label.Label.{Label}
use Rattle.jr_tree.specs.declared.label.Label.TheVariants as is
use Rattle.jr_tree.specs.Rows.{Rows, label, name}
use Rattle.jr_defs.specs.declared.referent.Referent.{Referent}
use Rattle.jr_defs.specs.Referents.{Table}
use Rattle.jr_marks.specs.declared.marks.Marks.{Marks}
use Rattle.jr_marks.specs.Places.{mark_of, tokens_of, unit_of}
use Rattle.jr_text.specs.Spans.{span_by}
use Rattle.jr_shapes.specs.declared.spelling.Shape.{Shape}
use Rattle.jr_shapes.specs.declared.spelling.Shape.TheVariants as shape
use Rattle.jr_shapes.specs.declared.spelling.Spelling.{Spelling}
use Rattle.jr_shapes.specs.declared.spelling.Suffix.{Suffix}
use Rattle.jr_shapes.specs.declared.spelling.TypeName.{TypeName}
use Rattle.jr_shapes.specs.Arguments.{argument_after, first_argument}
use Rattle.jr_shapes.specs.Names.{is_atom, named_by, package_names}
use Rattle.jr_shapes.specs.Parts.{parts, receiver_of, type_of}
use Rattle.jr_weave.specs.declared.piece.Piece.{Piece}
use Rattle.jr_weave.specs.declared.piece.Wording.{Wording}
use Rattle.jr_weave.specs.declared.piece.Wording.TheVariants as wording

-- ---- places in a unit

abbrev pub token_of : Marks → ℕ → ℕ → Span
token_of m unit number = span_by (slice_get (tokens_of m unit) number)

-- the identifier of a row
abbrev pub own_of : Marks → ℕ → ℕ → Span
own_of m unit n = token_of m unit (mark_of m n).own

abbrev pub first_of : Marks → ℕ → ℕ → Span
first_of m unit n = token_of m unit (mark_of m n).first

abbrev pub last_of : Marks → ℕ → ℕ → Span
last_of m unit n = token_of m unit ((mark_of m n).after - 1)

abbrev pub empty : ℕ → Span
empty at = record { start = at; end = at }

-- before the first token of a row, and behind its last one
abbrev pub before : Marks → ℕ → ℕ → Span
before m unit n = empty (first_of m unit n).start

abbrev pub behind : Marks → ℕ → ℕ → Span
behind m unit n = empty (last_of m unit n).end

-- from the identifier of one row to that of another
abbrev pub between : Marks → ℕ → ℕ → ℕ → Span
between m unit first last = record { start = (own_of m unit first).start; end = (own_of m unit last).end }

abbrev pub piece : ℕ → Span → Wording → List Piece
piece unit span w = record { unit = unit; span = span; wording = w } ∷ []

-- ---- a reference that keeps its shape

-- the identifier of a row becomes that of another one, where they differ
abbrev pub identifier : Marks → ℕ → ℕ → ℕ → List Piece
identifier m unit n other = if bytes_eq (name m.rows.now n) (name m.rows.now other) then [] else piece unit (own_of m unit n) (wording.Identifier other)

-- the last of some rows; another row where there is none
abbrev pub last_or : ℕ → List ℕ → ℕ
last_or n rows = slice_index_or rows (length rows - 1) n

abbrev pub have_names : Rows → List ℕ → List ℕ → Bool
have_names p [] [] = true
have_names p [] (d ∷ names) = false
have_names p (n ∷ rows) [] = false
have_names p (n ∷ rows) (d ∷ names) = bytes_eq (name p n) (name p d) && have_names p rows names

abbrev pub package_of : Marks → ℕ → ℕ → List ℕ → List Piece
package_of m unit c [] = []
package_of m unit c (n ∷ rest) = piece unit (between m unit (last_or n rest) n) (wording.Package c)

-- the package in a reference, whose rows stand from the last identifier back, becomes that of the type behind it as a whole, where they differ
abbrev pub changed_package : Marks → ℕ → Option ℕ → List ℕ → List Piece
changed_package m unit None some = []
changed_package m unit (Some c) some = if have_names m.rows.now some (package_names m.rows.now c) then [] else package_of m unit c some

-- the qualifiers, from the last one back: each type by its name now, a package as a whole
abbrev pub qualifiers : Marks → Table → ℕ → Option ℕ → List ℕ → List Piece
qualifiers m t unit c [] = []
qualifiers m t unit c (n ∷ rest) = elim (type_of m.rows.now (t n)) [ Some d ↦ identifier m unit n d ++ qualifiers m t unit (Some d) rest | None ↦ changed_package m unit c (n ∷ rest) ]

-- the last identifier
abbrev pub own : Marks → ℕ → ℕ → Referent → List Piece
own m unit n found = identifier m unit n (named_by m.rows.now n found)

abbrev pub kept : Marks → Table → ℕ → ℕ → Referent → List Piece
kept m t unit n found = qualifiers m t unit (type_of m.rows.now found) (parts m.rows.now t n) ++ own m unit n found

-- ---- other shapes

-- all of a reference, from its first qualifier to its last identifier, is written anew
abbrev pub anew : Marks → Table → ℕ → ℕ → Shape → Referent → List Piece
anew m t unit n s found = piece unit (between m unit (last_or n (parts m.rows.now t n)) n) (wording.Shaped s (named_by m.rows.now n found))

-- a cast opens before a row, and closes behind it
abbrev pub around : Marks → ℕ → ℕ → Wording → Bool → List Piece
around m unit n opening has_two = piece unit (before m unit n) opening ++ piece unit (behind m unit n) (wording.Close has_two)

abbrev pub receiver : Marks → ℕ → Suffix → Option ℕ → List Piece
receiver m unit s None = []
receiver m unit s (Some n) = around m unit n (wording.OpenReceiver s (is_atom m.rows.now n)) (not (is_atom m.rows.now n))

abbrev pub is_super_select : Label → Bool
is_super_select is.SuperSelect = true
is_super_select _ = false

-- ((S)this) in place of super
abbrev pub super_cast : Marks → ℕ → ℕ → Suffix → Referent → List Piece
super_cast m unit n s found = piece unit (first_of m unit n) (wording.CastThis s) ++ own m unit n found

abbrev pub this_cast : Marks → Table → ℕ → ℕ → Suffix → Referent → List Piece
this_cast m t unit n s found = if is_super_select (label m.rows.now n) then super_cast m unit n s found else anew m t unit n (shape.CastThis s) found

abbrev pub receiver_cast : Marks → Table → ℕ → ℕ → Suffix → Referent → List Piece
receiver_cast m t unit n s found = receiver m unit s (receiver_of m.rows.now t n) ++ own m unit n found

abbrev pub reference : Marks → Table → ℕ → ℕ → Shape → Referent → List Piece
reference m t unit n shape.Kept found = kept m t unit n found
reference m t unit n (shape.Cast s) found = receiver_cast m t unit n s found
reference m t unit n (shape.CastThis s) found = this_cast m t unit n s found
reference m t unit n s found = anew m t unit n s found

-- ---- arguments

-- an argument behind a cast, in parentheses where it is no atom (JLS 15.16)
abbrev pub argument : Marks → ℕ → ℕ → TypeName → List Piece
argument m unit n ty = if is_atom m.rows.now n then piece unit (before m unit n) (wording.OpenArgument ty true) else around m unit n (wording.OpenArgument ty false) false

-- the arguments of a call from one on, each with its cast
abbrev pub arguments : Marks → ℕ → ℕ → Option ℕ → List TypeName → List Piece
arguments m unit call next [] = []
arguments m unit call None (ty ∷ rest) = []
arguments m unit call (Some n) (ty ∷ rest) = argument m unit n ty ++ arguments m unit call (argument_after m.rows.now call n) rest

-- ---- all spellings

abbrev pub spelled_in : Marks → Table → ℕ → Spelling → List Piece
spelled_in m t unit s = reference m t unit s.row s.shape s.found ++ arguments m unit s.row (first_argument m.rows.now s.row) s.casts.items

abbrev pub spelled : Marks → Table → Spelling → List Piece
spelled m t s = spelled_in m t (unit_of m s.row) s

-- the number of the spelling of each row, the last one that it has
abbrev pub choices_from : ℕ → List Spelling → List (Option ℕ) → List (Option ℕ)
choices_from i [] all = all
choices_from i (s ∷ rest) all = choices_from (i + 1) rest (slice_set all s.row (Some i))

abbrev pub choices : Rows → List Spelling → List (Option ℕ)
choices p c = choices_from 0 c (replicate (length p) None)

abbrev pub spelling_in : List Spelling → Option ℕ → Option Spelling
spelling_in c None = None
spelling_in c (Some i) = slice_get c i

abbrev pub spelled_by : Marks → Table → Option Spelling → List Piece
spelled_by m t None = []
spelled_by m t (Some s) = spelled m t s

abbrev pub pieces_from : Marks → Table → List Spelling → List (Option ℕ) → List Piece
pieces_from m t c [] = []
pieces_from m t c (i ∷ rest) = spelled_by m t (spelling_in c i) ++ pieces_from m t c rest

-- what the spellings change, row by row
abbrev pub pieces : Marks → Table → List Spelling → List Piece
pieces m t c = pieces_from m t c (choices m.rows.now c)
