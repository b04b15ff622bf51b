-- What a request to take a member type out of its type comes to (JLS 8.1.1, 8.5, 9.5).
use Rattle.std.specs.Prelude.{◌≡◌, ℕ, Bool, not, ◌&&◌, if◌then◌else◌, List, [], ◌++◌, Option, Some, None, Result, Ok, Err, codes, bytes_eq, is_some, nat_le, true}
use Rattle.jr_base.specs.declared.token.Span.{Span}
use Rattle.jr_tree.specs.Rows.{Rows, label}
use Rattle.jr_defs.specs.Modifiers.{written}
use Rattle.jr_plain.specs.Declarations.{is_type}
use Rattle.jr_plain.specs.Enclosing.{declaring_type}
use Rattle.jr_plain.specs.Modifiers.{is_in_interface, is_private, is_protected, is_static}
use Rattle.jr_plain.specs.Search.{first_below}
use Rattle.jr_marks.specs.declared.marks.Marks.{Marks}
use Rattle.jr_marks.specs.Places.{mark_of, unit_of}
use Rattle.jr_text.specs.Spans.{IsExtent, part, token_span, tokens_span, unit_bytes}
use Rattle.jr_change.specs.declared.change.Change.{Change}
use Rattle.jr_change.specs.declared.change.Course.TheVariants as course
use Rattle.jr_change.specs.declared.project.Project.{Project}
use Rattle.jr_change.specs.declared.reason.ChangeFault.{ChangeFault}
use Rattle.jr_change.specs.declared.reason.ChangeFault.TheVariants as fault
use Rattle.jr_change.specs.declared.reason.Reason.TheVariants as reason
use Rattle.jr_draft.specs.declared.packages.Head.{Head}
use Rattle.jr_draft.specs.Asking.{rows_of, asked}
use Rattle.jr_draft.specs.Drafting.{IsFinished, plus, unit_row}
use Rattle.jr_draft.specs.Packages.{head_of, name_of_package}
use Rattle.jr_draft.specs.Parting.{Parted, parted_of}

-- ---- what can be lifted

abbrev pub is_member_type : Rows → ℕ → Bool
is_member_type p d = is_type p d && is_some (declaring_type p d)

-- private and protected are no modifiers of a top-level type
abbrev pub is_open : Rows → ℕ → Bool
is_open p d = not (is_private p d) && not (is_protected p d)

-- a member type that is static, also implicitly, and neither private nor protected
abbrev pub is_liftable : Rows → ℕ → Bool
is_liftable p d = is_member_type p d && (is_static p d && is_open p d)

abbrev pub liftable : Rows → Option ℕ → Option ℕ
liftable p None = None
liftable p (Some d) = if is_liftable p d then Some d else None

-- ---- its text

abbrev pub is_static_token : Marks → ℕ → ℕ → Bool
is_static_token m d token = bytes_eq (part (unit_bytes m d) (token_span m d token)) (codes "static")

-- the first such token from one on up to before another one
abbrev pub static_between : Marks → ℕ → ℕ → ℕ → Option ℕ
static_between m d first own = first_below own (λ token. nat_le first token && is_static_token m d token)

-- the token `static` before the name of a type
abbrev pub static_token : Marks → ℕ → Option ℕ
static_token m d = static_between m d (mark_of m d).first (mark_of m d).own

-- the bytes of these places without a token and the gap behind it
abbrev pub without_token : Marks → ℕ → Span → Option ℕ → List ℕ
without_token m d whole None = part (unit_bytes m d) whole
without_token m d whole (Some token) = part (unit_bytes m d) (record { start = whole.start; end = (token_span m d token).start })
    ++ part (unit_bytes m d) (record { start = (token_span m d (plus token 1)).start; end = whole.end })

-- what an interface declares is public, which is to be written now
abbrev pub gets_public : Rows → ℕ → Bool
gets_public p d = is_in_interface p d && not (written (label p d)).is_public

abbrev pub public_of : Rows → ℕ → List ℕ
public_of p d = if gets_public p d then codes "public " else []

-- the lead, `public ` where it is wanted, and the declaration without `static`
abbrev pub text_lifted : Marks → ℕ → Span → List ℕ
text_lifted m d span = let first = (tokens_span m d).start in
    part (unit_bytes m d) (record { start = span.start; end = first }) ++ public_of m.rows.now d ++ without_token m d (record { start = first; end = span.end }) (static_token m d)

-- ---- the change

abbrev pub head_over : Marks → ℕ → Head
head_over m d = head_of m.rows.now (unit_row m (unit_of m d))

-- the type goes to a file of its own in the package of its unit, and its row is that of a member no more
abbrev pub lifting : Marks → ℕ → Span → Parted
lifting m d span = record {
  head = head_over m d;
  row = d;
  is_turned = true;
  named = name_of_package m.rows.now (head_over m d).declared;
  declaration = text_lifted m d span;
  span = span;
}

-- the change in which a member type is a top-level one, and all else is as it was
pub record IsLifted (m : Marks) (d : ℕ) (made : Change) : Type 0 where
  pub span : Span
  pub bytes : IsExtent m d span
  pub finished : IsFinished (parted_of m (lifting m d span)) course.Same made

-- the answer: why there is no such declaration, that it is of no kind that can be lifted, or the change; or want of memory
pub data IsLiftAnswer (old : Project) (file : List ℕ) (at : ℕ) : Result Change ChangeFault → Type 0 where
  refused : {why : ChangeFault} → asked old file at ≡ Err why → IsLiftAnswer old file at (Err why)
  stays : {found : Option ℕ} → asked old file at ≡ Ok found → liftable (rows_of old) found ≡ None → IsLiftAnswer old file at (Err (fault.Bad reason.WrongKind))
  lifted : {found : Option ℕ} {d : ℕ} {change : Change} → asked old file at ≡ Ok found → liftable (rows_of old) found ≡ Some d → IsLifted old.marks d change → IsLiftAnswer old file at (Ok change)
  memory : IsLiftAnswer old file at (Err fault.OutOfMemory)
