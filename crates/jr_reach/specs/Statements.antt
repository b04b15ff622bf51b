-- The course of each row, by its label and the courses of the rows behind it (JLS 14.21).
use Rattle.std.specs.Prelude.{◌≡◌, ◌<◌, ◌≤◌, ℕ, zero, suc, ◌+◌, ◌-◌, Bool, true, false, ◌&&◌, if◌then◌else◌, List, [], ◌∷◌, ◌++◌, length, Option, Some, None, nat_lt, slice_index_or}
use Rattle.jr_tree.specs.declared.label.Label.{Label}
use Rattle.jr_tree.specs.declared.label.Label.TheVariants as is
use Rattle.jr_tree.specs.Rows.{Rows, label, parent, end}
use Rattle.jr_reach.specs.declared.fact.Fact.{Fact}
use Rattle.jr_reach.specs.declared.course.Course.{Course}
use Rattle.jr_reach.specs.declared.course.Entry.{Entry}
use Rattle.jr_reach.specs.Courses.{begun, jump, in_turn, either_of, groups, through, labeled, looped, looped_once, switched}

abbrev pub Facts : Type 0
Facts = List Fact

-- what is known of a row besides its label
abbrev pub fact : Facts → ℕ → Fact
fact f n = slice_index_or f n (record { truth = None; exit = None; last = None; has_default = false })

-- for each row its course, and that of the row and its later siblings together
abbrev pub Entries : Type 0
Entries = ℕ → Entry

-- what is known of no row
abbrev pub nothing : Entry
nothing = record { own = begun; rest = begun }

-- ---- places

abbrev pub is_catch : Label → Bool
is_catch is.Catch = true
is_catch _ = false

-- there is a row behind n with the same parent; it is at the end of n
abbrev pub has_next : Rows → ℕ → Bool
has_next p n = nat_lt (end p n) (end p (parent p n))

-- all that stands right below the row, one after the other
abbrev pub kids : Rows → Entries → ℕ → Course
kids p e n = if nat_lt (n + 1) (end p n) then (e (n + 1)).rest else begun

-- the condition of a `for`, which stands behind the first part of its header
abbrev pub for_condition : Rows → ℕ → Bool → ℕ
for_condition p n true = end p (n + 1)
for_condition p n false = n + 1

-- ---- statements with parts of several kinds

-- an `if` (14.9), whose condition does not count: without `else` it completes
abbrev pub if_course : Rows → Entries → ℕ → Course
if_course p e n = let yes = end p (n + 1) in
    if nat_lt (end p yes) (end p n) then either_of (e yes).own (e (end p yes)).own else record { completes = true; exits = (e yes).own.exits }

-- the body of a `try` or one of its catches (14.20)
abbrev pub tried : Rows → Entries → ℕ → Course
tried p e n = let next = end p (n + 1) in if is_catch (label p next) && nat_lt next (end p n) then either_of (e (n + 1)).own (e next).rest else (e (n + 1)).own

-- and then its `finally`
abbrev pub try_course : Rows → Entries → ℕ → Option ℕ → Course
try_course p e n None = tried p e n
try_course p e n (Some last) = through (tried p e n) (e last).own

-- ---- all rows: what has no line completes

abbrev pub course_by : Label → Rows → Facts → Entries → ℕ → Course
course_by is.Block p f e n = kids p e n
course_by is.Nest p f e n = kids p e n
course_by is.Group p f e n = kids p e n
course_by is.Catch p f e n = kids p e n
course_by (is.Method modifiers is_void has_body) p f e n = kids p e n
course_by (is.Initializer is_static) p f e n = kids p e n
course_by is.Labeled p f e n = labeled n (kids p e n)
course_by is.If p f e n = if_course p e n
course_by is.While p f e n = looped (fact f (n + 1)).truth n (kids p e n)
course_by (is.For has_first true) p f e n = looped (fact f (for_condition p n has_first)).truth n (kids p e n)
course_by (is.For has_first false) p f e n = looped (Some true) n (kids p e n)
course_by is.Do p f e n = looped_once (fact f (end p (n + 1))).truth n (kids p e n)
course_by is.Switch p f e n = switched (fact f n).has_default n (kids p e n)
course_by (is.Break has_label) p f e n = jump (fact f n).exit
course_by (is.Continue has_label) p f e n = jump (fact f n).exit
course_by is.Return p f e n = jump None
course_by is.Throw p f e n = jump None
course_by (is.Try has_finally) p f e n = try_course p e n (fact f n).last
course_by _ p f e n = begun

abbrev pub course_at : Rows → Facts → Entries → ℕ → Course
course_at p f e n = course_by (label p n) p f e n

-- with its later siblings: catches are alternatives, groups may all be begun, and all else comes in turn
abbrev pub rest_by : Label → Rows → Entries → ℕ → Course → Course
rest_by is.Catch p e n own = if has_next p n && is_catch (label p (end p n)) then either_of own (e (end p n)).rest else own
rest_by is.Group p e n own = if has_next p n then groups own (e (end p n)).rest else own
rest_by _ p e n own = if has_next p n then in_turn own (e (end p n)).rest else own

abbrev pub entry_at : Rows → Facts → Entries → ℕ → Entry
entry_at p f e n = let own = course_at p f e n in record { own = own; rest = rest_by (label p n) p e n own }

-- ---- the table of courses

-- the definition: entries of which each is what the rules make of the others
pub record AreCourses (p : Rows) (f : Facts) (e : Entries) : Type 0 where
  pub inside : (n : ℕ) → n < length p → e n ≡ entry_at p f e n
  pub outside : (n : ℕ) → length p ≤ n → e n ≡ nothing

-- what a list of the entries of the last rows says, the last row first
abbrev pub later : ℕ → List Entry → Entries
later total all m = if nat_lt m total then slice_index_or all (total - 1 - m) nothing else nothing

-- the entries of the last k rows
abbrev pub entries : Rows → Facts → ℕ → List Entry
entries p f zero = []
entries p f (suc k) = let all = entries p f k in all ++ entry_at p f (later (length p) all) (length p - 1 - k) ∷ []

abbrev pub courses : Rows → Facts → Entries
courses p f = later (length p) (entries p f (length p))

-- what the law asks of rows: each ends behind its number, and the block of a `finally` stands behind its `try`
pub record ReadsLater (p : Rows) (f : Facts) : Type 0 where
  pub nested : (n : ℕ) → n < end p n
  pub behind : (n last : ℕ) → (fact f n).last ≡ Some last → n < last

-- the law: there is one table of courses, and the computed one is it
pub record CoursesAreOne (p : Rows) (f : Facts) : Type 0 where
  pub computed : AreCourses p f (courses p f)
  pub only : (e g : Entries) → AreCourses p f e → AreCourses p f g → (n : ℕ) → e n ≡ g n

abbrev pub EachHasCourses : Type 0
EachHasCourses = (p : Rows) (f : Facts) → ReadsLater p f → CoursesAreOne p f
