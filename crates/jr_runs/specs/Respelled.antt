-- The program that is written is the old one, respelled: each row is a run of rows, and each reference is bound to its lock.
use Rattle.std.specs.Prelude.{◌≡◌, ℕ, ◌<◌, List, [], length, Option, Some, None, IsTrue, slice_get, slice_index_or}
use Rattle.jr_base.specs.declared.text.Text.{Text}
use Rattle.jr_tree.specs.declared.label.Label.{Label}
use Rattle.jr_tree.specs.declared.label.Label.TheVariants as is
use Rattle.jr_tree.specs.declared.row.Row.{Row}
use Rattle.jr_tree.specs.Rows.{Rows, row, label, name, parent}
use Rattle.jr_defs.specs.declared.referent.Referent.{Referent}
use Rattle.jr_defs.specs.Referents.{Table}
use Rattle.jr_defs.specs.Correspondence.{moved}
use Rattle.jr_shapes.specs.declared.spelling.Spelling.{Spelling}
use Rattle.jr_shapes.specs.Parts.{end_of, is_part}
use Rattle.jr_runs.specs.declared.item.Item.{Item}
use Rattle.jr_runs.specs.declared.item.Form.{Form}
use Rattle.jr_runs.specs.declared.item.Form.TheVariants as form
use Rattle.jr_runs.specs.declared.item.Refers.{Refers}
use Rattle.jr_runs.specs.declared.item.Refers.TheVariants.{To, ToPart}
use Rattle.jr_runs.specs.Marks.{marks}
use Rattle.jr_runs.specs.Plans.{Plan, plan_by}
use Rattle.jr_runs.specs.Suits.{AllSuit}

-- where the old row stands, and where its run begins
abbrev pub copy : Plan → ℕ → ℕ
copy x n = slice_index_or x.copies n 0

abbrev pub start : Plan → ℕ → ℕ
start x n = slice_index_or x.starts n 0

abbrev pub label_by : Label → Form → Label
label_by old form.Same = old
label_by old form.Paren = is.Paren
label_by old form.Cast = is.Cast
label_by old form.Select = is.Select
label_by old form.SuperSelect = is.SuperSelect
label_by old (form.TypeUse primitive dims) = is.TypeUse primitive dims
label_by old (form.This is_qualified) = is.This is_qualified
label_by old (form.Name kind place is_qualified) = is.Name kind place is_qualified
label_by old (form.Call receiver) = is.Call receiver

abbrev pub name_of : Rows → Option ℕ → Text
name_of p (Some n) = name p n
name_of p None = []

abbrev pub over_of : Rows → Plan → ℕ → Option ℕ → ℕ
over_of p x n (Some k) = k
over_of p x n None = copy x (parent p n)

abbrev pub stop_of : Rows → Plan → ℕ → Option ℕ → ℕ
stop_of p x n (Some k) = k
stop_of p x n None = start x (end_of p n)

-- what is said of the old program holds of the new one, by where its rows stand there
abbrev pub Agrees : Plan → Rows → Refers → Referent → Type 0
Agrees x q (To r) found = found ≡ moved (copy x) r
Agrees x q ToPart found = IsTrue (is_part q found)

-- the row has the label, the identifier, the row round it and the end that are to be written
pub record StandsSo (p : Rows) (x : Plan) (new : Row) (a : Item) : Type 0 where
  pub label_is : new.label ≡ label_by (label p a.of) a.form
  pub name_is : new.name ≡ name_of p a.name
  pub over_is : new.parent ≡ over_of p x a.of a.over
  pub end_is : new.end ≡ stop_of p x a.of a.end

-- the row i of the new program is the row that is to be written there, and it refers to what is said
pub record Stands (p : Rows) (x : Plan) (q : Rows) (v : Table) (i : ℕ) (a : Item) : Type 0 where
  pub there : i < length q
  pub so : StandsSo p x (row q i) a
  pub refers : Agrees x q a.refers (v i)

-- the first so many rows stand there
pub record AllStand (p : Rows) (x : Plan) (q : Rows) (v : Table) (count : ℕ) : Type 0 where
  pub each : (i : ℕ) (a : Item) → i < count → slice_get x.items i ≡ Some a → Stands p x q v i a

-- the rows of q are those that are to be written, and there are no more
pub record HasRuns (p : Rows) (x : Plan) (q : Rows) (v : Table) : Type 0 where
  pub stand : AllStand p x q v (length x.items)
  pub all : length q ≡ length x.items

-- q with the table v is the program p under the locks t with the spellings c: each spelling suits its row, and the rows are those of the runs
pub record IsRespelled (p : Rows) (t : Table) (c : List Spelling) (q : Rows) (v : Table) : Type 0 where
  pub suited : AllSuit p t (marks p t c) c (length c)
  pub written : HasRuns p (plan_by p t c (marks p t c)) q v
