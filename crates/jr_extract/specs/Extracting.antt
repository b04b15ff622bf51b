-- What a request to extract a method comes to (JLS 8.4, 8.8.7.1, 11.2, 14.2).
use Rattle.std.specs.Prelude.{◌≡◌, ℕ, zero, suc, ◌-◌, ◌<◌, Bool, if◌then◌else◌, List, length, Option, Some, None, Result, Ok, Err, nat_eq, nat_lt}
use Rattle.jr_base.specs.declared.token.Span.{Span}
use Rattle.jr_base.specs.Identifiers.{IsIdentifier}
use Rattle.jr_tree.specs.Rows.{Rows, end, parent}
use Rattle.jr_tree.specs.Tree.{IsTree}
use Rattle.jr_plain.specs.Modifiers.{is_static}
use Rattle.jr_supers.specs.Tabled.{IsSized}
use Rattle.jr_marks.specs.declared.marks.Marks.{Marks}
use Rattle.jr_marks.specs.Places.{unit_of}
use Rattle.jr_edits.specs.Place.{EditList, pushed}
use Rattle.jr_text.specs.Spans.{part, token_span, tokens_span, unit_bytes}
use Rattle.jr_view.specs.declared.View.{View}
use Rattle.jr_flow_defs.specs.Meaning.{Meaning}
use Rattle.jr_flow.specs.declared.point.Graph.{Graph}
use Rattle.jr_flow.specs.declared.point.FlowFault.{FlowFault}
use Rattle.jr_flow.specs.declared.point.FlowFault.TheVariants as flow_fault
use Rattle.jr_flow.specs.Coded.{IsTooLarge}
use Rattle.jr_flow.specs.Reached.{IsGraphOf}
use Rattle.jr_flow.specs.Views.{IsViewOf, rows_in}
use Rattle.jr_flow_faults.specs.Computed.{table_in}
use Rattle.jr_flow_faults.specs.Reading.{IsThrowingView}
use Rattle.jr_change.specs.declared.change.Change.{Change}
use Rattle.jr_change.specs.declared.change.ChangedUnit.{ChangedUnit}
use Rattle.jr_change.specs.declared.change.Course.TheVariants as course
use Rattle.jr_change.specs.declared.change.RowRange.{RowRange}
use Rattle.jr_change.specs.declared.change.UnitSource.TheVariants as source
use Rattle.jr_change.specs.declared.project.Project.{Project}
use Rattle.jr_change.specs.declared.reason.ChangeFault.{ChangeFault}
use Rattle.jr_change.specs.declared.reason.ChangeFault.TheVariants as fault
use Rattle.jr_change.specs.declared.reason.Reason.TheVariants as reason
use Rattle.jr_draft.specs.Asking.{rows_of, unit_of_file}
use Rattle.jr_draft.specs.Drafting.{Drafted, begun, copied, kept, no_edits, path_of, unit_row, with_unit}
use Rattle.jr_extract.specs.declared.extracting.Placed.{Placed}
use Rattle.jr_extract.specs.declared.locals.Locals.{Locals}
use Rattle.jr_extract.specs.declared.run.Run.{Run}
use Rattle.jr_extract.specs.Handing.{AreHanded}
use Rattle.jr_extract.specs.Running.{IsOfStatements, run_at}
use Rattle.jr_extract.specs.Throwing.{AreThrownOut}
use Rattle.jr_extract.specs.Writing.{Extracted, method_row, method_text, statement_text, with_call, with_method, with_target}

-- ---- texts

-- the bytes of a run, from its first token to its last
abbrev pub span_of : Marks → Run → Span
span_of m run = record { start = (token_span m run.member run.tokens.first).start; end = (token_span m run.member (run.tokens.after - 1)).end }

-- right behind the last token of the member in which the run stands
abbrev pub behind_member : Marks → Run → Span
behind_member m run = let place = (tokens_span m run.member).end in record { start = place; end = place }

-- the statement comes in place of the run
abbrev pub with_statement : Marks → Extracted → EditList → EditList
with_statement m e edits = pushed edits (span_of m e.run) (statement_text m.rows.now e)

-- the method comes behind the member
abbrev pub with_method_text : Marks → Extracted → EditList → EditList
with_method_text m e edits = pushed edits (behind_member m e.run) (method_text m.rows.now e)

abbrev pub edited : Marks → Extracted → ℕ → EditList
edited m e unit = with_method_text m e (with_statement m e (no_edits (length (unit_bytes m (unit_row m unit)))))

abbrev pub edited_unit : Marks → Extracted → ℕ → ChangedUnit
edited_unit m e unit = record { path = path_of m unit; source = source.Edited unit (edited m e unit) }

-- ---- rows

-- where the call and the rows of the method come to stand
pub record Extending : Type 0 where
  pub drafted : Drafted
  pub placed : Placed

-- how many rows stand between those of the run and the end of the member
abbrev pub rows_between : Rows → Run → ℕ
rows_between p run = end p run.member - run.rows.end

-- the rows of the unit up to the run, and of the statement up to the call
abbrev pub rows_before : Marks → Extracted → ℕ → Drafted → Drafted
rows_before m e unit d = with_target e.run e.result (copied d (unit_row m unit) e.run.rows.first)

-- and with the call and the rest of the member
abbrev pub rows_called : Marks → Extracted → ℕ → Drafted → Drafted
rows_called m e unit d = copied (with_call e (rows_between m.rows.now e.run) (rows_before m e unit d)) e.run.rows.end (end m.rows.now e.run.member)

-- and with the method
abbrev pub rows_added : Marks → Extracted → ℕ → Drafted → Drafted
rows_added m e unit d = with_method e (rows_called m e unit d)

-- and with the rest of the unit
abbrev pub with_rows : Marks → Extracted → ℕ → Drafted → Drafted
with_rows m e unit d = copied (rows_added m e unit d) (end m.rows.now e.run.member) (end m.rows.now (unit_row m unit))

-- the row of the call, and those of the method
abbrev pub placed_in : Marks → Extracted → ℕ → Drafted → Placed
placed_in m e unit d = record {
  call = (rows_before m e unit d).count;
  method = record { first = (rows_called m e unit d).count; end = (rows_added m e unit d).count };
}

-- the row to which the call refers is that at which the method is put, wherever the unit comes to stand
pub record FindsMethod (m : Marks) (e : Extracted) : Type 0 where
  pub finds : (unit : ℕ) (d : Drafted) → method_row e.parameters (placed_in m e unit d).call (rows_between m.rows.now e.run) ≡ (placed_in m e unit d).method.first

-- ---- the change

abbrev pub with_rows_placed : Marks → Extracted → ℕ → Drafted → Extending
with_rows_placed m e unit d = record { drafted = with_rows m e unit d; placed = placed_in m e unit d }

-- with the unit of the run, which is edited
abbrev pub extended : Marks → Extracted → ℕ → Drafted → Extending
extended m e unit d = with_rows_placed m e unit (with_unit d (edited_unit m e unit))

-- the run stands in the unit
abbrev pub is_extended : Marks → Extracted → ℕ → Bool
is_extended m e unit = nat_eq unit (unit_of m e.run.member)

-- with one unit more: that of the run, or one that stays
abbrev pub with_one : Marks → Extracted → ℕ → Extending → Extending
with_one m e unit s = if is_extended m e unit then extended m e unit s.drafted else record { drafted = kept m unit s.drafted; placed = s.placed }

abbrev pub nowhere : Placed
nowhere = record { call = 0; method = record { first = 0; end = 0 } }

-- the units of the workspace among the first ones, so many of them
abbrev pub extended_below : Marks → Extracted → ℕ → Extending
extended_below m e zero = record { drafted = begun m; placed = nowhere }
extended_below m e (suc unit) = let before = extended_below m e unit in if nat_lt unit 2 then before else with_one m e unit before

-- the change that was put together: what is declared twice is found in the method among its own rows, and statements stand in that, which the call calls
pub record IsFinishedWith (d : Drafted) (placed : Placed) (change : Change) : Type 0 where
  pub units : change.units.items ≡ d.units
  pub segments : change.segments.items ≡ d.segments
  pub namings : change.namings.items ≡ d.namings
  pub added : change.added.items ≡ d.added
  pub inner : change.inner ≡ Some placed.method
  pub raises : change.raised ≡ None
  pub does : change.course ≡ course.Extracted placed.call placed.method.first

-- the class in whose body a member stands
abbrev pub class_of : Rows → ℕ → ℕ
class_of p member = parent p (parent p member)

-- the method stands in the class of the member, and is static where that is
abbrev pub extraction : Marks → Run → List ℕ → Locals → List ℕ → Extracted
extraction m run name locals thrown = record {
  run = run;
  text = part (unit_bytes m run.member) (span_of m run);
  identifier = name;
  class = class_of m.rows.now run.member;
  is_static = is_static m.rows.now run.member;
  parameters = locals.parameters.items;
  fresh = locals.fresh.items;
  result = locals.result;
  thrown = thrown;
}

abbrev pub all_extended : Marks → Extracted → Extending
all_extended m e = extended_below m e (length m.units.now)

-- the change in which the run is a method of the name, and all else is as it was
abbrev pub IsExtracted : Marks → Extracted → Change → Type 0
IsExtracted m e made = IsFinishedWith (all_extended m e).drafted (all_extended m e).placed made

-- ---- what is known of the program

-- its rows are those of the marks and of a tree, and what is read of it is of this meaning
pub record IsSeenAs (old : Project) (meaning : Meaning) : Type 0 where
  pub rows : rows_in old.view ≡ rows_of old
  pub tree : IsTree (rows_in old.view)
  pub view : IsViewOf old.view meaning

-- the member has more points of flow than it may have
abbrev pub HasTooManyPoints : Project → Run → Type 0
HasTooManyPoints old run = (meaning : Meaning) → IsSeenAs old meaning → IsTooLarge (rows_in old.view) meaning run.member

-- the graph is that of the member, which has not too many points
pub record IsGraphIn (old : Project) (run : Run) (graph : Graph) (meaning : Meaning) : Type 0 where
  pub of_member : graph.body ≡ run.member
  pub is_graph : IsGraphOf (rows_in old.view) meaning graph
  pub small : IsTooLarge (rows_in old.view) meaning run.member → ⊥

-- the locals of the method, by the graph of the member
pub record AreLocals (old : Project) (run : Run) (locals : Locals) : Type 0 where
  pub graph : Graph
  pub flow : (meaning : Meaning) → IsSeenAs old meaning → IsGraphIn old run graph meaning
  pub handed : IsSized (rows_in old.view) → AreHanded (rows_in old.view) (table_in old.view) graph run locals

-- ---- the answer

-- the run is a method of the name that has these locals, and throws the classes that come out of the run
pub record IsMethodOf (old : Project) (run : Run) (name : List ℕ) (locals : Locals) (change : Change) : Type 0 where
  pub thrown : List ℕ
  pub throws : IsThrowingView old.view → AreThrownOut old.view run thrown
  pub made : IsExtracted old.marks (extraction old.marks run name locals thrown) change
  pub finds : FindsMethod old.marks (extraction old.marks run name locals thrown)

-- it has those of the run
pub record IsRunMethod (old : Project) (run : Run) (name : List ℕ) (change : Change) : Type 0 where
  pub locals : Locals
  pub handed : AreLocals old run locals
  pub made : IsMethodOf old run name locals change

-- why it is none: too many points of flow, or want of memory
pub data IsRunFault (old : Project) (run : Run) : ChangeFault → Type 0 where
  large : HasTooManyPoints old run → IsRunFault old run fault.TooManyPoints
  memory : IsRunFault old run fault.OutOfMemory

-- what comes of a run
pub data IsRunAnswer (old : Project) (run : Run) (name : List ℕ) : Result Change ChangeFault → Type 0 where
  extracted : {change : Change} → IsRunMethod old run name change → IsRunAnswer old run name (Ok change)
  failed : {why : ChangeFault} → IsRunFault old run why → IsRunAnswer old run name (Err why)

-- what comes of a range of bytes of a unit: that it is no run, or what comes of the run
pub data IsRangeAnswer (old : Project) (range : Span) (name : List ℕ) (unit : ℕ) : Result Change ChangeFault → Type 0 where
  no_run : run_at old.marks unit range ≡ None → IsRangeAnswer old range name unit (Err (fault.Bad reason.BadRange))
  of_run : {run : Run} {answer : Result Change ChangeFault} → run_at old.marks unit range ≡ Some run → IsOfStatements old.marks run → IsRunAnswer old run name answer → IsRangeAnswer old range name unit answer

-- what comes of a range and a name: that this is none, or what comes of the range
pub data IsNamedAnswer (old : Project) (range : Span) (name : List ℕ) (unit : ℕ) : Result Change ChangeFault → Type 0 where
  no_name : (IsIdentifier name → ⊥) → IsNamedAnswer old range name unit (Err (fault.Bad reason.BadName))
  of_range : {answer : Result Change ChangeFault} → IsIdentifier name → IsRangeAnswer old range name unit answer → IsNamedAnswer old range name unit answer

-- the answer: that there is no such file, or what comes of the range and the name
pub data IsExtractAnswer (old : Project) (file : List ℕ) (start end : ℕ) (name : List ℕ) : Result Change ChangeFault → Type 0 where
  no_file : unit_of_file old.marks file ≡ None → IsExtractAnswer old file start end name (Err (fault.Bad reason.NoFile))
  of_file : {unit : ℕ} {answer : Result Change ChangeFault} → unit_of_file old.marks file ≡ Some unit → IsNamedAnswer old (record { start = start; end = end }) name unit answer → IsExtractAnswer old file start end name answer

-- ---- what the code holds of it

-- the member is written
abbrev pub IsWithin : Marks → Run → Type 0
IsWithin m run = run.member < length m.rows.now

-- what comes of the graph of a body, as the code asks for it: why there is none
pub data IsGraphFault (view : View) (body : ℕ) : ChangeFault → Type 0 where
  large : ((meaning : Meaning) → IsViewOf view meaning → IsTree (rows_in view) → body < length (rows_in view) → IsTooLarge (rows_in view) meaning body) → IsGraphFault view body fault.TooManyPoints
  memory : IsGraphFault view body fault.OutOfMemory

-- or that it is that of the body, which has not too many points
pub record IsGraphFor (view : View) (body : ℕ) (graph : Graph) (meaning : Meaning) : Type 0 where
  pub body_is : graph.body ≡ body
  pub graph_is : IsGraphOf (rows_in view) meaning graph
  pub small : IsTooLarge (rows_in view) meaning body → ⊥

abbrev pub IsGraphMade : View → ℕ → Graph → Type 0
IsGraphMade view body graph = (meaning : Meaning) → IsViewOf view meaning → IsTree (rows_in view) → body < length (rows_in view) → IsGraphFor view body graph meaning

abbrev pub fault_of : FlowFault → ChangeFault
fault_of flow_fault.TooManyPoints = fault.TooManyPoints
fault_of flow_fault.OutOfMemory = fault.OutOfMemory
