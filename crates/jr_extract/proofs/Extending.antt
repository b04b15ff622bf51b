-- Units one by one, the change, and the answers.
use Rattle.std.proofs.Common.{◌≡◌, refl, sym, ◌∙◌, ap, ap₂, subst, arith, ℕ, ◌+◌, ◌<◌, ◌≤◌, ◌^◌, Bool, true, false, cond, List, length, Option, Some, None, Result, Ok, Err, nat_eq, nat_lt, Decides, add-one}
use Rattle.std.proofs.lemmas.Bool.{false≢true}
use Rattle.std.proofs.lemmas.Bool.Decides.{Decides-ltb}
use Rattle.std.specs.Prelude.{IfOk, IfErr, OnOk}
use Rattle.jr_base.specs.declared.token.Span.{Span}
use Rattle.jr_base.specs.Identifiers.{IsIdentifier}
use Rattle.jr_plain.specs.Modifiers.{is_static}
use Rattle.jr_supers.specs.Tabled.{IsSized}
use Rattle.jr_marks.specs.declared.marks.Marks.{Marks}
use Rattle.jr_marks.specs.Places.{IsOrdered, unit_of}
use Rattle.jr_edits.specs.Place.{EditList, pushed}
use Rattle.jr_text.specs.Spans.{part, unit_bytes}
use Rattle.jr_view.specs.declared.View.{View}
use Rattle.jr_flow_defs.specs.Meaning.{Meaning}
use Rattle.jr_flow.specs.declared.point.Graph.{Graph}
use Rattle.jr_flow.specs.declared.point.FlowFault.{FlowFault}
use Rattle.jr_flow.specs.declared.point.FlowFault.TheVariants as flow_fault
use Rattle.jr_flow.specs.Coded.{IsTooLarge}
use Rattle.jr_flow.specs.Reached.{IsGraphOf}
use Rattle.jr_flow.specs.Views.{IsViewOf, rows_in}
use Rattle.jr_flow.specs.Numbered.{OnlyWhere}
use Rattle.jr_tree.specs.Rows.{end}
use Rattle.jr_tree.specs.Tree.{IsTree}
use Rattle.jr_flow_faults.specs.Computed.{table_in}
use Rattle.jr_flow_faults.specs.Reading.{IsThrowingView}
use Rattle.jr_change.specs.declared.change.Change.{Change}
use Rattle.jr_change.specs.declared.change.RowRange.{RowRange}
use Rattle.jr_change.specs.declared.change.UnitSource.TheVariants as source
use Rattle.jr_change.specs.declared.project.Project.{Project}
use Rattle.jr_change.specs.declared.reason.ChangeFault.{ChangeFault}
use Rattle.jr_change.specs.declared.reason.ChangeFault.TheVariants as fault
use Rattle.jr_change.specs.declared.reason.Reason.TheVariants as reason
use Rattle.jr_draft.specs.Asking.{rows_of, unit_of_file}
use Rattle.jr_draft.specs.Drafting.{Drafted, begun, copied, kept, no_edits, path_of, unit_row, with_unit}
use Rattle.jr_extract.specs.declared.extracting.Placed.{Placed}
use Rattle.jr_extract.specs.declared.locals.Locals.{Locals}
use Rattle.jr_extract.specs.declared.run.Run.{Run}
use Rattle.jr_extract.specs.Handing.{AreHanded}
use Rattle.jr_extract.specs.Running.{run_at}
use Rattle.jr_extract.specs.Throwing.{AreThrownOut}
use Rattle.jr_extract.specs.Writing.{Extracted, with_call, with_method}
use Rattle.jr_extract.specs.Extracting.{AreLocals, Extending, IsFinishedWith, IsExtractAnswer, IsExtracted, IsGraphFault, IsGraphFor, IsGraphIn, IsGraphMade, IsMethodOf, IsNamedAnswer, IsRangeAnswer, IsRunAnswer, IsRunFault, IsRunMethod, IsSeenAs, IsWithin, all_extended, class_of, edited, extended, extended_below, extraction, fault_of, is_extended, nowhere, rows_added, rows_before, rows_between, rows_called, span_of, with_method_text, with_one, with_rows_placed, with_statement}
use Rattle.jr_extract.proofs.Calling.{method_found}
use Rattle.jr_extract.proofs.Counting.{run_within, unit_within}
use Rattle.jr_extract.proofs.Statements.{run_statements}

-- ---- units

abbrev pub extending : Drafted → Placed → Extending
extending drafted placed = record { drafted = drafted; placed = placed }

abbrev pub placing : ℕ → RowRange → Placed
placing call method = record { call = call; method = method }

abbrev pub method_between : Drafted → Drafted → RowRange
method_between before after = record { first = before.count; end = after.count }

pub edited_by : (m : Marks) (e : Extracted) (unit row : ℕ) (none put made : EditList) → row ≡ unit_row m unit → none ≡ no_edits (length (unit_bytes m row)) → put ≡ with_statement m e none → made ≡ with_method_text m e put
    → made ≡ edited m e unit
edited_by m e unit row none put made at is first second = second ∙ ap (with_method_text m e) (first ∙ ap (with_statement m e) (is ∙ ap (λ row. no_edits (length (unit_bytes m row))) at))

abbrev pub count_of : Drafted → ℕ
count_of d = d.count

pub called_so : (m : Marks) (e : Extracted) (unit behind between : ℕ) (d before called all : Drafted) → before ≡ rows_before m e unit d → between ≡ rows_between m.rows.now e.run → called ≡ with_call e between before
    → all ≡ copied called e.run.rows.end behind → behind ≡ end m.rows.now e.run.member → all ≡ rows_called m e unit d
called_so m e unit behind between d before called all first of second third b = third ∙ ap₂ (λ x k. copied x e.run.rows.end k) (second ∙ ap₂ (with_call e) of first) b

-- what the run becomes
abbrev pub built : Run → List ℕ → Locals → List ℕ → List ℕ → ℕ → Bool → Extracted
built run name locals thrown text class static = record {
  run = run;
  text = text;
  identifier = name;
  class = class;
  is_static = static;
  parameters = locals.parameters.items;
  fresh = locals.fresh.items;
  result = locals.result;
  thrown = thrown;
}

pub extraction_so : (m : Marks) (run : Run) (name : List ℕ) (locals : Locals) (thrown text bytes : List ℕ) (span : Span) (class : ℕ) (static : Bool) → text ≡ part bytes span → bytes ≡ unit_bytes m run.member → span ≡ span_of m run
    → class ≡ class_of m.rows.now run.member → static ≡ is_static m.rows.now run.member → built run name locals thrown text class static ≡ extraction m run name locals thrown
extraction_so m run name locals thrown text bytes span class static is of at c s = ap (λ text. built run name locals thrown text class static) (is ∙ ap₂ part of at)
    ∙ ap₂ (built run name locals thrown (part (unit_bytes m run.member) (span_of m run))) c s

-- the rows of the unit, and where the call and the method stand
pub placed_so : (m : Marks) (e : Extracted) (unit call behind last : ℕ) (d called added all : Drafted) (method : RowRange) → called ≡ rows_called m e unit d → call ≡ (rows_before m e unit d).count
    → added ≡ with_method e called → method ≡ record { first = called.count; end = added.count } → all ≡ copied added behind last → behind ≡ end m.rows.now e.run.member → last ≡ end m.rows.now (unit_row m unit)
    → record { drafted = all; placed = record { call = call; method = method } } ≡ with_rows_placed m e unit d
placed_so m e unit call behind last d called added all method first at second of third b l = let more : added ≡ rows_added m e unit d = second ∙ ap (with_method e) first in
    ap₂ extending (third ∙ ap (λ x. copied x behind last) more ∙ ap₂ (λ b l. copied (rows_added m e unit d) b l) b l) (ap₂ placing at (of ∙ ap₂ method_between first more))

pub edited_so : (m : Marks) (e : Extracted) (unit : ℕ) (path : List ℕ) (edits : EditList) (d added : Drafted) (made : Extending) → path ≡ path_of m unit → edits ≡ edited m e unit
    → added ≡ with_unit d (record { path = path; source = source.Edited unit edits }) → made ≡ with_rows_placed m e unit added → made ≡ extended m e unit d
edited_so m e unit path edits d added made at is opened h = h ∙ ap (with_rows_placed m e unit) (opened ∙ ap₂ (λ path edits. with_unit d (record { path = path; source = source.Edited unit edits })) at is)

pub one_edited : {B : Type 0} (m : Marks) (e : Extracted) (unit : ℕ) (d new : Drafted) (placed : Placed) (answer : Result Placed B) (b : Bool) → (IsOrdered m → b ≡ is_extended m e unit) → b ≡ true
    → IfOk answer (λ more. IsOrdered m → IsWithin m e.run → record { drafted = new; placed = more } ≡ extended m e unit d)
    → IfOk answer (λ more. IsOrdered m → IsWithin m e.run → record { drafted = new; placed = more } ≡ with_one m e unit (record { drafted = d; placed = placed }))
one_edited m e unit d new placed (Ok more) b tells is made = λ ordered within. made ordered within ∙ sym (ap (λ b. cond b (extended m e unit d) (extending (kept m unit d) placed)) (sym (tells ordered) ∙ is))
one_edited m e unit d new placed (Err why) b tells is made = made

pub one_kept : (m : Marks) (e : Extracted) (unit : ℕ) (d new : Drafted) (placed : Placed) (b : Bool) → (IsOrdered m → b ≡ is_extended m e unit) → b ≡ false → (IsOrdered m → new ≡ kept m unit d)
    → IsOrdered m → IsWithin m e.run → record { drafted = new; placed = placed } ≡ with_one m e unit (record { drafted = d; placed = placed })
one_kept m e unit d new placed b tells is made ordered within = ap (λ d. extending d placed) (made ordered) ∙ sym (ap (λ b. cond b (extended m e unit d) (extending (kept m unit d) placed)) (sym (tells ordered) ∙ is))

-- one unit more
pub extended_more : (m : Marks) (e : Extracted) (unit : ℕ) (before more : Extending) → 2 ≤ unit → before ≡ extended_below m e unit → more ≡ with_one m e unit before → more ≡ extended_below m e (unit + 1)
extended_more m e unit before more behind h made = rw add-one (made ∙ ap (with_one m e unit) h ∙ by (nat_lt unit 2) (Decides-ltb unit 2))
  where
    by : (b : Bool) → Decides b (unit < 2) → with_one m e unit (extended_below m e unit) ≡ cond b (extended_below m e unit) (with_one m e unit (extended_below m e unit))
    by true d = let lt = d.0 refl in absurd (omega arith)
    by false d = refl

-- none of the workspace yet
pub extended_start : (m : Marks) (e : Extracted) (d : Drafted) → d ≡ begun m → record { drafted = d; placed = nowhere } ≡ extended_below m e 2
extended_start m e d is = ap (λ d. extending d nowhere) is

-- all units
pub extended_all : (m : Marks) (e : Extracted) (unit count : ℕ) (made : Extending) → unit ≡ count → made ≡ extended_below m e unit → made ≡ extended_below m e count
extended_all m e unit count made same h = h ∙ ap (extended_below m e) same

-- ---- the graph

pub graph_made : (view : View) (body : ℕ) (graph : Graph)
    → ((m : Meaning) → IsViewOf view m → IsTree (rows_in view) → body < length (rows_in view) → (graph.body ≡ body) × IsGraphOf (rows_in view) m graph)
    → ((m : Meaning) → IsViewOf view m → IsTree (rows_in view) → body < length (rows_in view) → IsTooLarge (rows_in view) m body → ⊥) → IsGraphMade view body graph
graph_made view body graph is small = λ m seen tree within. record { body_is = (is m seen tree within).0; graph_is = (is m seen tree within).1; small = small m seen tree within }

pub graph_failed : (view : View) (body : ℕ) (why : FlowFault) (told : ChangeFault) → told ≡ fault_of why
    → ((m : Meaning) → IsViewOf view m → IsTree (rows_in view) → body < length (rows_in view) → OnlyWhere (IsTooLarge (rows_in view) m body) why) → IsGraphFault view body told
graph_failed view body flow_fault.TooManyPoints told is large = subst (IsGraphFault view body) (sym is) (IsGraphFault.large large)
graph_failed view body flow_fault.OutOfMemory told is large = subst (IsGraphFault view body) (sym is) IsGraphFault.memory

-- ---- a run

module _ (old : Project) (run : Run) (within : IsWithin old.marks run) where
  inside : (meaning : Meaning) → IsSeenAs old meaning → run.member < length (rows_in old.view)
  inside meaning seen = let w : run.member < length old.marks.rows.now = within in let e : length (rows_in old.view) ≡ length old.marks.rows.now = ap length seen.rows in omega arith

  pub run_fault : (why : ChangeFault) → IsGraphFault old.view run.member why → IsRunFault old run why
  run_fault why (IsGraphFault.large large) = IsRunFault.large (λ meaning seen. large meaning seen.view seen.tree (inside meaning seen))
  run_fault why IsGraphFault.memory = IsRunFault.memory

  pub run_method : (name : List ℕ) (graph : Graph) (locals : Locals) (change : Change) → IsGraphMade old.view run.member graph
      → (IsSized (rows_in old.view) → AreHanded (rows_in old.view) (table_in old.view) graph run locals) → IsMethodOf old run name locals change → IsRunMethod old run name change
  run_method name graph locals change made handed method = record {
    locals = locals;
    handed = record {
      graph = graph;
      flow = λ meaning seen. let g = made meaning seen.view seen.tree (inside meaning seen) in record { of_member = g.body_is; is_graph = g.graph_is; small = g.small };
      handed = handed;
    };
    made = method;
  }

pub memory_fault : (old : Project) (run : Run) (why : ChangeFault) → why ≡ fault.OutOfMemory → IsRunFault old run why
memory_fault old run why is = subst (IsRunFault old run) (sym is) IsRunFault.memory

pub finished_so : (m : Marks) (e : Extracted) (d : Drafted) (placed : Placed) (change : Change) → record { drafted = d; placed = placed } ≡ all_extended m e → IsFinishedWith d placed change → IsExtracted m e change
finished_so m e d placed change is made = subst (λ s. IsFinishedWith s.drafted s.placed change) is made

method_of : (old : Project) (run : Run) (name : List ℕ) (locals : Locals) (thrown : List ℕ) (e : Extracted) (change : Change) → (IsThrowingView old.view → AreThrownOut old.view run thrown)
    → e ≡ extraction old.marks run name locals thrown → IsExtracted old.marks e change → IsMethodOf old run name locals change
method_of old run name locals thrown e change throws is made = record { thrown = thrown; throws = throws; made = subst (λ e. IsExtracted old.marks e change) is made; finds = method_found old.marks (extraction old.marks run name locals thrown) }

pub methods_of : (old : Project) (run : Run) (name : List ℕ) (locals : Locals) (all thrown : List ℕ) (e : Extracted) (answer : Result Change ChangeFault) → (IsThrowingView old.view → AreThrownOut old.view run all) → thrown ≡ all
    → (IsOrdered old.marks → e ≡ extraction old.marks run name locals thrown) → IfOk answer (λ change. IsOrdered old.marks → IsWithin old.marks e.run → IsExtracted old.marks e change)
    → IfOk answer (λ change. IsOrdered old.marks → IsWithin old.marks run → IsMethodOf old run name locals change)
methods_of old run name locals all thrown e (Ok change) throws same is made = λ ordered within. method_of old run name locals thrown e change (λ right. subst (AreThrownOut old.view run) (sym same) (throws right)) (is ordered)
    (made ordered (subst (IsWithin old.marks) (ap (λ e. e.run) (sym (is ordered))) within))
methods_of old run name locals all thrown e (Err why) throws same is made = tt

-- ---- the answers to a request

run_answer : (old : Project) (run : Run) (name : List ℕ) (answer : Result Change ChangeFault) → IsOrdered old.marks → IsWithin old.marks run
    → IfOk answer (λ change. IsOrdered old.marks → IsWithin old.marks run → IsRunMethod old run name change) → IfErr answer (λ why. IsWithin old.marks run → IsRunFault old run why) → IsRunAnswer old run name answer
run_answer old run name (Ok change) ordered within made failed = IsRunAnswer.extracted (made ordered within)
run_answer old run name (Err why) ordered within made failed = IsRunAnswer.failed (failed within)

pub range_of_run : (old : Project) (range : Span) (name : List ℕ) (unit : ℕ) (run : Run) (answer : Result Change ChangeFault) → IsOrdered old.marks → Some run ≡ run_at old.marks unit range
    → IfOk answer (λ change. IsOrdered old.marks → IsWithin old.marks run → IsRunMethod old run name change) → IfErr answer (λ why. IsWithin old.marks run → IsRunFault old run why) → IsRangeAnswer old range name unit answer
range_of_run old range name unit run answer ordered is made failed = let within = run_within old.marks unit range run (sym is) in
    IsRangeAnswer.of_run (sym is) (run_statements old.marks unit range run (sym is)) (run_answer old run name answer ordered within made failed)

pub range_no_run : (old : Project) (range : Span) (name : List ℕ) (unit : ℕ) → None ≡ run_at old.marks unit range → IsRangeAnswer old range name unit (Err (fault.Bad reason.BadRange))
range_no_run old range name unit is = IsRangeAnswer.no_run (sym is)

pub answer_no_file : (old : Project) (file : List ℕ) (start end : ℕ) (name : List ℕ) → None ≡ unit_of_file old.marks file → IsExtractAnswer old file start end name (Err (fault.Bad reason.NoFile))
answer_no_file old file start end name is = IsExtractAnswer.no_file (sym is)

pub named_none : (old : Project) (range : Span) (name : List ℕ) (unit : ℕ) (is : Bool) → (is ≡ true → IsIdentifier name) × (IsIdentifier name → is ≡ true) → is ≡ false → IsNamedAnswer old range name unit (Err (fault.Bad reason.BadName))
named_none old range name unit is tells bad = IsNamedAnswer.no_name (λ h. false≢true (sym bad ∙ tells.1 h))

pub named_range : (old : Project) (range : Span) (name : List ℕ) (unit : ℕ) (is : Bool) (answer : Result Change ChangeFault) → (is ≡ true → IsIdentifier name) × (IsIdentifier name → is ≡ true) → is ≡ true
    → IsRangeAnswer old range name unit answer → IsNamedAnswer old range name unit answer
named_range old range name unit is answer tells good made = IsNamedAnswer.of_range (tells.0 good) made

pub answer_of_file : (old : Project) (file : List ℕ) (start end : ℕ) (name : List ℕ) (unit : ℕ) (answer : Result Change ChangeFault) → Some unit ≡ unit_of_file old.marks file
    → (unit < length old.marks.units.now → IsNamedAnswer old (record { start = start; end = end }) name unit answer) → IsExtractAnswer old file start end name answer
answer_of_file old file start end name unit answer is made = IsExtractAnswer.of_file (sym is) (made (unit_within old.marks file unit (sym is)))
