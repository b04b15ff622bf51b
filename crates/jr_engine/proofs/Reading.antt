-- The texts of a changed program, and those of the files left.
use Rattle.std.proofs.Common.{◌≡◌, ◌⊎◌, inl, inr, ◌∙◌, ◌<◌, ◌≤◌, ◌^◌, ap, refl, sym, subst, List, ℕ, suc, ◌++◌, length, map, Result, Ok, Err, IfOk, IfErr, arith}
use Rattle.std.proofs.lemmas.Bool.{leb-true}
use Rattle.std.specs.FinMap as files
use Rattle.std.specs.List.{AllByRecursion}
use Rattle.jr_base.specs.Files.{FileMap}
use Rattle.jr_tree.specs.Rows.{Rows}
use Rattle.jr_tree.specs.Shape.{IsShaped}
use Rattle.jr_defs.specs.Prelude.{lang_text, io_text}
use Rattle.jr_defs.specs.Program.{AreUnitsOf, prelude_files, rows_of}
use Rattle.jr_defs.specs.Referents.{Table, entries}
use Rattle.jr_defs.specs.declared.program.Program.{Program}
use Rattle.jr_defs.specs.declared.program.UnitAt.{UnitAt}
use Rattle.jr_defs.specs.declared.referent.Referent.{Referent}
use Rattle.jr_index.specs.Marking.{program_marks}
use Rattle.jr_index.specs.declared.mark.Mark.{Mark}
use Rattle.jr_marks.specs.Made.{AreMade, HaveTokensApart}
use Rattle.jr_marks.specs.Places.{IsOrdered}
use Rattle.jr_marks.specs.declared.marks.Marks.{Marks}
use Rattle.jr_marks.proofs.Made.{marks_ordered}
use Rattle.jr_ordered.proofs.Lexed.{units_apart}
use Rattle.jr_edits.specs.Place.{EditList}
use Rattle.jr_shapes.specs.declared.spelling.Spelling.{Spelling}
use Rattle.jr_weave.specs.Weaving.{AreRespelled}
use Rattle.jr_front.specs.Bound.{IsIndexed}
use Rattle.jr_engine.specs.Steps.{IsRead}
use Rattle.jr_engine.specs.Barring.{Bars}
use Rattle.jr_engine.specs.Texts.{AreSmall, AreTexts, HaveTexts, changed_files, written_files}
use Rattle.jr_engine.specs.Written.{AreNotLeft, AreTextsOf, HasBarredTexts, IsRetypedIn, HasTextsOf, IsBoundByLocks, IsIndexedAs, IsNotLeft, IsReadBy, locks_of, rows_of as rows_under}
use Rattle.jr_engine.specs.declared.asked.Asked.{Asked}
use Rattle.jr_engine.specs.declared.fault.StepFault.{StepFault}
use Rattle.jr_engine.specs.declared.fault.StepFault.TheVariants as step
use Rattle.jr_engine.specs.declared.left.Left.{Left}
use Rattle.jr_engine.specs.declared.locked.Locked.{Locked}

-- ---- tokens of the changed program

lang_small : length lang_text < 2 ^ 32
lang_small = let least = leb-true (length lang_text) 65536 refl in omega (arith, least)

io_small : length io_text < 2 ^ 32
io_small = let least = leb-true (length io_text) 65536 refl in omega (arith, least)

two_files : (texts : List (List ℕ × List ℕ)) → 2 ≤ length (prelude_files ++ texts)
two_files texts = let count : length (prelude_files ++ texts) ≡ suc (suc (length texts)) = refl in omega (arith, count)

pub tokens_apart : (texts : List (List ℕ × List ℕ)) (units : List UnitAt) → AreUnitsOf (prelude_files ++ texts) units → AreSmall texts → HaveTokensApart units
tokens_apart texts units are small = units_apart (prelude_files ++ texts) units are (lang_small, (io_small, small)) (two_files texts)

-- ---- the changed program under its locks

pub indexed_as : (program : Program) (rows : Rows) (marks : List Mark) (result : Result Locked StepFault) → AllByRecursion IsShaped (map (λ u. u.unit) program.units) → rows ≡ rows_of program
    → marks ≡ program_marks (map (λ u. u.unit) program.units) → IfOk result (λ locked. locked.program.program ≡ program) → IfOk result (λ locked. locked.program.index.value.rows ≡ rows)
    → IfOk result (λ locked. locked.program.index.value.marks ≡ marks) → IfOk result (λ locked. HaveTokensApart program.units → IsIndexedAs program locked)
indexed_as program rows marks (Ok locked) shaped rows_are marks_are same own own_marks = λ apart. record {
  same = same;
  indexed = record { shaped = shaped; apart = apart; rows = own ∙ rows_are; marks = own_marks ∙ marks_are };
}
indexed_as program rows marks (Err why) shaped rows_are marks_are same own own_marks = tt

pub read_by : (asked : Asked) (units : List UnitAt) (held texts : List (List ℕ × List ℕ)) (program : Program) (result : Result Locked StepFault) → units ≡ asked.old.now.program.units → held ≡ texts
    → texts ≡ changed_files units asked.change.now.units.items → AreSmall texts → AreUnitsOf (prelude_files ++ held) program.units
    → IfOk result (λ locked. HaveTokensApart program.units → IsIndexedAs program locked) → IfOk result (IsReadBy asked)
read_by asked units held texts program (Ok locked) old same are small read indexed =
    let units_are : AreUnitsOf (prelude_files ++ texts) program.units = subst (λ (all : List (List ℕ × List ℕ)). AreUnitsOf (prelude_files ++ all) program.units) same read in
    let is = indexed (tokens_apart texts program.units units_are small) in
    let changed : texts ≡ changed_files asked.old.now.program.units asked.change.now.units.items = are ∙ ap (λ (all : List UnitAt). changed_files all asked.change.now.units.items) old in
    record {
      units = subst (λ (p : Program). AreUnitsOf (prelude_files ++ changed_files asked.old.now.program.units asked.change.now.units.items) p.units) (sym is.same)
          (subst (λ (all : List (List ℕ × List ℕ)). AreUnitsOf (prelude_files ++ all) program.units) changed units_are);
      indexed = subst (λ (p : Program). IsIndexed p locked.program.index.value) (sym is.same) is.indexed;
    }
read_by asked units held texts program (Err why) old same are small read indexed = tt

-- ---- the files left, and those that were to be

pub texts_by : (locked : Locked) (all : List Spelling) (m : Marks) (table : List Referent) (edits held : List EditList) (units : List UnitAt) (texts : List (List ℕ × List ℕ))
    → (rows_under locked ≡ rows_of locked.program.program → locked.program.index.value.marks ≡ program_marks (map (λ u. u.unit) locked.program.program.units) → AreMade locked.program.program m)
    → (IsOrdered m → AreRespelled m (entries table) all edits) → table ≡ locked.program.bound.value.table.items → held ≡ edits → units ≡ locked.program.program.units → texts ≡ written_files units held
    → (asked : Asked) → IsReadBy asked locked → IsBoundByLocks locked → AreTextsOf locked all texts
texts_by locked all m table edits held units texts made spelled tables edits_are units_are written asked read bound =
    let is = made read.indexed.rows read.indexed.marks in
    record {
      marks = m;
      made = is;
      edits = edits;
      respelled = subst (λ (t : Table). AreRespelled m t all edits) (ap entries tables ∙ bound.table) (spelled (marks_ordered locked.program.program m read.indexed.shaped is read.indexed.apart));
      written = written ∙ ap (λ (u : List UnitAt). written_files u held) units_are ∙ ap (λ (e : List EditList). written_files locked.program.program.units e) edits_are;
    }

pub texts_so : (locked : Locked) (all : List Spelling) (texts : List (List ℕ × List ℕ)) (result : Result Left StepFault) → AreTextsOf locked all texts → IfOk result (λ left. files.entries left.files ≡ texts)
    → IfOk result (HasTextsOf locked all)
texts_so locked all texts (Ok left) are kept = subst (λ (t : List (List ℕ × List ℕ)). AreTextsOf locked all t) (sym kept) are
texts_so locked all texts (Err why) are kept = tt

-- what bars texts lets no files be left
pub bars_not_left : (a : Asked) (texts : List (List ℕ × List ℕ)) (why : StepFault) → Bars texts why → AreNotLeft a texts why
bars_not_left a texts (step.Differs place) h = tt
bars_not_left a texts step.OutOfMemory h = tt
bars_not_left a texts _ h = inl h

pub bars_not_left_if : (a : Asked) (texts : List (List ℕ × List ℕ)) (result : Result (Unit {0}) StepFault) → IfErr result (Bars texts) → IfErr result (AreNotLeft a texts)
bars_not_left_if a texts (Ok _) h = tt
bars_not_left_if a texts (Err why) h = bars_not_left a texts why h

pub retyped_not_left : (a : Asked) (texts : List (List ℕ × List ℕ)) (why : StepFault) → IsRetypedIn a why → AreNotLeft a texts why
retyped_not_left a texts (step.Broken rule place) h = inr h
retyped_not_left a texts _ h = absurd h

pub not_left_same : (a : Asked) (texts all : List (List ℕ × List ℕ)) (result : Result Left StepFault) → texts ≡ all → IfErr result (AreNotLeft a texts) → IfErr result (AreNotLeft a all)
not_left_same a texts all result are h = subst (λ (e : List (List ℕ × List ℕ)). IfErr result (AreNotLeft a e)) are h

held_texts : (a : Asked) (locked : Locked) (all : List Spelling) (texts : List (List ℕ × List ℕ)) (why : StepFault) → AreTextsOf locked all texts → Bars texts why ⊎ IsRetypedIn a why → HasBarredTexts locked all why ⊎ IsRetypedIn a why
held_texts a locked all texts why are (inl bars) = inl (record { texts = texts; are = are; bars = bars })
held_texts a locked all texts why are (inr retyped) = inr retyped

pub not_left : (a : Asked) (locked : Locked) (all : List Spelling) (texts : List (List ℕ × List ℕ)) (why : StepFault) → AreTextsOf locked all texts → AreNotLeft a texts why → IsNotLeft a locked all why
not_left a locked all texts (step.Differs place) are h = tt
not_left a locked all texts step.OutOfMemory are h = tt
not_left a locked all texts (step.BadRequest reason) are h = held_texts a locked all texts (step.BadRequest reason) are h
not_left a locked all texts (step.NoSpelling occ place lock) are h = held_texts a locked all texts (step.NoSpelling occ place lock) are h
not_left a locked all texts (step.LostEdge lost first second is_old) are h = held_texts a locked all texts (step.LostEdge lost first second is_old) are h
not_left a locked all texts (step.Broken rule place) are h = held_texts a locked all texts (step.Broken rule place) are h
not_left a locked all texts (step.TooLarge what) are h = held_texts a locked all texts (step.TooLarge what) are h
not_left a locked all texts (step.StillUsed place) are h = held_texts a locked all texts (step.StillUsed place) are h

pub not_left_if : (a : Asked) (locked : Locked) (all : List Spelling) (texts : List (List ℕ × List ℕ)) (result : Result Left StepFault) → AreTextsOf locked all texts → IfErr result (AreNotLeft a texts)
    → IfErr result (IsNotLeft a locked all)
not_left_if a locked all texts (Ok left) are h = tt
not_left_if a locked all texts (Err why) are h = not_left a locked all texts why are h

pub texts_under : (asked : Asked) (locked : Locked) (all : List Spelling) (texts : List (List ℕ × List ℕ)) → IsReadBy asked locked → AreTextsOf locked all texts
    → AreTexts asked.old.now.program.units asked.change.now (rows_under locked) (locks_of locked) all texts
texts_under asked locked all texts read is = record {
  after = locked.program.program;
  units = read.units;
  are = read.indexed.rows;
  marks = is.marks;
  made = is.made;
  edits = is.edits;
  respelled = is.respelled;
  written = is.written;
}

pub texts_left : (found : FileMap) (asked : Asked) (locked : Locked) (all : List Spelling) (left : Left) → IsRead found asked.old.now → IsReadBy asked locked → HasTextsOf locked all left
    → HaveTexts found asked.change.now (rows_under locked) (locks_of locked) all left.files
texts_left found asked locked all left old read is = record { before = asked.old.now.program; reads = old.reads; texts = texts_under asked locked all (files.entries left.files) read is }
