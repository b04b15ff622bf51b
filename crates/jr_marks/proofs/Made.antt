-- The marks of a program are ordered.
use Rattle.std.proofs.Common.{◌≡◌, ℕ, ◌<◌, ◌^◌, List, length, map, sym, ◌∙◌, ap, subst, arith}
use Rattle.std.specs.Prelude.{slice_get, slice_index_or}
use Rattle.std.specs.List.Sorted.{IsNonDecreasing}
use Rattle.std.proofs.lemmas.List.{length-map}
use Rattle.jr_tree.specs.Rows.{Rows}
use Rattle.jr_defs.specs.declared.program.Program.{Program}
use Rattle.jr_defs.specs.declared.program.UnitAt.{UnitAt}
use Rattle.jr_defs.specs.Program.{rows_of}
use Rattle.jr_index.specs.declared.mark.Mark.{Mark}
use Rattle.jr_index.specs.Marking.{program_marks}
use Rattle.jr_index.specs.NodeRows.{unit_rows}
use Rattle.jr_index.proofs.Numbering.{units_few, units_within, units_rising}
use Rattle.jr_index.proofs.UnitCount.{units_have_rows}
use Rattle.jr_marks.specs.Places.{AreApart, tokens_by}
use Rattle.jr_marks.specs.Made.{AreMade, MarksAreOrdered}
use Rattle.jr_marks.specs.declared.marks.Marks.{Marks}

-- the marks by an index that has the rows and marks of the program
pub made_by : (program : Program) (rows : Rows) (marks : List Mark) (m : Marks) → m.units.now ≡ program.units → m.rows.now ≡ rows → m.marks.now ≡ marks → m.starts.now ≡ unit_rows rows (length rows)
    → length m.rows.now < 2 ^ 32 → rows ≡ rows_of program → marks ≡ program_marks (map (λ u. u.unit) program.units) → AreMade program m
made_by program rows marks m units these marked starts few same told = record {
  units = units;
  rows = these ∙ same;
  marks = marked ∙ told;
  starts = starts ∙ ap (λ (r : Rows). unit_rows r (length r)) same;
  few = few;
}

pub marks_ordered : MarksAreOrdered
marks_ordered program m shaped made read =
    let p = rows_of program in
    let units = map (λ u. u.unit) program.units in
    let count : length m.starts.now ≡ length (unit_rows p (length p)) = ap length made.starts in
    let rows : length m.rows.now ≡ length p = ap length made.rows in
    let many : length m.units.now ≡ length program.units = ap length made.units in
    let least = units_few p (length p) in
    let few = made.few in
    let prelude = read.prelude in record {
      few = few;
      begins = count ∙ units_have_rows units shaped ∙ length-map program.units (λ (u : UnitAt). u.unit) ∙ sym many;
      prelude = omega arith;
      within = λ u d lt.
          let below = units_within p (length p) u d (omega arith) in
          let same = ap (λ (s : List ℕ). slice_index_or s u d) made.starts in omega arith;
      rise = subst IsNonDecreasing (sym made.starts) (units_rising p (length p));
      count = omega arith;
      tokens = λ u. subst (λ (all : List UnitAt). AreApart (tokens_by (slice_get all u))) (sym made.units) (read.apart u);
      counts = λ u. subst (λ (all : List UnitAt). length (tokens_by (slice_get all u)) < 2 ^ 32) (sym made.units) (read.counts u);
    }
