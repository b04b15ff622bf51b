-- The units of a program: each has its own tokens, and ends behind the last of them.
use Rattle.std.proofs.Common.{◌≡◌, ℕ, ◌+◌, ◌<◌, List, [], ◌∷◌, ◌++◌, length, Some, refl, sym, ◌∙◌, ap, subst, arith, append-nil}
use Rattle.std.specs.Prelude.{slice_get, nat_eq, if◌then◌else◌}
use Rattle.std.proofs.lemmas.List.{length-set, get_or-set_other}
use Rattle.jr_tree.specs.declared.tree.Unit as declared_unit
use Rattle.jr_tree.specs.declared.label.Label.TheVariants as is
use Rattle.jr_tree.specs.declared.row.Row.{Row}
use Rattle.jr_tree.specs.Mirror.Decls as d
use Rattle.jr_tree.specs.Words.{Tokens}
use Rattle.jr_tree.specs.Tokens.{unit_tokens, tokens_of}
use Rattle.jr_tree.specs.Rows.{Rows, row, label, end, program_rows}
use Rattle.jr_index.specs.declared.mark.Mark.{Mark}
use Rattle.jr_index.specs.Events as e
use Rattle.jr_index.specs.Events.{Open, Close, Restart, named}
use Rattle.jr_index.specs.Marking.{Course, mark_at, is_hidden, step, run, start, program_marks}
use Rattle.jr_index.specs.Naming.{has_own, own_kind, AreOwn, AreUnitsOwn}
use Rattle.jr_index.proofs.Labels.{built_program}
use Rattle.jr_index.proofs.Owning.{run_append, Reads, Kept, Fits, Stands, Ends, loose, node, node_ends, kept_same, kept_two, fits_still, own_still, end_elsewhere}
use Rattle.jr_index.proofs.Written.{below_unit}

-- one unit
record UnitRun (ts : Tokens) (c d : Course) : Type 0 where
  kept : Kept c d
  own : AreOwn ts d.building.rows d.marks (length c.building.rows) (length d.building.rows)
  ends : Ends is.Unit (step Restart c) d ts

from_start : (c : Course) → c.building.over ≡ 0 → (step Restart c).at ≡ 0
from_start c e = ap (λ k. if nat_eq k 0 then 0 else c.at) e

unit_run : (a : d.CompilationUnit) (c : Course) → Fits c → c.building.over ≡ 0 → UnitRun (unit_tokens a) c (run c (e.unit_events a))
unit_run (d.UnitOf p imports types) c f top =
    let ts = unit_tokens (d.UnitOf p imports types) in
    let kids = e.if_some e.package_events p ++ e.imports_events imports ++ e.decls_events types in
    let fresh = step Restart c in
    let fits : Fits fresh = record { many = f.many; low = f.low } in
    let reads : Reads ts fresh.at ts = record { front = []; rest = []; is = sym (append-nil ts); size = sym (from_start c top) } in
    let below : Stands kids ts = below_unit p imports types in
    let all : Stands (named is.Unit [] kids) ts = node is.Unit [] refl (loose below) in
    let part = all.part ts fresh fits reads in
    record {
      kept = kept_two (kept_same c fresh f refl refl) part.kept;
      own = part.own;
      ends = node_ends is.Unit [] kids ts refl (loose below) ts fresh fits reads;
    }

-- all of them
record UnitsRun (us : List declared_unit.Unit) (c d : Course) : Type 0 where
  kept : Kept c d
  own : AreUnitsOwn d.building.rows d.marks us (length c.building.rows)

module _ (u : declared_unit.Unit) (us : List declared_unit.Unit) (c m d : Course) (f : Fits c) (top : c.building.over ≡ 0) (one : UnitRun (tokens_of u) c m) (rest : UnitsRun us m d) where
  abbrev at : ℕ
  at = length c.building.rows

  above : 0 < at
  above = let l = f.low in omega arith

  end_is : end d.building.rows at ≡ length m.building.rows
  end_is = ap (λ (r : Row). r.end) (rest.kept.rows at one.ends.more) ∙ one.ends.rows

  mark_is : mark_at d.marks at ≡ mark_at m.marks at
  mark_is = rest.kept.marks at one.ends.more (λ e. let o = one.kept.over in let a = above in absurd (omega arith))

  ended : (mark_at m.marks at).after ≡ length (tokens_of u)
  ended = let a = one.ends.after in let z = from_start c top in omega arith

  added : UnitsRun (u ∷ us) c d
  added = record {
    kept = kept_two one.kept rest.kept;
    own = AreUnitsOwn.more (ap (λ (r : Row). r.label) (rest.kept.rows at one.ends.more) ∙ one.ends.opens) (let e = end_is in let m = one.ends.more in omega arith)
        (subst (λ k. AreOwn (tokens_of u) d.building.rows d.marks at k) (sym end_is)
        (own_still at (length m.building.rows) rest.kept (omega arith) (let o = one.kept.over in let a = above in omega arith) one.own))
        (ap (λ (m : Mark). m.after) mark_is ∙ ended)
        (subst (λ k. AreUnitsOwn d.building.rows d.marks us k) (sym end_is) rest.own);
  }

units_run : (us : List declared_unit.Unit) (c : Course) → Fits c → c.building.over ≡ 0 → UnitsRun us c (run c (e.units_events us))
units_run [] c f top = record { kept = kept_same c c f refl refl; own = AreUnitsOwn.none refl }
units_run (u ∷ us) c f top =
    let one = unit_run (d.plain_unit u) c f top in
    let next = run c (e.unit_events (d.plain_unit u)) in
    let rest = units_run us next (fits_still f one.kept) (one.kept.over ∙ top) in
    subst (λ d. UnitsRun (u ∷ us) c d) (sym (run_append c (e.unit_events (d.plain_unit u)) (e.units_events us)))
    (added u us c next (run next (e.units_events us)) f top one rest)

-- rows and marks but for those of the program
module _ (p q : Rows) (ms ns : List Mark) (same : length q ≡ length p) (rows : (k : ℕ) → (k ≡ 0 → ⊥) → row q k ≡ row p k) (marks : (k : ℕ) → (k ≡ 0 → ⊥) → mark_at ns k ≡ mark_at ms k) where
  not_first : (k : ℕ) → 0 < k → k ≡ 0 → ⊥
  not_first k lt e = absurd (omega arith)

  own_on : (ts : Tokens) (from to : ℕ) → 0 < from → AreOwn ts p ms from to → AreOwn ts q ns from to
  own_on ts from to some h = record {
    own = λ n ge lt has.
        let ne = not_first n (omega arith) in
        let r = rows n ne in
        ap (λ (m : Mark). slice_get ts m.own) (marks n ne) ∙ h.own n ge lt (sym (ap (λ (r : Row). has_own r.label) r) ∙ has)
        ∙ sym (ap (λ (r : Row). Some (own_kind r.label r.name)) r);
  }

  units_on : (us : List declared_unit.Unit) (at : ℕ) → 0 < at → AreUnitsOwn p ms us at → AreUnitsOwn q ns us at
  units_on _ at some (AreUnitsOwn.none e) = AreUnitsOwn.none (e ∙ sym same)
  units_on (u ∷ us) at some (AreUnitsOwn.more unit lt own after rest) =
      let ends : end q at ≡ end p at = ap (λ (r : Row). r.end) (rows at (not_first at some)) in
      AreUnitsOwn.more (ap (λ (r : Row). r.label) (rows at (not_first at some)) ∙ unit) (omega arith)
      (subst (λ k. AreOwn (tokens_of u) q ns at k) (sym ends) (own_on (tokens_of u) at (end p at) some own))
      (ap (λ (m : Mark). m.after) (marks at (not_first at some)) ∙ after)
      (subst (λ k. AreUnitsOwn q ns us k) (sym ends) (units_on us (end p at) (omega arith) rest))

pub marks_own : (us : List declared_unit.Unit) → AreUnitsOwn (program_rows us) (program_marks us) us 1
marks_own us =
    let c = step (Open is.Program []) start in
    let fits : Fits c = record { many = refl; low = omega arith } in
    let units = units_run us c fits refl in
    let d = run c (e.units_events us) in
    let f = step Restart d in
    let closing : Row = record (row f.building.rows f.building.over) { end = length f.building.rows } in
    let last : run start (e.program_events us) ≡ step Close f
    = run_append c (e.units_events us ++ Restart ∷ []) (Close ∷ []) ∙ ap (step Close) (run_append c (e.units_events us) (Restart ∷ [])) in
    let over = units.kept.over in
    let done : AreUnitsOwn (step Close f).building.rows (step Close f).marks us 1
    = units_on d.building.rows (step Close f).building.rows d.marks (step Close f).marks (length-set d.building.rows d.building.over closing)
    (λ k ne. get_or-set_other d.building.rows d.building.over k closing (record { label = is.Skip; name = []; parent = k; end = k + 1; previous = k }) (λ e. ne (e ∙ over)))
    (λ k ne. end_elsewhere (is_hidden (label f.building.rows f.building.over)) f.marks f.building.over f.at k (λ e. ne (e ∙ over)))
    us 1 (omega arith) units.own in
    subst (λ p. AreUnitsOwn p (program_marks us) us 1) (built_program us) (subst (λ g. AreUnitsOwn g.building.rows g.marks us 1) (sym last) done)
