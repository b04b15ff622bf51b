-- The row for which the call is told is that at which the method is put.
use Rattle.std.proofs.Common.{◌≡◌, refl, sym, ◌∙◌, ap, ⊎_elim, arith, ℕ, zero, suc, ◌-◌, ◌<◌, Bool, true, false, cond, List, [], ◌∷◌, length, Some, nat_lt, Decides}
use Rattle.std.proofs.lemmas.Bool.{false≢true, cases_lt}
use Rattle.std.proofs.lemmas.Bool.Decides.{Decides-ltb}
use Rattle.std.proofs.lemmas.Int.{clamps, ints}
use Rattle.jr_tree.specs.Rows.{end}
use Rattle.jr_marks.specs.declared.marks.Marks.{Marks}
use Rattle.jr_change.specs.declared.change.Segment.TheVariants as segment
use Rattle.jr_change.specs.declared.change.Target.TheVariants as target
use Rattle.jr_draft.specs.Drafting.{Drafted, copied, plus, referred, with_rows}
use Rattle.jr_extract.specs.declared.locals.Variable.{Variable}
use Rattle.jr_extract.specs.Writing.{Extracted, behind_many, method_row, with_arguments, with_call, with_name}
use Rattle.jr_extract.specs.Extracting.{FindsMethod, placed_in, rows_before, rows_between}

swapped : (n a b : ℕ) → plus (plus n a) b ≡ plus (plus n b) a
swapped n a b = omega (arith, ints, clamps)

none_more : (n a : ℕ) → plus (plus n a) 0 ≡ plus n a
none_more n a = omega (arith, ints, clamps)

many_swapped : (n b count : ℕ) → behind_many (plus n b) count ≡ plus (behind_many n count) b
many_swapped n b zero = refl
many_swapped n b (suc count) = ap (λ x. plus x 1) (many_swapped n b count) ∙ swapped (behind_many n count) b 1

many_small : (n a count : ℕ) → plus (behind_many (plus n a) count) 0 ≡ behind_many (plus n a) count
many_small n a zero = none_more n a
many_small n a (suc count) = none_more (behind_many (plus n a) count) 1

arguments_count : (variables : List Variable) (d : Drafted) → (with_arguments variables d).count ≡ behind_many d.count (length variables)
arguments_count [] d = refl
arguments_count (v ∷ rest) d = arguments_count rest (with_name v.row d) ∙ many_swapped d.count 1 (length rest)

copied_count : (d : Drafted) (first end : ℕ) → plus d.count 0 ≡ d.count → (copied d first end).count ≡ plus d.count (end - first)
copied_count d first end small = by (nat_lt first end) (Decides-ltb first end)
  where
    by : (b : Bool) → Decides b (first < end) → (cond b (with_rows d (segment.Copy first end) (end - first)) d).count ≡ plus d.count (end - first)
    by true t = refl
    by false t = let none : end - first ≡ 0 = ⊎_elim (λ lt. absurd (false≢true (t.1 lt))) (λ le. omega arith) (cases_lt first end) in sym (ap (plus d.count) none ∙ small)

module _ (m : Marks) (e : Extracted) (unit : ℕ) (d : Drafted) where
  abbrev call : ℕ
  call = (rows_before m e unit d).count

  abbrev between : ℕ
  between = rows_between m.rows.now e.run

  -- with the row of the call alone
  abbrev asked : Drafted
  asked = referred (rows_before m e unit d) (target.New (method_row e.parameters call between)) (Some e.class)

  called_count : (with_call e between (rows_before m e unit d)).count ≡ behind_many (plus call 1) (length e.parameters)
  called_count = arguments_count e.parameters asked

  called_small : plus (with_call e between (rows_before m e unit d)).count 0 ≡ (with_call e between (rows_before m e unit d)).count
  called_small = ap (λ x. plus x 0) called_count ∙ many_small call 1 (length e.parameters) ∙ sym called_count

  method_at : method_row e.parameters call between ≡ (placed_in m e unit d).method.first
  method_at = many_swapped (plus call 1) between (length e.parameters)
      ∙ sym (copied_count (with_call e between (rows_before m e unit d)) e.run.rows.end (end m.rows.now e.run.member) called_small ∙ ap (λ x. plus x between) called_count)

pub method_found : (m : Marks) (e : Extracted) → FindsMethod m e
method_found m e = record { finds = method_at m e }
