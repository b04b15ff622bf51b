-- Rows of a tree have parts where none is as in no program that compiles.
use Rattle.std.proofs.Common.{◌≡◌, refl, ℕ, zero, suc, ◌+◌, ◌<◌, ◌≤◌, Option, ⊎_elim, arith}
use Rattle.std.proofs.lemmas.Bool.{cases_lt}
use Rattle.jr_tree.specs.Rows.{label, end}
use Rattle.jr_tree.specs.Tree.{IsTree}
use Rattle.jr_defs.specs.declared.referent.RowType.{RowType}
use Rattle.jr_codes.specs.Facts.{Facts}
use Rattle.jr_expressions.specs.Statements.{Parts, Comes, part, through, strange, made_at, PartsAt, none, one, pass}
use Rattle.jr_elab.specs.Cores.{HaveParts, outcome_by}
use Rattle.jr_elab.specs.Laws.{NoneIsStrange}

-- the rows from one up to another have parts
record HavePartsFrom (f : Facts) (outcome : Option RowType) (n stop : ℕ) : Type 0 where
  all : Parts
  are : PartsAt f outcome n stop all

-- no row from one up to another is strange, and each ends there at the latest
record ArePlain (f : Facts) (outcome : Option RowType) (n stop : ℕ) : Type 0 where
  known : (k : ℕ) (below : Parts) → n ≤ k → k < stop → PartsAt f outcome (k + 1) (end f.rows k) below → made_at f outcome k below ≡ strange → ⊥
  inside : (k : ℕ) → n ≤ k → k < stop → end f.rows k ≤ stop

itself : (n : ℕ) → n ≤ n
itself n = omega arith

after_less : (n k : ℕ) → n + 1 ≤ k → n ≤ k
after_less n k le = omega (arith, le)

after_more : (n e k : ℕ) → n < e → e ≤ k → n ≤ k
after_more n e k lt le = omega (arith, lt, le)

less_far : (k e stop : ℕ) → k < e → e ≤ stop → k < stop
less_far k e stop lt le = omega (arith, lt, le)

joined_part : (f : Facts) (outcome : Option RowType) (n stop : ℕ) (below : Parts) (made : Comes) → n < stop → PartsAt f outcome (n + 1) (end f.rows n) below → made_at f outcome n below ≡ made → (made ≡ strange → ⊥)
    → HavePartsFrom f outcome (end f.rows n) stop → HavePartsFrom f outcome n stop
joined_part f outcome n stop below (part x) lt inner made known rest = record { all = _; are = one lt inner made rest.are }
joined_part f outcome n stop below through lt inner made known rest = record { all = _; are = pass lt inner made rest.are }
joined_part f outcome n stop below strange lt inner made known rest = absurd (known refl)

module _ (f : Facts) (outcome : Option RowType) (tree : IsTree f.rows) where
  inner_plain : (n stop : ℕ) → n < stop → ArePlain f outcome n stop → ArePlain f outcome (n + 1) (end f.rows n)
  inner_plain n stop lt plain = record {
    known = λ k below from less. plain.known k below (after_less n k from) (less_far k (end f.rows n) stop less (plain.inside n (itself n) lt));
    inside = λ k from less. tree.apart n k (next_less n k from) less;
  }
    where
      next_less : (a k : ℕ) → a + 1 ≤ k → a < k
      next_less a k le = omega (arith, le)

  outer_plain : (n stop : ℕ) → ArePlain f outcome n stop → ArePlain f outcome (end f.rows n) stop
  outer_plain n stop plain = record {
    known = λ k below from less. plain.known k below (after_more n (end f.rows n) k (tree.nested n) from) less;
    inside = λ k from less. plain.inside k (after_more n (end f.rows n) k (tree.nested n) from) less;
  }

  inner_rounds : (rounds n e stop : ℕ) → stop ≤ n + suc rounds → e ≤ stop → e ≤ (n + 1) + rounds
  inner_rounds rounds n e stop far le = omega (arith, far, le)

  outer_rounds : (rounds n e stop : ℕ) → stop ≤ n + suc rounds → n < e → stop ≤ e + rounds
  outer_rounds rounds n e stop far lt = omega (arith, far, lt)

  not_there : (n stop : ℕ) → stop ≤ n + 0 → stop ≤ n
  not_there n stop far = omega (arith, far)

  with_row : (n stop : ℕ) → n < stop → ArePlain f outcome n stop → HavePartsFrom f outcome (n + 1) (end f.rows n) → HavePartsFrom f outcome (end f.rows n) stop → HavePartsFrom f outcome n stop
  with_row n stop lt plain inner outer = joined_part f outcome n stop inner.all (made_at f outcome n inner.all) lt inner.are refl (plain.known n inner.all (itself n) lt inner.are) outer

  parts_within : (rounds n stop : ℕ) → stop ≤ n + rounds → ArePlain f outcome n stop → HavePartsFrom f outcome n stop
  parts_within zero n stop far plain = record { all = _; are = none (not_there n stop far) }
  parts_within (suc rounds) n stop far plain =
      ⊎_elim (λ lt. with_row n stop lt plain
      (parts_within rounds (n + 1) (end f.rows n) (inner_rounds rounds n (end f.rows n) stop far (plain.inside n (itself n) lt)) (inner_plain n stop lt plain))
      (parts_within rounds (end f.rows n) stop (outer_rounds rounds n (end f.rows n) stop far (tree.nested n)) (outer_plain n stop plain)))
      (λ past. record { all = _; are = none past }) (cases_lt n stop)

far_enough : (n stop : ℕ) → stop ≤ n + stop
far_enough n stop = omega arith

pub rows_have_parts : (f : Facts) → IsTree f.rows → NoneIsStrange f → HaveParts f
rows_have_parts f tree plainly n inside declares =
    let outcome : Option RowType = outcome_by (label f.rows n) f n in
    let plain : ArePlain f outcome (n + 1) (end f.rows n) = record {
      known = λ k below from less. plainly n k below declares (row_less n k from) less;
      inside = λ k from less. tree.apart n k (row_less n k from) less;
    } in
    let found : HavePartsFrom f outcome (n + 1) (end f.rows n) = parts_within f outcome tree (end f.rows n) (n + 1) (end f.rows n) (far_enough (n + 1) (end f.rows n)) plain in
    record { below = found.all; parts = found.are }
  where
    row_less : (a k : ℕ) → a + 1 ≤ k → a < k
    row_less a k le = omega (arith, le)
