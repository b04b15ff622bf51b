-- What is done one at a time, counting down.
use Rattle.std.proofs.Common.{◌≡◌, ℕ, zero, suc, ◌-◌, ◌<◌, List, ◌∷◌, length, refl, arith}
use Rattle.std.specs.Prelude.{slice_index_or, []}
use Rattle.jr_base.specs.declared.text.Text.{Text}
use Rattle.jr_tree.specs.declared.tree.Expr as declared_expr
use Rattle.jr_tree.specs.Mirror.Exprs.{plain_exprs}
use Rattle.jr_tree.specs.Exprs.{count}
use Rattle.jr_tree.specs.declared.label.NameKind.{NameKind}
use Rattle.jr_tree.specs.declared.label.NamePlace.{NamePlace}
use Rattle.jr_index.specs.Events.{Open, Close, Pass, Own, opens, closes, name_label}

-- the identifier before the last one that is open
pub opens_step : (meant : NameKind) (at : NamePlace) (parts : List Text) (n : ℕ) → 0 < n
    → opens meant at parts n ≡ Open (name_label meant at (length parts) (n - 1)) (slice_index_or parts (n - 1) []) ∷ opens meant at parts (n - 1)
opens_step meant at parts zero h = absurd (omega arith)
opens_step meant at parts (suc n) h = let e : suc n - 1 ≡ n = omega arith in rw e refl

-- one closes, and the others
pub closes_step : (dots n : ℕ) → 0 < n → closes dots n ≡ Pass dots ∷ Own ∷ Close ∷ closes 1 (n - 1)
closes_step dots zero h = absurd (omega arith)
closes_step dots (suc n) h = let e : suc n - 1 ≡ n = omega arith in rw e refl

-- as many expressions as there were
pub count_all : (all : List declared_expr.Expr) → length all ≡ count (plain_exprs all)
count_all [] = refl
count_all (e ∷ all) = let h = count_all all in omega arith
