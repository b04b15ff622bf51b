-- Pairs of brackets, taken one at a time.
use Rattle.std.proofs.Common.{◌≡◌, ℕ, zero, suc, ◌-◌, ◌<◌, ◌∷◌, refl, ap, arith}
use Rattle.jr_base.specs.declared.kind.Kind.TheVariants as kind
use Rattle.jr_base.specs.declared.kind.Symbol.TheVariants as y
use Rattle.jr_tree.specs.Words.{brackets}

-- one pair, and the others
pub brackets_step : (n : ℕ) → 0 < n → brackets n ≡ kind.Sym y.OpenBracket ∷ kind.Sym y.CloseBracket ∷ brackets (n - 1)
brackets_step zero h = absurd (omega arith)
brackets_step (suc n) h = let e : suc n - 1 ≡ n = omega arith in rw e refl
