-- One more row in a table.
use Rattle.std.proofs.Common.{◌≡◌, sym, ◌∙◌, ap, ap₂, add-one, ℕ, ◌+◌, List, [], ◌∷◌, ◌++◌}
use Rattle.jr_tree.specs.Rows.{Rows, parent}
use Rattle.jr_places.specs.Tabulated.{tabulated}
use Rattle.jr_assign_faults.specs.declared.operands.Operand.{Operand}
use Rattle.jr_assign_faults.specs.Changed.{operand_by, operand_of, operands}

pub one_operand : (p : Rows) (n : ℕ) (all seen items : List Operand) (made : Operand) → all ≡ operands p n → seen ≡ all
    → made ≡ operand_by p (operand_of seen (parent p n)) n → items ≡ all ++ made ∷ [] → items ≡ operands p (n + 1)
one_operand p n all seen items made k s m i = i ∙ ap (λ x. all ++ x ∷ []) (m ∙ ap (λ (a : List Operand). operand_by p (operand_of a (parent p n)) n) s)
    ∙ ap (λ (a : List Operand). a ++ operand_by p (operand_of a (parent p n)) n ∷ []) k ∙ ap (λ n. operands p n) (sym (add-one n))

-- one more of a table of a function
pub tabulated_more : {A : Type 0} (f : ℕ → A) (n : ℕ) (all more : List A) (x : A) → all ≡ tabulated f n → x ≡ f n → more ≡ all ++ x ∷ [] → more ≡ tabulated f (n + 1)
tabulated_more f n all more x h is pushed = rw add-one (pushed ∙ ap₂ (λ xs x. xs ++ x ∷ []) h is)
