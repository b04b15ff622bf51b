-- How many nodes stand before a row, by the labels of the forest before it.
use Rattle.std.proofs.Common.{◌≡◌, ℕ, suc, ◌+◌, [], ◌∷◌, ◌++◌, length, refl, ap, subst, arith, append_assoc, length-append}
use Rattle.std.proofs.Math.Seq.{get_or-append_seam}
use Rattle.jr_tree.specs.declared.row.Row.{Row}
use Rattle.jr_tree.specs.declared.label.Label.TheVariants as is
use Rattle.jr_tree.specs.Labels.{nodes_of}
use Rattle.jr_tree.specs.Forest.{Forest, none, more, size}
use Rattle.jr_tree.specs.Rows.{Rows, rows_from, nodes_before}
use Rattle.jr_node_rows.specs.Weight.{weight}

-- the nodes that these rows stand for
abbrev pub row_sum : Rows → ℕ
row_sum [] = 0
row_sum (r ∷ rs) = nodes_of r.label + row_sum rs

sum_append : (a b : Rows) → row_sum (a ++ b) ≡ row_sum a + row_sum b
sum_append [] b = omega arith
sum_append (r ∷ a) b = let h = sum_append a b in omega arith

pub sum_of_rows : (over before at : ℕ) (f : Forest) → row_sum (rows_from over before at f) ≡ weight f
sum_of_rows over before at none = refl
sum_of_rows over before at (more l x kids rest) =
    let s = sum_append (rows_from at at (at + 1) kids) (rows_from over at (at + 1 + size kids) rest) in
    let k = sum_of_rows at at (at + 1) kids in
    let r = sum_of_rows over at (at + 1 + size kids) rest in omega arith

-- past the row that begins the rest there are its nodes more
one_more : (a : Rows) (r : Row) (b : Rows) → nodes_before (a ++ (r ∷ b)) (suc (length a)) ≡ nodes_before (a ++ (r ∷ b)) (length a) + nodes_of r.label
one_more a r b = ap (λ q. nodes_before (a ++ (r ∷ b)) (length a) + nodes_of q.label)
    (get_or-append_seam a r b (record { label = is.Skip; name = []; parent = length a; end = length a + 1; previous = length a }))

pub before_end : (a b c : Rows) → nodes_before (a ++ (b ++ c)) (length a + length b) ≡ nodes_before (a ++ (b ++ c)) (length a) + row_sum b
before_end a [] c = let z : length a ≡ length a + 0 = omega arith in subst (λ n. nodes_before (a ++ c) n ≡ nodes_before (a ++ c) (length a) + 0) z (omega arith)
before_end a (r ∷ b) c =
    let h = subst (λ p. nodes_before p (length (a ++ (r ∷ [])) + length b) ≡ nodes_before p (length (a ++ (r ∷ []))) + row_sum b)
    (append_assoc a (r ∷ []) (b ++ c)) (before_end (a ++ (r ∷ [])) b c) in
    let s = length-append a (r ∷ []) in
    let e : length (a ++ (r ∷ [])) ≡ suc (length a) = omega arith in
    let k = subst (λ n. nodes_before (a ++ (r ∷ (b ++ c))) (n + length b) ≡ nodes_before (a ++ (r ∷ (b ++ c))) n + row_sum b) e h in
    let o = one_more a r (b ++ c) in
    let z : suc (length a) + length b ≡ length a + length (r ∷ b) = omega arith in
    subst (λ n. nodes_before (a ++ (r ∷ (b ++ c))) n ≡ nodes_before (a ++ (r ∷ (b ++ c))) (length a) + row_sum (r ∷ b)) z (omega arith)
