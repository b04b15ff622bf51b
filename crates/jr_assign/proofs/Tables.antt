-- One more row in a table.
use Rattle.std.proofs.Common.{◌≡◌, sym, ◌∙◌, ap, ap₂, ℕ, ◌+◌, Bool, ◌&&◌, List, [], ◌∷◌, ◌++◌, add-one, get_or}
use Rattle.jr_tree.specs.Rows.{Rows}
use Rattle.jr_plain.specs.Search.{all_below}
use Rattle.jr_assign.specs.Changes.{member_at, members}

pub one_member : (p : Rows) (n : ℕ) (all seen items : List ℕ) (made : ℕ) → all ≡ members p n → seen ≡ all
    → made ≡ member_at p (λ m. get_or seen m 0) n → items ≡ all ++ made ∷ [] → items ≡ members p (n + 1)
one_member p n all seen items made k s m i = i ∙ ap (λ x. all ++ x ∷ []) (m ∙ ap (λ (a : List ℕ). member_at p (λ m. get_or a m 0) n) s)
    ∙ ap (λ (a : List ℕ). a ++ member_at p (λ m. get_or a m 0) n ∷ []) k ∙ ap (λ n. members p n) (sym (add-one n))

-- one more number that passes, or not
pub below_more : (test : ℕ → Bool) (n : ℕ) (before here more : Bool) → before ≡ all_below n test → here ≡ test n → more ≡ (before && here) → more ≡ all_below (n + 1) test
below_more test n before here more b h m = rw add-one (m ∙ ap₂ (λ b h. b && h) b h)
