-- One more row in a table.
use Rattle.std.proofs.Common.{◌≡◌, sym, ◌∙◌, ap, ℕ, suc, ◌+◌, ◌-◌, Bool, true, List, [], ◌∷◌, ◌++◌, length, add-one, get_or}
use Rattle.jr_tree.specs.Rows.{Rows}
use Rattle.jr_reach.specs.declared.course.Entry.{Entry}
use Rattle.jr_reach.specs.Statements.{Facts, Entries, entry_at, later, entries}
use Rattle.jr_reach.specs.Reached.{reached_at, reaches}

pub one_more : (p : Rows) (f : Facts) (done : ℕ) (all seen items : List Entry) (made : Entry) → all ≡ entries p f done → seen ≡ all
    → made ≡ entry_at p f (later (length p) seen) (length p - 1 - done) → items ≡ all ++ made ∷ [] → items ≡ entries p f (done + 1)
one_more p f done all seen items made e s m i = i ∙ ap (λ x. all ++ x ∷ []) (m ∙ ap (λ a. entry_at p f (later (length p) a) (length p - 1 - done)) s)
    ∙ ap (λ (a : List Entry). a ++ entry_at p f (later (length p) a) (length p - 1 - done) ∷ []) e ∙ ap (λ n. entries p f n) (sym (add-one done))

pub one_reached : (p : Rows) (f : Facts) (e : Entries) (n : ℕ) (all seen items : List Bool) (made : Bool) → all ≡ reaches p f e n → seen ≡ all
    → made ≡ reached_at p f e (λ m. get_or seen m true) n → items ≡ all ++ made ∷ [] → items ≡ reaches p f e (n + 1)
one_reached p f e n all seen items made k s m i = i ∙ ap (λ x. all ++ x ∷ []) (m ∙ ap (λ (a : List Bool). reached_at p f e (λ m. get_or a m true) n) s)
    ∙ ap (λ (a : List Bool). a ++ reached_at p f e (λ m. get_or a m true) n ∷ []) k ∙ ap (λ n. reaches p f e n) (sym (add-one n))
