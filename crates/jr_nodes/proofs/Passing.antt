-- How a search goes on over a list of nodes.
use Rattle.std.proofs.Common.{◌≡◌, refl, sym, ◌∙◌, ap, ℕ, zero, suc, ◌+◌, ◌<◌, List, [], ◌∷◌, ◌++◌, length, drop, get_or, add-one, drop-cons, Option, Some, None, slice_get}
use Rattle.jr_tree.specs.Nodes.{Node, Nodes}
use Rattle.jr_nodes.specs.Progress.{Progress, At, Before, past, go_on}

-- over one list and then over another
pub go_on_append : (a b : Nodes) (p : Progress) → go_on (a ++ b) p ≡ go_on b (go_on a p)
go_on_append [] b p = refl
go_on_append (n ∷ ns) b p = go_on_append ns b (past n p)

-- two searches, the second from where the first came to
pub over_two : (a b : Nodes) (p q r : Progress) → q ≡ go_on a p → r ≡ go_on b q → r ≡ go_on (a ++ b) p
over_two a b p q r one two = two ∙ ap (go_on b) one ∙ sym (go_on_append a b p)

-- one turn of a loop over a list, whose nodes are those of its items in order
pub over_one_more : {A : Type 0} (all : List A → Nodes) (each_of : A → Nodes) → ((a : A) (others : List A) → all (a ∷ others) ≡ each_of a ++ all others)
    → (items : List A) (i : ℕ) (a : A) → i < length items → a ≡ get_or items i a → (p q : Progress) → q ≡ go_on (each_of a) p
    → go_on (all (drop (i + 1) items)) q ≡ go_on (all (drop i items)) p
over_one_more all each_of more items i a within is p q one =
    let whole : drop i items ≡ a ∷ drop (i + 1) items = rw (add-one, drop-cons items i a) (rw (← is) refl) in
    sym (ap (λ ns. go_on (all ns) p) whole ∙ ap (λ ns. go_on ns p) (more a (drop (i + 1) items)) ∙ go_on_append (each_of a) (all (drop (i + 1) items)) p ∙ ap (go_on (all (drop (i + 1) items))) (sym one))

-- what is found stays found
pub go_on_found : (ns : Nodes) (m : Node) → go_on ns (At m) ≡ At m
go_on_found [] m = refl
go_on_found (n ∷ ns) m = go_on_found ns m

-- what is found, if anything
abbrev pub found : Progress → Option Node
found (At n) = Some n
found (Before k) = None

-- a search over a whole list finds the node at its number
pub slice_get_go_on : (ns : Nodes) (i : ℕ) → slice_get ns i ≡ found (go_on ns (Before i))
slice_get_go_on [] i = refl
slice_get_go_on (n ∷ ns) zero = ap found (sym (go_on_found ns n))
slice_get_go_on (n ∷ ns) (suc i) = slice_get_go_on ns i
