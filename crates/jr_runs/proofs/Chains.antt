-- The identifiers of a name, one at a time.
use Rattle.std.proofs.Common.{◌≡◌, refl, sym, ◌∙◌, ap, arith, ℕ, ◌+◌, List, [], ◌∷◌, ◌++◌, length, Option, Some, None, append_assoc, append-nil, length-append}
use Rattle.std.specs.Prelude.{slice_get}
use Rattle.jr_tree.specs.declared.tree.Primitive.{Primitive}
use Rattle.jr_defs.specs.declared.referent.Referent.{Referent}
use Rattle.jr_tree.specs.declared.tree.Primitive.{Primitive}
use Rattle.jr_runs.specs.declared.item.Item.{Item}
use Rattle.jr_runs.specs.declared.item.Form.{Form}
use Rattle.jr_runs.specs.declared.item.Form.TheVariants as form
use Rattle.jr_runs.specs.declared.item.Meaning.{Meaning}
use Rattle.jr_runs.specs.Written.{chain, left, identifier, is_more, bare, name_items, named_items, cast_items, enclosed_cast, this_items, cast_this, of_type}

-- behind what was there these are the first identifiers, and the others follow
pub record ChainTo (start : List Item) (of : ℕ) (m : Meaning) (found : List Referent) (class : Option ℕ) (names : List ℕ) (over : Option ℕ) (stop : ℕ)
    (now : Meaning) (now_class : Option ℕ) (rest : List ℕ) (now_over : Option ℕ) (done : List Item) : Type 0 where
  pub follow : done ++ chain of now found now_class rest now_over (length done) stop ≡ start ++ chain of m found class names over (length start) stop

pub chain_done : {start : List Item} {of : ℕ} {m : Meaning} {found : List Referent} {class : Option ℕ} {names : List ℕ} {over : Option ℕ} {stop : ℕ} {now : Meaning} {now_class : Option ℕ} {rest : List ℕ} {now_over : Option ℕ} {done : List Item}
    → ChainTo start of m found class names over stop now now_class rest now_over done → rest ≡ [] → done ≡ start ++ chain of m found class names over (length start) stop
chain_done {of = of} {found = found} {stop = stop} {now = now} {now_class = now_class} {rest = rest} {now_over = now_over} {done = done} before none =
    sym (append-nil done) ∙ ap (λ xs. done ++ chain of now found now_class xs now_over (length done) stop) (sym none) ∙ before.follow

pub chain_more : {start : List Item} {of : ℕ} {m : Meaning} {found : List Referent} {class : Option ℕ} {names : List ℕ} {over : Option ℕ} {stop : ℕ} {now : Meaning} {now_class : Option ℕ} {rest : List ℕ} {now_over : Option ℕ} {done : List Item}
    (n : ℕ) (after : List ℕ) (more : List Item) (at : ℕ) (behind : Meaning) (x : Item) → ChainTo start of m found class names over stop now now_class rest now_over done → rest ≡ n ∷ after
    → at ≡ length done → behind ≡ left now → x ≡ identifier of now (slice_get found (length after)) now_class n (is_more after) now_over stop → more ≡ done ++ x ∷ []
    → ChainTo start of m found class names over stop behind None after (Some at) more
chain_more {of = of} {found = found} {stop = stop} {now = now} {now_class = now_class} {rest = rest} {now_over = now_over} {done = done} n after more at behind x before is place turn item pushed = record {
  follow = ap (λ xs. xs ++ chain of behind found None after (Some at) (length xs) stop) pushed
      ∙ ap (λ k. (done ++ x ∷ []) ++ chain of behind found None after (Some at) k stop) (length-append done (x ∷ []))
      ∙ append_assoc done (x ∷ []) (chain of behind found None after (Some at) (length done + 1) stop)
      ∙ ap (λ y. done ++ (y ∷ chain of behind found None after (Some at) (length done + 1) stop)) item
      ∙ ap (λ w. done ++ (own ∷ chain of w found None after (Some at) (length done + 1) stop)) turn
      ∙ ap (λ k. done ++ (own ∷ chain of (left now) found None after (Some k) (length done + 1) stop)) place
      ∙ ap (λ xs. done ++ chain of now found now_class xs now_over (length done) stop) (sym is) ∙ before.follow;
}
  where
    own : Item
    own = identifier of now (slice_get found (length after)) now_class n (is_more after) now_over stop

length_of_chain : (of : ℕ) (m : Meaning) (found : List Referent) (class : Option ℕ) (names : List ℕ) (over : Option ℕ) (at stop : ℕ) → length (chain of m found class names over at stop) ≡ length names
length_of_chain of m found class [] over at stop = refl
length_of_chain of m found class (n ∷ rest) over at stop = let h = length_of_chain of (left m) found None rest (Some at) (at + 1) stop in omega (arith, h)

length_of_cast : (of : ℕ) (found : List Referent) (class : Option ℕ) (names : List ℕ) (over stop : Option ℕ) (at : ℕ) → length (enclosed_cast of found class names over stop at) ≡ 3 + length names
length_of_cast of found class names over stop at = let h = length_of_chain of of_type found class names (Some (at + 1 + 1)) (at + 1 + 1 + 1) (at + 1 + 1 + 1 + length names) in omega (arith, h)

-- one row, and then others by their number
one_more : (old one two : List Item) (x : Item) (f : ℕ → List Item) → one ≡ old ++ x ∷ [] → two ≡ one ++ f (length one) → two ≡ old ++ (x ∷ f (length old + 1))
one_more old one two x f a b = b ∙ ap (λ xs. xs ++ f (length xs)) a ∙ ap (λ k. (old ++ x ∷ []) ++ f k) (length-append old (x ∷ [])) ∙ append_assoc old (x ∷ []) (f (length old + 1))

pub named_then : (old one two : List Item) (of : ℕ) (g : Form) (found : List Referent) (class : Option ℕ) (names : List ℕ) (over : Option ℕ) (k end : ℕ) → k ≡ length old + 1 → end ≡ k + length names
    → one ≡ old ++ bare of g over (Some end) ∷ [] → two ≡ one ++ name_items of of_type found class names (Some (length old)) (length one) → two ≡ old ++ named_items of g found class names over (length old)
named_then old one two of g found class names over k end place stop a b =
    one_more old one two (bare of g over (Some end)) (λ k. name_items of of_type found class names (Some (length old)) k) a b
    ∙ ap (λ e. old ++ (bare of g over (Some e) ∷ name_items of of_type found class names (Some (length old)) (length old + 1))) (stop ∙ ap (λ k. k + length names) place)

pub cast_then : (old one two : List Item) (of : ℕ) (primitive : Option Primitive) (dims : ℕ) (found : List Referent) (class : Option ℕ) (names : List ℕ) (over stop : Option ℕ) → one ≡ old ++ bare of form.Cast over stop ∷ []
    → two ≡ one ++ named_items of (form.TypeUse primitive dims) found class names (Some (length old)) (length one) → two ≡ old ++ cast_items of primitive dims found class names over stop (length old)
cast_then old one two of primitive dims found class names over stop a b =
    one_more old one two (bare of form.Cast over stop) (λ k. named_items of (form.TypeUse primitive dims) found class names (Some (length old)) k) a b

pub enclosed_then : (old one two : List Item) (of : ℕ) (found : List Referent) (class : Option ℕ) (names : List ℕ) (over stop : Option ℕ) → one ≡ old ++ bare of form.Paren over stop ∷ []
    → two ≡ one ++ cast_items of None 0 found class names (Some (length old)) stop (length one) → two ≡ old ++ enclosed_cast of found class names over stop (length old)
enclosed_then old one two of found class names over stop a b =
    one_more old one two (bare of form.Paren over stop) (λ k. cast_items of None 0 found class names (Some (length old)) stop k) a b

pub this_then : (old one two : List Item) (of : ℕ) (found : List Referent) (class : Option ℕ) (names : List ℕ) (outer_found : List Referent) (outer : Option ℕ) (outers : List ℕ) (over : Option ℕ) (i j stop cast : ℕ)
    → i ≡ length old + 4 → j ≡ i + length names → stop ≡ j + length outers → cast ≡ length old + 1
    → one ≡ old ++ enclosed_cast of found class names over (Some stop) (length old) → two ≡ one ++ this_items of outer_found outer outers (Some cast) (length one)
    → two ≡ old ++ cast_this of found class names outer_found outer outers over (length old)
this_then old one two of found class names outer_found outer outers over i j stop cast e f g h a b =
    b ∙ ap (λ xs. xs ++ this_items of outer_found outer outers (Some cast) (length xs)) a
    ∙ ap (λ k. (old ++ enclosed_cast of found class names over (Some stop) (length old)) ++ this_items of outer_found outer outers (Some cast) k) place
    ∙ ap (λ k. (old ++ enclosed_cast of found class names over (Some stop) (length old)) ++ this_items of outer_found outer outers (Some k) (length old + 3 + length names)) h
    ∙ ap (λ k. (old ++ enclosed_cast of found class names over (Some k) (length old)) ++ this_items of outer_found outer outers (Some (length old + 1)) (length old + 3 + length names)) (g ∙ ap (λ k. k + length outers) (f ∙ ap (λ k. k + length names) e))
    ∙ append_assoc old (enclosed_cast of found class names over (Some (length old + 4 + length names + length outers)) (length old)) (this_items of outer_found outer outers (Some (length old + 1)) (length old + 3 + length names))
  where
    place : length (old ++ enclosed_cast of found class names over (Some stop) (length old)) ≡ length old + 3 + length names
    place = let h = length-append old (enclosed_cast of found class names over (Some stop) (length old)) in let k = length_of_cast of found class names over (Some stop) (length old) in omega (arith, h, k)
