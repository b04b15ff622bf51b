-- Lists that grow by an item a turn, and items told of numbers.
use Rattle.std.proofs.Common.{◌≡◌, sym, ◌∙◌, ap, subst, ℕ, suc, ◌+◌, Bool, true, false, cond, List, [], ◌∷◌, ◌++◌, append-nil, append_assoc, map, flat_map, arith}
use Rattle.std.specs.Prelude.{Result, Ok, Err, IfOk}
use Rattle.jr_plain.specs.Search.{all_such}
use Rattle.jr_elab.specs.Cores.{AreEach, IsAdded, IsOneMore, MayAdd}

-- ---- a list by the items of another one

pub flat_more : {X A : Type 0} (f : X → List A) (all done new : List A) (left more : List X) (x : X) → left ≡ x ∷ more → new ≡ done ++ f x → done ++ flat_map f left ≡ all → new ++ flat_map f more ≡ all
flat_more f all done new left more x same adds before = ap (λ xs. xs ++ flat_map f more) adds ∙ append_assoc done (f x) (flat_map f more) ∙ ap (λ xs. done ++ flat_map f xs) (sym same) ∙ before

pub flat_end : {X A : Type 0} (f : X → List A) (all done : List A) (left : List X) → left ≡ [] → done ++ flat_map f left ≡ all → done ≡ all
flat_end f all done left none before = sym (append-nil done) ∙ ap (λ xs. done ++ flat_map f xs) (sym none) ∙ before

pub map_more : {X A : Type 0} (f : X → A) (all done new : List A) (left more : List X) (x : X) → left ≡ x ∷ more → new ≡ done ++ f x ∷ [] → done ++ map f left ≡ all → new ++ map f more ≡ all
map_more f all done new left more x same adds before = ap (λ xs. xs ++ map f more) adds ∙ append_assoc done (f x ∷ []) (map f more) ∙ ap (λ xs. done ++ map f xs) (sym same) ∙ before

pub map_end : {X A : Type 0} (f : X → A) (all done : List A) (left : List X) → left ≡ [] → done ++ map f left ≡ all → done ≡ all
map_end f all done left none before = sym (append-nil done) ∙ ap (λ xs. done ++ map f xs) (sym none) ∙ before

pub tail_same : {A : Type 0} (new old xs ys : List A) → new ≡ old ++ xs → xs ≡ ys → new ≡ old ++ ys
tail_same new old xs ys adds same = adds ∙ ap (λ zs. old ++ zs) same

-- ---- items that are told of numbers

each_push : {T : Type 0} (P : ℕ → T → Type 0) (ns : List ℕ) (xs : List T) (n : ℕ) (x : T) → AreEach P ns xs → P n x → AreEach P (ns ++ n ∷ []) (xs ++ x ∷ [])
each_push P [] [] n x all one = (one, tt)
each_push P [] (y ∷ ys) n x all one = absurd all
each_push P (m ∷ ns) [] n x all one = absurd all
each_push P (m ∷ ns) (y ∷ ys) n x all one = (all.0, each_push P ns ys n x all.1 one)

step_by : {T : Type 0} (b : Bool) (P : ℕ → T → Type 0) (n : ℕ) (ns : List ℕ) (old new : List T) → AreEach P ns old → MayAdd b (P n) old new → AreEach P (ns ++ cond b (n ∷ []) []) new
step_by true P n ns old new all more = subst (λ xs. AreEach P (ns ++ n ∷ []) xs) (sym more.adds) (each_push P ns old n more.item all more.is)
step_by false P n ns old new all more = subst (λ xs. AreEach P (ns ++ []) xs) (sym more) (subst (λ ms. AreEach P ms old) (sym (append-nil ns)) all)

next_is : (n : ℕ) → suc n ≡ n + 1
next_is n = omega arith

pub each_more : {T : Type 0} (P : ℕ → T → Type 0) (test : ℕ → Bool) (n : ℕ) (old new : List T) → AreEach P (all_such n test) old → MayAdd (test n) (P n) old new → AreEach P (all_such (n + 1) test) new
each_more P test n old new all more = subst (λ k. AreEach P (all_such k test) new) (next_is n) (step_by (test n) P n (all_such n test) old new all more)

pub each_none : {T : Type 0} (P : ℕ → T → Type 0) (xs : List T) → xs ≡ [] → AreEach P [] xs
each_none P xs none = subst (λ ys. AreEach P [] ys) (sym none) tt

pub each_same : {T : Type 0} (P : ℕ → T → Type 0) (test : ℕ → Bool) (m n : ℕ) (xs : List T) → m ≡ n → AreEach P (all_such m test) xs → AreEach P (all_such n test) xs
each_same P test m n xs same all = subst (λ k. AreEach P (all_such k test) xs) same all

pub may_add : {T : Type 0} (P : T → Type 0) (b c : Bool) (old new : List T) → b ≡ c → MayAdd b P old new → MayAdd c P old new
may_add P b c old new same more = subst (λ x. MayAdd x P old new) same more

-- ---- what was made is one more

pub one_more : {T E : Type 0} (P : T → Type 0) (made : Result T E) (old new : List T) → IsAdded made old new → IfOk made P → IsOneMore P old new
one_more P (Ok item) old new adds holds = record { item = item; is = holds; adds = adds }
one_more P (Err fault) old new adds holds = absurd adds
