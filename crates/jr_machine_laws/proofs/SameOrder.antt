-- The order of classes, of bodies, and of found methods does not matter.
use Rattle.std.proofs.Common.{◌≡◌, refl, sym, ap, ◌∙◌, subst, ℕ, zero, suc, ◌<◌, Bool, true, false, cond, List, [], ◌∷◌, map, length, Option, Some, None, get_or, arith}
use Rattle.std.specs.List.{Contains, IsDistinct, find}
use Rattle.std.specs.List.Sorted.{IsPermutation}
use Rattle.std.specs.Option.{option_map}
use Rattle.std.proofs.lemmas.List.Sorted.{Contains-permutation, IsPermutation-sym, length_permutation}
use Rattle.std.proofs.lemmas.List.{length-map}
use Rattle.jr_base.specs.declared.ids.DeclId.{DeclId}
use Rattle.jr_base.specs.declared.ids.TypeId.{TypeId}
use Rattle.jr_core.specs.declared.bodies.Class.{Class}
use Rattle.jr_core.specs.Mirror.{Body, Core}
use Rattle.jr_machine_defs.specs.Values.{same_decl, same_type}
use Rattle.jr_machine_defs.specs.Classes.{class_among, body_among, found_among, class_in, body_in}
use Rattle.jr_machine_defs.proofs.RenamedValues.{decl_from_same, image_on}
use Rattle.jr_machine_laws.specs.SameCore.{AlikeClass, AlikeClasses, SameCore, id_of, decl_of, called, IsKeyed}
use Rattle.jr_machine_laws.proofs.SameKeys.{decl_decides, type_from_same, type_decides, one_item}
use Rattle.jr_machine_laws.proofs.SameLaws.{alike_from}

-- ---- the first item that passes a test

module _ {X : Type 0} (test : X → Bool) where
  behind : (x : X) (xs : List X) (y : X) → Contains xs y → Contains (x ∷ xs) y
  behind x xs y c = (suc c.0, (let low : c.0 < length xs = c.1 in omega (arith, low)), c.2)

  meets_on : (b : Bool) (x : X) (xs : List X) (y : X) → test x ≡ b → cond b (Some x) (find test xs) ≡ Some y
      → (find test xs ≡ Some y → Contains xs y × (test y ≡ true)) → Contains (x ∷ xs) y × (test y ≡ true)
  meets_on true x xs y e h below = let same : x ≡ y = cc in ((0, omega arith, same), subst (λ z. test z ≡ true) same e)
  meets_on false x xs y e h below = let met : Contains xs y × (test y ≡ true) = below h in (behind x xs y met.0, met.1)

  pub meets : (xs : List X) (y : X) → find test xs ≡ Some y → Contains xs y × (test y ≡ true)
  meets [] y h = cc
  meets (x ∷ xs) y h = meets_on (test x) x xs y refl h (meets xs y)

  misses_on : (b : Bool) (x : X) (xs : List X) (y : X) → test x ≡ b → cond b (Some x) (find test xs) ≡ None
      → (find test xs ≡ None → (k : ℕ) → k < length xs → get_or xs k y ≡ y → test y ≡ true → ⊥)
      → (k : ℕ) → k < length (x ∷ xs) → get_or (x ∷ xs) k y ≡ y → test y ≡ true → ⊥
  misses_on true x xs y e h below k low is passes = cc
  misses_on false x xs y e h below zero low is passes = let fails : test y ≡ false = subst (λ z. test z ≡ false) is e in cc
  misses_on false x xs y e h below (suc k) low is passes = below h k (omega arith) is passes

  misses : (xs : List X) (y : X) → find test xs ≡ None → (k : ℕ) → k < length xs → get_or xs k y ≡ y → test y ≡ true → ⊥
  misses [] y h k low is passes = omega arith
  misses (x ∷ xs) y h k low is passes = misses_on (test x) x xs y refl h (misses xs y) k low is passes

  missed : (xs ys : List X) (y : X) → IsPermutation xs ys → find test xs ≡ None → find test ys ≡ Some y → ⊥
  missed xs ys y p e h =
      let met : Contains ys y × (test y ≡ true) = meets ys y h in
      let back : Contains xs y = Contains-permutation ys xs y (IsPermutation-sym xs ys p) met.0 in
      misses xs y e back.0 back.1 back.2 met.1

  permuted_on : (xs ys : List X) (u v : Option X) → find test xs ≡ u → find test ys ≡ v → IsPermutation xs ys
      → ((x y : X) → Contains xs x → Contains xs y → test x ≡ true → test y ≡ true → x ≡ y) → u ≡ v
  permuted_on xs ys None None e h p one = refl
  permuted_on xs ys None (Some y) e h p one = absurd (missed xs ys y p e h)
  permuted_on xs ys (Some x) None e h p one = absurd (missed ys xs x (IsPermutation-sym xs ys p) h e)
  permuted_on xs ys (Some x) (Some y) e h p one =
      let a : Contains xs x × (test x ≡ true) = meets xs x e in
      let b : Contains ys y × (test y ≡ true) = meets ys y h in
      ap Some (one x y a.0 (Contains-permutation ys xs y (IsPermutation-sym xs ys p) b.0) a.1 b.1)

  -- where at most one item passes, the order does not matter
  pub found_permuted : (xs ys : List X) → IsPermutation xs ys → ((x y : X) → Contains xs x → Contains xs y → test x ≡ true → test y ≡ true → x ≡ y) → find test xs ≡ find test ys
  found_permuted xs ys p one = permuted_on xs ys (find test xs) (find test ys) refl refl p one

-- ---- look-ups as searches

pub class_found : (all : List Class) (id : TypeId) → class_among all id ≡ find (λ c. same_type c.id id) all
class_found [] id = refl
class_found (c ∷ all) id = ap (cond (same_type c.id id) (Some c)) (class_found all id)

pub body_found : (all : List Body) (decl : DeclId) → body_among all decl ≡ find (λ b. same_decl b.decl decl) all
body_found [] decl = refl
body_found (b ∷ all) decl = ap (cond (same_decl b.decl decl) (Some b)) (body_found all decl)

abbrev second : DeclId × DeclId → DeclId
second pair = pair.1

pub pair_found : (all : List (DeclId × DeclId)) (method : DeclId) → found_among all method ≡ option_map second (find (λ pair. same_decl pair.0 method) all)
pair_found [] method = refl
pair_found (pair ∷ all) method = image_on (option_map second) (same_decl pair.0 method) (Some pair) (find (λ pair. same_decl pair.0 method) all) refl (pair_found all method)

-- ---- permutations

class_permuted : (a b : Core) → IsKeyed a → IsPermutation a.classes b.classes → (id : TypeId) → class_in a id ≡ class_in b id
class_permuted a b keyed p id =
    class_found a.classes id
    ∙ found_permuted (λ c. same_type c.id id) a.classes b.classes p
    (λ c d x y e h. one_item same_type type_decides id_of a.classes keyed.classes c d x y (type_from_same c.id id e ∙ sym (type_from_same d.id id h)))
    ∙ sym (class_found b.classes id)

body_permuted : (a b : Core) → IsKeyed a → IsPermutation a.bodies b.bodies → (decl : DeclId) → body_in a decl ≡ body_in b decl
body_permuted a b keyed p decl =
    body_found a.bodies decl
    ∙ found_permuted (λ b. same_decl b.decl decl) a.bodies b.bodies p
    (λ c d x y e h. one_item same_decl decl_decides decl_of a.bodies keyed.bodies c d x y (decl_from_same c.decl decl e ∙ sym (decl_from_same d.decl decl h)))
    ∙ sym (body_found b.bodies decl)

pub core_permuted : (a b : Core) → IsKeyed a → IsPermutation a.classes b.classes → IsPermutation a.bodies b.bodies → SameCore a b
core_permuted a b keyed p q = record {
  classes = λ id. alike_from (class_in a id) (class_in b id) (class_permuted a b keyed p id);
  bodies = body_permuted a b keyed q;
  count = sym (length_permutation a.classes b.classes p);
}

pub methods_permuted : (found others : List (DeclId × DeclId)) → IsDistinct same_decl (map called found) → IsPermutation found others → (method : DeclId) → found_among found method ≡ found_among others method
methods_permuted found others one p method =
    pair_found found method
    ∙ ap (option_map second) (found_permuted (λ pair. same_decl pair.0 method) found others p
    (λ x y c d e h. one_item same_decl decl_decides called found one x y c d (decl_from_same x.0 method e ∙ sym (decl_from_same y.0 method h))))
    ∙ sym (pair_found others method)

-- ---- each class in its place

alike_on : (t u : Bool) (c d : Class) (x y : Option Class) → t ≡ u → AlikeClass c d → AlikeClasses x y → AlikeClasses (cond t (Some c) x) (cond u (Some d) y)
alike_on true true c d x y e h k = h
alike_on true false c d x y e h k = cc
alike_on false true c d x y e h k = cc
alike_on false false c d x y e h k = k

class_each : (f : Class → Class) (all : List Class) → ((c : Class) → Contains all c → ((f c).id ≡ c.id) × AlikeClass c (f c)) → (id : TypeId)
    → AlikeClasses (class_among all id) (class_among (map f all) id)
class_each f [] h id = tt
class_each f (c ∷ all) h id =
    let here : ((f c).id ≡ c.id) × AlikeClass c (f c) = h c (0, omega arith, refl) in
    alike_on (same_type c.id id) (same_type (f c).id id) c (f c) (class_among all id) (class_among (map f all) id)
    (ap (λ k. same_type k id) (sym here.0)) here.1 (class_each f all (λ d m. h d (suc m.0, (let low : m.0 < length all = m.1 in omega (arith, low)), m.2)) id)

pub core_each : (a : Core) (f : Class → Class) → ((c : Class) → Contains a.classes c → ((f c).id ≡ c.id) × AlikeClass c (f c)) → SameCore a (record a { classes = map f a.classes })
core_each a f h = record {
  classes = class_each f a.classes h;
  bodies = λ decl. refl;
  count = sym (length-map a.classes f);
}
