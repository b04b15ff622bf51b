-- Items with keys, of which none stands twice, and the number of items that a look-up by key determines.
use Rattle.std.proofs.Common.{◌≡◌, ◌⊎◌, refl, inl, inr, sym, ap, ◌∙◌, ℕ, ◌<◌, Bool, true, false, ◌||◌, cond, List, [], ◌∷◌, map, length, Option, Some, None, Decides, get_or, arith}
use Rattle.std.specs.Cmp.{IsEquivalence}
use Rattle.std.specs.List.{Contains, IsDistinct, AllByRecursion, list_any}
use Rattle.std.specs.Option.{is_some}
use Rattle.std.specs.Set.{is_member}
use Rattle.std.proofs.lemmas.Bool.{cases_order}
use Rattle.std.proofs.lemmas.Bool.Decides.{same_from_decides}
use Rattle.std.proofs.lemmas.List.{get_or-map, get_or_default, length-map}
use Rattle.std.proofs.lemmas.Map.Keys.{apart_from_distinct}
use Rattle.std.proofs.lemmas.Map.Made.{length-from_same_keys}
use Rattle.jr_base.specs.declared.ids.DeclId.{DeclId}
use Rattle.jr_base.specs.declared.ids.TypeId.{TypeId}
use Rattle.jr_core.specs.declared.bodies.Class.{Class}
use Rattle.jr_core.specs.Mirror.{Core}
use Rattle.jr_machine_defs.specs.Values.{same_decl, same_type}
use Rattle.jr_machine_defs.specs.Classes.{class_among, class_in, body_in}
use Rattle.jr_machine_defs.specs.Renamed.{IsRenaming, renamed_class, renamed_body, renamed_core}
use Rattle.jr_machine_defs.proofs.RenamedValues.{decl_from_same, same_from_decl, same_renamed, same_type_renamed}
use Rattle.jr_machine_laws.specs.SameCore.{AlikeClasses, SameCore, id_of, decl_of, IsKeyed}

-- ---- the tests of keys

abbrev type_by : DeclId → TypeId
type_by d = record { 0 = d }

abbrev decl_in : TypeId → DeclId
decl_in id = id.0

pub type_from_same : (a b : TypeId) → same_type a b ≡ true → a ≡ b
type_from_same a b h = ap type_by (decl_from_same a.0 b.0 h)

pub decl_decides : (a b : DeclId) → Decides (same_decl a b) (a ≡ b)
decl_decides a b = (decl_from_same a b, same_from_decl a b)

pub type_decides : (a b : TypeId) → Decides (same_type a b) (a ≡ b)
type_decides a b = (type_from_same a b, λ e. same_from_decl a.0 b.0 (ap decl_in e))

-- ---- items

module _ {K : Type 0} (eq : K → K → Bool) (same : (a b : K) → Decides (eq a b) (a ≡ b)) where
  turns : (a b : K) → eq a b ≡ eq b a
  turns a b = same_from_decides {P = a ≡ b} (eq a b) (eq b a) (same a b)
      (let back : Decides (eq b a) (b ≡ a) = same b a in (λ h. sym (back.0 h), λ e. back.1 (sym e)))

  equivalence : IsEquivalence eq
  equivalence = record {
    refl = λ a. let test : Decides (eq a a) (a ≡ a) = same a a in test.1 refl;
    symm = turns;
    congr = λ a b c e. let test : Decides (eq a b) (a ≡ b) = same a b in ap (λ k. eq k c) (test.0 e);
  }

module _ {X K : Type 0} (eq : K → K → Bool) (same : (a b : K) → Decides (eq a b) (a ≡ b)) (key : X → K) (xs : List X) (distinct : IsDistinct eq (map key xs)) where
  apart : (x y : X) (i j : ℕ) → i < j → j < length xs → get_or xs i x ≡ x → get_or xs j y ≡ y → key x ≡ key y → ⊥
  apart x y i j less low is js e =
      let size : length (map key xs) ≡ length xs = length-map xs key in
      let here : get_or (map key xs) i (key x) ≡ key x = get_or-map key xs i x (key x) (omega arith) ∙ ap key is in
      let there : get_or (map key xs) j (key x) ≡ key y = get_or-map key xs j y (key x) low ∙ ap key js in
      let off : eq (get_or (map key xs) i (key x)) (get_or (map key xs) j (key x)) ≡ false = apart_from_distinct eq (map key xs) i j (key x) distinct less (omega (arith, size)) in
      let test : Decides (eq (key x) (key y)) (key x ≡ key y) = same (key x) (key y) in
      let on : eq (key x) (key y) ≡ true = test.1 e in
      cc (here, there, off, on)

  -- two items with one key are one item
  pub one_item : (x y : X) → Contains xs x → Contains xs y → key x ≡ key y → x ≡ y
  one_item x y c d e = at (cases_order c.0 d.0)
    where
      at : (c.0 ≡ d.0) ⊎ ((c.0 < d.0) ⊎ (d.0 < c.0)) → x ≡ y
      at (inl h) = sym c.2 ∙ (ap (λ k. get_or xs k x) h ∙ (get_or_default xs d.0 x y d.1 ∙ d.2))
      at (inr (inl h)) = absurd (apart x y c.0 d.0 h d.1 c.2 d.2 e)
      at (inr (inr h)) = absurd (apart y x d.0 c.0 h c.1 d.2 c.2 (sym e))

-- ---- items that are replaced

-- where the test of two keys is as before, no key stands twice, as before
module _ {X K : Type 0} (eq : K → K → Bool) (key : X → K) (h : X → X) (kept : (x y : X) → eq (key (h x)) (key (h y)) ≡ eq (key x) (key y)) where
  apart_kept : (x : X) (xs : List X) → AllByRecursion (λ k. eq (key x) k ≡ false) (map key xs) → AllByRecursion (λ k. eq (key (h x)) k ≡ false) (map key (map h xs))
  apart_kept x [] all = tt
  apart_kept x (y ∷ xs) all = (kept x y ∙ all.0, apart_kept x xs all.1)

  distinct_kept : (xs : List X) → IsDistinct eq (map key xs) → IsDistinct eq (map key (map h xs))
  unfolding IsDistinct
  distinct_kept [] distinct = tt
  distinct_kept (x ∷ xs) distinct = (apart_kept x xs distinct.0, distinct_kept xs distinct.1)

pub keyed_renamed : (f : DeclId → DeclId) → IsRenaming f → (a : Core) → IsKeyed a → IsKeyed (renamed_core f a)
keyed_renamed f p a keyed = record {
  classes = distinct_kept same_type id_of (renamed_class f) (λ c d. same_type_renamed f p c.id d.id) a.classes keyed.classes;
  bodies = distinct_kept same_decl decl_of (renamed_body f) (λ b c. same_renamed f p b.decl c.decl) a.bodies keyed.bodies;
}

-- ---- as many classes

member_on : (t u : Bool) (c : Class) (x : Option Class) (rest : Bool) → t ≡ u → rest ≡ is_some x → (t || rest) ≡ is_some (cond u (Some c) x)
member_on true true c x rest e h = refl
member_on true false c x rest e h = cc
member_on false true c x rest e h = cc
member_on false false c x rest e h = h

class_member : (all : List Class) (id : TypeId) → is_member same_type (map id_of all) id ≡ is_some (class_among all id)
class_member [] id = refl
class_member (c ∷ all) id =
    member_on (same_type id c.id) (same_type c.id id) c (class_among all id) (list_any (same_type id) (map id_of all)) (turns same_type type_decides id c.id) (class_member all id)

alike_members : (x y : Option Class) → AlikeClasses x y → is_some x ≡ is_some y
alike_members None None h = refl
alike_members None (Some d) h = absurd h
alike_members (Some c) None h = absurd h
alike_members (Some c) (Some d) h = refl

-- two finite maps with the same look-ups have as many classes
pub core_from_maps : (a b : Core) → IsKeyed a → IsKeyed b → ((id : TypeId) → AlikeClasses (class_in a id) (class_in b id)) → ((decl : DeclId) → body_in a decl ≡ body_in b decl) → SameCore a b
core_from_maps a b k m classes bodies = record {
  classes = classes;
  bodies = bodies;
  count = sym (length-map a.classes id_of) ∙ (length-from_same_keys (equivalence same_type type_decides) (map id_of a.classes) (map id_of b.classes) k.classes m.classes
      (λ id. class_member a.classes id ∙ (alike_members (class_in a id) (class_in b id) (classes id) ∙ sym (class_member b.classes id)))
      ∙ length-map b.classes id_of);
}
