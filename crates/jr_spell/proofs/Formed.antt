-- What code tells of a reference is what the definitions say: whether packages or types stand before its dot, and which other ways there are.
use Rattle.std.proofs.Common.{◌≡◌, refl, sym, ◌∙◌, ap, ap₂, arith, ℕ, zero, suc, ◌+◌, ◌-◌, ◌<◌, Bool, true, false, not, ◌&&◌, ◌||◌, cond, List, [], ◌∷◌, Option, Some, None, nat_lt}
use Rattle.std.specs.Option.{is_some}
use Rattle.std.proofs.lemmas.Bool.{false≢true}
use Rattle.std.proofs.lemmas.Bool.Decides.{Decides-ltb}
use Rattle.jr_tree.specs.declared.label.Label.{Label}
use Rattle.jr_tree.specs.declared.label.Label.TheVariants as is
use Rattle.jr_tree.specs.declared.label.ReceiverKind.TheVariants as on
use Rattle.jr_tree.specs.declared.label.Role.{Role}
use Rattle.jr_tree.specs.declared.label.Role.TheVariants as role
use Rattle.jr_tree.specs.declared.label.Sought.{Sought}
use Rattle.jr_tree.specs.declared.label.Sought.TheVariants as sought
use Rattle.jr_tree.specs.Rows.{Rows, label, parent, role_at, sought_at}
use Rattle.jr_defs.specs.declared.referent.RowType.{RowType}
use Rattle.jr_defs.specs.Referents.{Table}
use Rattle.jr_plain.specs.Modifiers.{is_static}
use Rattle.jr_shapes.specs.declared.spelling.Shape.TheVariants as shape
use Rattle.jr_shapes.specs.Parts.{end_of, is_qualifier, before_dot, parts_from, parts_by, parts, receiver_of}
use Rattle.jr_spelling_rules.specs.Candidates as candidate
use Rattle.jr_spell.specs.declared.reference.Dot.{Dot}
use Rattle.jr_spell.specs.declared.reference.Form.{Form}
use Rattle.jr_spell.specs.declared.reference.Form.TheVariants as form
use Rattle.jr_spell.specs.Forming.{has_name_before, has_parts, is_names, is_static_by, member_form, role_form, name_form, form_by, form_at, by_form}

false_by : (b : Bool) → not b ≡ true → b ≡ false
false_by true e = absurd (false≢true e)
false_by false e = refl

-- ---- packages and types before the dot

module _ (p : Rows) (t : Table) (n : ℕ) where
  abbrev some_from : ℕ → Bool
  some_from m = not (candidate.is_empty (parts_from p t (n + 1) m))

  one_some : (rest : List ℕ) (b : Bool) → b ≡ not (candidate.is_empty (cond b ((n + 1) ∷ rest) []))
  one_some rest true = refl
  one_some rest false = refl

  some_room : (m : ℕ) → end_of p (n + 1) - (n + 1) ≡ m → (b : Bool) → nat_lt (n + 1) (end_of p (n + 1)) ≡ b → (b && is_qualifier p t (n + 1)) ≡ some_from m
  some_room zero size true e = let lt = (Decides-ltb (n + 1) (end_of p (n + 1))).0 e in absurd (omega arith)
  some_room zero size false e = refl
  some_room (suc m) size true e = one_some (parts_from p t (n + 1 + 1) m) (is_qualifier p t (n + 1))
  some_room (suc m) size false e = let lt : n + 1 < end_of p (n + 1) = omega arith in absurd (false≢true (sym e ∙ (Decides-ltb (n + 1) (end_of p (n + 1))).1 lt))

  abbrev room : Bool
  room = nat_lt (n + 1) (end_of p (n + 1)) && is_qualifier p t (n + 1)

  has_room : room ≡ some_from (end_of p (n + 1) - (n + 1))
  has_room = some_room (end_of p (n + 1) - (n + 1)) refl (nat_lt (n + 1) (end_of p (n + 1))) refl

  abbrev some_by : Label → Bool
  some_by l = not (candidate.is_empty (parts_by (before_dot l) p t (n + 1)))

  parts_told : (l : Label) → (has_name_before l && room) ≡ some_by l
  parts_told (is.Name k at true) = has_room
  parts_told (is.Name k at false) = refl
  parts_told (is.Call on.Name) = has_room
  parts_told (is.Call on.Absent) = refl
  parts_told (is.Call on.Expression) = refl
  parts_told (is.Call on.Super) = refl
  parts_told is.Select = refl
  parts_told _ = refl

  pub has_parts_is : has_parts p t n ≡ not (candidate.is_empty (parts p t n))
  has_parts_is = parts_told (label p n)

  -- a reference is written by names
  pub by_names : (seeks : Sought) (before : Dot) → seeks ≡ sought_at p n → is_names before ≡ has_parts p t n → (candidate.stands_alone seeks || is_names before) ≡ candidate.is_by_names p t n
  by_names seeks before e h = ap₂ (λ s b. candidate.stands_alone s || b) e (h ∙ has_parts_is)

-- ---- the other ways

module _ (p : Rows) (t : Table) (given : Option (List RowType)) (n : ℕ) where
  static_same : (o : Option ℕ) → is_static_by p o ≡ elim o as (λ _. Bool) [ Some d ↦ is_static p d | None ↦ false ]
  static_same None = refl
  static_same (Some d) = refl

  abbrev member_by : Bool → Bool → List candidate.Candidate
  member_by value static = cond value (candidate.on_cast p t given n) (cond static (candidate.on_static p t given n) (candidate.on_instance p t given n))

  members : (value static : Bool) → by_form p t given n (cond value form.Behind (cond static form.Static form.Instance)) ≡ member_by value static
  members true static = refl
  members false true = refl
  members false false = refl

  member_is : by_form p t given n (member_form p t n) ≡ candidate.as_member p t given n
  member_is = members (is_some (receiver_of p t n)) (is_static_by p (candidate.target (t n))) ∙ ap (member_by (is_some (receiver_of p t n))) (static_same (candidate.target (t n)))

  abbrev target_by : (ℕ → List candidate.Candidate) → Option ℕ → List candidate.Candidate
  target_by of o = elim o as (λ _. List candidate.Candidate) [ Some c ↦ of c | None ↦ [] ]

  pub type_is : (d : ℕ) → candidate.target (t n) ≡ Some d → (import : Bool)
      → by_form p t given n (cond import form.Import form.OfType)
      ≡ cond import (candidate.named p t given n d (candidate.name_length p d - 1)) (candidate.named_from p t given n d 0 (candidate.name_length p d))
  type_is d e true = ap (target_by (λ c. candidate.named p t given n c (candidate.name_length p c - 1))) e
  type_is d e false = ap (target_by (λ c. candidate.named_from p t given n c 0 (candidate.name_length p c))) e

  pub no_type : candidate.target (t n) ≡ None → (import : Bool) → by_form p t given n (cond import form.Import form.OfType) ≡ []
  no_type e true = ap (target_by (λ c. candidate.named p t given n c (candidate.name_length p c - 1))) e
  no_type e false = ap (target_by (λ c. candidate.named_from p t given n c 0 (candidate.name_length p c))) e

  role_is : (d : ℕ) → candidate.target (t n) ≡ Some d → (r : Role) → by_form p t given n (role_form p t n r) ≡ candidate.by_role p t given n r d
  role_is d e role.Type = type_is d e (candidate.is_import_label (label p (parent p n)))
  role_is d e role.Field = member_is
  role_is d e _ = refl

  name_is : (o : Option ℕ) → candidate.target (t n) ≡ o → by_form p t given n (name_form p t n o) ≡ target_by (λ d. candidate.by_role p t given n (role_at p d) d) o
  name_is None e = refl
  name_is (Some d) e = role_is d e (role_at p d)

  ways_are : (s : Sought) → by_form p t given n (form_by p t n (candidate.target (t n)) s) ≡ candidate.others_by p t given n s
  ways_are (sought.Simple k) = name_is (candidate.target (t n)) refl
  ways_are (sought.Qualified k) = name_is (candidate.target (t n)) refl
  ways_are sought.FieldOf = refl
  ways_are sought.SuperField = refl
  ways_are sought.Method = member_is
  ways_are sought.MethodOf = member_is
  ways_are _ = refl

  pub by_form_is : by_form p t given n (form_at p t n) ≡ candidate.others p t given n
  by_form_is = ways_are (sought_at p n)

-- ---- by its name alone, where packages or types stand before it

module _ (p : Rows) (t : Table) (given : Option (List RowType)) (n : ℕ) where
  abbrev bare_by : Bool → List candidate.Candidate
  bare_by none = cond none [] (candidate.behind_names p t given n shape.Bare [])

  pub bare_gone : has_parts p t n ≡ false → [] ≡ candidate.bare p t given n
  bare_gone e = sym (ap bare_by (true_by (candidate.is_empty (parts p t n)) (sym (has_parts_is p t n) ∙ e)))
    where
      true_by : (b : Bool) → not b ≡ false → b ≡ true
      true_by true e = refl
      true_by false e = absurd (false≢true (sym e))

  pub bare_there : has_parts p t n ≡ true → candidate.behind_names p t given n shape.Bare [] ≡ candidate.bare p t given n
  bare_there e = sym (ap bare_by (false_by (candidate.is_empty (parts p t n)) (sym (has_parts_is p t n) ∙ e)))

-- ---- ways that no call has

abbrev pub is_uncalled : Form → Bool
is_uncalled form.OfType = true
is_uncalled form.Import = true
is_uncalled form.Super = true
is_uncalled _ = false

module _ (p : Rows) (t : Table) (n : ℕ) where
  member_called : (value static : Bool) → is_uncalled (cond value form.Behind (cond static form.Static form.Instance)) ≡ false
  member_called true static = refl
  member_called false true = refl
  member_called false false = refl

  method_called : is_uncalled (member_form p t n) ≡ false
  method_called = member_called (is_some (receiver_of p t n)) (is_static_by p (candidate.target (t n)))

  pub uncalled_form : (target : Option ℕ) (s : Sought) (f : Form) → f ≡ form_by p t n target s → is_uncalled f ≡ true → candidate.is_call s ≡ false
  uncalled_form target sought.Method f e is = absurd (false≢true (sym (ap is_uncalled e ∙ method_called) ∙ is))
  uncalled_form target sought.MethodOf f e is = absurd (false≢true (sym (ap is_uncalled e ∙ method_called) ∙ is))
  uncalled_form target sought.SuperMethod f e is = absurd (false≢true (sym (ap is_uncalled e) ∙ is))
  uncalled_form target sought.Creation f e is = absurd (false≢true (sym (ap is_uncalled e) ∙ is))
  uncalled_form target (sought.ConstructorCall w) f e is = absurd (false≢true (sym (ap is_uncalled e) ∙ is))
  uncalled_form target _ f e is = refl
