-- A type in one of its own name (JLS 8.1).
use Rattle.std.proofs.Common.{◌≡◌, refl, sym, ◌∙◌, ap, ap₂, ℕ, zero, suc, ◌<◌, Bool, true, false, ◌||◌, ◌&&◌, length, Option, Some, None, nat_eq}
use Rattle.std.specs.Prelude.{bytes_eq}
use Rattle.std.proofs.lemmas.Slice.Eq.{bytes_eq-Decides}
use Rattle.jr_tree.specs.Rows.{Rows, name}
use Rattle.jr_plain.specs.Declarations.{is_type}
use Rattle.jr_plain.specs.Enclosing.{declaring_type}
use Rattle.jr_plain.proofs.Bounds.{type_below}
use Rattle.jr_plain.proofs.Declared.{type_tells}
use Rattle.jr_plain.proofs.Enclosed.{declaring_finds}
use Rattle.jr_places.specs.Names.{name_row}
use Rattle.jr_places.proofs.Packing.{name_tells}
use Rattle.jr_supers.proofs.Subtyped.{one_test}
use Rattle.jr_name_rules.specs.Found.{found}
use Rattle.jr_name_rules.specs.DeclarationTests.{is_inside, is_inside_its_name}

module _ (p : Rows) (n : ℕ) where
  abbrev has_name : ℕ → Bool
  has_name c = bytes_eq (name p c) (name p n)

  -- this type or one round it, of so many, has the name of n
  abbrev is_named_round : ℕ → Option ℕ → Bool
  is_named_round zero around = false
  is_named_round (suc rounds) None = false
  is_named_round (suc rounds) (Some c) = has_name c || is_named_round rounds (declaring_type p c)

  inside_by : (rounds : ℕ) → ((c : ℕ) → is_inside p (name p n) rounds c ≡ is_named_round rounds (declaring_type p c)) → (o : Option ℕ) → found o (λ c. has_name c || is_inside p (name p n) rounds c) ≡ is_named_round (suc rounds) o
  inside_by rounds rest None = refl
  inside_by rounds rest (Some c) = ap (λ b. has_name c || b) (rest c)

  inside_round : (rounds d : ℕ) → is_inside p (name p n) rounds d ≡ is_named_round rounds (declaring_type p d)
  inside_round zero d = refl
  inside_round (suc rounds) d = inside_by rounds (inside_round rounds) (declaring_type p d)

  -- the search has come to this type, with room for so many
  pub record IsRoundAt (room : ℕ) (around : Option ℕ) : Type 0 where
    pub is : is_inside p (name p n) (length p) n ≡ is_named_round room around
    pub below : (c : ℕ) → around ≡ Some c → c < length p

  over_below : (d c : ℕ) → declaring_type p d ≡ Some c → c < length p
  over_below d c e = type_below p c ((declaring_finds p d c).0 e).inside.type

  same_name : (c : ℕ) → nat_eq (name_row p c) (name_row p n) ≡ has_name c
  same_name c = one_test _ _ (name p c ≡ name p n) (name_tells p c n) (bytes_eq-Decides (name p c) (name p n))

  pub round_start : (around : Option ℕ) (room : ℕ) → around ≡ declaring_type p n → room ≡ length p → IsRoundAt room around
  round_start around room e full = record { is = inside_round (length p) n ∙ ap₂ is_named_round (sym full) (sym e); below = λ c at. over_below n c (sym e ∙ at) }

  -- nothing is left round it
  pub round_out : (room : ℕ) (around : Option ℕ) → around ≡ None → IsRoundAt room around → false ≡ is_inside p (name p n) (length p) n
  round_out zero around e h = sym h.is
  round_out (suc room) around e h = sym (h.is ∙ ap (is_named_round (suc room)) e)

  -- no room is left
  pub round_past : (room : ℕ) (around : Option ℕ) → room ≡ 0 → IsRoundAt room around → false ≡ is_inside p (name p n) (length p) n
  round_past room around e h = sym (h.is ∙ ap (λ r. is_named_round r around) e)

  -- a type has the name
  pub round_here : (room left c x own : ℕ) (around : Option ℕ) → room ≡ suc left → around ≡ Some c → (c < length p → x ≡ name_row p c) → own ≡ name_row p n → nat_eq x own ≡ true → IsRoundAt room around → true ≡ is_inside p (name p n) (length p) n
  round_here room left c x own around more e at is same h = sym (h.is ∙ ap₂ is_named_round more e ∙ ap (λ b. b || is_named_round left (declaring_type p c)) (sym (same_name c) ∙ ap₂ nat_eq (sym (at (h.below c e))) (sym is) ∙ same))

  -- it has another one
  pub round_next : (room left c x own : ℕ) (around next : Option ℕ) → room ≡ suc left → around ≡ Some c → (c < length p → x ≡ name_row p c) → own ≡ name_row p n → nat_eq x own ≡ false → next ≡ declaring_type p c → IsRoundAt room around → IsRoundAt left next
  round_next room left c x own around next more e at is other over h = record {
    is = h.is ∙ ap₂ is_named_round more e ∙ ap (λ b. b || is_named_round left (declaring_type p c)) (sym (same_name c) ∙ ap₂ nat_eq (sym (at (h.below c e))) (sym is) ∙ other) ∙ ap (is_named_round left) (sym over);
    below = λ d found. over_below c d (sym over ∙ found);
  }

pub no_type : (p : Rows) (n : ℕ) → is_type p n ≡ false → false ≡ is_inside_its_name p n
no_type p n e = sym (ap (λ b. b && is_inside p (name p n) (length p) n) e)

pub one_type : (p : Rows) (n : ℕ) (b : Bool) → is_type p n ≡ true → (n < length p → b ≡ is_inside p (name p n) (length p) n) → b ≡ is_inside_its_name p n
one_type p n b e h = h (type_below p n ((type_tells p n).0 e)) ∙ sym (ap (λ t. t && is_inside p (name p n) (length p) n) e)
