-- What follows where a program begins with the rows of java.lang.
use Rattle.std.proofs.Common.{◌≡◌, ◌⊎◌, ⊎_elim, inl, inr, ℕ, zero, suc, ◌+◌, ◌<◌, ◌≤◌, Bool, true, false, not, ◌||◌, ◌&&◌, ◌==◌, nat_lt, if◌then◌else◌, List, [], ◌∷◌, Option, Some, None, length, get_or, refl, sym, ◌∙◌, ap, subst, arith, codes}
use Rattle.std.specs.List.{list_all}
use Rattle.std.specs.Str.{bytes_eq}
use Rattle.std.proofs.lemmas.Bool.{false≢true, ltb-true, eqb-true}
use Rattle.std.proofs.lemmas.Bool.Decides.{nat_tests}
use Rattle.std.proofs.lemmas.List.{get_or_past}
use Rattle.std.proofs.lemmas.Option.{none-some}
use Rattle.std.proofs.lemmas.Slice.Eq.{bytes_eq-Decides}
use Rattle.jr_base.specs.declared.text.Text.{Text}
use Rattle.jr_tree.specs.declared.label.Label.{Label}
use Rattle.jr_tree.specs.declared.label.Label.TheVariants as is
use Rattle.jr_tree.specs.declared.label.NamePlace.TheVariants as place
use Rattle.jr_tree.specs.declared.label.Role.{Role}
use Rattle.jr_tree.specs.declared.label.Role.TheVariants as role
use Rattle.jr_tree.specs.declared.row.Row.{Row}
use Rattle.jr_tree.specs.Labels.{role_of}
use Rattle.jr_tree.specs.Rows.{Rows, row, label, name, parent, end, role_at}
use Rattle.jr_defs.specs.Declarations.{IsPrelude, IsClass, IsClassLabel}
use Rattle.jr_defs.specs.Headers.{NamesHeader}
use Rattle.jr_defs.specs.Laws.{HasBareObject}
use Rattle.jr_defs.specs.Modifiers.{written, IsPublic, written_so}
use Rattle.jr_defs.specs.Supertypes.{IsSuperclassLabel, IsSuperinterfaceLabel}
use Rattle.jr_lex.proofs.ByteLemmas.{both_left, both_right, le_or_lt}
use Rattle.jr_lex.proofs.EscapeLemmas.{some_one}
use Rattle.jr_prelude.specs.Begins.{lang_rows, BeginsWithLang, lang_types, row_in, type_row, HasLangTypes}
use Rattle.jr_prelude.specs.Laws.{NamesTypesOnce, HasOneObject, HasOneString}

-- ---- a test of each row of a list, with its number

abbrev all_rows : (ℕ → Row → Bool) → ℕ → Rows → Bool
all_rows test at [] = true
all_rows test at (r ∷ rs) = test at r && all_rows test (at + 1) rs

each_row : (test : ℕ → Row → Bool) (at : ℕ) (rs : Rows) → all_rows test at rs ≡ true → (n : ℕ) (d : Row) → n < length rs → test (at + n) (get_or rs n d) ≡ true
each_row test at [] h n d l = absurd (omega arith)
each_row test at (r ∷ rs) h zero d l = subst (λ n. test n r ≡ true) (let e : at ≡ at + 0 = omega arith in e) (both_left (test at r) (all_rows test (at + 1) rs) h)
each_row test at (r ∷ rs) h (suc n) d l =
    subst (λ k. test k (get_or rs n d) ≡ true) (let e : at + 1 + n ≡ at + suc n = omega arith in e)
    (each_row test (at + 1) rs (both_right (test at r) (all_rows test (at + 1) rs) h) n d (omega arith))

-- ---- the tests

abbrev is_type_role : Role → Bool
is_type_role role.Type = true
is_type_role _ = false

abbrev is_class : Label → Bool
is_class (is.Class modifiers is_member) = true
is_class _ = false

abbrev has_row : Option ℕ → ℕ → Bool
has_row None n = false
has_row (Some m) n = m == n

-- what is right below the unit of java.lang and is a type is listed, and a public class
abbrev is_listed : ℕ → Row → Bool
is_listed n r = not (is_type_role (role_of r.label) && (r.parent == 1)) || (has_row (type_row r.name) n && (is_class r.label && (written r.label).is_public))

-- and what is listed is such
abbrev is_there : Text × ℕ → Bool
is_there e = (nat_lt 0 e.1 && nat_lt e.1 (length lang_rows)) && ((is_type_role (role_at lang_rows e.1) && (parent lang_rows e.1 == 1)) && bytes_eq (name lang_rows e.1) e.0)

abbrev is_header : Label → Bool
is_header (is.Name kind place.Superclass b) = true
is_header (is.Name kind place.Superinterface b) = true
is_header _ = false

-- no header stands right below the row
abbrev is_bare : ℕ → ℕ → Row → Bool
is_bare c n r = not (is_header r.label && (r.parent == c))

superclass_header : (l : Label) → IsSuperclassLabel l → is_header l ≡ true
superclass_header (is.Name kind place.Superclass b) h = refl
superclass_header _ h = absurd h

superinterface_header : (l : Label) → IsSuperinterfaceLabel l → is_header l ≡ true
superinterface_header (is.Name kind place.Superinterface b) h = refl
superinterface_header _ h = absurd h

-- ---- where rows below a row of java.lang stand

module _ (p : Rows) (begins : BeginsWithLang p) where
  unit_ends : end p 1 ≡ length lang_rows
  unit_ends = ap (λ (r : Row). r.end) (begins.rows 1 (omega arith) (ltb-true 1 (length lang_rows) refl)) ∙ refl

  past_row : (n : ℕ) → length p ≤ n → row p n ≡ record { label = is.Skip; name = []; parent = n; end = n + 1; previous = n }
  past_row n past = get_or_past p n (record { label = is.Skip; name = []; parent = n; end = n + 1; previous = n }) past

  -- the row 1 is there, since its end is not that of a row past the last
  long : 1 < length p
  long = ⊎_elim (λ past. absurd (past_end past)) (λ l. l) (le_or_lt (length p) 1)
    where
      past_end : length p ≤ 1 → ⊥
      past_end past = let at : end p 1 ≡ 2 = ap (λ (r : Row). r.end) (past_row 1 past) in let all : length lang_rows ≡ 2 = sym unit_ends ∙ at in omega (arith, all)

  module _ (c n : ℕ) (below : parent p n ≡ c) (some : 1 ≤ c) (low : c < end p 1) where
    inside : n < length p
    inside = ⊎_elim (λ past. absurd (past_end past)) (λ l. l) (le_or_lt (length p) n)
      where
        past_end : length p ≤ n → ⊥
        past_end past = let at : parent p n ≡ n = ap (λ (r : Row). r.parent) (past_row n past) in omega (arith, begins.tree.last 1 long)

    not_first : n ≡ 0 → ⊥
    not_first e = let root = begins.tree.root in let at : parent p n ≡ parent p 0 = ap (parent p) e in omega arith

    behind : (0 < n) × (n < end p c)
    behind =
        let more : 0 < n = positive n not_first in
        (more, subst (λ k. n < end p k) below (begins.tree.held n inside more))
      where
        positive : (n : ℕ) → (n ≡ 0 → ⊥) → 0 < n
        positive zero f = absurd (f refl)
        positive (suc n) f = omega arith

    within : (k : ℕ) → k ≡ c → (k ≡ 1) ⊎ (1 < k) → end p c ≤ end p 1
    within k e (inl one) = let at : end p c ≡ end p 1 = ap (end p) (sym e ∙ one) in omega arith
    within k e (inr more) = begins.tree.apart 1 c (omega arith) low

    pub stands : (0 < n) × (n < length lang_rows)
    stands = (behind.0, let last = behind.1 in let le = within c refl (one_or_more c some) in omega (arith, unit_ends))
      where
        one_or_more : (k : ℕ) → 1 ≤ k → (k ≡ 1) ⊎ (1 < k)
        one_or_more k l = grind arith

  -- what all rows of java.lang pass, the program's pass
  module _ (test : ℕ → Row → Bool) (all : all_rows test 0 lang_rows ≡ true) where
    passes : (n : ℕ) → (0 < n) × (n < length lang_rows) → test n (row p n) ≡ true
    passes n l = subst (λ r. test n r ≡ true) (sym (begins.rows n l.0 l.1))
        (subst (λ k. test k (row lang_rows n) ≡ true) (let e : 0 + n ≡ n = omega arith in e)
        (each_row test 0 lang_rows all n (record { label = is.Skip; name = []; parent = n; end = n + 1; previous = n }) l.1))

  -- ---- what is a type of java.lang
  module _ (x : Text) (c : ℕ) (h : IsPrelude p x c) where
    abbrev in_list : Bool
    in_list = has_row (type_row (name p c)) c

    abbrev is_public : Bool
    is_public = (written (label p c)).is_public

    listed : (in_list && (is_class (label p c) && is_public)) ≡ true
    listed =
        let here = stands 1 c h.inside (omega arith) (omega (arith, unit_ends, ltb-true 1 (length lang_rows) refl)) in
        found (is_type_role (role_at p c)) (parent p c) (in_list && (is_class (label p c) && is_public)) (ap is_type_role h.type) h.inside (passes is_listed refl c here)
      where
        found : (a : Bool) (k : ℕ) (b : Bool) → a ≡ true → k ≡ 1 → (not (a && (k == 1)) || b) ≡ true → b ≡ true
        found a k b e f t = grind (arith, nat_tests)

    classed : (is_class (label p c) && is_public) ≡ true
    classed = both_right in_list (is_class (label p c) && is_public) listed

    pub only_type : type_row x ≡ Some c
    only_type = subst (λ y. type_row y ≡ Some c) h.named
        (some_row (type_row (name p c)) (both_left in_list (is_class (label p c) && is_public) listed))
      where
        some_row : (o : Option ℕ) → has_row o c ≡ true → o ≡ Some c
        some_row None h = absurd (false≢true h)
        some_row (Some m) h = ap Some (eqb-true m c h)

    pub is_a_class : IsClass p c
    is_a_class = by (label p c) (both_left (is_class (label p c)) is_public classed)
      where
        by : (l : Label) → is_class l ≡ true → IsClassLabel l
        by (is.Class modifiers is_member) h = tt
        by _ h = absurd (false≢true h)

    pub is_a_public : IsPublic p c
    is_a_public = by (label p c) refl (both_left (is_class (label p c)) is_public classed) (both_right (is_class (label p c)) is_public classed)
      where
        by : (l : Label) → label p c ≡ l → is_class l ≡ true → (written l).is_public ≡ true → IsPublic p c
        by (is.Class modifiers is_member) e h public = inl (rw e public)
        by _ e h public = absurd (false≢true h)

  -- what is listed
  module _ (x : Text) (c : ℕ) where
    at_head : (type : Text × ℕ) (rest : Option ℕ) → is_there type ≡ true → (rest ≡ Some c → is_there (x, c) ≡ true)
        → (t : Bool) → bytes_eq type.0 x ≡ t → (if t then Some type.1 else rest) ≡ Some c → is_there (x, c) ≡ true
    at_head type rest here further true e h = subst (λ y. is_there (y, c) ≡ true) ((bytes_eq-Decides type.0 x).0 e) (subst (λ n. is_there (type.0, n) ≡ true) (some_one h) here)
    at_head type rest here further false e h = further h

    there : (types : List (Text × ℕ)) → list_all is_there types ≡ true → row_in types x ≡ Some c → is_there (x, c) ≡ true
    there [] all h = absurd (none-some c h)
    there (type ∷ types) all h = at_head type (row_in types x) (both_left (is_there type) (list_all is_there types) all) (there types (both_right (is_there type) (list_all is_there types) all)) (bytes_eq type.0 x) refl h

    pub each_type : type_row x ≡ Some c → IsPrelude p x c
    each_type h =
        let range = nat_lt 0 c && nat_lt c (length lang_rows) in
        let type = is_type_role (role_at lang_rows c) in
        let inside = parent lang_rows c == 1 in
        let named = bytes_eq (name lang_rows c) x in
        let t = there lang_types refl h in
        let low = both_left range ((type && inside) && named) t in
        let facts = both_right range ((type && inside) && named) t in
        let same = begins.rows c (ltb-true 0 c (both_left (nat_lt 0 c) (nat_lt c (length lang_rows)) low)) (ltb-true c (length lang_rows) (both_right (nat_lt 0 c) (nat_lt c (length lang_rows)) low)) in
        record {
          type = ap (λ (r : Row). role_of r.label) same ∙ is_type (role_at lang_rows c) (both_left type inside (both_left (type && inside) named facts));
          inside = ap (λ (r : Row). r.parent) same ∙ eqb-true (parent lang_rows c) 1 (both_right type inside (both_left (type && inside) named facts));
          named = ap (λ (r : Row). r.name) same ∙ (bytes_eq-Decides (name lang_rows c) x).0 (both_right (type && inside) named facts);
        }
      where
        is_type : (r : Role) → is_type_role r ≡ true → r ≡ role.Type
        is_type role.Type h = refl
        is_type _ h = absurd (false≢true h)

  pub once : NamesTypesOnce p
  once x c d h w = some_one (sym (only_type x c h) ∙ only_type x d w)

  pub types : HasLangTypes p
  types = record { only = only_type; each = each_type; class = is_a_class; public = is_a_public }

  -- ---- Object and String

  bare : (c : ℕ) → 1 ≤ c → c < length lang_rows → all_rows (is_bare c) 0 lang_rows ≡ true → (n : ℕ) → NamesHeader p c n → ⊥
  bare c some low all n h = ⊎_elim (λ w. refuted (superclass_header (label p n) w.names) w.inside) (λ w. refuted (superinterface_header (label p n) w.names) w.inside) h
    where
      found : (a : Bool) (k : ℕ) → a ≡ true → k ≡ c → not (a && (k == c)) ≡ true → ⊥
      found a k e f t = grind (arith, nat_tests)

      refuted : is_header (label p n) ≡ true → parent p n ≡ c → ⊥
      refuted header e = found (is_header (label p n)) (parent p n) header e (passes (is_bare c) all n (stands c n e some (omega (arith, unit_ends))))

  object_there : IsPrelude p (codes "Object") 5
  object_there = each_type (codes "Object") 5 refl

  object_at : (d : ℕ) → IsPrelude p (codes "Object") d → d ≡ 5
  object_at d h = once (codes "Object") d 5 h object_there

  pub one_object : HasOneObject p
  one_object = (5, object_there, object_at)

  pub object_bare : HasBareObject p
  object_bare c n object header = bare 5 (omega arith) (ltb-true 5 (length lang_rows) refl) refl n (subst (λ k. NamesHeader p k n) (object_at c object) header)

  string_there : IsPrelude p (codes "String") 28
  string_there = each_type (codes "String") 28 refl

  string_label : label p 28 ≡ label lang_rows 28
  string_label = ap (λ (r : Row). r.label) (begins.rows 28 (omega arith) (ltb-true 28 (length lang_rows) refl))

  pub one_string : HasOneString p
  one_string = (28, string_there, written_so (rw string_label refl), λ d h. once (codes "String") d 28 h string_there)
