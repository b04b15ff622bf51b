-- Blank final fields that are not definitely assigned once what they belong to is made (JLS 4.12.4, 8.3.1.2, 8.6, 8.7, 8.8.7.1, 12.4.2, 12.5, 16.8, 16.9).
use Rattle.std.specs.Prelude.{◌≡◌, ◌<◌, ◌≤◌, ℕ, zero, suc, ◌+◌, ◌-◌, Bool, true, false, not, ◌&&◌, if◌then◌else◌, length, Option, Some, nat_eq, nat_lt}
use Rattle.jr_tree.specs.declared.label.Label.{Label}
use Rattle.jr_tree.specs.declared.label.Label.TheVariants as is
use Rattle.jr_tree.specs.declared.tree.ThisOrSuper.TheVariants as which
use Rattle.jr_tree.specs.Rows.{Rows, label, parent, end}
use Rattle.jr_tree.specs.Tree.{IsTree}
use Rattle.jr_plain.specs.Search.{any_below}
use Rattle.jr_assign.specs.declared.fact.Way.{Way}
use Rattle.jr_assign.specs.declared.fact.Way.TheVariants as way
use Rattle.jr_assign.specs.Changes.{Facts, fact, has_value, field_body}
use Rattle.jr_assign.specs.Sets.{only, both_of}
use Rattle.jr_assign.specs.Assigned.{Seen, AreAssigned, has_last, has_parts, arrives, guarded_in, solved}

-- ---- fields and members

abbrev pub is_class : Label → Bool
is_class (is.Class modifiers is_member) = true
is_class _ = false

-- a final field of a class with no value (4.12.4)
abbrev pub is_blank_in : Label → Rows → ℕ → Bool
is_blank_in (is.Field modifiers dims) p v = modifiers.is_final && (not (has_value p v) && is_class (label p (parent p (field_body p v))))
is_blank_in _ p v = false

abbrev pub is_blank : Rows → ℕ → Bool
is_blank p v = is_blank_in (label p v) p v

abbrev pub is_static_field : Label → Bool
is_static_field (is.Field modifiers dims) = modifiers.is_static
is_static_field _ = false

abbrev pub is_same : Bool → Bool → Bool
is_same a b = if a then b else not b

-- an initializer or fields of the class, or of its instances (8.3.2, 8.6, 8.7)
abbrev pub is_part : Label → Bool → Bool
is_part (is.Initializer of_class) is_static = is_same of_class is_static
is_part (is.Fields modifiers) is_static = is_same modifiers.is_static is_static
is_part _ is_static = false

abbrev pub is_constructor : Label → Bool
is_constructor (is.Constructor modifiers) = true
is_constructor is.DefaultConstructor = true
is_constructor _ = false

abbrev pub is_this_call : Label → Bool
is_this_call (is.ConstructorCall which.This) = true
is_this_call _ = false

-- the constructor begins with a call `this(..)` (8.8.7.1)
abbrev pub hands_on : Rows → ℕ → Bool
hands_on p c = any_below (end p c) (λ k. nat_lt c k && (is_this_call (label p k) && nat_eq (parent p (parent p k)) c))

-- a constructor of the body that does not
abbrev pub is_first : Rows → ℕ → ℕ → Bool
is_first p body c = is_constructor (label p c) && (nat_eq (parent p c) body && not (hands_on p c))

-- ---- where a member ends: at its end, and at each return (16.2.13)

abbrev pub is_return : Option Way → Bool
is_return (Some way.Return) = true
is_return _ = false

module _ (v : ℕ) (p : Rows) (f : Facts) (root : ℕ) where
  -- by a table of the member at the root
  abbrev pub ends_with : (ℕ → Seen Bool) → Bool
  ends_with a = (a root).done && both_of (only v) (λ i. is_return (fact f (root + i)).way) (λ i. arrives (only v) p f (guarded_in p root) a (root + i)) (end p root - root)

-- v is assigned wherever the member at the root has ended, or it is not, from what is so before the member on
pub record EndsSo (v : ℕ) (p : Rows) (f : Facts) (root : ℕ) (start out : Bool) : Type 0 where
  pub table : ℕ → Seen Bool
  pub assigned : AreAssigned (only v) p f root start table
  pub is : ends_with v p f root table ≡ out

-- ---- the parts of a body, in their order (12.4.2, 12.5): whether v is assigned before the member k, or at the end of the body

pub data IsBefore (v : ℕ) (p : Rows) (f : Facts) (body : ℕ) (is_static : Bool) : ℕ → Bool → Type 0 where
  begins : IsBefore v p f body is_static (body + 1) false
  behind : {k : ℕ} {start out : Bool} → IsBefore v p f body is_static k start → parent p k ≡ body → is_part (label p k) is_static ≡ true → EndsSo v p f k start out → IsBefore v p f body is_static (end p k) out
  passes : {k : ℕ} {start : Bool} → IsBefore v p f body is_static k start → parent p k ≡ body → is_part (label p k) is_static ≡ false → IsBefore v p f body is_static (end p k) start

-- the rule (8.3.1.2, 16.8, 16.9): a static field is to be assigned behind all static parts, and one of instances behind each constructor that hands on to no other
pub data IsLeftBlank (p : Rows) (f : Facts) (v : ℕ) : Type 0 where
  of_class : is_blank p v ≡ true → is_static_field (label p v) ≡ true → IsBefore v p f (field_body p v) true (end p (field_body p v)) false → IsLeftBlank p f v
  of_instances : {c : ℕ} {start : Bool} → is_blank p v ≡ true → is_static_field (label p v) ≡ false → is_first p (field_body p v) c ≡ true
      → IsBefore v p f (field_body p v) false (end p (field_body p v)) start → EndsSo v p f c start false → IsLeftBlank p f v

-- ---- the law: before each member of a body there is one answer

-- all rows of the members have the parts that are read
abbrev pub HaveParts : Rows → Facts → ℕ → Type 0
HaveParts p f body = (k : ℕ) → parent p k ≡ body → body < k → (k < length p) × ((n : ℕ) → k ≤ n → n < end p k → has_parts p f n ≡ true)

abbrev pub EachMakingIsOne : Type 0
EachMakingIsOne = (v : ℕ) (p : Rows) (f : Facts) (body : ℕ) (is_static : Bool) → IsTree p → ((n : ℕ) → has_last p f n ≡ true) → HaveParts p f body
    → (k : ℕ) (x y : Bool) → IsBefore v p f body is_static k x → IsBefore v p f body is_static k y → x ≡ y

-- ---- the same as plain functions

module _ (v : ℕ) (p : Rows) (f : Facts) (root : ℕ) (start : Bool) where
  abbrev pub ended : Bool
  ended = ends_with v p f root (solved (only v) p f root start)

-- from the member k on, of so many
abbrev pub made_from : ℕ → Rows → Facts → ℕ → Bool → ℕ → ℕ → Bool → Bool
made_from v p f body is_static zero k start = start
made_from v p f body is_static (suc more) k start =
    if nat_lt k (end p body) then made_from v p f body is_static more (end p k) (if is_part (label p k) is_static then ended v p f k start else start) else start

abbrev pub made : ℕ → Rows → Facts → Bool → Bool
made v p f is_static = made_from v p f (field_body p v) is_static (length p) (field_body p v + 1) false

abbrev pub is_left_blank : Rows → Facts → ℕ → Bool
is_left_blank p f v = is_blank p v && (if is_static_field (label p v) then not (made v p f true)
    else any_below (length p) (λ c. is_first p (field_body p v) c && not (ended v p f c (made v p f false))))
