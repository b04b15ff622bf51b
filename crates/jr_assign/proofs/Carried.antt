-- A table of sets is one of each variable: the equations go over with what they are made of.
use Rattle.std.proofs.Common.{◌≡◌, refl, ◌∙◌, ap, ap₂, ℕ, zero, suc, ◌+◌, ◌-◌, ◌<◌, ◌≤◌, Bool, true, false, ◌&&◌, if◌then◌else◌, List, [], ◌∷◌, Option, Some, None, nat_eq, nat_lt}
use Rattle.jr_base.specs.declared.kind.Symbol.TheVariants as y
use Rattle.jr_tree.specs.declared.label.Label.{Label}
use Rattle.jr_tree.specs.declared.label.Label.TheVariants as is
use Rattle.jr_tree.specs.Rows.{Rows, label, parent, end, previous}
use Rattle.jr_assign.specs.Changes.{Facts, fact}
use Rattle.jr_assign.specs.Sets.{Sets, both_of}
use Rattle.jr_assign.specs.Assigned as tell
use Rattle.jr_assign.specs.Assigned.{Seen, Gain, Met, first, second, third, last_part, AreAssigned}

-- what a function from sets to sets keeps; of the variables that are such also the set of one, and a set without it
pub record Keeps {A B : Type 0} (s : Sets A) (r : Sets B) (h : A → B) (Is : ℕ → Type 0) : Type 0 where
  pub none : h s.none ≡ r.none
  pub all : h s.all ≡ r.all
  pub both : (x y : A) → h (s.both x y) ≡ r.both (h x) (h y)
  pub either : (x y : A) → h (s.either x y) ≡ r.either (h x) (h y)
  pub one : (d : ℕ) → Is d → h (s.one d) ≡ r.one d
  pub less : (d : ℕ) → Is d → (x : A) → h (s.less d x) ≡ r.less d (h x)

if_kept : {A B : Type 0} (h : A → B) (b : Bool) (x y : A) (x' y' : B) → h x ≡ x' → h y ≡ y' → h (if b then x else y) ≡ (if b then x' else y')
if_kept h true x y x' y' e k = e
if_kept h false x y x' y' e k = k

abbrev pub of_one : {A B : Type 0} → (A → B) → (ℕ → Seen A) → ℕ → Seen B
of_one h a n = record { before = h (a n).before; done = h (a n).done; yes = h (a n).yes; no = h (a n).no }

module _ {A B : Type 0} (s : Sets A) (r : Sets B) (h : A → B) (Is : ℕ → Type 0) (keeps : Keeps s r h Is) (p : Rows) (f : Facts) (guarded : List ℕ) (a : ℕ → Seen A) where
  abbrev b1 : ℕ → Seen B
  b1 = of_one h a

  abbrev gain_of : Gain A → Gain B
  gain_of g = record { done = h g.done; yes = h g.yes; no = h g.no }

  abbrev ma : ℕ → Met A
  ma = tell.met_at s p f guarded a

  abbrev mb : ℕ → Met B
  mb = tell.met_at r p f guarded b1

  part_kept : (o : Option ℕ) (n : ℕ) → h (tell.behind_part f a o n) ≡ tell.behind_part f b1 o n
  part_kept None n = refl
  part_kept (Some c) n = refl

  last_kept : (n : ℕ) → h (tell.behind_last f a n) ≡ tell.behind_last f b1 n
  last_kept n = part_kept (last_part f n) n

  passed_kept : (b : ℕ) (ts : List ℕ) (x : A) (y : B) → h x ≡ y → h (tell.passed s p f guarded a b ts x) ≡ tell.passed r p f guarded b1 b ts y
  passed_kept b [] x y e = e
  passed_kept b (t ∷ ts) x y e = passed_kept b ts _ _ (if_kept h (tell.passes p f b t) _ _ _ _ (keeps.either x (tell.behind_last f a t) ∙ ap₂ r.either e (last_kept t)) e)

  pub arrives_kept : (b : ℕ) → h (tell.arrives s p f guarded a b) ≡ tell.arrives r p f guarded b1 b
  arrives_kept b = passed_kept b guarded _ _ (last_kept b)

  pub both_kept : (test : ℕ → Bool) (v : ℕ → A) (w : ℕ → B) (k : ℕ) → ((i : ℕ) → h (v i) ≡ w i) → h (both_of s test v k) ≡ both_of r test w k
  both_kept test v w zero e = keeps.all
  both_kept test v w (suc k) e = let more = both_kept test v w k e in if_kept h (test k) _ _ _ _ (keeps.both _ _ ∙ ap₂ r.both more (e k)) more

  broken_kept : (n : ℕ) → h (ma n).broken ≡ (mb n).broken
  broken_kept n = both_kept _ _ _ (end p n - first n) (λ i. arrives_kept (first n + i))

  continued_kept : (n : ℕ) → h (ma n).continued ≡ (mb n).continued
  continued_kept n = both_kept _ _ _ (end p n - first n) (λ i. arrives_kept (first n + i))

  caught_kept : (n : ℕ) → h (ma n).caught ≡ (mb n).caught
  caught_kept n = both_kept _ _ _ (end p n - first n) (λ i. refl)

  two : {x y : A} {x' y' : B} → h x ≡ x' → h y ≡ y' → h (s.both x y) ≡ r.both x' y'
  two {x} {y} e k = keeps.both x y ∙ ap₂ r.both e k

  -- ---- before a row

  behind_kept : (n : ℕ) → h (tell.behind s p f a ma n) ≡ tell.behind r p f b1 mb n
  behind_kept n = if_kept h (nat_lt (parent p n) (previous p n)) _ _ _ _ refl refl

  test_kept : (q n : ℕ) → h (tell.by_test s p f a ma q n) ≡ tell.by_test r p f b1 mb q n
  test_kept q n = if_kept h (nat_eq n (first q)) _ _ _ _ refl (if_kept h (nat_eq n (second p q)) _ _ _ _ refl refl)

  start_kept : (q : ℕ) (has_first : Bool) → h (tell.for_start s p f a ma q has_first) ≡ tell.for_start r p f b1 mb q has_first
  start_kept q has_first = if_kept h has_first _ _ _ _ refl refl

  turn_kept : (q : ℕ) (has_first has_condition : Bool) → h (tell.for_turn s p f a ma q has_first has_condition) ≡ tell.for_turn r p f b1 mb q has_first has_condition
  turn_kept q has_first has_condition = if_kept h has_condition _ _ _ _ refl (start_kept q has_first)

  for_kept : (q : ℕ) (has_first has_condition : Bool) (n : ℕ) → h (tell.in_for s p f a ma q has_first has_condition n) ≡ tell.in_for r p f b1 mb q has_first has_condition n
  for_kept q has_first has_condition n = if_kept h (tell.is_row (last_part f q) n) _ _ _ _ (turn_kept q has_first has_condition)
      (if_kept h (has_first && nat_eq n (first q)) _ _ _ _ refl
      (if_kept h (has_condition && nat_eq n (tell.for_test p q has_first)) _ _ _ _ (start_kept q has_first)
      (if_kept h (nat_eq n (tell.for_update p q has_first has_condition)) _ _ _ _ (two (continued_kept q) (last_kept q)) (behind_kept n))))

  in_kept : (l : Label) (q n : ℕ) → h (tell.before_in s p f a ma l q n) ≡ tell.before_in r p f b1 mb l q n
  in_kept is.If q n = test_kept q n
  in_kept is.While q n = test_kept q n
  in_kept is.Conditional q n = test_kept q n
  in_kept (is.Binary y.AndAnd) q n = test_kept q n
  in_kept (is.Binary y.OrOr) q n = if_kept h (nat_eq n (first q)) _ _ _ _ refl refl
  in_kept is.Do q n = if_kept h (nat_eq n (first q)) _ _ _ _ refl (two (continued_kept q) refl)
  in_kept (is.For has_first has_condition) q n = for_kept q has_first has_condition n
  in_kept is.Switch q n = if_kept h (nat_eq n (first q)) _ _ _ _ refl (two refl (behind_kept n))
  in_kept (is.Try has_finally) q n = refl
  in_kept _ q n = behind_kept n

  declared_kept : (l : Label) (n : ℕ) (x : A) (y : B) → ((is_final : Bool) (dims : ℕ) → l ≡ is.Local is_final dims → Is n) → h x ≡ y → h (tell.declared s l n x) ≡ tell.declared r l n y
  declared_kept (is.Local is_final dims) n x y such e = keeps.less n (such is_final dims refl) x ∙ ap (r.less n) e
  declared_kept _ n x y such e = e

  before_kept : (n : ℕ) → ((is_final : Bool) (dims : ℕ) → label p n ≡ is.Local is_final dims → Is n) → h (tell.before_at s p f a ma n) ≡ tell.before_at r p f b1 mb n
  before_kept n such = declared_kept (label p n) n _ _ such (in_kept (label p (parent p n)) (parent p n) n)

  -- ---- behind a row

  abbrev bundle : B → B → B → Gain B
  bundle x y z = record { done = x; yes = y; no = z }

  three : {x x' y y' z z' : B} → x ≡ x' → y ≡ y' → z ≡ z' → bundle x y z ≡ bundle x' y' z'
  three {x} {x'} {y} {y'} {z} {z'} e g k = ap₂ (λ (x : B) (y : B). bundle x y z) e g ∙ ap (λ (z : B). bundle x' y' z) k

  plain_kept : {x : A} {y : B} → h x ≡ y → gain_of (tell.plain s p f a ma x) ≡ tell.plain r p f b1 mb y
  plain_kept e = three e e e

  loop_kept : (n : ℕ) (x : A) (y : B) → h x ≡ y → gain_of (tell.loop_gain s p f a ma n x) ≡ tell.loop_gain r p f b1 mb n y
  loop_kept n x y e = plain_kept (two e (broken_kept n))

  switch_kept : (n : ℕ) (d : Bool) → h (if d then s.both (tell.behind_last f a n) (ma n).broken else s.both (s.both (tell.behind_last f a n) (ma n).broken) (a (first n)).done)
      ≡ (if d then r.both (tell.behind_last f b1 n) (mb n).broken else r.both (r.both (tell.behind_last f b1 n) (mb n).broken) (b1 (first n)).done)
  switch_kept n d = let ended = two (last_kept n) (broken_kept n) in if_kept h d _ _ _ _ ended (two ended refl)

  tried_kept : (n : ℕ) → h (tell.tried s p f a ma n) ≡ tell.tried r p f b1 mb n
  tried_kept n = two refl (caught_kept n)

  assigned_kept : (o : Option ℕ) (x : A) (y : B) → ((v : ℕ) → o ≡ Some v → Is v) → h x ≡ y → h (tell.with_assigned s o x) ≡ tell.with_assigned r o y
  assigned_kept None x y such e = e
  assigned_kept (Some v) x y such e = keeps.either (s.one v) x ∙ ap₂ r.either (keeps.one v (such v refl)) e

  gain_in_kept : (n : ℕ) → ((v : ℕ) → (fact f n).assigned ≡ Some v → Is v) → (l : Label) → gain_of (tell.gain_in s p f a ma l n) ≡ tell.gain_in r p f b1 mb l n
  gain_in_kept n such is.If = plain_kept (two refl (if_kept h (nat_lt (third p n) (end p n)) _ _ _ _ refl refl))
  gain_in_kept n such is.While = loop_kept n _ _ refl
  gain_in_kept n such is.Do = loop_kept n _ _ refl
  gain_in_kept n such (is.For has_first has_condition) = loop_kept n _ _ (if_kept h has_condition _ _ _ _ refl keeps.all)
  gain_in_kept n such is.Switch = plain_kept (switch_kept n (fact f n).has_default)
  gain_in_kept n such is.Labeled = plain_kept (two (last_kept n) (broken_kept n))
  gain_in_kept n such (is.Break has_label) = plain_kept keeps.all
  gain_in_kept n such (is.Continue has_label) = plain_kept keeps.all
  gain_in_kept n such is.Return = plain_kept keeps.all
  gain_in_kept n such is.Throw = plain_kept keeps.all
  gain_in_kept n such (is.Try true) = plain_kept (keeps.either _ _ ∙ ap₂ r.either (tried_kept n) (last_kept n))
  gain_in_kept n such (is.Try false) = plain_kept (tried_kept n)
  gain_in_kept n such is.Conditional = three (two refl refl) (two refl refl) (two refl refl)
  gain_in_kept n such (is.Binary y.AndAnd) = let no = two {x = (a (first n)).no} {y = (a (second p n)).no} refl refl in three (two refl no) refl no
  gain_in_kept n such (is.Binary y.OrOr) = let yes = two {x = (a (first n)).yes} {y = (a (second p n)).yes} refl refl in three (two yes refl) yes refl
  gain_in_kept n such (is.Unary y.Not) = refl
  gain_in_kept n such is.Paren = refl
  gain_in_kept n such _ = plain_kept (assigned_kept (fact f n).assigned _ _ such (last_kept n))

  known_kept : (o : Option Bool) (n : ℕ) (g : Gain A) (k : Gain B) → gain_of g ≡ k → gain_of (tell.known s p f a ma o n g) ≡ tell.known r p f b1 mb o n k
  known_kept None n g k e = e
  known_kept (Some true) n g k e = three refl refl keeps.all
  known_kept (Some false) n g k e = three refl keeps.all refl

  gain_kept : (n : ℕ) → ((v : ℕ) → (fact f n).assigned ≡ Some v → Is v) → gain_of (tell.gain_at s p f a ma n) ≡ tell.gain_at r p f b1 mb n
  gain_kept n such = known_kept (fact f n).truth n _ _ (gain_in_kept n such (label p n))

-- the variables that a member declares and assigns are such
pub record AreSuch (p : Rows) (f : Facts) (root : ℕ) (Is : ℕ → Type 0) : Type 0 where
  pub declared : (n : ℕ) → root < n → n < end p root → (is_final : Bool) (dims : ℕ) → label p n ≡ is.Local is_final dims → Is n
  pub assigned : (n : ℕ) → root ≤ n → n < end p root → (v : ℕ) → (fact f n).assigned ≡ Some v → Is v

pub carries : {A B : Type 0} (s : Sets A) (r : Sets B) (h : A → B) (Is : ℕ → Type 0) → Keeps s r h Is → (p : Rows) (f : Facts) (root : ℕ) (start : A) (a : ℕ → Seen A) → AreSuch p f root Is
    → AreAssigned s p f root start a → AreAssigned r p f root (h start) (of_one h a)
carries {A} {B} s r h Is keeps p f root start a such are = record {
  begins = ap h are.begins;
  before = λ n low high. ap h (are.before n low high) ∙ before_kept s r h Is keeps p f (tell.guarded_in p root) a n (such.declared n low high);
  done = λ n low high. ap h (are.done n low high) ∙ ap (λ (g : Gain B). g.done) (gain_kept s r h Is keeps p f (tell.guarded_in p root) a n (such.assigned n low high));
  yes = λ n low high. ap h (are.yes n low high) ∙ ap (λ (g : Gain B). g.yes) (gain_kept s r h Is keeps p f (tell.guarded_in p root) a n (such.assigned n low high));
  no = λ n low high. ap h (are.no n low high) ∙ ap (λ (g : Gain B). g.no) (gain_kept s r h Is keeps p f (tell.guarded_in p root) a n (such.assigned n low high));
}
