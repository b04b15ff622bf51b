-- What is definitely assigned before and behind the rows of one member: equations, row by row, by the label of the row (JLS 16).
use Rattle.std.specs.Prelude.{◌≡◌, ◌<◌, ◌≤◌, ℕ, zero, suc, ◌+◌, ◌-◌, ◌*◌, Bool, true, false, not, ◌&&◌, if◌then◌else◌, List, [], ◌∷◌, ◌++◌, length, Option, Some, None, nat_eq, nat_lt}
use Rattle.jr_base.specs.declared.kind.Symbol.TheVariants as y
use Rattle.jr_tree.specs.declared.label.Label.{Label}
use Rattle.jr_tree.specs.declared.label.Label.TheVariants as is
use Rattle.jr_tree.specs.Rows.{Rows, label, parent, end, previous}
use Rattle.jr_tree.specs.Tree.{IsTree}
use Rattle.jr_assign.specs.declared.fact.Way.{Way}
use Rattle.jr_assign.specs.declared.fact.Way.TheVariants as way
use Rattle.jr_assign.specs.Changes.{Facts, fact}
use Rattle.jr_assign.specs.Sets.{Sets, only, both_of}

-- ---- places: the parts of a row

abbrev pub first : ℕ → ℕ
first n = n + 1

abbrev pub second : Rows → ℕ → ℕ
second p n = end p (first n)

abbrev pub third : Rows → ℕ → ℕ
third p n = end p (second p n)

-- the last part of a row, as it is known: of a `for` its body, of a guarded `try` the block of its `finally`
abbrev pub last_part : Facts → ℕ → Option ℕ
last_part f n = (fact f n).last

-- it is: nothing stands in the row, or the part does and ends where the row ends
abbrev pub is_last : Option ℕ → Rows → ℕ → Bool
is_last None p n = not (nat_lt (first n) (end p n))
is_last (Some c) p n = nat_lt n c && (nat_eq (parent p c) n && not (nat_lt (end p c) (end p n)))

abbrev pub has_last : Rows → Facts → ℕ → Bool
has_last p f n = is_last (last_part f n) p n

abbrev pub is_row : Option ℕ → ℕ → Bool
is_row None n = false
is_row (Some m) n = nat_eq m n

-- the condition of a `for`, which stands behind the first part of its header, and what stands behind that: its updates, or its body (14.14.1)
abbrev pub for_test : Rows → ℕ → Bool → ℕ
for_test p n has_first = if has_first then second p n else first n

abbrev pub for_update : Rows → ℕ → Bool → Bool → ℕ
for_update p n has_first has_condition = if has_condition then end p (for_test p n has_first) else for_test p n has_first

abbrev pub is_catch : Label → Bool
is_catch is.Catch = true
is_catch _ = false

-- a `try` with a `finally`
abbrev pub is_guarded : Label → Bool
is_guarded (is.Try has_finally) = has_finally
is_guarded _ = false

-- the row b stands in the first part of n, or in its last
abbrev pub is_in_first : Rows → ℕ → ℕ → Bool
is_in_first p n b = nat_lt n b && nat_lt b (second p n)

abbrev pub is_from : Option ℕ → Rows → ℕ → ℕ → Bool
is_from None p n b = false
is_from (Some c) p n b = not (nat_lt b c) && nat_lt b (end p n)

abbrev pub is_in_last : Rows → Facts → ℕ → ℕ → Bool
is_in_last p f n b = is_from (last_part f n) p n b

-- it stands in the body of the loop
abbrev pub is_in_body : Label → Rows → Facts → ℕ → ℕ → Bool
is_in_body is.Do p f n b = is_in_first p n b
is_in_body _ p f n b = is_in_last p f n b

-- ---- jumps

-- the row t stands inside the target of the jump
abbrev pub is_over : Option Way → ℕ → Bool
is_over None t = false
is_over (Some (way.Break m)) t = nat_lt m t
is_over (Some (way.Continue m)) t = nat_lt m t
is_over (Some way.Return) t = true

-- the jump b stands in the body or a catch of the `try` t, and goes out through its `finally` (16.2.15)
abbrev pub passes : Rows → Facts → ℕ → ℕ → Bool
passes p f b t = is_guarded (label p t) && ((nat_lt t b && nat_lt b (end p t)) && (not (is_in_last p f t b) && is_over (fact f b).way t))

-- a break that goes to the statement n, a continue of the loop n in its body, a catch of the `try` n
abbrev pub is_break_to : Option Way → ℕ → Bool
is_break_to (Some (way.Break m)) n = nat_eq m n
is_break_to _ n = false

abbrev pub is_continue_to : Option Way → ℕ → Bool
is_continue_to (Some (way.Continue m)) n = nat_eq m n
is_continue_to _ n = false

abbrev pub continues_to : Rows → Facts → ℕ → ℕ → Bool
continues_to p f n b = is_continue_to (fact f b).way n && is_in_body (label p n) p f n b

abbrev pub is_catch_of : Rows → ℕ → ℕ → Bool
is_catch_of p n c = is_catch (label p c) && nat_eq (parent p c) n

-- ---- what holds at a row

-- what is assigned before it, behind it, and behind it as a condition that is true and that is false
pub record Seen (A : Type 0) : Type 0 where
  pub before : A
  pub done : A
  pub yes : A
  pub no : A

-- the same behind it
pub record Gain (A : Type 0) : Type 0 where
  pub done : A
  pub yes : A
  pub no : A

module _ {A : Type 0} (s : Sets A) where
  -- a local is not assigned where it is declared, whatever came before (14.4)
  abbrev pub declared : Label → ℕ → A → A
  declared (is.Local is_final dims) n x = s.less n x
  declared _ n x = x

  -- an assignment (16.1.8), or a local with an initializer (16.2.4): behind its parts, and then what is assigned there
  abbrev pub with_assigned : Option ℕ → A → A
  with_assigned None x = x
  with_assigned (Some v) x = s.either (s.one v) x

-- what several rows give: before each break that leaves a statement, before each continue of a loop, and behind each catch of a `try`
pub record Met (A : Type 0) : Type 0 where
  pub broken : A
  pub continued : A
  pub caught : A

module _ {A : Type 0} (f : Facts) (a : ℕ → Seen A) where
  -- behind the last part of a row, or before it where it has none
  abbrev pub behind_part : Option ℕ → ℕ → A
  behind_part None n = (a n).before
  behind_part (Some c) n = (a c).done

  abbrev pub behind_last : ℕ → A
  behind_last n = behind_part (last_part f n) n

-- the `try` statements with a `finally` that a jump may go through
module _ {A : Type 0} (s : Sets A) (p : Rows) (f : Facts) (guarded : List ℕ) (a : ℕ → Seen A) where
  abbrev pub passed : ℕ → List ℕ → A → A
  passed b [] x = x
  passed b (t ∷ ts) x = passed b ts (if passes p f b t then s.either x (behind_last f a t) else x)

  -- before a jump (16.2.13), or behind a `finally` that it goes through on its way
  abbrev pub arrives : ℕ → A
  arrives b = passed b guarded (behind_last f a b)

  -- how many rows stand inside the row n, from its first part on
  abbrev pub count : ℕ → ℕ
  count n = end p n - first n

  abbrev pub met_at : ℕ → Met A
  met_at n = record {
    broken = both_of s (λ i. is_break_to (fact f (first n + i)).way n) (λ i. arrives (first n + i)) (count n);
    continued = both_of s (λ i. continues_to p f n (first n + i)) (λ i. arrives (first n + i)) (count n);
    caught = both_of s (λ i. is_catch_of p n (first n + i)) (λ i. (a (first n + i)).done) (count n);
  }

-- ---- the equations

module _ {A : Type 0} (s : Sets A) (p : Rows) (f : Facts) (a : ℕ → Seen A) (m : ℕ → Met A) where
  -- ---- before a row n that stands right in the row q

  -- in turn: behind the sibling before it
  abbrev pub behind : ℕ → A
  behind n = if nat_lt (parent p n) (previous p n) then (a (previous p n)).done else (a (parent p n)).before

  -- the second part when the first is true, another when it is false: `if`, `while`, `?:`, `&&` (16.1.2, 16.1.5, 16.2.7, 16.2.10)
  abbrev pub by_test : ℕ → ℕ → A
  by_test q n = if nat_eq n (first q) then (a q).before else (if nat_eq n (second p q) then (a (first q)).yes else (a (first q)).no)

  -- the second part when the first is false: `||` (16.1.3)
  abbrev pub by_failure : ℕ → ℕ → A
  by_failure q n = if nat_eq n (first q) then (a q).before else (a (first q)).no

  -- the body and the condition of a `do` (16.2.11)
  abbrev pub in_do : ℕ → ℕ → A
  in_do q n = if nat_eq n (first q) then (a q).before else s.both (m q).continued (a (first q)).done

  -- the groups of a switch: behind the expression, and behind the group before (16.2.9)
  abbrev pub in_switch : ℕ → ℕ → A
  in_switch q n = if nat_eq n (first q) then (a q).before else s.both (a (first q)).done (behind n)

  -- a `for`: before its condition, and before its body (16.2.12)
  abbrev pub for_start : ℕ → Bool → A
  for_start q has_first = if has_first then (a (first q)).done else (a q).before

  abbrev pub for_turn : ℕ → Bool → Bool → A
  for_turn q has_first has_condition = if has_condition then (a (for_test p q has_first)).yes else for_start q has_first

  -- the first of its updates comes behind the body and each continue
  abbrev pub in_for : ℕ → Bool → Bool → ℕ → A
  in_for q has_first has_condition n = if is_row (last_part f q) n then for_turn q has_first has_condition
      else (if has_first && nat_eq n (first q) then (a q).before
      else (if has_condition && nat_eq n (for_test p q has_first) then for_start q has_first
      else (if nat_eq n (for_update p q has_first has_condition) then s.both (m q).continued (behind_last f a q) else behind n)))

  -- by the label of q
  abbrev pub before_in : Label → ℕ → ℕ → A
  before_in is.If q n = by_test q n
  before_in is.While q n = by_test q n
  before_in is.Conditional q n = by_test q n
  before_in (is.Binary y.AndAnd) q n = by_test q n
  before_in (is.Binary y.OrOr) q n = by_failure q n
  before_in is.Do q n = in_do q n
  before_in (is.For has_first has_condition) q n = in_for q has_first has_condition n
  before_in is.Switch q n = in_switch q n
  -- a catch and a `finally` begin as the `try` does (16.2.15)
  before_in (is.Try has_finally) q n = (a q).before
  before_in _ q n = behind n

  abbrev pub before_at : ℕ → A
  before_at n = declared s (label p n) n (before_in (label p (parent p n)) (parent p n) n)

  -- ---- behind a row n

  -- what is no condition that is followed
  abbrev pub plain : A → Gain A
  plain x = record { done = x; yes = x; no = x }

  abbrev pub tested : A → A → Gain A
  tested when_true when_false = record { done = s.both when_true when_false; yes = when_true; no = when_false }

  -- `if`, whose missing `else` does nothing (16.2.7)
  abbrev pub if_gain : ℕ → Gain A
  if_gain n = plain (s.both (a (second p n)).done (if nat_lt (third p n) (end p n) then (a (third p n)).done else (a (first n)).no))

  -- a loop ends where its condition is false, and by each break (16.2.10 to 16.2.12)
  abbrev pub loop_gain : ℕ → A → Gain A
  loop_gain n ended = plain (s.both ended (m n).broken)

  -- a missing condition counts as true
  abbrev pub for_end : ℕ → Bool → Bool → A
  for_end n has_first has_condition = if has_condition then (a (for_test p n has_first)).no else s.all

  -- a switch ends behind its last group, by each break, and where no label fits (16.2.9)
  abbrev pub switch_gain : ℕ → Gain A
  switch_gain n = let ended = s.both (behind_last f a n) (m n).broken in plain (if (fact f n).has_default then ended else s.both ended (a (first n)).done)

  abbrev pub tried : ℕ → A
  tried n = s.both (a (first n)).done (m n).caught

  -- a `try`: behind its body and each catch, or behind its `finally` (16.2.15)
  abbrev pub try_gain : ℕ → Bool → Gain A
  try_gain n has_finally = plain (if has_finally then s.either (tried n) (behind_last f a n) else tried n)

  -- `?:` (16.1.5, 16.1.6)
  abbrev pub chosen : ℕ → Gain A
  chosen n = record {
    done = s.both (a (second p n)).done (a (third p n)).done;
    yes = s.both (a (second p n)).yes (a (third p n)).yes;
    no = s.both (a (second p n)).no (a (third p n)).no;
  }

  -- `&&`, `||`, `!` and parentheses (16.1.2 to 16.1.4)
  abbrev pub both_hold : ℕ → Gain A
  both_hold n = tested (a (second p n)).yes (s.both (a (first n)).no (a (second p n)).no)

  abbrev pub one_holds : ℕ → Gain A
  one_holds n = tested (s.both (a (first n)).yes (a (second p n)).yes) (a (second p n)).no

  abbrev pub negated : ℕ → Gain A
  negated n = record { done = (a (first n)).done; yes = (a (first n)).no; no = (a (first n)).yes }

  abbrev pub enclosed : ℕ → Gain A
  enclosed n = record { done = (a (first n)).done; yes = (a (first n)).yes; no = (a (first n)).no }

  -- by the label of n; what has no line does its parts in turn
  abbrev pub gain_in : Label → ℕ → Gain A
  gain_in is.If n = if_gain n
  gain_in is.While n = loop_gain n (a (first n)).no
  gain_in is.Do n = loop_gain n (a (second p n)).no
  gain_in (is.For has_first has_condition) n = loop_gain n (for_end n has_first has_condition)
  gain_in is.Switch n = switch_gain n
  gain_in is.Labeled n = plain (s.both (behind_last f a n) (m n).broken)
  gain_in (is.Break has_label) n = plain s.all
  gain_in (is.Continue has_label) n = plain s.all
  gain_in is.Return n = plain s.all
  gain_in is.Throw n = plain s.all
  gain_in (is.Try has_finally) n = try_gain n has_finally
  gain_in is.Conditional n = chosen n
  gain_in (is.Binary y.AndAnd) n = both_hold n
  gain_in (is.Binary y.OrOr) n = one_holds n
  gain_in (is.Unary y.Not) n = negated n
  gain_in is.Paren n = enclosed n
  gain_in _ n = plain (with_assigned s (fact f n).assigned (behind_last f a n))

  -- a constant (16.1.1): everything is assigned when it has the other value
  abbrev pub known : Option Bool → ℕ → Gain A → Gain A
  known None n x = x
  known (Some true) n x = record { done = (a n).before; yes = (a n).before; no = s.all }
  known (Some false) n x = record { done = (a n).before; yes = s.all; no = (a n).before }

  abbrev pub gain_at : ℕ → Gain A
  gain_at n = known (fact f n).truth n (gain_in (label p n) n)

-- ---- the parts that are read are there

abbrev pub ends_by : Option ℕ → ℕ → Bool
ends_by None n = false
ends_by (Some c) n = not (nat_lt c n)

abbrev pub has_first : Rows → ℕ → Bool
has_first p n = nat_lt (first n) (end p n)

abbrev pub has_second : Rows → ℕ → Bool
has_second p n = nat_lt (second p n) (end p n)

abbrev pub has_third : Rows → ℕ → Bool
has_third p n = nat_lt (third p n) (end p n)

abbrev pub has_parts_in : Label → Rows → Facts → ℕ → Bool
has_parts_in is.If p f n = has_second p n
has_parts_in is.While p f n = has_second p n
has_parts_in is.Do p f n = has_second p n
has_parts_in (is.For has_first has_condition) p f n = ends_by (last_part f n) (for_update p n has_first has_condition)
has_parts_in is.Switch p f n = has_first p n
has_parts_in (is.Try has_finally) p f n = has_first p n
has_parts_in is.Conditional p f n = has_third p n
has_parts_in (is.Binary op) p f n = has_second p n
has_parts_in (is.Unary op) p f n = has_first p n
has_parts_in is.Paren p f n = has_first p n
has_parts_in _ p f n = true

abbrev pub has_parts : Rows → Facts → ℕ → Bool
has_parts p f n = has_parts_in (label p n) p f n

-- ---- the definition: a table of a member, from what is assigned before it on

-- of the first k rows of the member those with a `finally`
abbrev pub guarded_from : Rows → ℕ → ℕ → List ℕ
guarded_from p root zero = []
guarded_from p root (suc k) = guarded_from p root k ++ (if is_guarded (label p (root + k)) then (root + k) ∷ [] else [])

abbrev pub guarded_in : Rows → ℕ → List ℕ
guarded_in p root = guarded_from p root (end p root - root)

pub record AreAssigned {A : Type 0} (s : Sets A) (p : Rows) (f : Facts) (root : ℕ) (start : A) (a : ℕ → Seen A) : Type 0 where
  pub begins : (a root).before ≡ start
  pub before : (n : ℕ) → root < n → n < end p root → (a n).before ≡ before_at s p f a (met_at s p f (guarded_in p root) a) n
  pub done : (n : ℕ) → root ≤ n → n < end p root → (a n).done ≡ (gain_at s p f a (met_at s p f (guarded_in p root) a) n).done
  pub yes : (n : ℕ) → root ≤ n → n < end p root → (a n).yes ≡ (gain_at s p f a (met_at s p f (guarded_in p root) a) n).yes
  pub no : (n : ℕ) → root ≤ n → n < end p root → (a n).no ≡ (gain_at s p f a (met_at s p f (guarded_in p root) a) n).no

-- the law: of one variable v there is one
abbrev pub IsAssignedOnce : ℕ → Rows → Facts → ℕ → Bool → Type 0
IsAssignedOnce v p f root start = (a b : ℕ → Seen Bool) → AreAssigned (only v) p f root start a → AreAssigned (only v) p f root start b → (n : ℕ) → root ≤ n → n < end p root → a n ≡ b n

abbrev pub EachMemberIsAssignedOnce : Type 0
EachMemberIsAssignedOnce = (v : ℕ) (p : Rows) (f : Facts) (root : ℕ) (start : Bool) → IsTree p → root < length p
    → ((n : ℕ) → has_last p f n ≡ true) → ((n : ℕ) → root ≤ n → n < end p root → has_parts p f n ≡ true) → IsAssignedOnce v p f root start

-- ---- the same as a plain function: the equations, followed so often that each row has what it says

module _ {A : Type 0} (s : Sets A) (p : Rows) (f : Facts) (root : ℕ) (start : A) where
  abbrev pub followed : ℕ → ℕ → Seen A
  followed zero n = record { before = start; done = start; yes = start; no = start }
  followed (suc rounds) n = let a = followed rounds in let m = met_at s p f (guarded_in p root) a in let gain = gain_at s p f a m n in record {
    before = if nat_eq n root then start else before_at s p f a m n;
    done = gain.done;
    yes = gain.yes;
    no = gain.no;
  }

  -- each row waits for those that are evaluated before it, when it begins and when it ends
  abbrev pub solved : ℕ → Seen A
  solved = followed (2 * (end p root - root))

-- the law: it is the table
abbrev pub EachMemberIsAssigned : Type 0
EachMemberIsAssigned = (v : ℕ) (p : Rows) (f : Facts) (root : ℕ) (start : Bool) → IsTree p → root < length p → ((n : ℕ) → has_last p f n ≡ true)
    → ((n : ℕ) → root ≤ n → n < end p root → has_parts p f n ≡ true) → AreAssigned (only v) p f root start (solved (only v) p f root start)
