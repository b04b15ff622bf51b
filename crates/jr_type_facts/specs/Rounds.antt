-- Which constructors come back to themselves by `this(..)`, found by walks from one to the next (JLS 8.8.7.1).
use Rattle.std.specs.Prelude.{◌≡◌, ◌⊎◌, ℕ, zero, suc, ◌<◌, Bool, true, false, ◌&&◌, if◌then◌else◌, List, Option, Some, None, length, replicate, nat_eq, is_some, slice_set, Decides}
use Rattle.std.specs.List.{AllByRecursion, sum_by}
use Rattle.jr_tree.specs.declared.tree.Unit as declared_unit
use Rattle.jr_tree.specs.Shape.{IsShaped}
use Rattle.jr_tree.specs.declared.label.Role.TheVariants as role
use Rattle.jr_tree.specs.Rows.{Rows, label, parent, role_at, program_rows}
use Rattle.jr_defs.specs.Referents.{Table}
use Rattle.jr_plain.specs.Same.{same_role}
use Rattle.jr_plain.specs.Search.{Reaches}
use Rattle.jr_rules.specs.CreationTests.{is_this_call, calls_itself_round}
use Rattle.jr_supers.specs.Tabled.{declared}
use Rattle.jr_type_facts.specs.Tables.{item}

-- ---- what constructors call

abbrev pub is_constructor : Rows → ℕ → Bool
is_constructor p n = same_role (role_at p n) role.Constructor

-- the constructor whose body has the call, if it is `this(..)`
abbrev pub caller : Rows → ℕ → Option ℕ
caller p n = if is_this_call (label p n) && is_constructor p (parent p (parent p n)) then Some (parent p (parent p n)) else None

abbrev pub with_item : List (Option ℕ) → Option ℕ → Option ℕ → List (Option ℕ)
with_item all None b = all
with_item all (Some a) b = slice_set all a b

-- what the calls among the first n rows call, for each constructor
abbrev pub called_to : Rows → Table → ℕ → List (Option ℕ)
called_to p t zero = replicate (length p) None
called_to p t (suc n) = with_item (called_to p t n) (caller p n) (declared (t n))

-- the body of a constructor has one call `this(..)` at most
pub record HaveOneCall (p : Rows) : Type 0 where
  pub one : (c d : ℕ) → is_this_call (label p c) ≡ true → is_this_call (label p d) ≡ true → parent p (parent p c) ≡ parent p (parent p d) → c ≡ d

-- the law: it has in the rows of shaped units (JLS 8.8.7)
abbrev pub EachBodyCallsOnce : Type 0
EachBodyCallsOnce = (units : List declared_unit.Unit) → AllByRecursion IsShaped units → HaveOneCall (program_rows units)

-- ---- ways

-- the one leads to the other
abbrev pub Leads : List (Option ℕ) → ℕ → ℕ → Type 0
Leads called a b = item called a ≡ Some b

abbrev pub IsOnRound : List (Option ℕ) → ℕ → Type 0
IsOnRound called a = Reaches (Leads called) a a

abbrev pub IsThere : Option ℕ → Type 0
IsThere o = (w : ℕ) × (o ≡ Some w)

-- where a way goes on, if it has not been there
abbrev pub onward_by : Option ℕ → Option ℕ → Option ℕ
onward_by None next = next
onward_by (Some w) next = None

abbrev pub onward : List (Option ℕ) → List (Option ℕ) → ℕ → Option ℕ
onward called ways here = onward_by (item ways here) (item called here)

abbrev pub count_none : Option ℕ → ℕ
count_none None = 1
count_none (Some w) = 0

-- how many have not been met
abbrev pub unmet : List (Option ℕ) → ℕ
unmet ways = sum_by count_none ways

-- on the way from the first one
pub record IsWalking (called old : List (Option ℕ)) (first : ℕ) (now : List (Option ℕ)) (here : ℕ) : Type 0 where
  pub size : length now ≡ length called
  pub kept : (x w : ℕ) → item old x ≡ Some w → item now x ≡ Some w
  pub fresh : (x w : ℕ) → item now x ≡ Some w → (item old x ≡ Some w) ⊎ ((w ≡ first) × Reaches (Leads called) x here × ((first ≡ x) ⊎ Reaches (Leads called) first x))
  pub reached : (first ≡ here) ⊎ Reaches (Leads called) first here
  pub begun : IsThere (item now first) ⊎ (first ≡ here)
  pub closed : (x y w : ℕ) → item now x ≡ Some w → Leads called x y → (item old x ≡ Some w) ⊎ ((here ≡ y) ⊎ IsThere (item now y))

-- at its end
pub record IsWalked (called old : List (Option ℕ)) (first : ℕ) (now : List (Option ℕ)) (here : ℕ) : Type 0 where
  pub walking : IsWalking called old first now here
  pub stops : IsThere (item now here) ⊎ (item called here ≡ None)

-- what is known once the first n have been walked from
pub record AreRoundsTo (called : List (Option ℕ)) (n : ℕ) (met rounds : List (Option ℕ)) : Type 0 where
  pub met_size : length met ≡ length called
  pub rounds_size : length rounds ≡ length called
  pub early : (x w : ℕ) → item met x ≡ Some w → w < n
  pub sound : (x w : ℕ) → item rounds x ≡ Some w → IsOnRound called x
  pub closed : (x y w : ℕ) → item rounds x ≡ Some w → Leads called x y → IsThere (item rounds y)
  pub decided : (x w : ℕ) → item met x ≡ Some w → IsOnRound called x → IsThere (item rounds x)
  pub told : (x : ℕ) → x < n → IsOnRound called x → IsThere (item rounds x)

abbrev pub is_way : Option ℕ → ℕ → Bool
is_way None first = false
is_way (Some w) first = nat_eq w first

-- the rounds, by what each calls
abbrev pub AreRounds : List (Option ℕ) → List (Option ℕ) → Type 0
AreRounds called rounds = (x : ℕ) → Decides (is_some (item rounds x)) (IsOnRound called x)

-- they are those of the definition
abbrev pub AreRoundsOf : Rows → Table → List (Option ℕ) → Type 0
AreRoundsOf p t rounds = (k : ℕ) → is_some (item rounds k) ≡ calls_itself_round p t k
