-- Parts of rows that stand side by side, and the step of one row.
use Rattle.std.proofs.Common.{◌≡◌, refl, sym, ◌∙◌, ap, subst, ℕ, ◌+◌, ◌<◌, ◌≤◌, List, [], ◌∷◌, ◌++◌, append_assoc, Option, Some, None, ⊎_elim, arith}
use Rattle.std.proofs.lemmas.Bool.{cases_lt}
use Rattle.jr_core.specs.declared.code.Catch.{Catch}
use Rattle.jr_core.specs.declared.code.Group.{Group}
use Rattle.jr_core.specs.declared.code.SwitchLabel.{SwitchLabel}
use Rattle.jr_defs.specs.declared.referent.RowType.{RowType}
use Rattle.jr_tree.specs.Rows.{end}
use Rattle.jr_codes.specs.declared.source.Source.{Source}
use Rattle.jr_codes.specs.Facts.{Facts}
use Rattle.jr_codes.specs.Making.{Below, AreBefore, BeginsFrom, Parted}
use Rattle.jr_codes.specs.Reads.{facts, IsReadAt}
use Rattle.jr_expressions.specs.Statements.{Part, Parts, Comes, part, through, strange, as_code, as_case, as_group, as_catch, with_row, those, codes, made_at, PartsAt, none, one, pass}
use Rattle.jr_expressions.specs.Stacks.{Stacks, stacks_of, AreFrom, AreRising, IsParted, ComesTo, Makes, WaitsFrom, AreDeep}

-- each row from one up to another ends there at the latest
pub record AreNested (f : Facts) (from stop : ℕ) : Type 0 where
  pub more : (k : ℕ) → from ≤ k → k < stop → k < end f.rows k
  pub inside : (k : ℕ) → from ≤ k → k < stop → end f.rows k ≤ stop

up_to : (a b k : ℕ) → a < b → b ≤ k → a ≤ k
up_to a b k lt le = omega (arith, lt, le)

itself : (n : ℕ) → n ≤ n
itself n = omega arith

narrower : (f : Facts) (from to stop : ℕ) → from < to → AreNested f from stop → AreNested f to stop
narrower f from to stop lt h = record {
  more = λ k le less. h.more k (up_to from to k lt le) less;
  inside = λ k le less. h.inside k (up_to from to k lt le) less;
}

meets : (a e : ℕ) → a ≤ e → e ≤ a → e ≡ a
meets a e le ge = omega (arith, le, ge)

before_stop : (a e stop : ℕ) → a < e → e ≤ stop → a < stop
before_stop a e stop lt le = omega (arith, lt, le)

up_from : (a e stop : ℕ) → a ≤ e → stop ≤ a → stop ≤ e
up_from a e stop le past = omega (arith, le, past)

down_to : (a e stop : ℕ) → e ≤ stop → stop ≤ a → e ≤ a
down_to a e stop far past = omega (arith, far, past)

-- the parts up to a row, and those from it on
record IsSplit (f : Facts) (outcome : Option RowType) (a e stop : ℕ) (parts : Parts) : Type 0 where
  inner : Parts
  outer : Parts
  first : PartsAt f outcome a e inner
  second : PartsAt f outcome e stop outer
  is : parts ≡ inner ++ outer

split_here : {f : Facts} {outcome : Option RowType} {a e stop : ℕ} {parts : Parts} → a ≤ e → e ≤ a → PartsAt f outcome a stop parts → IsSplit f outcome a e stop parts
split_here {f} {outcome} {a} {e} {stop} {parts} le past all =
    record { inner = []; outer = parts; first = none past; second = subst (λ k. PartsAt f outcome k stop parts) (sym (meets a e le past)) all; is = refl }

split_one : {f : Facts} {outcome : Option RowType} {a e stop : ℕ} {below rest : Parts} {x : Part} → a < e → PartsAt f outcome (a + 1) (end f.rows a) below → made_at f outcome a below ≡ part x
    → IsSplit f outcome (end f.rows a) e stop rest → IsSplit f outcome a e stop ((a, x) ∷ rest)
split_one {a = a} {x = x} lt below made split =
    record { inner = (a, x) ∷ split.inner; outer = split.outer; first = one lt below made split.first; second = split.second; is = ap (λ all. (a, x) ∷ all) split.is }

split_pass : {f : Facts} {outcome : Option RowType} {a e stop : ℕ} {below rest : Parts} → a < e → PartsAt f outcome (a + 1) (end f.rows a) below → made_at f outcome a below ≡ through
    → IsSplit f outcome (end f.rows a) e stop rest → IsSplit f outcome a e stop (below ++ rest)
split_pass {below = below} lt inside made split =
    record { inner = below ++ split.inner; outer = split.outer; first = pass lt inside made split.first; second = split.second; is = ap (λ all. below ++ all) split.is ∙ sym (append_assoc below split.inner split.outer) }

split_at : {f : Facts} {outcome : Option RowType} {a e stop : ℕ} {parts : Parts} → AreNested f a e → a ≤ e → e ≤ stop → PartsAt f outcome a stop parts → IsSplit f outcome a e stop parts
split_at {f} {outcome} {a} {e} {stop} nested le far (none past) =
    record { inner = []; outer = []; first = none (down_to a e stop far past); second = none (up_from a e stop le past); is = refl }
split_at {f} {outcome} {a} {e} {stop} nested le far (one less below made rest) =
    ⊎_elim (λ lt. split_one lt below made (split_at (narrower f a (end f.rows a) e (nested.more a (itself a) lt) nested) (nested.inside a (itself a) lt) far rest))
    (λ past. split_here le past (one less below made rest)) (cases_lt a e)
split_at {f} {outcome} {a} {e} {stop} nested le far (pass less below made rest) =
    ⊎_elim (λ lt. split_pass lt below made (split_at (narrower f a (end f.rows a) e (nested.more a (itself a) lt) nested) (nested.inside a (itself a) lt) far rest))
    (λ past. split_here le past (pass less below made rest)) (cases_lt a e)

-- ---- where parts stand

before_both : {T : Type 0} → (e : ℕ) (xs ys : List (ℕ × T)) → AreBefore e xs → AreBefore e ys → AreBefore e (xs ++ ys)
before_both e [] ys first second = second
before_both e (p ∷ xs) ys first second = (first.0, before_both e xs ys first.1 second)

before_wider : {T : Type 0} → (e stop : ℕ) (xs : List (ℕ × T)) → e ≤ stop → AreBefore e xs → AreBefore stop xs
before_wider e stop [] le h = tt
before_wider e stop (p ∷ xs) le h = (before_stop p.0 e stop h.0 le, before_wider e stop xs le h.1)

from_both : {T : Type 0} → (a : ℕ) (xs ys : List (ℕ × T)) → AreFrom a xs → AreFrom a ys → AreFrom a (xs ++ ys)
from_both a [] ys first second = second
from_both a (p ∷ xs) ys first second = (first.0, from_both a xs ys first.1 second)

from_wider : {T : Type 0} → (a b : ℕ) (xs : List (ℕ × T)) → a < b → AreFrom b xs → AreFrom a xs
from_wider a b [] lt h = tt
from_wider a b (p ∷ xs) lt h = (up_to a b p.0 lt h.0, from_wider a b xs lt h.1)

begins : {T : Type 0} → (a : ℕ) (xs : List (ℕ × T)) → AreFrom a xs → BeginsFrom a xs
begins a [] h = tt
begins a (p ∷ xs) h = h.0

next_less : (a k : ℕ) → a + 1 ≤ k → a < k
next_less a k le = omega (arith, le)

one_more : (a : ℕ) → a < a + 1
one_more a = omega arith

below_nested : (f : Facts) (a : ℕ) → AreDeep f → AreNested f (a + 1) (end f.rows a)
below_nested f a deep = record {
  more = λ k le less. deep.more a k (next_less a k le) less;
  inside = λ k le less. deep.inside a k (next_less a k le) less;
}

pub all_before : {f : Facts} {outcome : Option RowType} {a e : ℕ} {xs : Parts} → AreDeep f → AreNested f a e → PartsAt f outcome a e xs → AreBefore e xs
all_before {f} {outcome} {a} {e} deep nested (none past) = tt
all_before {f} {outcome} {a} {e} deep nested (one lt below made behind) =
    (lt, all_before deep (narrower f a (end f.rows a) e (nested.more a (itself a) lt) nested) behind)
all_before {f} {outcome} {a} {e} deep nested (pass {below = inner} {rest = outer} lt below made behind) =
    before_both e inner outer (before_wider (end f.rows a) e inner (nested.inside a (itself a) lt) (all_before deep (below_nested f a deep) below))
    (all_before deep (narrower f a (end f.rows a) e (nested.more a (itself a) lt) nested) behind)

pub all_from : {f : Facts} {outcome : Option RowType} {a e : ℕ} {xs : Parts} → AreDeep f → AreNested f a e → PartsAt f outcome a e xs → AreFrom a xs
all_from {f} {outcome} {a} {e} deep nested (none past) = tt
all_from {f} {outcome} {a} {e} deep nested (one {rest = rest} lt below made behind) =
    let more = nested.more a (itself a) lt in (itself a, from_wider a (end f.rows a) rest more (all_from deep (narrower f a (end f.rows a) e more nested) behind))
all_from {f} {outcome} {a} {e} deep nested (pass {below = inner} {rest = outer} lt below made behind) =
    let more = nested.more a (itself a) lt in
    from_both a inner outer (from_wider a (a + 1) inner (one_more a) (all_from deep (below_nested f a deep) below))
    (from_wider a (end f.rows a) outer more (all_from deep (narrower f a (end f.rows a) e more nested) behind))

rising_wider : {T : Type 0} → (a b : ℕ) (xs : List (ℕ × T)) → a ≤ b → AreRising b xs → AreRising a xs
rising_wider a b [] le h = tt
rising_wider a b (p ∷ xs) le h = (not_less_than a b p.0 le h.0, h.1)
  where
    not_less_than : (a b k : ℕ) → a ≤ b → b ≤ k → a ≤ k
    not_less_than a b k le more = omega (arith, le, more)

next_up : (k e : ℕ) → k < e → k + 1 ≤ e
next_up k e lt = omega (arith, lt)

rising_both : {T : Type 0} → (a e : ℕ) (xs ys : List (ℕ × T)) → a ≤ e → AreRising a xs → AreBefore e xs → AreRising e ys → AreRising a (xs ++ ys)
rising_both a e [] ys le first before second = rising_wider a e ys le second
rising_both a e (p ∷ xs) ys le first before second = (first.0, rising_both (p.0 + 1) e xs ys (next_up p.0 e before.0) first.1 before.1 second)

pub all_rising : {f : Facts} {outcome : Option RowType} {a e : ℕ} {xs : Parts} → AreDeep f → AreNested f a e → PartsAt f outcome a e xs → AreRising a xs
all_rising {f} {outcome} {a} {e} deep nested (none past) = tt
all_rising {f} {outcome} {a} {e} deep nested (one {rest = rest} lt below made behind) =
    let more = nested.more a (itself a) lt in
    (itself a, rising_wider (a + 1) (end f.rows a) rest (next_up a (end f.rows a) more) (all_rising deep (narrower f a (end f.rows a) e more nested) behind))
all_rising {f} {outcome} {a} {e} deep nested (pass {below = inner} {rest = outer} lt below made behind) =
    let more = nested.more a (itself a) lt in
    rising_both a (end f.rows a) inner outer (up_to a (end f.rows a) (end f.rows a) more (itself (end f.rows a)))
    (rising_wider a (a + 1) inner (up_to a (a + 1) (a + 1) (one_more a) (itself (a + 1))) (all_rising deep (below_nested f a deep) below))
    (all_before deep (below_nested f a deep) below) (all_rising deep (narrower f a (end f.rows a) e more nested) behind)

pub rising_from : {T : Type 0} → (a : ℕ) (xs : List (ℕ × T)) → AreRising a xs → AreFrom a xs
rising_from a [] h = tt
rising_from a (p ∷ xs) h = (h.0, from_wider a (p.0 + 1) xs (past_start a p.0 h.0) (rising_from (p.0 + 1) xs h.1))
  where
    past_start : (a k : ℕ) → a ≤ k → a < k + 1
    past_start a k le = omega (arith, le)

-- ---- parts of one kind

row_joined : {T : Type 0} → (n : ℕ) (o : Option T) (xs ys : List (ℕ × T)) → with_row n o (xs ++ ys) ≡ with_row n o xs ++ ys
row_joined n None xs ys = refl
row_joined n (Some x) xs ys = refl

pub those_joined : {T : Type 0} → (kind : Part → Option T) (xs ys : Parts) → those kind (xs ++ ys) ≡ those kind xs ++ those kind ys
those_joined kind [] ys = refl
those_joined kind (p ∷ xs) ys = ap (with_row p.0 (kind p.1)) (those_joined kind xs ys) ∙ row_joined p.0 (kind p.1) (those kind xs) (those kind ys)

row_before : {T : Type 0} → (e n : ℕ) (o : Option T) (all : List (ℕ × T)) → n < e → AreBefore e all → AreBefore e (with_row n o all)
row_before e n None all lt h = h
row_before e n (Some x) all lt h = (lt, h)

those_before : {T : Type 0} → (kind : Part → Option T) (e : ℕ) (parts : Parts) → AreBefore e parts → AreBefore e (those kind parts)
those_before kind e [] h = tt
those_before kind e (p ∷ parts) h = row_before e p.0 (kind p.1) (those kind parts) h.0 (those_before kind e parts h.1)

row_from : {T : Type 0} → (a n : ℕ) (o : Option T) (all : List (ℕ × T)) → a ≤ n → AreFrom a all → AreFrom a (with_row n o all)
row_from a n None all le h = h
row_from a n (Some x) all le h = (le, h)

pub those_from : {T : Type 0} → (kind : Part → Option T) (a : ℕ) (parts : Parts) → AreFrom a parts → AreFrom a (those kind parts)
those_from kind a [] h = tt
those_from kind a (p ∷ parts) h = row_from a p.0 (kind p.1) (those kind parts) h.0 (those_from kind a parts h.1)

-- those of a kind inside a row, and behind it
pub those_parted : {T : Type 0} {n e : ℕ} {all : List (ℕ × T)} (kind : Part → Option T) (inner outer : Parts) → IsParted n e inner outer → all ≡ those kind (inner ++ outer)
    → Parted e all (those kind inner) (those kind outer)
those_parted {T} {n} {e} {all} kind inner outer h is = record {
  is = is ∙ those_joined kind inner outer;
  inside = those_before kind e inner h.inside;
  after = begins e (those kind outer) (those_from kind e outer h.after);
}

-- ---- what waits

abbrev stacks : Below → List (ℕ × SwitchLabel) → List (ℕ × Group) → List (ℕ × Catch) → Stacks
stacks a b d e = record { of_code = a; of_label = b; of_group = d; of_catch = e }

pub stacks_are : {now : Stacks} (parts : Parts) → now.of_code ≡ codes parts → now.of_label ≡ those as_case parts → now.of_group ≡ those as_group parts → now.of_catch ≡ those as_catch parts → now ≡ stacks_of parts
stacks_are {now} parts a b d e =
    ap (λ x. stacks x now.of_label now.of_group now.of_catch) a ∙ ap (λ x. stacks (codes parts) x now.of_group now.of_catch) b
    ∙ ap (λ x. stacks (codes parts) (those as_case parts) x now.of_catch) d ∙ ap (λ x. stacks (codes parts) (those as_case parts) (those as_group parts) x) e

-- the stacks of the other kinds are what they were
pub record SameOthers (old new : Stacks) : Type 0 where
  pub label : new.of_label ≡ old.of_label
  pub group : new.of_group ≡ old.of_group
  pub catch : new.of_catch ≡ old.of_catch

-- ---- the step of one row

comes_waits : {f : Facts} {outcome : Option RowType} {n stop : ℕ} {inner outer : Parts} {new : Stacks} → n < stop → PartsAt f outcome (n + 1) (end f.rows n) inner → PartsAt f outcome (end f.rows n) stop outer
    → (m : Comes) → made_at f outcome n inner ≡ m → ComesTo m n inner outer new → WaitsFrom f outcome n stop new
comes_waits {n = n} {outer = outer} lt below behind (part x) made st = record { parts = (n, x) ∷ outer; are = one lt below made behind; is = st }
comes_waits {inner = inner} {outer = outer} lt below behind through made st = record { parts = inner ++ outer; are = pass lt below made behind; is = st }
comes_waits lt below behind strange made st = absurd st

pub row_waits : {s : Source} {outcome : Option RowType} {n stop : ℕ} {old new : Stacks} → IsReadAt s n → AreDeep (facts s) → AreNested (facts s) n stop → n < stop → WaitsFrom (facts s) outcome (n + 1) stop old
    → Makes s outcome n old new → WaitsFrom (facts s) outcome n stop new
row_waits {s} {outcome} {n} {stop} {old} {new} read deep nested lt was makes =
    let f : Facts = facts s in let more = nested.more n (itself n) lt in let below : AreNested f (n + 1) (end f.rows n) = below_nested f n deep in
    let split : IsSplit f outcome (n + 1) (end f.rows n) stop was.parts = split_at below (next_up n (end f.rows n) more) (nested.inside n (itself n) lt) was.are in
    comes_waits lt split.first split.second (made_at f outcome n split.inner) refl
    (makes.makes read split.inner split.outer
    (record {
      inside = all_before deep below split.first;
      rising = all_rising deep below split.first;
      after = all_from deep (narrower f n (end f.rows n) stop more nested) split.second;
    }) (was.is ∙ ap stacks_of split.is))

-- before the last row nothing waits
pub none_waits : {f : Facts} {outcome : Option RowType} {n stop : ℕ} → stop ≤ n → WaitsFrom f outcome n stop (stacks_of [])
none_waits past = record { parts = []; are = none past; is = refl }
