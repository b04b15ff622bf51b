-- In the rows of shaped units the body of a constructor has one call of a constructor at most, as its first statement (JLS 8.8.7).
use Rattle.std.proofs.Common.{◌≡◌, ◌⊎◌, inl, inr, sym, ◌∙◌, ap, subst, arith, ℕ, suc, ◌+◌, ◌<◌, ◌≤◌, true, List, [], ◌∷◌, ◌++◌, length, length-append}
use Rattle.std.specs.List.{AllByRecursion}
use Rattle.std.proofs.lemmas.Bool.{false≢true}
use Rattle.std.proofs.Math.ListN.{get_or-append}
use Rattle.std.proofs.lemmas.List.{get_or-append-add, get_or_default, get_or_past}
use Rattle.jr_tree.specs.declared.tree.Unit as declared_unit
use Rattle.jr_tree.specs.declared.row.Row.{Row}
use Rattle.jr_tree.specs.declared.label.Label.{Label}
use Rattle.jr_tree.specs.declared.label.Label.TheVariants as is
use Rattle.jr_tree.specs.Shape.{IsShaped}
use Rattle.jr_tree.specs.Forest.{Forest, none, more, size}
use Rattle.jr_tree.specs.Rows.{Rows, rows_from, row, label, parent, end, program_rows}
use Rattle.jr_tree.specs.Tree.{IsTree}
use Rattle.jr_tree.proofs.Trees.{at_index, nothing, past, length_rows, each_program_is_tree, units_forest}
use Rattle.jr_tree.proofs.Locals.{HasRows, side, which, program_has_rows}
use Rattle.jr_rules.specs.CreationTests.{is_this_call}
use Rattle.jr_type_facts.specs.Rounds.{HaveOneCall}
use Rattle.jr_type_facts.proofs.CallTrees.{IsNoCall, HasNoCall, CallsFirst, CallsInLast, CallsInBodies, units_call}

-- ---- where calls stand

no_this : (l : Label) → IsNoCall l → is_this_call l ≡ true → ⊥
no_this (is.ConstructorCall w) h e = absurd h
no_this _ h e = false≢true e

module _ (p : Rows) where
  -- it stands first in what is last in the row over it
  record StandsFirst (n : ℕ) : Type 0 where
    deep : 0 < parent p n
    first : parent p n + 1 ≡ n
    last : end p (parent p n) ≡ end p (parent p (parent p n))

  abbrev Calls : ℕ → Type 0
  Calls n = is_this_call (label p n) ≡ true

  not_here : (n at : ℕ) (l : Label) → n ≡ at → label p at ≡ l → IsNoCall l → Calls n → ⊥
  not_here n at l q e h calls = no_this l h (ap is_this_call (sym e ∙ ap (label p) (sym q)) ∙ calls)

  none_calls : (f : Forest) (over at : ℕ) → HasRows p over at f → HasNoCall f → (n : ℕ) → at ≤ n → n < at + size f → Calls n → ⊥
  none_calls none over at w h n ge lt calls = omega arith
  none_calls (more l x kids rest) over at w h n ge lt calls = elim (which n at (at + 1 + size kids) ge) [
    | inl q ↦ not_here n at l q w.0 h.0 calls
    | inr k ↦ elim k [
      | inl k ↦ none_calls kids at (at + 1) w.3 h.1 n k.0 k.1 calls
      | inr k ↦ none_calls rest over (at + 1 + size kids) w.4 h.2 n k (omega arith) calls
    ]
  ]

  first_calls : (f : Forest) (over at : ℕ) → 0 < over → over + 1 ≡ at → end p over ≡ end p (parent p over) → HasRows p over at f → CallsFirst f → (n : ℕ) → at ≤ n → n < at + size f → Calls n → StandsFirst n
  first_calls none over at deep next last w h n ge lt calls = absurd (omega arith)
  first_calls (more l x kids rest) over at deep next last w h n ge lt calls = elim (which n at (at + 1 + size kids) ge) [
    | inl q ↦ (let up : over ≡ parent p n = sym w.1 ∙ ap (parent p) (sym q) in record {
      deep = subst (λ m. 0 < m) up deep;
      first = ap (λ m. m + 1) (sym up) ∙ next ∙ sym q;
      last = subst (λ m. end p m ≡ end p (parent p m)) up last;
    })
    | inr k ↦ elim k [
      | inl k ↦ absurd (none_calls kids at (at + 1) w.3 h.0 n k.0 k.1 calls)
      | inr k ↦ absurd (none_calls rest over (at + 1 + size kids) w.4 h.1 n k (omega arith) calls)
    ]
  ]

  last_calls : (f : Forest) (over at : ℕ) → over < at → at + size f ≡ end p over → HasRows p over at f → CallsInLast f → (n : ℕ) → at ≤ n → n < at + size f → Calls n → StandsFirst n
  last_calls none over at low whole w h n ge lt calls = absurd (omega arith)
  last_calls (more l x kids none) over at low whole w h n ge lt calls = elim (which n at (at + 1 + size kids) ge) [
    | inl q ↦ absurd (not_here n at l q w.0 h.0 calls)
    | inr k ↦ elim k [
      | inl k ↦ (let own = w.2 in let same : end p at ≡ end p over = omega arith in
          first_calls kids at (at + 1) (omega arith) (omega arith) (same ∙ ap (end p) (sym w.1)) w.3 h.1 n k.0 k.1 calls)
      | inr k ↦ absurd (omega arith)
    ]
  ]
  last_calls (more l x kids (more m y below rest)) over at low whole w h n ge lt calls = elim (which n at (at + 1 + size kids) ge) [
    | inl q ↦ absurd (not_here n at l q w.0 h.0 calls)
    | inr k ↦ elim k [
      | inl k ↦ absurd (none_calls kids at (at + 1) w.3 h.1 n k.0 k.1 calls)
      | inr k ↦ last_calls (more m y below rest) over (at + 1 + size kids) (omega arith) (omega arith) w.4 h.2 n k (omega arith) calls
    ]
  ]

  body_calls : (f : Forest) (over at : ℕ) → HasRows p over at f → CallsInBodies f → (n : ℕ) → at ≤ n → n < at + size f → Calls n → StandsFirst n
  body_calls none over at w h n ge lt calls = absurd (omega arith)
  body_calls (more l x kids rest) over at w h n ge lt calls = elim (which n at (at + 1 + size kids) ge) [
    | inl q ↦ absurd (not_here n at l q w.0 h.0 calls)
    | inr k ↦ elim k [
      | inl k ↦ elim h.1 [
        | inl own ↦ last_calls kids at (at + 1) (omega arith) (sym w.2) w.3 own n k.0 k.1 calls
        | inr own ↦ body_calls kids at (at + 1) w.3 own n k.0 k.1 calls
      ]
      | inr k ↦ body_calls rest over (at + 1 + size kids) w.4 h.2 n k (omega arith) calls
    ]
  ]

  -- of two that are last in one row neither is before the other
  not_before : IsTree p → (b d : ℕ) → 0 < b → b < length p → end p b ≡ end p (parent p b) → end p d ≡ end p (parent p d) → parent p b ≡ parent p d → b < d → ⊥
  not_before tree b d deep inside e f same lt =
      let nested = tree.nested d in
      let ends : end p b ≡ end p d = e ∙ ap (end p) same ∙ sym f in
      let under = tree.inner b d lt (omega arith) in
      let up = tree.up b inside deep in omega arith

-- ---- programs

module _ (units : List declared_unit.Unit) (shaped : AllByRecursion IsShaped units) where
  abbrev p : Rows
  p = program_rows units

  abbrev all : Forest
  all = units_forest units

  rows : HasRows p 0 0 (more is.Program [] all none)
  rows = program_has_rows units

  past_end : (n : ℕ) → length p ≤ n → label p n ≡ is.Skip
  past_end n le = ap (λ r. r.label) (get_or_past p n (past n) le)

  within : (n : ℕ) → Calls p n → n < length p
  within n calls = elim (side n (length p)) [ inl lt ↦ lt | inr le ↦ absurd (false≢true (sym (ap is_this_call (past_end n le)) ∙ calls)) ]

  stands : (n : ℕ) → Calls p n → StandsFirst p n
  stands n calls = elim (side 0 n) [
    | inl some ↦ (let long = length_rows 0 0 0 (more is.Program [] all none) in let lt = within n calls in body_calls p all 0 1 rows.3 (units_call units shaped) n (omega arith) (omega arith) calls)
    | inr zero ↦ absurd (not_here p n 0 is.Program (omega arith) rows.0 tt calls)
  ]

  not_two : (c d : ℕ) → Calls p c → Calls p d → parent p (parent p c) ≡ parent p (parent p d) → c < d → ⊥
  not_two c d e f same lt = let k = stands c e in let j = stands d f in let inside = within c e in let one = k.first in let two = j.first in
      not_before p (each_program_is_tree units) (parent p c) (parent p d) k.deep (omega arith) k.last j.last same (omega arith)

  order : (c d : ℕ) → (c < d) ⊎ (c ≡ d) ⊎ (d < c)
  order c d = grind arith

  pub one_call : HaveOneCall p
  one_call = record {
    one = λ c d e f same. elim (order c d) [
      | inl lt ↦ absurd (not_two c d e f same lt)
      | inr k ↦ elim k [ inl is ↦ is | inr lt ↦ absurd (not_two d c f e (sym same) lt) ]
    ];
  }
