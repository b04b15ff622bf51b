-- What is known of rows is read as the definition says, and there is one of it.
use Rattle.std.proofs.Common.{add-one, le_antisymm, ◌≡◌, refl, sym, ◌∙◌, ap, subst, arith, ℕ, zero, suc, ◌+◌, ◌<◌, Bool, true, false, if◌then◌else◌, List, length, Option, Some, None}
use Rattle.std.proofs.lemmas.Bool.{ltb-false}
use Rattle.std.proofs.lemmas.List.{ext_get_or}
use Rattle.jr_tree.specs.Rows.{Rows, label, end}
use Rattle.jr_tree.specs.Tree.{IsTree}
use Rattle.jr_defs.specs.Referents.{Table}
use Rattle.jr_places.specs.Tabulated.{tabulated}
use Rattle.jr_places.proofs.Tables.{length-tabulated, tabulated_at}
use Rattle.jr_reach.specs.Statements as flow
use Rattle.jr_assign.specs.declared.fact.Fact.{Fact}
use Rattle.jr_assign.specs.declared.fact.Way.{Way}
use Rattle.jr_assign.specs.Assigned.{is_last}
use Rattle.jr_assign.specs.Changes.{Facts, fact, members}
use Rattle.jr_assign.proofs.Inside.{not_true, last_told, child_ends}
use Rattle.jr_assign_faults.specs.declared.operands.Operand.{Operand}
use Rattle.jr_assign_faults.specs.Changed.{operands}
use Rattle.jr_assign_faults.specs.Known.{bare, is_paren, fact_by, IsReadAt, AreRead, AreKnown}

-- ---- parentheses

pub bare_more : (p : Rows) (k n : ℕ) → is_paren (label p n) ≡ true → bare p (k + 1) n ≡ bare p k (n + 1)
bare_more p k n e = ap (λ j. bare p j n) (add-one k) ∙ ap (λ b. if b then bare p k (n + 1) else n) e

pub bare_stops : (p : Rows) (k n : ℕ) → is_paren (label p n) ≡ false → bare p k n ≡ n
bare_stops p zero n e = refl
bare_stops p (suc k) n e = ap (λ b. if b then bare p k (n + 1) else n) e

-- ---- what is read

abbrev no_fact : Fact
no_fact = record { truth = None; way = None; last = None; has_default = false; read = None; assigned = None }

read_itself : (p : Rows) (t : Table) (f : flow.Facts) (held : List ℕ) (all : List Operand) (lasts : List (Option ℕ)) (n : ℕ) → IsReadAt p t f held all n (fact_by p t f held all lasts n)
read_itself p t f held all lasts n = record { truth = refl; way = refl; default = refl; read = refl; assigned = refl }

pub facts_read : (p : Rows) (t : Table) (f g : flow.Facts) (held : List ℕ) (all : List Operand) (lasts : List (Option ℕ)) (count : ℕ) (facts : Facts) → count ≡ length p → f ≡ g → held ≡ members p (length p) → all ≡ operands p (length p)
    → facts ≡ tabulated (fact_by p t f held all lasts) count → AreRead p t g facts
facts_read p t f g held all lasts count facts whole same h o told = let is : facts ≡ tabulated (fact_by p t f held all lasts) (length p) = told ∙ ap (λ k. tabulated (fact_by p t f held all lasts) k) whole in subst (λ (g : flow.Facts). AreRead p t g facts) same (record {
  count = ap length is ∙ length-tabulated (fact_by p t f held all lasts) (length p);
  each = λ n lt. subst (λ (held : List ℕ). IsReadAt p t f held (operands p (length p)) n (fact facts n)) h
      (subst (λ (all : List Operand). IsReadAt p t f held all n (fact facts n)) o
      (subst (λ (known : Fact). IsReadAt p t f held all n known) (sym (ap (λ (facts : Facts). fact facts n) is ∙ tabulated_at (fact_by p t f held all lasts) no_fact (length p) n lt)) (read_itself p t f held all lasts n)));
})

-- ---- there is one

module _ (p : Rows) (tree : IsTree p) where
  past_last : (n c : ℕ) → is_last None p n ≡ true → is_last (Some c) p n ≡ true → ⊥
  past_last n c none some = let last = last_told p tree n c some in let after = last.child.0 in let inside = (child_ends p tree n c last.child).0 in
      let ends = ltb-false (n + 1) (end p n) (not_true _ none) in absurd (omega arith)

  last_once : (n : ℕ) (x y : Option ℕ) → is_last x p n ≡ true → is_last y p n ≡ true → x ≡ y
  last_once n None None a b = refl
  last_once n None (Some c) a b = absurd (past_last n c a b)
  last_once n (Some c) None a b = absurd (past_last n c b a)
  last_once n (Some c) (Some d) a b = let one = last_told p tree n c a in let other = last_told p tree n d b in ap Some (le_antisymm (other.last c one.child) (one.last d other.child))

  abbrev made : Option Bool → Option Way → Option ℕ → Bool → Option ℕ → Option ℕ → Fact
  made truth way last default read assigned = record { truth = truth; way = way; last = last; has_default = default; read = read; assigned = assigned }

  fact_once : (x y : Fact) → x.truth ≡ y.truth → x.way ≡ y.way → x.last ≡ y.last → x.has_default ≡ y.has_default → x.read ≡ y.read → x.assigned ≡ y.assigned → x ≡ y
  fact_once x y truth way last default read assigned = ap (λ truth. made truth x.way x.last x.has_default x.read x.assigned) truth
      ∙ ap (λ way. made y.truth way x.last x.has_default x.read x.assigned) way
      ∙ ap (λ last. made y.truth y.way last x.has_default x.read x.assigned) last
      ∙ ap (λ default. made y.truth y.way y.last default x.read x.assigned) default
      ∙ ap (λ read. made y.truth y.way y.last y.has_default read x.assigned) read
      ∙ ap (λ assigned. made y.truth y.way y.last y.has_default y.read assigned) assigned

  pub known_once : (t : Table) (f : flow.Facts) (a b : Facts) → AreKnown p t f a → AreKnown p t f b → a ≡ b
  known_once t f a b h k = ext_get_or no_fact a b (h.read.count ∙ sym k.read.count) (λ n lt.
      let inside : n < length p = let long = h.read.count in omega arith in
      let one = h.read.each n inside in let other = k.read.each n inside in
      fact_once (fact a n) (fact b n) (one.truth ∙ sym other.truth) (one.way ∙ sym other.way) (last_once n (fact a n).last (fact b n).last (h.lasts n) (k.lasts n))
      (one.default ∙ sym other.default) (one.read ∙ sym other.read) (one.assigned ∙ sym other.assigned))
