-- The rows of the faults of a rule, and the faults of a list.
use Rattle.std.proofs.Common.{◌≡◌, refl, sym, ◌∙◌, ap, subst, ⊎_elim, arith, ℕ, zero, suc, ◌<◌, Bool, true, false, cond, List, [], ◌∷◌, length, get_or, nat_eq, Contains}
use Rattle.std.proofs.lemmas.Bool.{false≢true, or_cases, or_left, or_right}
use Rattle.std.proofs.lemmas.Bool.Decides.{Decides-eqb}
use Rattle.jr_plain.specs.Search.{has, all_such}
use Rattle.jr_plain.proofs.Searches.{such}
use Rattle.jr_rule.specs.declared.Fault.{Fault}
use Rattle.jr_rule.specs.declared.Rule.{Rule}
use Rattle.jr_rule.specs.Numbers.{number_of}
use Rattle.jr_rule.specs.Faults.{is_of, rows_of, AreFaultsOf}

-- ---- from a fault to the rows of its rule

with_first : (b : Bool) (n x : ℕ) (rest : List ℕ) → has rest n ≡ true → has (cond b (x ∷ rest) rest) n ≡ true
with_first true n x rest h = or_right (nat_eq x n) (has rest n) h
with_first false n x rest h = h

listed_at : (one : Rule) (faults : List Fault) (k : ℕ) (d : Fault) → k < length faults → number_of (get_or faults k d).rule ≡ number_of one → has (rows_of one faults) (get_or faults k d).row ≡ true
listed_at one [] k d lt e = absurd (omega arith)
listed_at one (x ∷ xs) zero d lt e = subst (λ b. has (cond b (x.row ∷ rows_of one xs) (rows_of one xs)) x.row ≡ true) (sym ((Decides-eqb (number_of x.rule) (number_of one)).1 e))
    (or_left (nat_eq x.row x.row) (has (rows_of one xs) x.row) ((Decides-eqb x.row x.row).1 refl))
listed_at one (x ∷ xs) (suc k) d lt e = with_first (is_of one x) (get_or xs k d).row x.row (rows_of one xs) (listed_at one xs k d (omega arith) e)

pub listed : (one : Rule) (faults : List Fault) (fault : Fault) → Contains faults fault → number_of fault.rule ≡ number_of one → has (rows_of one faults) fault.row ≡ true
listed one faults fault h e = subst (λ (f : Fault). has (rows_of one faults) f.row ≡ true) h.2
    (listed_at one faults h.0 fault h.1 (ap (λ (f : Fault). number_of f.rule) h.2 ∙ e))

-- ---- and back

-- the list has a fault of a rule of this number at this row
pub record HasFault (faults : List Fault) (k n : ℕ) : Type 0 where
  pub fault : Fault
  pub member : Contains faults fault
  pub number : number_of fault.rule ≡ k
  pub row : fault.row ≡ n

pub none_in : (k n : ℕ) → HasFault [] k n → ⊥
none_in k n h = let lt = h.member.1 in absurd (omega arith)

later : (x : Fault) (xs : List Fault) (k n : ℕ) → HasFault xs k n → HasFault (x ∷ xs) k n
later x xs k n h = let lt = h.member.1 in record { fault = h.fault; member = (suc h.member.0, omega arith, h.member.2); number = h.number; row = h.row }

first_or_later : (one : Rule) (x : Fault) (xs : List Fault) (n : ℕ) (b : Bool) → is_of one x ≡ b → (has (rows_of one xs) n ≡ true → HasFault xs (number_of one) n) → has (cond b (x.row ∷ rows_of one xs) (rows_of one xs)) n ≡ true
    → HasFault (x ∷ xs) (number_of one) n
first_or_later one x xs n true is rest h = ⊎_elim (λ same. record { fault = x; member = (0, omega arith, refl); number = (Decides-eqb (number_of x.rule) (number_of one)).0 is; row = (Decides-eqb x.row n).0 same })
    (λ more. later x xs (number_of one) n (rest more)) (or_cases (nat_eq x.row n) (has (rows_of one xs) n) h)
first_or_later one x xs n false is rest h = later x xs (number_of one) n (rest h)

pub fault_of : (one : Rule) (faults : List Fault) (n : ℕ) → has (rows_of one faults) n ≡ true → HasFault faults (number_of one) n
fault_of one [] n h = absurd (false≢true h)
fault_of one (x ∷ xs) n h = first_or_later one x xs n (is_of one x) refl (fault_of one xs n) h

-- ---- where the rows are those that pass a test

module _ {faults : List Fault} (one : Rule) (end : ℕ) (test : ℕ → Bool) (h : AreFaultsOf one (all_such end test) [] faults) where
  pub passes : (fault : Fault) → Contains faults fault → number_of fault.rule ≡ number_of one → test fault.row ≡ true
  passes fault inside e = ((such test end fault.row).0 (subst (λ (rows : List ℕ). has rows fault.row ≡ true) h.are (listed one faults fault inside e))).1

  pub found : (n : ℕ) → n < end → test n ≡ true → HasFault faults (number_of one) n
  found n lt is = fault_of one faults n (subst (λ (rows : List ℕ). has rows n ≡ true) (sym h.are) ((such test end n).1 (lt, is)))
