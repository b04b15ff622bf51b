-- Faults that are added, rule by rule.
use Rattle.std.proofs.Common.{◌≡◌, refl, sym, ◌∙◌, ap, ap₂, subst, add-one, ℕ, zero, suc, ◌+◌, Bool, true, false, cond, ◌||◌, List, [], ◌∷◌, ◌++◌, append_assoc, append-nil}
use Rattle.std.proofs.lemmas.Bool.{or_parts}
use Rattle.std.proofs.lemmas.Bool.Decides.{Decides-eqb}
use Rattle.jr_plain.specs.Search.{all_such}
use Rattle.jr_rule.specs.declared.Fault.{Fault}
use Rattle.jr_rule.specs.declared.Rule.{Rule}
use Rattle.jr_rule.specs.Numbers.{number_of}
use Rattle.jr_rule.specs.Faults.{is_of, rows_of, AreFaultsOf}
use Rattle.jr_faults.specs.Added.{row_if, is_rule, AreOnly}

pub rows_append : (r : Rule) (xs ys : List Fault) → rows_of r (xs ++ ys) ≡ rows_of r xs ++ rows_of r ys
rows_append r [] ys = refl
rows_append r (x ∷ xs) ys = by (is_of r x) (rows_append r xs ys)
  where
    by : {more : List ℕ} (b : Bool) → more ≡ rows_of r xs ++ rows_of r ys → cond b (x.row ∷ more) more ≡ cond b (x.row ∷ rows_of r xs) (rows_of r xs) ++ rows_of r ys
    by true e = ap (λ l. x.row ∷ l) e
    by false e = e

abbrev fault_at : Rule → ℕ → Fault
fault_at rule n = record { row = n; rule = rule }

-- ---- one fault

pub none_added : (r : Rule) (old : List Fault) → AreFaultsOf r [] old old
none_added r old = record { are = sym (append-nil (rows_of r old)) }

pub own_pushed : (r : Rule) (n : ℕ) (old new : List Fault) → new ≡ old ++ fault_at r n ∷ [] → AreFaultsOf r (row_if true n) old new
own_pushed r n old new is = record { are = ap (rows_of r) is ∙ rows_append r old (fault_at r n ∷ []) ∙ ap (λ l. rows_of r old ++ l) (ap (λ b. cond b (n ∷ []) []) ((Decides-eqb (number_of r) (number_of r)).1 refl)) }

pub own_kept : (r : Rule) (n : ℕ) (old : List Fault) → AreFaultsOf r (row_if false n) old old
own_kept r n old = none_added r old

pub only_kept : (is_such : Rule → Bool) (old : List Fault) → AreOnly is_such old old
only_kept is_such old = record { others = λ one apart. none_added one old }

pub only_pushed : (r : Rule) (n : ℕ) (old new : List Fault) → new ≡ old ++ fault_at r n ∷ [] → AreOnly (is_rule r) old new
only_pushed r n old new is = record { others = λ one apart. record { are = ap (rows_of one) is ∙ rows_append one old (fault_at r n ∷ []) ∙ ap (λ l. rows_of one old ++ l) (ap (λ b. cond b (n ∷ []) []) apart) } }

-- ---- one after the other

pub added_then : {old mid new : List Fault} {xs ys : List ℕ} (r : Rule) → AreFaultsOf r xs old mid → AreFaultsOf r ys mid new → AreFaultsOf r (xs ++ ys) old new
added_then {old} {mid} {new} {xs} {ys} r h k = record { are = k.are ∙ ap (λ l. l ++ ys) h.are ∙ append_assoc (rows_of r old) xs ys }

pub none_then : {old mid new : List Fault} {ys : List ℕ} (r : Rule) → AreFaultsOf r [] old mid → AreFaultsOf r ys mid new → AreFaultsOf r ys old new
none_then {ys = ys} r h k = added_then {xs = []} {ys = ys} r h k

pub then_none : {old mid new : List Fault} {xs : List ℕ} (r : Rule) → AreFaultsOf r xs old mid → AreFaultsOf r [] mid new → AreFaultsOf r xs old new
then_none {old} {mid} {new} {xs} r h k = subst (λ l. AreFaultsOf r l old new) (append-nil xs) (added_then {xs = xs} {ys = []} r h k)

pub only_then : {f g : Rule → Bool} {old mid new : List Fault} → AreOnly f old mid → AreOnly g mid new → AreOnly (λ one. f one || g one) old new
only_then {f} {g} h k = record { others = λ one apart. let parts = or_parts (f one) (g one) apart in none_then one (h.others one parts.0) (k.others one parts.1) }

-- ---- the rows so far

pub row_more : {old now new : List Fault} (n : ℕ) (r : Rule) (test : ℕ → Bool) → AreFaultsOf r (all_such n test) old now → AreFaultsOf r (row_if (test n) n) now new → AreFaultsOf r (all_such (n + 1) test) old new
row_more {old} {now} {new} n r test h k = subst (λ m. AreFaultsOf r (all_such m test) old new) (sym (add-one n)) (added_then r h k)

-- a row at which the rule is not broken
pub row_none : {old now : List Fault} (n : ℕ) (r : Rule) (test : ℕ → Bool) → AreFaultsOf r (all_such n test) old now → test n ≡ false → AreFaultsOf r (all_such (n + 1) test) old now
row_none {old} {now} n r test h e = row_more {now = now} n r test h (subst (λ b. AreFaultsOf r (row_if b n) now now) (sym e) (none_added r now))

such_same : (f g : ℕ → Bool) (n : ℕ) → ((k : ℕ) → f k ≡ g k) → all_such n f ≡ all_such n g
such_same f g n same = by n
  where
    by : (m : ℕ) → all_such m f ≡ all_such m g
    by zero = refl
    by (suc m) = ap₂ (λ xs b. xs ++ cond b (m ∷ []) []) (by m) (same m)

-- tests that say the same
pub rows_told : {old new : List Fault} (f g : ℕ → Bool) (n : ℕ) (r : Rule) → ((k : ℕ) → f k ≡ g k) → AreFaultsOf r (all_such n f) old new → AreFaultsOf r (all_such n g) old new
rows_told {old} {new} f g n r same h = subst (λ l. AreFaultsOf r l old new) (such_same f g n same) h

-- a test that says the same at the row
pub told_at : {old new : List Fault} {a b : Bool} (r : Rule) (n : ℕ) → a ≡ b → AreFaultsOf r (row_if a n) old new → AreFaultsOf r (row_if b n) old new
told_at {old} {new} r n e h = subst (λ c. AreFaultsOf r (row_if c n) old new) e h

-- of the same rules twice
pub only_more : {f : Rule → Bool} {old mid new : List Fault} → AreOnly f old mid → AreOnly f mid new → AreOnly f old new
only_more h k = record { others = λ one apart. none_then one (h.others one apart) (k.others one apart) }
