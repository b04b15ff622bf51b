-- The faults of jumps, reaching and completing that are added, rule by rule.
use Rattle.std.proofs.Common.{◌≡◌, refl, sym, ◌∙◌, ap, subst, ℕ, zero, suc, Bool, true, false, List, [], ◌++◌, append_assoc, append-nil, length}
use Rattle.jr_tree.specs.Rows.{Rows, label}
use Rattle.jr_plain.specs.Search.{all_such}
use Rattle.jr_rule.specs.declared.Fault.{Fault}
use Rattle.jr_rule.specs.declared.Rule.{Rule}
use Rattle.jr_rule.specs.declared.Rule.TheVariants as rule
use Rattle.jr_rule.specs.Faults.{AreFaultsOf}
use Rattle.jr_faults.specs.Added.{row_if, is_rule, AreOnly}
use Rattle.jr_faults.proofs.Told.{none_added, own_pushed, only_pushed, only_kept, added_then, none_then, then_none, only_then, only_more}
use Rattle.jr_reach.specs.declared.course.Entry.{Entry}
use Rattle.jr_reach.specs.Statements.{Facts, Entries, courses, entries, later}
use Rattle.jr_reach.specs.Reached.{Reached, reached, reaches, earlier}
use Rattle.jr_reach.specs.Faults.{is_lost, is_unreached, completes_wrongly, fault_if, faults_at, faults_below, faults}
use Rattle.jr_view.specs.declared.View.{View}
use Rattle.jr_flow_faults.specs.Computed.{rows_in, facts_in}
use Rattle.jr_flow_faults.specs.Faults.{is_of_exceptions, is_of_reach, is_of_flow, AreReachFaults, AreThrowFaults}

-- ---- one fault

own_if : (r : Rule) (n : ℕ) (b : Bool) (old new : List Fault) → new ≡ old ++ fault_if b n r → AreFaultsOf r (row_if b n) old new
own_if r n true old new is = own_pushed r n old new is
own_if r n false old new is = subst (λ xs. AreFaultsOf r [] old xs) (sym (is ∙ append-nil old)) (none_added r old)

only_if : (r : Rule) (n : ℕ) (b : Bool) (old new : List Fault) → new ≡ old ++ fault_if b n r → AreOnly (is_rule r) old new
only_if r n true old new is = only_pushed r n old new is
only_if r n false old new is = subst (λ xs. AreOnly (is_rule r) old xs) (sym (is ∙ append-nil old)) (only_kept (is_rule r) old)

module _ (p : Rows) (f : Facts) (e : Entries) (known : Reached) where
  abbrev lost : ℕ → Bool
  lost n = is_lost (label p n) f n

  abbrev completing : ℕ → Bool
  completing n = completes_wrongly (label p n) (e n).own.completes

  record AreAdded (k : ℕ) (old new : List Fault) : Type 0 where
    jumps : AreFaultsOf rule.Jump (all_such k lost) old new
    unreached : AreFaultsOf rule.Unreachable (all_such k (is_unreached p known)) old new
    completing : AreFaultsOf rule.Completion (all_such k completing) old new
    only : AreOnly is_of_reach old new

  one_row : (k : ℕ) (old now new : List Fault) → AreAdded k old now → new ≡ now ++ faults_at p f e known k → AreAdded (suc k) old new
  one_row k old now new h is =
      let a = fault_if (lost k) k rule.Jump in
      let b = fault_if (is_unreached p known k) k rule.Unreachable in
      let c = fault_if (completing k) k rule.Completion in
      let last : new ≡ ((now ++ a) ++ b) ++ c = is ∙ sym (append_assoc now (a ++ b) c) ∙ ap (λ xs. xs ++ c) (sym (append_assoc now a b)) in
      let first_only = only_if rule.Jump k (lost k) now (now ++ a) refl in
      let second_only = only_if rule.Unreachable k (is_unreached p known k) (now ++ a) ((now ++ a) ++ b) refl in
      let third_only = only_if rule.Completion k (completing k) ((now ++ a) ++ b) new last in
      record {
        jumps = added_then rule.Jump h.jumps (then_none rule.Jump (own_if rule.Jump k (lost k) now (now ++ a) refl)
            (none_then rule.Jump (second_only.others rule.Jump refl) (third_only.others rule.Jump refl)));
        unreached = added_then rule.Unreachable h.unreached (none_then rule.Unreachable (first_only.others rule.Unreachable refl)
            (then_none rule.Unreachable (own_if rule.Unreachable k (is_unreached p known k) (now ++ a) ((now ++ a) ++ b) refl) (third_only.others rule.Unreachable refl)));
        completing = added_then rule.Completion h.completing (none_then rule.Completion (first_only.others rule.Completion refl)
            (none_then rule.Completion (second_only.others rule.Completion refl) (own_if rule.Completion k (completing k) ((now ++ a) ++ b) new last)));
        only = only_more h.only (only_then first_only (only_then second_only third_only));
      }

  all_rows : (k : ℕ) (old new : List Fault) → new ≡ old ++ faults_below p f e known k → AreAdded k old new
  all_rows zero old new is = let same = is ∙ append-nil old in let none : (r : Rule) → AreFaultsOf r [] old new = λ r. subst (λ xs. AreFaultsOf r [] old xs) (sym same) (none_added r old) in
      record { jumps = none rule.Jump; unreached = none rule.Unreachable; completing = none rule.Completion; only = subst (λ xs. AreOnly is_of_reach old xs) (sym same) (only_kept is_of_reach old) }
  all_rows (suc k) old new is = one_row k old (old ++ faults_below p f e known k) new (all_rows k old (old ++ faults_below p f e known k) refl)
      (is ∙ sym (append_assoc old (faults_below p f e known k) (faults_at p f e known k)))

-- as the code makes them, from its tables
pub faults_told : (p : Rows) (f f1 f2 f3 : Facts) (all a1 a2 : List Entry) (found d : List Bool) (old mid : List Fault) → f1 ≡ f → f2 ≡ f → f3 ≡ f → all ≡ entries p f1 (length p) → a1 ≡ all → a2 ≡ all
    → found ≡ reaches p f2 (later (length p) a1) (length p) → d ≡ found → mid ≡ old ++ faults_below p f3 (later (length p) a2) (earlier d) (length p) → mid ≡ old ++ faults p f
faults_told p f f1 f2 f3 all a1 a2 found d old mid e1 e2 e3 all_are e4 e5 found_are e6 is =
    let n = length p in
    let whole : all ≡ entries p f n = all_are ∙ ap (λ x. entries p x n) e1 in
    let reached_are : d ≡ reaches p f (courses p f) n = e6 ∙ found_are ∙ ap (λ x. reaches p x (later n a1) n) e2 ∙ ap (λ a. reaches p f (later n a) n) (e4 ∙ whole) in
    is ∙ ap (λ x. old ++ faults_below p x (later n a2) (earlier d) n) e3 ∙ ap (λ a. old ++ faults_below p f (later n a) (earlier d) n) (e5 ∙ whole)
    ∙ ap (λ x. old ++ faults_below p f (courses p f) (earlier x) n) reached_are

-- as the code finds them, with faults of other rules behind
pub reach_told : (p : Rows) (f g : Facts) (old mid new : List Fault) → g ≡ f → mid ≡ old ++ faults p g → AreOnly is_of_exceptions mid new → AreReachFaults p f old new
reach_told p f g old mid new same is others = let h = all_rows p f (courses p f) (reached p f) (length p) old mid (is ∙ ap (λ x. old ++ faults p x) same) in record {
  jumps = then_none rule.Jump h.jumps (others.others rule.Jump refl);
  unreached = then_none rule.Unreachable h.unreached (others.others rule.Unreachable refl);
  completing = then_none rule.Completion h.completing (others.others rule.Completion refl);
}

pub flow_only : (p : Rows) (f : Facts) (old mid new : List Fault) → mid ≡ old ++ faults p f → AreOnly is_of_exceptions mid new → AreOnly is_of_flow old new
flow_only p f old mid new is others = only_then (all_rows p f (courses p f) (reached p f) (length p) old mid is).only others

-- nor are faults of caught classes among those of jumps, reaching and completing
pub covered_told : (p : Rows) (f : Facts) (old mid new : List Fault) (rows : List ℕ) → mid ≡ old ++ faults p f → AreFaultsOf rule.CoveredCatch rows mid new → AreFaultsOf rule.CoveredCatch rows old new
covered_told p f old mid new rows is h = none_then rule.CoveredCatch ((all_rows p f (courses p f) (reached p f) (length p) old mid is).only.others rule.CoveredCatch refl) h

-- nor those of thrown classes
pub thrown_told : (view : View) (f : Facts) (old mid new : List Fault) → mid ≡ old ++ faults (rows_in view) f → AreThrowFaults view mid new → AreThrowFaults view old new
thrown_told view f old mid new is h = let p = rows_in view in let before = (all_rows p f (courses p f) (reached p f) (length p) old mid is).only in record {
  uncaught = none_then rule.UncaughtException (before.others rule.UncaughtException refl) h.uncaught;
  unthrown = none_then rule.UnthrownCatch (before.others rule.UnthrownCatch refl) h.unthrown;
}

-- what is round the rows, from the tables
pub around_told : (view : View) (f f1 : Facts) (all : List Entry) (f2 : Facts) (a1 : List Entry) → f ≡ facts_in view → f1 ≡ f → all ≡ entries (rows_in view) f1 (length (rows_in view)) → f2 ≡ f → a1 ≡ all
    → (f2 ≡ facts_in view) × (a1 ≡ entries (rows_in view) (facts_in view) (length (rows_in view)))
around_told view f f1 all f2 a1 known e1 all_are e2 e3 = (e2 ∙ known, e3 ∙ all_are ∙ ap (λ x. entries (rows_in view) x (length (rows_in view))) (e1 ∙ known))
