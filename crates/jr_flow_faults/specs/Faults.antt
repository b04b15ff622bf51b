-- The faults of the rules on flow, and where the rules on reaching and completing are broken (JLS 8.4.7, 8.6, 8.7, 14.15, 14.16, 14.21).
use Rattle.std.specs.Prelude.{◌≡◌, ℕ, Bool, true, ◌||◌, List, length}
use Rattle.jr_tree.specs.Rows.{Rows, label}
use Rattle.jr_defs.specs.Referents.{Table}
use Rattle.jr_plain.specs.Search.{all_such}
use Rattle.jr_rule.specs.declared.Fault.{Fault}
use Rattle.jr_rule.specs.declared.Rule.{Rule}
use Rattle.jr_rule.specs.declared.Rule.TheVariants as rule
use Rattle.jr_rule.specs.Faults.{AreFaultsOf}
use Rattle.jr_faults.specs.Added.{is_rule}
use Rattle.jr_reach.specs.Statements.{Facts, Entries, AreCourses, courses}
use Rattle.jr_reach.specs.Reached.{Reached, AreReached, reached}
use Rattle.jr_reach.specs.Faults.{is_lost, is_unreached, completes_wrongly}
use Rattle.jr_view.specs.declared.View.{View}
use Rattle.jr_flow_faults.specs.Known.{AreKnown}
use Rattle.jr_flow_faults.specs.Computed.{rows_in, table_in, facts_in}
use Rattle.jr_flow_faults.specs.Exceptions.{IsUncaught, IsUnthrown, IsCovered}
use Rattle.jr_flow_faults.specs.Outwards.{completing}
use Rattle.jr_flow_faults.specs.ExceptionTests.{uncaught_rows, unthrown_rows}
use Rattle.jr_flow_faults.specs.Reading.{types_in, completes_in}

-- by what is known of the rows: 36, the first of statements that cannot be reached, and 37, a body that completes otherwise than it may
pub data BreaksFlow (p : Rows) (t : Table) : ℕ → ℕ → Type 0 where
  unreached : {f : Facts} {e : Entries} {known : Reached} {n : ℕ} → AreKnown p t f → AreCourses p f e → AreReached p f e known → is_unreached p known n ≡ true → BreaksFlow p t 36 n
  completes : {f : Facts} {e : Entries} {n : ℕ} → AreKnown p t f → AreCourses p f e → completes_wrongly (label p n) (e n).own.completes ≡ true → BreaksFlow p t 37 n

-- likewise, where the rules on exceptions are broken (8.4.6, 8.6, 8.7, 8.8.5, 11.2, 14.20)
pub data BreaksThrown (p : Rows) (t : Table) : ℕ → ℕ → Type 0 where
  uncaught : {f : Facts} {e : Entries} {n : ℕ} → AreKnown p t f → AreCourses p f e → IsUncaught p t (completing e) n → BreaksThrown p t 41 n
  unthrown : {f : Facts} {e : Entries} {n : ℕ} → AreKnown p t f → AreCourses p f e → IsUnthrown p t (completing e) n → BreaksThrown p t 42 n
  covered : {n : ℕ} → IsCovered p t n → BreaksThrown p t 43 n

-- ---- the rows that break a rule by these facts

abbrev pub lost_rows : Rows → Facts → List ℕ
lost_rows p f = all_such (length p) (λ n. is_lost (label p n) f n)

abbrev pub unreached_rows : Rows → Facts → List ℕ
unreached_rows p f = all_such (length p) (is_unreached p (reached p f))

abbrev pub completing_rows : Rows → Facts → List ℕ
completing_rows p f = all_such (length p) (λ n. completes_wrongly (label p n) (courses p f n).own.completes)

-- ---- what is added

-- the rules on exceptions: neither caught nor declared, never thrown, and caught before
abbrev pub is_of_exceptions : Rule → Bool
is_of_exceptions one = is_rule rule.UncaughtException one || (is_rule rule.UnthrownCatch one || is_rule rule.CoveredCatch one)

-- those that are found by following what is thrown
abbrev pub is_followed : Rule → Bool
is_followed one = is_rule rule.UncaughtException one || is_rule rule.UnthrownCatch one

-- those on jumps, reaching and completing, and all on flow
abbrev pub is_of_reach : Rule → Bool
is_of_reach one = is_rule rule.Jump one || (is_rule rule.Unreachable one || is_rule rule.Completion one)

abbrev pub is_of_flow : Rule → Bool
is_of_flow one = is_of_reach one || is_of_exceptions one

-- the faults of jumps, reaching and completing by these facts
pub record AreReachFaults (p : Rows) (f : Facts) (old new : List Fault) : Type 0 where
  pub jumps : AreFaultsOf rule.Jump (lost_rows p f) old new
  pub unreached : AreFaultsOf rule.Unreachable (unreached_rows p f) old new
  pub completing : AreFaultsOf rule.Completion (completing_rows p f) old new

-- those by what is known of the rows of the view
abbrev pub AreFlowFaults : View → List Fault → List Fault → Type 0
AreFlowFaults view old new = AreReachFaults (rows_in view) (facts_in view) old new

-- the faults of checked classes that are neither caught nor declared, and of catches of what no body throws
pub record AreThrowFaults (view : View) (old new : List Fault) : Type 0 where
  pub uncaught : AreFaultsOf rule.UncaughtException (uncaught_rows (rows_in view) (table_in view) (types_in view) (completes_in view)) old new
  pub unthrown : AreFaultsOf rule.UnthrownCatch (unthrown_rows (rows_in view) (table_in view) (types_in view) (completes_in view)) old new
