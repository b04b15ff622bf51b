-- A row is broken by the rules on exceptions just where the tests by the computed facts say so.
use Rattle.std.proofs.Common.{◌≡◌, sym, ◌∙◌, ap, subst, ⊎_elim, arith, ℕ, ◌<◌, Bool, true, [], length, Some}
use Rattle.std.proofs.Math.Path.{fun_ext}
use Rattle.std.proofs.lemmas.Bool.{false≢true, cases_lt}
use Rattle.std.proofs.lemmas.List.{get_or_past}
use Rattle.std.proofs.lemmas.Option.{none-some}
use Rattle.jr_tree.specs.declared.label.Label.TheVariants as is
use Rattle.jr_tree.specs.Local.{IsLocal}
use Rattle.jr_tree.specs.Rows.{Rows}
use Rattle.jr_defs.specs.Referents.{Table}
use Rattle.jr_plain.specs.Headed.{IsHeaded}
use Rattle.jr_plain.specs.Overloads.{Types}
use Rattle.jr_plain.specs.Search.{Finds, has, all_such}
use Rattle.jr_plain.proofs.Bounds.{bounded}
use Rattle.jr_plain.proofs.Searches.{such}
use Rattle.jr_rules.specs.Typed.{Typed}
use Rattle.jr_reach.specs.Statements.{Facts, Entries, fact, courses, AreCourses, ReadsLater, CoursesAreOne}
use Rattle.jr_reach.proofs.One.{each_has_courses}
use Rattle.jr_flow_faults.specs.Known.{AreKnown}
use Rattle.jr_flow_faults.specs.Exceptions.{IsCatchOf, IsUncaught, IsUnthrown, IsCovered}
use Rattle.jr_flow_faults.specs.ExceptionTests.{is_covered, covered_rows, is_uncaught, uncaught_rows, is_unthrown, unthrown_rows}
use Rattle.jr_flow_faults.specs.Faults.{BreaksThrown}
use Rattle.jr_flow_faults.specs.Outwards.{completing}
use Rattle.jr_flow_faults.proofs.Covered.{covered_tells}
use Rattle.jr_flow_faults.proofs.Known.{known_once}
use Rattle.jr_flow_faults.proofs.Noted.{thrower_row}
use Rattle.jr_flow_faults.proofs.Uncaught.{uncaught_tells, unthrown_tells}

-- a row that passes is listed
none_such : (test : ℕ → Bool) (n k : ℕ) → all_such n test ≡ [] → k < n → test k ≡ true → ⊥
none_such test n k none lt is = false≢true (ap (λ rows. has rows k) (sym none) ∙ (such test n k).1 (lt, is))

module _ (p : Rows) (t : Table) (local : IsLocal p) (f : Facts) (known : AreKnown p t f) where
  -- ---- the tables are read in order

  behind : (n last : ℕ) → (fact f n).last ≡ Some last → n < last
  behind n last e = ⊎_elim
      (λ lt. let h = ((known.each n lt).last last).0 e in let far = h.block.behind in omega arith)
      (λ le. let long = known.count in absurd (none-some last (ap (λ x. x.last) (sym (get_or_past f n _ (omega arith))) ∙ e)))
      (cases_lt n (length p))

  pub reads_later : ReadsLater p f
  reads_later = record { nested = local.tree.nested; behind = behind }

  one_courses : CoursesAreOne p f
  one_courses = each_has_courses p f reads_later

  one_entries : (g : Facts) (e : Entries) → AreKnown p t g → AreCourses p g e → e ≡ courses p f
  one_entries g e a b = fun_ext (one_courses.only e (courses p f) (subst (λ x. AreCourses p x e) (known_once p t g f a known) b) one_courses.computed)

  catch_in : (o k c : ℕ) → IsCatchOf p t o k c → k < length p
  catch_in o k c h = bounded (λ l. l ≡ is.Catch) (λ e. absurd (cc)) p k h.catch

  module _ (headed : IsHeaded p) (type_of : Types) (typed : (n : ℕ) → Finds (type_of n) (λ a. Typed p t n a)) where
    abbrev completes : ℕ → Bool
    completes = completing (courses p f)

    -- ---- where they say so it is broken

    pub uncaught_breaks : (n : ℕ) → is_uncaught p t type_of completes n ≡ true → BreaksThrown p t 41 n
    uncaught_breaks n h = BreaksThrown.uncaught known one_courses.computed ((uncaught_tells p t headed local completes type_of typed n).0 h)

    pub unthrown_breaks : (n : ℕ) → is_unthrown p t type_of completes n ≡ true → BreaksThrown p t 42 n
    unthrown_breaks n h = BreaksThrown.unthrown known one_courses.computed ((unthrown_tells p t headed local completes type_of typed n).0 h)

    pub covered_breaks : (n : ℕ) → is_covered p t n ≡ true → BreaksThrown p t 43 n
    covered_breaks n h = BreaksThrown.covered ((covered_tells p t headed n).0 h)

    -- ---- where it is broken they say so

    -- what follows of a row that they name follows of one that is broken
    module _ (Said : ℕ → ℕ → Type 0) (at_41 : (n : ℕ) → n < length p → is_uncaught p t type_of completes n ≡ true → Said 41 n)
        (at_42 : (n : ℕ) → n < length p → is_unthrown p t type_of completes n ≡ true → Said 42 n) (at_43 : (n : ℕ) → n < length p → is_covered p t n ≡ true → Said 43 n) where
      uncaught_said : (n : ℕ) → IsUncaught p t completes n → Said 41 n
      uncaught_said n h = at_41 n (thrower_row p t completes n h.class h.thrown) ((uncaught_tells p t headed local completes type_of typed n).1 h)

      unthrown_said : (n : ℕ) → IsUnthrown p t completes n → Said 42 n
      unthrown_said n h = at_42 n (catch_in _ n h.class h.catch) ((unthrown_tells p t headed local completes type_of typed n).1 h)

      covered_said : (n : ℕ) → IsCovered p t n → Said 43 n
      covered_said n h = at_43 n (catch_in _ n h.class h.catch) ((covered_tells p t headed n).1 h)

      pub thrown_said : (k n : ℕ) → BreaksThrown p t k n → Said k n
      thrown_said k n (BreaksThrown.uncaught {f = g} {e = e} a b h) = uncaught_said n (subst (λ x. IsUncaught p t (completing x) n) (one_entries g e a b) h)
      thrown_said k n (BreaksThrown.unthrown {f = g} {e = e} a b h) = unthrown_said n (subst (λ x. IsUnthrown p t (completing x) n) (one_entries g e a b) h)
      thrown_said k n (BreaksThrown.covered h) = covered_said n h

    -- where they name no row none is broken
    pub thrown_kept : uncaught_rows p t type_of completes ≡ [] → unthrown_rows p t type_of completes ≡ [] → covered_rows p t ≡ [] → (k n : ℕ) → BreaksThrown p t k n → ⊥
    thrown_kept no_uncaught no_unthrown no_covered = thrown_said (λ k n. ⊥) (λ n lt h. none_such (is_uncaught p t type_of completes) (length p) n no_uncaught lt h)
        (λ n lt h. none_such (is_unthrown p t type_of completes) (length p) n no_unthrown lt h) (λ n lt h. none_such (is_covered p t) (length p) n no_covered lt h)
