-- What is sought in the code of declarations.
use Rattle.std.proofs.Common.{◌≡◌, ◌⊎◌, refl, sym, ◌∙◌, subst, ⊎_elim, inl, inr, arith, ℕ, ◌+◌, ◌<◌, ◌≤◌, ◌^◌, Bool, true, false, ◌-◌, List, length, Some, None, Decides}
use Rattle.std.proofs.lemmas.Bool.{false≢true, cases_eq}
use Rattle.std.proofs.lemmas.Option.{none-some}
use Rattle.jr_tree.specs.Rows.{Rows, label, end}
use Rattle.jr_tree.specs.Tree.{IsTree}
use Rattle.jr_defs.specs.Referents.{Table}
use Rattle.jr_plain.proofs.Bounds.{bounded}
use Rattle.jr_places.specs.declared.stamps.Stamps.{Stamps}
use Rattle.jr_places.specs.Stamps.{is_stamped}
use Rattle.jr_supers.specs.Supers.{ListsOnce}
use Rattle.jr_supers.specs.Tabled.{declared}
use Rattle.jr_view.specs.declared.View.{View}
use Rattle.jr_report.specs.Called.{AreCalledAs, IsShowing}
use Rattle.jr_report.specs.Calling.{CallsOne, HoldsSought, IsInRange, IsShownAt, IsSoughtAt, IsSoughtIn, view_rows}
use Rattle.jr_report.specs.Calls.{IsCallerOf, IsRunBy, has_code, is_call, shows_object}
use Rattle.jr_report.specs.Listed.{table_in}
use Rattle.jr_report.specs.Reports.{types_in}
use Rattle.jr_report.proofs.Referring.{declared_is, declared_so, once_same}

-- ---- calls

module _ (p : Rows) (t : Table) (called : Stamps) (n : ℕ) where
  pub no_call : is_call (label p n) ≡ false → Decides false (CallsOne p t called n)
  no_call fails = (λ e. absurd (false≢true e), λ c. absurd (false≢true (sym fails ∙ c.call.call)))

  pub no_target : declared (t n) ≡ None → Decides false (CallsOne p t called n)
  no_target none = (λ e. absurd (false≢true e), λ c. absurd (none-some c.method (sym none ∙ declared_is (t n) c.method c.call.level c.call.target)))

  one_target : (k : ℕ) → declared (t n) ≡ Some k → CallsOne p t called n → is_stamped called k ≡ true
  one_target k some c = subst (λ x. is_stamped called x ≡ true) (some_same (sym (declared_is (t n) c.method c.call.level c.call.target) ∙ some)) c.stamped
    where
      some_same : {a b : ℕ} → Some a ≡ Some b → a ≡ b
      some_same e = cc

  pub target_if : (k : ℕ) (is : Bool) → is_call (label p n) ≡ true → declared (t n) ≡ Some k → is ≡ is_stamped called k → Decides is (CallsOne p t called n)
  target_if k is call some same = (
    λ e. let w = declared_so (t n) k some in record { method = k; call = record { call = call; level = w.0; target = w.1 }; stamped = sym same ∙ e },
    λ c. same ∙ one_target k some c,
  )

-- ---- conversions

module _ (view : View) (shows : Bool) (n : ℕ) where
  pub not_sought : shows ≡ false → Decides false (IsShownAt view shows n)
  not_sought fails = (λ e. absurd (false≢true e), λ s. absurd (false≢true (sym fails ∙ s.sought)))

  pub shown_if : (r : Bool) → shows ≡ true → r ≡ shows_object (view_rows view) (types_in view) n → Decides r (IsShownAt view shows n)
  shown_if r sought same = (λ e. record { sought = sought; shown = sym same ∙ e }, λ s. same ∙ s.shown)

-- ---- rows

module _ (view : View) (called : Stamps) (shows : Bool) where
  pub sought_call : (n : ℕ) (is : Bool) → is ≡ true → Decides is (CallsOne (view_rows view) (table_in view.sight.world) called n) → Decides true (IsSoughtAt view called shows n)
  sought_call n is e d = (λ h. inl (d.0 e), λ h. refl)

  pub sought_shown : (n : ℕ) (is r : Bool) → is ≡ false → Decides is (CallsOne (view_rows view) (table_in view.sight.world) called n) → Decides r (IsShownAt view shows n) → Decides r (IsSoughtAt view called shows n)
  sought_shown n is r fails d shown = (λ e. inr (shown.0 e), ⊎_elim (λ c. absurd (false≢true (sym fails ∙ d.1 c))) (λ w. shown.1 w))

  -- ---- code

  -- no row up to this one is sought
  pub record HasNoneYet (first at : ℕ) : Type 0 where
    pub none : (n : ℕ) → first ≤ n → n < at → IsSoughtAt view called shows n → ⊥

  pub none_yet : (first : ℕ) → HasNoneYet first first
  none_yet first = record { none = λ n from before is. absurd (omega (arith, from, before)) }

  pub none_more : (first at : ℕ) (is : Bool) → HasNoneYet first at → is ≡ false → Decides is (IsSoughtAt view called shows at) → HasNoneYet first (at + 1)
  none_more first at is h fails d = record { none = λ n from before sought. ⊎_elim (λ (e : n ≡ at). false≢true (sym fails ∙ d.1 (subst (IsSoughtAt view called shows) e sought))) (λ less. h.none n from less sought) (last_or n at before) }
    where
      last_or : (n at : ℕ) → n < at + 1 → (n ≡ at) ⊎ (n < at)
      last_or n at lt = ⊎_elim (λ e. inl e) (λ apart. inr (omega (arith, lt, apart))) (cases_eq n at)

  pub holds_now : (first at stop : ℕ) (is : Bool) → first ≤ at → at < stop → is ≡ true → Decides is (IsSoughtAt view called shows at) → Decides true (HoldsSought view called shows first stop)
  holds_now first at stop is from before e d = (λ h. record { row = at; from = from; before = before; sought = d.0 e }, λ h. refl)

  pub holds_none : (first at stop : ℕ) → stop ≤ at → HasNoneYet first at → Decides false (HoldsSought view called shows first stop)
  holds_none first at stop le h = (λ e. absurd (false≢true e), λ w. let lt = w.before in absurd (h.none w.row w.from (omega (arith, lt, le)) w.sought))

  pub no_code : (b : ℕ) → has_code (label (view_rows view) b) ≡ false → Decides false (IsSoughtIn view called shows b)
  no_code b fails = (λ e. absurd (false≢true e), λ s. absurd (false≢true (sym fails ∙ s.code)))

  pub code_if : (b stop : ℕ) (is : Bool) → has_code (label (view_rows view) b) ≡ true → stop ≡ end (view_rows view) b → Decides is (HoldsSought view called shows b stop) → Decides is (IsSoughtIn view called shows b)
  code_if b stop is code same d = (
    λ e. record { code = code; holds = subst (λ s. HoldsSought view called shows b s) same (d.0 e) },
    λ s. d.1 (subst (λ x. HoldsSought view called shows b x) (sym same) s.holds),
  )

  pub code_below : (b : ℕ) → IsSoughtIn view called shows b → b < length (view_rows view)
  code_below b s = bounded (λ l. has_code l ≡ true) (λ e. false≢true e) (view_rows view) b s.code

  pub in_range : (b count : ℕ) → IsTree (view_rows view) → count ≡ length (view_rows view) → b < count → count < 2 ^ 32 - 1 → IsInRange view b
  in_range b count tree same lt few = let stop = tree.last b (omega (arith, lt, same)) in record { start = omega (arith, lt, few); stop = omega (arith, stop, same, few) }

  -- ---- callers

  module _ (m : ℕ) (calls : AreCalledAs (view_rows view) (table_in view.sight.world) m called) (shown : Decides shows (IsShowing (view_rows view) called)) where
    run_by : (n : ℕ) → IsSoughtAt view called shows n → IsRunBy (view_rows view) (table_in view.sight.world) (types_in view) m n
    run_by n (inl c) = IsRunBy.calls c.call ((calls c.method).0 c.stamped)
    run_by n (inr w) = let s = shown.0 w.sought in IsRunBy.shows w.shown s.is ((calls s.method).0 s.stamped)

    by_run : (n : ℕ) → IsRunBy (view_rows view) (table_in view.sight.world) (types_in view) m n → IsSoughtAt view called shows n
    by_run n (IsRunBy.calls {k = k} call runs) = inl (record { method = k; call = call; stamped = (calls k).1 runs })
    by_run n (IsRunBy.shows {k = k} object is runs) = inr (record { sought = shown.1 (record { method = k; is = is; stamped = (calls k).1 runs }); shown = object })

    pub callers_listed : (all rows : List ℕ) → rows ≡ all → ListsOnce all (IsSoughtIn view called shows) → ListsOnce rows (IsCallerOf (view_rows view) (table_in view.sight.world) (types_in view) m)
    callers_listed all rows same lists = once_same all rows same lists
        (λ b s. record { row = s.holds.row; inside = record { code = s.code; from = s.holds.from; to = s.holds.before }; runs = run_by s.holds.row s.holds.sought })
        (λ b c. record { code = c.inside.code; holds = record { row = c.row; from = c.inside.from; before = c.inside.to; sought = by_run c.row c.runs } })
