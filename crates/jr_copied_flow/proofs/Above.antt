-- The copy of a body that stands further up has the edges of the body: the body is a copy of it.
use Rattle.std.proofs.Common.{◌≡◌, refl, sym, ◌∙◌, ap, subst, ⊎_elim, arith, ℕ, ◌+◌, ◌≤◌, length, Option, Some, None, option_and_then}
use Rattle.jr_tree.specs.Rows.{Rows, end, role_at}
use Rattle.jr_tree.specs.Tree.{IsTree}
use Rattle.jr_defs.specs.declared.referent.Referent.{Referent}
use Rattle.jr_defs.specs.declared.referent.Referent.TheVariants.{Unbound, Ambiguous, ArrayLength, Package, Declared}
use Rattle.jr_flow_defs.specs.declared.point.PointKind.TheVariants as kind
use Rattle.jr_flow_defs.specs.Meaning.{Meaning, is_constant, is_text, is_shown, narrows, declared}
use Rattle.jr_flow_defs.specs.Edges.{body_flow, ControlEdge, DefUse}
use Rattle.jr_flow_defs.specs.Kept.{Same, old_name, new_name, HasOneCopy, KeepsControl, Arrives, CopyArrives, KeepsDefinitions, Never, NoHanding}
use Rattle.jr_flow_laws.specs.Shifted.{IsIn, IsWholeBody, moved_row, AreShiftedRows}
use Rattle.jr_flow_laws.proofs.Parents.{parents_follow}
use Rattle.jr_flow_laws.proofs.Keeping.{point_row_in, ends_in, control_kept, uses_kept, uses_back}
use Rattle.jr_flow_laws.proofs.Staying.{body_stays}
use Rattle.jr_change.specs.declared.change.Change.{Change}
use Rattle.jr_locks.specs.Origins.{no_row, origin_of}
use Rattle.jr_locks.specs.Ending.{StandsAgain}
use Rattle.jr_locks.specs.Changed.{IsChanged}
use Rattle.jr_locks.proofs.Standing.{on_few, on_labels, on_ends, again_back}
use Rattle.jr_copied_flow.specs.Alone.{copy_in, IsLeftAlone, KeepsMeaning, origin_by, KeepsFlowAt}
use Rattle.jr_copied_flow.proofs.Seen.{in_or_not, row_inside, row_outside, GoesTo, moved_back}
use Rattle.jr_copied_flow.proofs.Alone as alone
use Rattle.jr_copied_flow.proofs.Whole.{whole_at}

module _ (p q : Rows) (change : Change) (m w : Meaning) (body at : ℕ) (move : ℕ → ℕ) (changed : IsChanged p m.targets change q w.targets) (here : IsTree p) (there : IsTree q) (fits : length p ≤ no_row)
    (whole : IsWholeBody p m body) (left : IsLeftAlone p change body at) (read : KeepsMeaning p q m w change body at move) (s : ℕ) (low : at + s ≡ body) where
  abbrev In : ℕ → Type 0
  In = IsIn p body

  abbrev Under : ℕ → Type 0
  Under = IsIn q at

  abbrev old_row : ℕ → ℕ
  old_row k = origin_of (alone.origin p q change m w body at move changed here there fits whole left read) k

  abbrev over : ℕ → ℕ
  over = moved_row q at s old_row

  again : StandsAgain p q body at
  again = alone.again p q change m w body at move changed here there fits whole left read

  copy_whole : IsWholeBody q w at
  copy_whole = whole_at p q change m w body at move changed here there fits whole left read

  stands : StandsAgain q p at (at + s)
  stands = subst (λ z. StandsAgain q p at z) (sym low) (again_back p q body at here there whole.few again)

  few_back : end q at + s ≤ length p
  few_back = on_few q p at s stands (there.nested at)

  ends_back : (k : ℕ) → Under k → end p (k + s) ≡ end q k + s
  ends_back k u = on_ends q p at s stands k u.from u.to

  end_at : end p body ≡ end q at + s
  end_at = let u : Under at = record { from = omega arith; to = there.nested at } in ap (end p) (sym low) ∙ ends_back at u

  up_in : (k : ℕ) → Under k → In (k + s)
  up_in k u = let f = u.from in let t = u.to in let e = end_at in record { from = omega (arith, f, low); to = omega (arith, t, e) }

  down_in : (n : ℕ) → In n → Under (copy_in body at n)
  down_in n i = let f = i.from in let t = i.to in let e = end_at in record { from = omega (arith, f); to = omega (arith, f, t, e, low) }

  down : (k : ℕ) → Under k → copy_in body at (k + s) ≡ k
  down k u = let f = u.from in omega (arith, f, low)

  up : (n : ℕ) → In n → copy_in body at n + s ≡ n
  up n i = let f = i.from in omega (arith, f, low)

  -- the copy in the body's place: its origin
  from_copy : (k : ℕ) → Under k → old_row k ≡ k + s
  from_copy k u = ap old_row (sym (down k u)) ∙ alone.from_copy p q change m w body at move changed here there fits whole left read (k + s) (up_in k u)

  over_old : (c d : ℕ) → old_row c ≡ d → over c ≡ d
  over_old c d e = ⊎_elim (λ u. row_inside q at s old_row c u ∙ (sym (from_copy c u) ∙ e)) (λ none. row_outside q at s old_row c none ∙ e) (in_or_not q at c)

  over_seen : (d c : ℕ) → alone.Seen p q change m w body at move changed here there fits whole left read d c → over c ≡ d
  over_seen d c v = over_old c d (alone.seen_origin p q change m w body at move changed here there fits whole left read d c v)

  goes : (k : ℕ) → Under k → GoesTo change.inner (alone.origin p q change m w body at move changed here there fits whole left read) (length p) at (m.targets (k + s)) (w.targets k)
  goes k u = subst (λ z. GoesTo change.inner (alone.origin p q change m w body at move changed here there fits whole left read) (length p) at (m.targets (k + s)) (w.targets z)) (down k u)
      (alone.goes p q change m w body at move changed here there fits whole left read (k + s) (up_in k u))

  -- ---- roles of what is declared outside

  role_back : (n : ℕ) (a b : Referent) (d : ℕ) (level : Option ℕ) → In n → m.targets n ≡ a → w.targets (copy_in body at n) ≡ b
      → GoesTo change.inner (alone.origin p q change m w body at move changed here there fits whole left read) (length p) at a b → b ≡ Declared d level → role_at p (old_row d) ≡ role_at q d
  role_back n Unbound b d level i was is g e = absurd (cc)
  role_back n Ambiguous b d level i was is g e = absurd (cc)
  role_back n ArrayLength b d level i was is g e = absurd (cc)
  role_back n Package b d level i was is g e = absurd (cc)
  role_back n (Declared c over) b d level i was is g e =
      let same : g.row ≡ d = same_row g.row d g.over level (sym g.is ∙ e) in
      subst (λ z. role_at p (old_row z) ≡ role_at q z) same
      (ap (role_at p) (alone.seen_origin p q change m w body at move changed here there fits whole left read c g.row g.sees)
      ∙ sym (read.roles n c g.row i (ap declared was) (ap declared (is ∙ g.is))))
    where
      same_row : (c d : ℕ) (one other : Option ℕ) → Declared c one ≡ Declared d other → c ≡ d
      same_row c d one other e = cc

  shifted : AreShiftedRows q p w m at s old_row
  shifted = record {
    few = few_back;
    labels = λ k u. on_labels q p at s stands k u.from u.to;
    ends = ends_back;
    parents = λ k u less. parents_follow q p at s there here copy_whole.few few_back ends_back k u less;
    referents = λ k u. moved_back change.inner (alone.origin p q change m w body at move changed here there fits whole left read) (length p) at over (m.targets (k + s)) (w.targets k) (goes k u) over_seen;
    roles = λ k d level u e none. role_back (k + s) (m.targets (k + s)) (w.targets k) d level (up_in k u) refl (ap w.targets (down k u)) (goes k u) e;
    constants = λ k u. sym (read.constants (k + s) (up_in k u)) ∙ ap (is_constant w) (down k u);
    texts = λ k u. sym (read.texts (k + s) (up_in k u)) ∙ ap (λ z. is_text q (w.types z)) (down k u);
    shown = λ k u. sym (read.shown (k + s) (up_in k u)) ∙ ap (λ z. is_shown q (w.types z)) (down k u);
    casts = λ k u e. sym (read.casts (k + s) (up_in k u) (on_labels q p at s stands k u.from u.to ∙ e)) ∙ ap (narrows q w) (down k u);
  }

  -- ---- edges, by origins

  origin_is : (k : ℕ) → Under k → origin_by change k ≡ Some (k + s)
  origin_is k u = let l = alone.few_rows p q change m w body at move changed here there fits whole left read (k + s) (up_in k u) in alone.row_is (old_row k) (k + s) (from_copy k u) (omega (arith, l, fits))

  only_copy : (n k : ℕ) → In n → origin_by change k ≡ Some n → k ≡ copy_in body at n
  only_copy n k i e = left.once n k i (alone.is_row (old_row k) n e)

  one_copy : (n : ℕ) → In n → HasOneCopy (origin_by change) n
  one_copy n i = record { copy = copy_in body at n; is_copy = origin_is (copy_in body at n) (down_in n i) ∙ ap Some (up n i); only = λ k e. only_copy n k i e }

  edges : Same (ControlEdge q (body_flow q w at) at (new_name p None (origin_by change))) (ControlEdge p (body_flow p m (at + s)) (at + s) (old_name p None))
  edges = control_kept q p w m at s old_row copy_whole shifted (new_name p None (origin_by change)) (old_name p None) (λ k u. sym (ap (option_and_then (old_name p None)) (origin_is k u)))

  control : KeepsControl p q (body_flow p m body) (body_flow q w at) body at None (origin_by change)
  control = record {
    once = λ n k. one_copy n (point_row_in p p m m body 0 (λ n. n) whole (body_stays p m body whole) k.at (record { row = n; kind = kind.Node }) k.reached k.stands);
    same = λ x y. turned_round_at x y;
  } where
    turned_round_at : Same (ControlEdge p (body_flow p m body) body (old_name p None)) (ControlEdge q (body_flow q w at) at (new_name p None (origin_by change)))
    turned_round_at x y = let e = subst (λ z. Same (ControlEdge q (body_flow q w at) at (new_name p None (origin_by change))) (ControlEdge p (body_flow p m z) z (old_name p None))) low edges in ((e x y).1, (e x y).0)

  body_ends : (i j : ℕ) → DefUse (body_flow p m body) i j → In i × In j
  body_ends i j u = ends_in p p m m body 0 (λ n. n) whole (body_stays p m body whole) i j u

  copy_ends : (i j : ℕ) → DefUse (body_flow q w at) i j → Under i × Under j
  copy_ends i j u = ends_in q q w w at 0 (λ n. n) copy_whole (body_stays q w at copy_whole) i j u

  arrives : (i j old : ℕ) → origin_by change j ≡ Some old → DefUse (body_flow p m body) i old → CopyArrives (body_flow q w at) Never NoHanding (origin_by change) i j
  arrives i j old e u =
      let inside = body_ends i old u in
      let o = uses_back q p w m at s old_row copy_whole shifted i old (subst (λ z. DefUse (body_flow p m z) i old) (sym low) u) in
      let ends = copy_ends o.from o.to o.reaches in
      let here_at : o.to ≡ j = by_rows o.to old inside.1 o.rows.1 ∙ sym (only_copy old j inside.1 e) in
      record {
        copy = o.from;
        is_copy = origin_is o.from ends.0 ∙ ap Some o.rows.0;
        arrives = Arrives.own (subst (λ z. DefUse (body_flow q w at) o.from z) here_at o.reaches) (λ none. none);
      }
    where
      by_rows : (k n : ℕ) → In n → k + s ≡ n → k ≡ copy_in body at n
      by_rows k n i e = let f = i.from in omega (arith, e, low, f)

  by_copy : (i j old copy : ℕ) → origin_by change copy ≡ Some i → origin_by change j ≡ Some old → DefUse (body_flow q w at) copy j → DefUse (body_flow p m body) i old
  by_copy i j old copy e f u =
      let ends = copy_ends copy j u in
      let there_at = subst (λ z. DefUse (body_flow p m z) (copy + s) (j + s)) low (uses_kept q p w m at s old_row copy_whole shifted copy j u) in
      subst (λ z. DefUse (body_flow p m body) z old) (same_origin copy i ends.0 e) (subst (λ z. DefUse (body_flow p m body) (copy + s) z) (same_origin j old ends.1 f) there_at)
    where
      same_origin : (k n : ℕ) → Under k → origin_by change k ≡ Some n → k + s ≡ n
      same_origin k n u e = sym (from_copy k u) ∙ alone.is_row (old_row k) n e

  arrives_back : (i j old copy : ℕ) → origin_by change copy ≡ Some i → origin_by change j ≡ Some old → Arrives (body_flow q w at) Never NoHanding copy j → DefUse (body_flow p m body) i old
  arrives_back i j old copy e f (Arrives.own u none) = by_copy i j old copy e f u
  arrives_back i j old copy e f (Arrives.handed a hands u) = absurd hands

  definitions : KeepsDefinitions (body_flow p m body) (body_flow q w at) Never NoHanding (origin_by change)
  definitions = record { same = λ b d i j old r u e. (arrives i j old e, λ c. arrives_back i j old c.copy c.is_copy e c.arrives) }

  pub kept_above : KeepsFlowAt p q m w change body at
  kept_above = record { control = control; definitions = definitions }
