-- What is pending where control comes to is what waits by the rows round it.
use Rattle.std.proofs.Common.{◌≡◌, refl, sym, ◌∙◌, subst, ⊎_elim, arith, ℕ, zero, suc, ◌+◌, ◌-◌, ◌<◌, ◌≤◌, Bool, true, false, cond, if◌then◌else◌, List, [], ◌∷◌, map, filter, length, Option, Some, None, nat_eq, slice_get}
use Rattle.std.specs.List.{AllByRecursion, Contains}
use Rattle.std.proofs.lemmas.Bool.{false≢true, cases_lt}
use Rattle.std.proofs.lemmas.Bool.Decides.{Decides-eqb}
use Rattle.jr_tree.specs.declared.label.Label.{Label}
use Rattle.jr_tree.specs.declared.label.Label.TheVariants as is
use Rattle.jr_tree.specs.Rows.{Rows, label, parent, end}
use Rattle.jr_tree.specs.Tree.{IsTree}
use Rattle.jr_flow_defs.specs.Meaning.{Meaning}
use Rattle.jr_flow_defs.specs.Acts.{Completion, normally, by_break, by_continue, by_return, by_throw, Act, part, event, node, define, use_of, quit, fork, choose, go, jump, Acts, children, last, is_catch, next_turn, acts}
use Rattle.jr_flow_defs.specs.States.{Moment, before, completed, Pending, State, Hop, at, left, plainly, all_at, act_hops, part_left, catches, into_finally, body_left, finally_left, try_left, left_by, as_left, ending, hops_by, hops}
use Rattle.jr_flow_defs.specs.Paths.{IsReached}
use Rattle.jr_flow_defs.specs.Edges.{body_flow}
use Rattle.jr_flow_defs.proofs.Searched.{contains_out}
use Rattle.jr_kept.specs.Waiting.{is_finally, IsBelow, AreShaped, Waits}
use Rattle.jr_kept.proofs.Below.{finally_tells, finally_is, not_true, none_finally, first_free, IsLast, children_below, last_below, one_last}
use Rattle.jr_kept.proofs.Going.{IfAct, act_at, all_append, all_either, IsPart, is_try, try_is, rows_of, no_try, acts_down}

contained : {A : Type 0} (P : A → Type 0) (all : List A) (x : A) → AllByRecursion P all → Contains all x → P x
contained P [] x h c = absurd (omega (arith, c.1))
contained P (y ∷ all) x h c = ⊎_elim (λ e. subst P e h.0) (λ more. contained P all x h.1 more) (contains_out y all x c)

-- what passes a test is such, and passes it
passed : (P : ℕ → Type 0) (test : ℕ → Bool) (rows : List ℕ) → AllByRecursion P rows → AllByRecursion (λ k. P k × (test k ≡ true)) (filter test rows)
passed P test [] h = tt
passed P test (k ∷ rows) h = by (filter test rows) (test k) refl (passed P test rows h.1)
  where
    by : (xs : List ℕ) (b : Bool) → test k ≡ b → AllByRecursion (λ j. P j × (test j ≡ true)) xs → AllByRecursion (λ j. P j × (test j ≡ true)) (cond b (k ∷ xs) xs)
    by xs true e more = ((h.0, e), more)
    by xs false e more = more

module _ (p : Rows) (m : Meaning) (body : ℕ) (tree : IsTree p) (few : body < length p) (shaped : AreShaped p body) where
  abbrev pub In : ℕ → Type 0
  In n = (body ≤ n) × (n < end p body)

  abbrev StateWaits : State → Type 0
  StateWaits a = Waits p body a.row a.pending

  abbrev HopWaits : Hop State → Type 0
  HopWaits h = StateWaits h.to

  -- ---- rows of the body

  few_rows : (n : ℕ) → In n → n < length p
  few_rows n i = let last = tree.last body few in let to = i.1 in omega (arith, last, to)

  pub below_in : (n k : ℕ) → In n → IsBelow p n k → In k
  below_in n k i b = let behind = b.behind in let within = b.within in let from = i.0 in
      let ends : end p n ≤ end p body = ⊎_elim (λ less. tree.apart body n less i.1) (λ le. let same : n ≡ body = omega (arith, le, from) in subst (λ z. end p z ≤ end p body) (sym same) (omega arith)) (cases_lt body n) in
      (omega (arith, behind, from), omega (arith, within, ends))

  pub waits_in : (k : ℕ) (w : Pending) → Waits p body k w → In k
  waits_in k w (Waits.none e f) = subst In (sym e) (omega arith, tree.nested body)
  waits_in k w (Waits.plainly {n = n} b free h) = below_in n k (waits_in n w h) b
  waits_in k w (Waits.pushed {n = n} {u = u} b is e h) = below_in n k (waits_in n u h) b

  -- ---- the row above

  -- one completion more is pending than at the row n
  record HasPushed (n : ℕ) (w : Pending) : Type 0 where
    first : Completion
    more : Pending
    is : w ≡ first ∷ more
    rest : Waits p body n more

  record IsUnder (n k : ℕ) (w : Pending) : Type 0 where
    below : IsBelow p n k
    plain : is_finally p k ≡ false → Waits p body n w
    popped : is_finally p k ≡ true → HasPushed n w

  under : (k : ℕ) (w : Pending) → Waits p body k w → (k ≡ body → ⊥) → IsUnder (parent p k) k w
  under k w (Waits.none e f) apart = absurd (apart e)
  under k w (Waits.plainly {n = n} b free h) apart = subst (λ z. IsUnder z k w) (sym b.under) (record { below = b; plain = λ e. h; popped = λ e. absurd (false≢true (sym free ∙ e)) })
  under k w (Waits.pushed {n = n} {u = u} {c = c} b is e h) apart = subst (λ z. IsUnder z k w) (sym b.under)
      (record { below = b; plain = λ g. absurd (false≢true (sym g ∙ is)); popped = λ g. record { first = c; more = u; is = e; rest = h } })

  -- ---- inside a row

  all_at_waits : (n i count : ℕ) (w : Pending) → Waits p body n w → AllByRecursion HopWaits (all_at n i count w)
  all_at_waits n i zero w h = tt
  all_at_waits n i (suc count) w h = (h, all_at_waits n (i + 1) count w h)

  act_waits : (o : Option Act) (n i count : ℕ) (w : Pending) → Waits p body n w → IfAct p (IsPart p n) n o → AllByRecursion HopWaits (act_hops o n i count w)
  act_waits None n i count w h k = (h, tt)
  act_waits (Some (part j)) n i count w h k = (Waits.plainly k.below k.free h, tt)
  act_waits (Some (event j)) n i count w h k = (h, (h, tt))
  act_waits (Some (node j)) n i count w h k = (h, tt)
  act_waits (Some (define j d)) n i count w h k = (h, tt)
  act_waits (Some (use_of j d)) n i count w h k = (h, tt)
  act_waits (Some quit) n i count w h k = (h, (h, tt))
  act_waits (Some (fork j)) n i count w h k = (h, (h, tt))
  act_waits (Some (choose b)) n i count w h k = all_append HopWaits (all_at n (i + 1) (count - (i + 1)) w) (if b then [] else plainly (left n normally w) ∷ [])
      (all_at_waits n (i + 1) (count - (i + 1)) w h) (all_either HopWaits b [] (plainly (left n normally w) ∷ []) (λ e. tt) (λ e. (h, tt)))
  act_waits (Some (go j)) n i count w h k = (h, tt)
  act_waits (Some (jump c)) n i count w h k = (h, tt)

  -- ---- out of a row

  either_waits : (b : Bool) (x y : State) → StateWaits x → StateWaits y → StateWaits (if b then x else y)
  either_waits true x y h k = h
  either_waits false x y h k = k

  part_waits : (all : Acts) (l : Label) (n k : ℕ) (c : Completion) (w : Pending) → Waits p body n w → StateWaits (part_left all l n k c w)
  part_waits all l n k normally w h = h
  part_waits all l n k (by_break x) w h = either_waits (nat_eq x n) (left n normally w) (left n (by_break x) w) h h
  part_waits all l n k (by_continue x) w h = either_waits (nat_eq x n) (at n (next_turn l) w) (left n (by_continue x) w) h h
  part_waits all l n k by_return w h = h
  part_waits all l n k by_throw w h = h

  starts_waits : (n : ℕ) (w : Pending) (rows : List ℕ) → Waits p body n w → AllByRecursion (IsPart p n) rows → AllByRecursion StateWaits (map (λ k. at k 0 w) rows)
  starts_waits n w [] h k = tt
  starts_waits n w (j ∷ rows) h k = (Waits.plainly k.0.below k.0.free h, starts_waits n w rows h k.1)

  -- below any row but a `try` with a `finally`
  abbrev IsOther : ℕ → Type 0
  IsOther n = label p n ≡ is.Try true → ⊥

  parts_of : (n : ℕ) (rows : List ℕ) → ((k : ℕ) → IsBelow p n k → is_catch (label p k) ≡ true → is_finally p k ≡ false) → AllByRecursion (λ k. IsBelow p n k × (is_catch (label p k) ≡ true)) rows → AllByRecursion (IsPart p n) rows
  parts_of n [] free h = tt
  parts_of n (k ∷ rows) free h = (record { below = h.0.0; free = free k h.0.0 h.0.1 }, parts_of n rows free h.1)

  catches_of : (n : ℕ) → n < length p → ((k : ℕ) → IsBelow p n k → is_catch (label p k) ≡ true → is_finally p k ≡ false) → AllByRecursion (IsPart p n) (catches p n)
  catches_of n lt free = parts_of n (catches p n) free (passed (IsBelow p n) (λ k. is_catch (label p k)) (children p n) (children_below p tree n lt))

  body_plain : (n : ℕ) (c : Completion) (w : Pending) → n < length p → IsOther n → Waits p body n w → AllByRecursion StateWaits (body_left p n false c w)
  body_plain n normally w lt other h = (h, tt)
  body_plain n (by_break x) w lt other h = (h, tt)
  body_plain n (by_continue x) w lt other h = (h, tt)
  body_plain n by_return w lt other h = (h, tt)
  body_plain n by_throw w lt other h = all_append StateWaits (map (λ k. at k 0 w) (catches p n)) (left n by_throw w ∷ [])
      (starts_waits n w (catches p n) h (catches_of n lt (λ k b e. none_finally p n k other b))) (h, tt)

  left_plain : (l : Label) (n k : ℕ) (c : Completion) (w : Pending) → (l ≡ is.Try true → ⊥) → IsOther n → n < length p → Waits p body n w → AllByRecursion StateWaits (left_by l p m n k c w)
  left_plain (is.Try true) n k c w apart other lt h = absurd (apart refl)
  left_plain (is.Try false) n k c w apart other lt h = all_either StateWaits (nat_eq k (n + 1)) (body_left p n false c w) (into_finally p n false c w ∷ []) (λ e. body_plain n c w lt other h) (λ e. (h, tt))
  left_plain l n k c w apart other lt h = (part_waits (acts p m n) l n k c w h, tt)

  -- ---- out of a `try` with a `finally`

  module _ (n : ℕ) (i : In n) (e : label p n ≡ is.Try true) where
    lt : n < length p
    lt = few_rows n i

    two : (n + 1 < end p n) × (end p (n + 1) < end p n)
    two = let h = rows_of p m tree n lt (shaped n i.0 i.1) (is.Try true) e in (h.0, h.1.0)

    bottom : IsLast p n (last p n)
    bottom = last_below p tree n lt two.0

    into_waits : (c : Completion) (w : Pending) → Waits p body n w → Waits p body (last p n) (c ∷ w)
    into_waits c w h = Waits.pushed bottom.below (finally_is p (last p n) n bottom.below.under e bottom.ends) refl h

    body_waits : (c : Completion) (w : Pending) → Waits p body n w → AllByRecursion StateWaits (body_left p n true c w)
    body_waits normally w h = (into_waits normally w h, tt)
    body_waits (by_break x) w h = (into_waits (by_break x) w h, tt)
    body_waits (by_continue x) w h = (into_waits (by_continue x) w h, tt)
    body_waits by_return w h = (into_waits by_return w h, tt)
    body_waits by_throw w h = all_append StateWaits (map (λ k. at k 0 w) (catches p n)) (into_finally p n true by_throw w ∷ [])
        (starts_waits n w (catches p n) h (catches_of n lt (λ k b g. let j = below_in n k i b in (shaped k j.0 j.1).apart g))) (into_waits by_throw w h, tt)

    ended_waits : (c : Completion) (x : Completion) (u : Pending) → Waits p body n u → AllByRecursion StateWaits (finally_left n c (x ∷ u))
    ended_waits normally x u h = (h, tt)
    ended_waits (by_break y) x u h = (h, tt)
    ended_waits (by_continue y) x u h = (h, tt)
    ended_waits by_return x u h = (h, tt)
    ended_waits by_throw x u h = (h, tt)

    finally_waits : (c : Completion) (w : Pending) → HasPushed n w → AllByRecursion StateWaits (finally_left n c w)
    finally_waits c w h = subst (λ z. AllByRecursion StateWaits (finally_left n c z)) (sym h.is) (ended_waits c h.first h.more h.rest)

    try_waits : (k : ℕ) (c : Completion) (w : Pending) → IsUnder n k w → AllByRecursion StateWaits (try_left p n true k c w)
    try_waits k c w u = all_either StateWaits (nat_eq k (n + 1)) (body_left p n true c w) (if nat_eq k (last p n) then finally_left n c w else into_finally p n true c w ∷ [])
        (λ g. let same = (Decides-eqb k (n + 1)).0 g in body_waits c w (u.plain (first_free p n k u.below (subst (λ z. end p z < end p n) (sym same) two.1))))
        (λ g. all_either StateWaits (nat_eq k (last p n)) (finally_left n c w) (into_finally p n true c w ∷ [])
        (λ f. let same = (Decides-eqb k (last p n)).0 f in finally_waits c w (u.popped (finally_is p k n u.below.under e (subst (λ z. end p z ≡ end p n) (sym same) bottom.ends))))
        (λ f. (into_waits c w (u.plain (not_true (is_finally p k) (λ is. false≢true (sym f ∙ (Decides-eqb k (last p n)).1 (one_last p tree n k (last p n) (record { below = u.below; ends = subst (λ z. end p k ≡ end p z) u.below.under (finally_tells p k is).1 }) bottom))))), tt)))

  -- ---- all together

  left_waits : (n k : ℕ) (c : Completion) (w : Pending) → In n → IsUnder n k w → AllByRecursion StateWaits (left_by (label p n) p m n k c w)
  left_waits n k c w i u = by (is_try (label p n)) refl
    where
      by : (b : Bool) → is_try (label p n) ≡ b → AllByRecursion StateWaits (left_by (label p n) p m n k c w)
      by true e = let l = try_is (label p n) e in subst (λ z. AllByRecursion StateWaits (left_by z p m n k c w)) (sym l) (try_waits n i l k c w u)
      by false e = let other = no_try p m tree n (few_rows n i) (shaped n i.0 i.1) e in left_plain (label p n) n k c w other other (few_rows n i) (u.plain (none_finally p n k other u.below))

  ending_waits : (all : List State) → AllByRecursion StateWaits all → AllByRecursion HopWaits (map (λ a. plainly (ending body a)) all)
  ending_waits [] h = tt
  ending_waits (a ∷ all) h = (either_waits (nat_eq a.row body) (record { row = a.row; moment = as_left a.moment; pending = a.pending }) a h.0 h.0, ending_waits all h.1)

  -- what stands above a row of the body, but for that of the body itself
  above_in : (k : ℕ) (w : Pending) → Waits p body k w → (k ≡ body → ⊥) → In (parent p k)
  above_in k w (Waits.none e f) apart = absurd (apart e)
  above_in k w (Waits.plainly {n = n} b free h) apart = subst In (sym b.under) (waits_in n w h)
  above_in k w (Waits.pushed {n = n} {u = u} b is e h) apart = subst In (sym b.under) (waits_in n u h)

  pub part_at : (n i : ℕ) → In n → IfAct p (IsPart p n) n (slice_get (acts p m n) i)
  part_at n i h = act_at p (IsPart p n) n (acts p m n) i (acts_down p m tree n (few_rows n h) (shaped n h.0 h.1))

  hops_wait : (o : Moment) (n : ℕ) (w : Pending) → Waits p body n w → AllByRecursion HopWaits (hops_by o p m body n w)
  hops_wait (before i) n w h = act_waits (slice_get (acts p m n) i) n i (length (acts p m n)) w h (part_at n i (waits_in n w h))
  hops_wait (completed c) n w h = all_either HopWaits (nat_eq n body) [] (map (λ a. plainly (ending body a)) (left_by (label p (parent p n)) p m (parent p n) n c w)) (λ e. tt)
      (λ e. let apart : n ≡ body → ⊥ = λ same. false≢true (sym e ∙ (Decides-eqb n body).1 same) in
      ending_waits (left_by (label p (parent p n)) p m (parent p n) n c w) (left_waits (parent p n) n c w (above_in n w h apart) (under n w h apart)))

  pub reached_waits : (a : State) → IsReached (body_flow p m body) a → Waits p body a.row a.pending
  reached_waits a IsReached.start = Waits.none refl refl
  reached_waits a (IsReached.on {a = z} r g) = contained HopWaits (hops p m body z) (record { to = a; is_throw = g.is_throw }) (hops_wait z.moment z.row z.pending (reached_waits z r)) g.hop
