-- Values of locals of a method that are lost, in a flow.
use Rattle.std.proofs.Common.{◌≡◌, ◌⊎◌, inl, inr, refl, sym, ◌∙◌, ap, subst, arith, ℕ, zero, suc, ◌<◌, ◌≤◌, Bool, true, false, ◌&&◌, List, Option, Some, None, nat_eq, slice_get}
use Rattle.std.proofs.lemmas.Bool.{false≢true, cases_lt}
use Rattle.std.proofs.lemmas.Bool.Decides.{Decides-eqb, Decides-and}
use Rattle.std.proofs.lemmas.Option.{none-some, same_Some}
use Rattle.jr_tree.specs.Rows.{Rows}
use Rattle.jr_flow_defs.specs.declared.point.Point.{Point}
use Rattle.jr_flow_defs.specs.declared.point.PointKind.{PointKind}
use Rattle.jr_flow_defs.specs.declared.point.PointKind.TheVariants as kind
use Rattle.jr_flow_defs.specs.Meaning.{Meaning}
use Rattle.jr_flow_defs.specs.States.{State}
use Rattle.jr_flow_defs.specs.Paths.{Flow, IsReached, Path, Goes, IsPoint}
use Rattle.jr_flow_defs.specs.Edges.{point, body_flow, own_number, IsGraph}
use Rattle.jr_flow_defs.specs.Graphs.{StepList, StepPath, PassesAt, is_definition_of}
use Rattle.jr_flow_defs.specs.Kept.{Origin, Within, outside, inside, is_exit, joined_flow, IsHanding, IsLost}
use Rattle.jr_kept.specs.declared.handing.Handing.{Handing}
use Rattle.jr_kept.specs.Gathered.{use_in}
use Rattle.jr_kept.specs.Spliced.{exit_number}
use Rattle.jr_kept.specs.Carried.{is_exit_kind, is_exit_at, HasExits, Leaves, IsUsedBehind, IsOtherCopy}
use Rattle.jr_kept.proofs.Comparing.{NumberedAt, late_place, place_at}
use Rattle.jr_kept.proofs.Changing.{to_numbers, of_numbers, comes_to}
use Rattle.jr_kept.proofs.Joining.{own_row, exit_tells, exit_stands, exit_at, exit_ends, stands, entered, inner_goes, not_true}

kind_own : (t : Bool) (k : PointKind) → own_number k ≡ Some (exit_number t) → is_exit_kind t k ≡ true
kind_own true kind.Entry e = let f = same_Some 0 2 e in absurd (omega (arith, f))
kind_own false kind.Entry e = let f = same_Some 0 1 e in absurd (omega (arith, f))
kind_own true kind.Exit e = let f = same_Some 1 2 e in absurd (omega (arith, f))
kind_own false kind.Exit e = refl
kind_own true kind.Thrown e = refl
kind_own false kind.Thrown e = let f = same_Some 2 1 e in absurd (omega (arith, f))
kind_own t kind.Node e = absurd (none-some _ e)
kind_own t (kind.Definition d) e = absurd (none-some _ e)
kind_own t (kind.Use d) e = absurd (none-some _ e)

exit_is : (method : ℕ) (t : Bool) (k : PointKind) (o : Option Point) → o ≡ point method k → is_exit_kind t k ≡ true → is_exit_at method t o ≡ true
exit_is method t k o e is = ap (is_exit_at method t) e ∙ ap (λ b. b && is_exit_kind t k) ((Decides-eqb method method).1 refl) ∙ is

pub has_exits : (q : Rows) (w : Meaning) (method : ℕ) (points : List Point) (steps : StepList) → IsGraph (body_flow q w method) method points steps → HasExits points method
has_exits q w method points steps g true = exit_is method true kind.Thrown (slice_get points 2) g.numbering.thrown refl
has_exits q w method points steps g false = exit_is method false kind.Exit (slice_get points 1) g.numbering.exit refl

module _ (q : Rows) (w : Meaning) (body call method : ℕ) (points more : List Point) (steps inner : StepList) (whole_graph : IsGraph (joined_flow q w body call method) body points steps) (method_graph : IsGraph (body_flow q w method) method more inner) where
  goes_inside : (a b caller : State) → Goes (body_flow q w method) a b → Goes (joined_flow q w body call method) (inside a caller) (inside b caller)
  goes_inside a b caller g = inner_goes q w body call method a b caller (not_true (is_exit a.moment method a.row) (λ e. exit_ends q w method a b g.is_throw e g.hop)) g

  reached_inside : (Stops : State → Type 0) (a b caller : State) → IsReached (joined_flow q w body call method) (inside a caller) → Path (body_flow q w method) Stops a b → IsReached (joined_flow q w body call method) (inside b caller)
  reached_inside Stops a b caller r (Path.hop g) = IsReached.on r (goes_inside a b caller g)
  reached_inside Stops a b caller r (Path.on {r = c} path apart g) = IsReached.on (reached_inside Stops a c caller r path) (goes_inside c b caller g)

  pub never_lost : (handing : Handing) (origin : Origin)
      → ((t : Bool) (d row copy : ℕ) → Leaves more inner (exit_number t) d row → use_in handing row ≡ None → IsOtherCopy origin d copy → IsUsedBehind points steps method t copy → ⊥)
      → ((d : ℕ) → (IsHanding q (joined_flow q w body call method) call method d → ⊥) → use_in handing d ≡ None) → IsLost q w (joined_flow q w body call method) call method origin → ⊥
  never_lost handing origin unlost own l =
      let reached = (stands q w body call method (inside l.from l.caller) l.reached).0 in
      let left = exit_tells q w method l.last.moment l.last.row l.ends in
      let exit = exit_stands q w method l.last.moment l.last.row left.0 left.1 in
      let last = comes_to q (body_flow q w method) method more inner method_graph l.inner l.from l.last reached l.before in
      let behind = reached_inside _ l.from l.last l.caller l.reached l.before in
      let first_point : IsPoint (body_flow q w method) l.from = record { point = record { row = l.row; kind = kind.Definition l.inner }; stands = l.defines } in
      let last_point : IsPoint (body_flow q w method) l.last = record { point = record { row = method; kind = exit.0 }; stands = exit.1 } in
      let exit_point : IsPoint (joined_flow q w body call method) (inside l.last l.caller) = record { point = record { row = method; kind = exit.0 }; stands = exit.1 } in
      let use_point : IsPoint (joined_flow q w body call method) l.to = record { point = record { row = l.use_row; kind = kind.Use l.outer }; stands = l.uses } in
      let number_is : method_graph.number l.last ≡ exit_number left.0 = method_graph.numbering.own l.last (exit_number left.0) (record { row = method; kind = exit.0 }) last exit.1 refl exit.2 in
      unlost left.0 l.inner l.row l.outer
      (record {
        from = method_graph.number l.from;
        defines = method_graph.numbering.stands l.from (record { row = l.row; kind = kind.Definition l.inner }) reached l.defines;
        path = subst (λ n. StepPath inner (PassesAt more (is_definition_of l.inner)) (method_graph.number l.from) n) number_is
            (to_numbers q (body_flow q w method) method more inner method_graph l.inner l.from l.last reached first_point last_point l.before);
      })
      (own l.row l.own)
      (record { old = l.old; copies = l.copies; apart = l.apart })
      (record {
        from = whole_graph.number (inside l.last l.caller);
        to = whole_graph.number l.to;
        row = l.use_row;
        exits = exit_is method left.0 exit.0 (slice_get points (whole_graph.number (inside l.last l.caller)))
            (whole_graph.numbering.stands (inside l.last l.caller) (record { row = method; kind = exit.0 }) behind exit.1) (kind_own left.0 exit.0 exit.2);
        uses = whole_graph.numbering.stands l.to (record { row = l.use_row; kind = kind.Use l.outer })
            (comes_to q (joined_flow q w body call method) body points steps whole_graph l.outer (inside l.last l.caller) l.to behind l.after) l.uses;
        path = to_numbers q (joined_flow q w body call method) body points steps whole_graph l.outer (inside l.last l.caller) l.to behind exit_point use_point l.after;
      })

  -- ---- and back

  abbrev J : Flow Within
  J = joined_flow q w body call method

  abbrev G : Flow State
  G = body_flow q w method

  all_inside : (b a : State) → IsReached J (inside G.start a) → IsReached G b → IsReached J (inside b a)
  all_inside b a r IsReached.start = r
  all_inside b a r (IsReached.on {a = c} s g) = IsReached.on (all_inside c a r s) (goes_inside c b a g)

  exit_kind_own : (t : Bool) (k : PointKind) → is_exit_kind t k ≡ true → own_number k ≡ Some (exit_number t)
  exit_kind_own true kind.Thrown e = refl
  exit_kind_own false kind.Exit e = refl
  exit_kind_own false kind.Thrown e = absurd (false≢true e)
  exit_kind_own true kind.Exit e = absurd (false≢true e)
  exit_kind_own true kind.Entry e = absurd (false≢true e)
  exit_kind_own false kind.Entry e = absurd (false≢true e)
  exit_kind_own true kind.Node e = absurd (false≢true e)
  exit_kind_own false kind.Node e = absurd (false≢true e)
  exit_kind_own true (kind.Definition d) e = absurd (false≢true e)
  exit_kind_own false (kind.Definition d) e = absurd (false≢true e)
  exit_kind_own true (kind.Use d) e = absurd (false≢true e)
  exit_kind_own false (kind.Use d) e = absurd (false≢true e)

  -- the exit of the method at a point
  record IsExitPoint (t : Bool) (o : Option Point) : Type 0 where
    found : Point
    stands : o ≡ Some found
    row_is : found.row ≡ method
    own : own_number found.kind ≡ Some (exit_number t)

  exit_point : (t : Bool) (o : Option Point) → is_exit_at method t o ≡ true → IsExitPoint t o
  exit_point t None e = absurd (false≢true e)
  exit_point t (Some x) e = let both = (Decides-and (nat_eq x.row method) (is_exit_kind t x.kind) (Decides-eqb x.row method) (λ h. h, λ h. h)).0 e in record { found = x; stands = refl; row_is = both.0; own = exit_kind_own t x.kind both.1 }

  module _ (apart : body ≡ method → ⊥) where
    late_exit : (k : ℕ) (x : Point) → slice_get points k ≡ Some x → x.row ≡ method → (k < 3) ⊎ (3 ≤ k) → 3 ≤ k
    late_exit k x e row (inr le) = le
    late_exit k x e row (inl lt) = absurd (own k refl lt)
      where
        not_here : (y : Point) → slice_get points k ≡ Some y → y.row ≡ body → ⊥
        not_here y f is = apart (sym is ∙ ap (λ z. z.row) (same_Some y x (sym f ∙ e)) ∙ row)

        own : (n : ℕ) → k ≡ n → n < 3 → ⊥
        own zero same less = not_here (record { row = body; kind = kind.Entry }) (ap (slice_get points) same ∙ whole_graph.numbering.entry) refl
        own (suc zero) same less = not_here (record { row = body; kind = kind.Exit }) (ap (slice_get points) same ∙ whole_graph.numbering.exit) refl
        own (suc (suc zero)) same less = not_here (record { row = body; kind = kind.Thrown }) (ap (slice_get points) same ∙ whole_graph.numbering.thrown) refl
        own (suc (suc (suc n))) same less = absurd (omega (arith, less))

    -- control is at an exit of the method in the flow with the call
    record IsAtExit (t : Bool) (k : ℕ) : Type 0 where
      last : State
      caller : State
      reached : IsReached J (inside last caller)
      numbered : whole_graph.number (inside last caller) ≡ k
      found : Point
      stands : G.point last ≡ Some found
      row_is : found.row ≡ method
      own : own_number found.kind ≡ Some (exit_number t)
      ends : is_exit last.moment method last.row ≡ true

    at_exit : (t : Bool) (k : ℕ) → is_exit_at method t (slice_get points k) ≡ true → IsAtExit t k
    at_exit t k e = by place.at place.reached place.stands place.numbered
      where
        x : IsExitPoint t (slice_get points k)
        x = exit_point t (slice_get points k) e

        place : NumberedAt J whole_graph.number x.found k
        place = late_place J body points steps whole_graph k x.found x.stands (late_exit k x.found x.stands x.row_is (cases_lt k 3))

        by : (s : Within) → IsReached J s → J.point s ≡ Some x.found → whole_graph.number s ≡ k → IsAtExit t k
        by (outside a) r stands_here n = absurd (apart (sym (own_row q w body a.moment a.row x.found.row x.found.kind (exit_number t) x.own stands_here) ∙ x.row_is))
        by (inside b a) r stands_here n = record {
          last = b;
          caller = a;
          reached = r;
          numbered = n;
          found = x.found;
          stands = stands_here;
          row_is = x.row_is;
          own = x.own;
          ends = (exit_at q w method b.moment b.row x.found.row x.found.kind t x.own stands_here).leaves;
        }

    pub unlost_numbers : (handing : Handing) (origin : Origin) → (IsLost q w J call method origin → ⊥) → ((d : ℕ) → use_in handing d ≡ None → IsHanding q J call method d → ⊥)
        → (t : Bool) (d row copy : ℕ) → Leaves more inner (exit_number t) d row → use_in handing row ≡ None → IsOtherCopy origin d copy → IsUsedBehind points steps method t copy → ⊥
    unlost_numbers handing origin none own t d row copy l used other behind =
        let from = place_at G method more inner method_graph l.from (record { row = row; kind = kind.Definition d }) l.defines refl in
        let x = at_exit t behind.from behind.exits in
        let to = place_at J body points steps whole_graph behind.to (record { row = behind.row; kind = kind.Use copy }) behind.uses refl in
        let there = stands q w body call method (inside x.last x.caller) x.reached in
        let number_is : method_graph.number x.last ≡ exit_number t = method_graph.numbering.own x.last (exit_number t) x.found there.0 x.stands x.row_is x.own in
        let from_point : IsPoint G from.at = record { point = record { row = row; kind = kind.Definition d }; stands = from.stands } in
        let last_point : IsPoint G x.last = record { point = x.found; stands = x.stands } in
        let exit_stands_here : IsPoint J (inside x.last x.caller) = record { point = x.found; stands = x.stands } in
        let to_point : IsPoint J to.at = record { point = record { row = behind.row; kind = kind.Use copy }; stands = to.stands } in
        none (record {
          inner = d;
          outer = copy;
          old = other.old;
          copies = other.copies;
          apart = other.apart;
          from = from.at;
          caller = x.caller;
          row = row;
          reached = all_inside from.at x.caller (entered q w body call method (inside x.last x.caller) x.reached) from.reached;
          defines = from.stands;
          own = own row used;
          last = x.last;
          ends = x.ends;
          before = of_numbers q G method more inner method_graph d from.at x.last from.reached from_point there.0 last_point
              (subst (λ n. StepPath inner (PassesAt more (is_definition_of d)) (method_graph.number from.at) n) (sym number_is) (subst (λ n. StepPath inner (PassesAt more (is_definition_of d)) n (exit_number t)) (sym from.numbered) l.path));
          to = to.at;
          use_row = behind.row;
          uses = to.stands;
          after = of_numbers q J body points steps whole_graph copy (inside x.last x.caller) to.at x.reached exit_stands_here to.reached to_point
              (subst (λ n. StepPath steps (PassesAt points (is_definition_of copy)) (whole_graph.number (inside x.last x.caller)) n) (sym to.numbered)
              (subst (λ n. StepPath steps (PassesAt points (is_definition_of copy)) n behind.to) (sym x.numbered) behind.path));
        })
