-- A body that stands in another program so many rows on has a copy of its flow there, and so its edges.
use Rattle.std.proofs.Common.{◌≡◌, refl, sym, ◌∙◌, ap, subst, ⊎_elim, arith, ℕ, ◌+◌, List, [], ◌∷◌, Option, Some, None, option_and_then}
use Rattle.std.specs.List.{AllByRecursion, Contains}
use Rattle.std.proofs.lemmas.Option.{same_Some}
use Rattle.jr_tree.specs.Rows.{Rows}
use Rattle.jr_flow_defs.specs.declared.point.Point.{Point}
use Rattle.jr_flow_defs.specs.declared.point.PointKind.TheVariants as kind
use Rattle.jr_flow_defs.specs.Meaning.{Meaning}
use Rattle.jr_flow_defs.specs.States.{State, Hop, hops}
use Rattle.jr_flow_defs.specs.Paths.{Flow, IsReached, Path}
use Rattle.jr_flow_defs.specs.Edges.{body_flow, Naming, IsInside, ControlEdge, Defines, DefUse}
use Rattle.jr_flow_defs.specs.Copied.{moved_point, IsCopied, IsNamedAlike, HasOriginal, CopiesKeepEdges}
use Rattle.jr_flow_defs.specs.Kept.{Same, Origin, old_name, new_name, HasOneCopy, KeepsControl, Arrives, CopyArrives, KeepsDefinitions, KeepsBody, Never, NoHanding}
use Rattle.jr_flow_defs.proofs.Searched.{contains_out}
use Rattle.jr_flow_defs.proofs.Copied as copies
use Rattle.jr_flow_laws.specs.Shifted.{moved_state, IsIn, IsWholeBody, AreShiftedRows, AreOrigins}
use Rattle.jr_flow_laws.proofs.Moving.{HopIn, IfPoint}
use Rattle.jr_flow_laws.proofs.Standing.{itself}
use Rattle.jr_flow_laws.proofs.Leaving.{hops_over, point_over, point_in}

hop_in : (P : ℕ → Type 0) (all : List (Hop State)) (h : Hop State) → AllByRecursion (HopIn P) all → Contains all h → P h.to.row
hop_in P [] h k c = absurd (omega (arith, c.1))
hop_in P (one ∷ all) h k c = ⊎_elim (λ e. subst (HopIn P) e k.0) (λ more. hop_in P all h k.1 more) (contains_out one all h c)

point_is_in : (P : ℕ → Type 0) (o : Option Point) (x : Point) → o ≡ Some x → IfPoint P o → P x.row
point_is_in P o x e h = subst (IfPoint P) e h

module _ (p q : Rows) (m w : Meaning) (body s : ℕ) (outside : ℕ → ℕ) (whole : IsWholeBody p m body) (rows : AreShiftedRows p q m w body s outside) where
  abbrev In : ℕ → Type 0
  In = IsIn p body

  abbrev Old : Flow State
  Old = body_flow p m body

  abbrev New : Flow State
  New = body_flow q w (body + s)

  -- control stays in the body
  reached_in : (a : State) → IsReached Old a → In a.row
  reached_in a IsReached.start = itself p m body whole
  reached_in b (IsReached.on {a = a} r g) =
      hop_in In (hops p m body a) (record { to = b; is_throw = g.is_throw }) (hops_over p q m w body s outside whole rows a (reached_in a r)).inside g.hop

  pub body_is_copied : IsCopied Old New (moved_state s) (λ n. n + s)
  body_is_copied = record {
    start = refl;
    hops = λ a r. (hops_over p q m w body s outside whole rows a (reached_in a r)).moved;
    points = λ a r. point_over p q m w body s outside whole rows a.moment a.row (reached_in a r);
    apart = λ m n e. omega (arith, e);
  }

  edges : CopiesKeepEdges Old New (λ n. n + s)
  edges = copies.copies_keep_edges Old New (moved_state s) (λ n. n + s) body_is_copied

  pub point_row_in : (a : State) (x : Point) → IsReached Old a → Old.point a ≡ Some x → In x.row
  point_row_in a x r e = point_is_in In (Old.point a) x e (point_in p q m w body s outside whole rows a.moment a.row (reached_in a r))

  -- ---- edges of control

  inside_over : (x y : Point) → In y.row → IsInside p x y → IsInside q (moved_point (λ n. n + s) x) (moved_point (λ n. n + s) y)
  inside_over x y j h = let b = h.behind in let t = h.within in let e = rows.ends y.row j in record { behind = omega (arith, b); within = omega (arith, t, e) }

  inside_back : (x y : Point) → In y.row → IsInside q (moved_point (λ n. n + s) x) (moved_point (λ n. n + s) y) → IsInside p x y
  inside_back x y j h = let b = h.behind in let t = h.within in let e = rows.ends y.row j in record { behind = omega (arith, b); within = omega (arith, t, e) }

  named_alike : (naming other : Naming) → ((n : ℕ) → In n → other (n + s) ≡ naming n) → IsNamedAlike p q Old (λ n. n + s) naming other
  named_alike naming other alike = record {
    names = λ a x r e. alike x.row (point_row_in a x r e);
    inside = λ a b x y r t e f. (inside_over x y (point_row_in b y t f), inside_back x y (point_row_in b y t f));
  }

  pub control_kept : (naming other : Naming) → ((n : ℕ) → In n → other (n + s) ≡ naming n) → Same (ControlEdge p Old body naming) (ControlEdge q New (body + s) other)
  control_kept naming other alike = edges.control p q body naming other (named_alike naming other alike)

  pub uses_kept : (i j : ℕ) → DefUse Old i j → DefUse New (i + s) (j + s)
  uses_kept i j u = edges.uses i j u

  pub uses_back : (i j : ℕ) → DefUse New i j → HasOriginal Old (λ n. n + s) i j
  uses_back i j u = edges.originals i j u

  -- ---- by origins

  along : (S : State → Type 0) (a b : State) → IsReached Old a → Path Old S a b → IsReached Old b
  along S a b r (Path.hop g) = IsReached.on r g
  along S a b r (Path.on {r = c} path apart g) = IsReached.on (along S a c r path) g

  -- both ends of an edge stand in the body
  pub ends_in : (i j : ℕ) → DefUse Old i j → In i × In j
  ends_in i j u = (
    point_row_in u.from (record { row = i; kind = kind.Definition u.local }) u.reached u.defines,
    point_row_in u.to (record { row = j; kind = kind.Use u.local }) (along (Defines Old u.local) u.from u.to u.reached u.path) u.uses,
  )

  module _ (origin : Origin) (own : AreOrigins p body s origin) where
    one_copy : (n : ℕ) → In n → HasOneCopy origin n
    one_copy n i = record { copy = n + s; is_copy = own.own n i; only = λ k e. own.once n k i e }

    pub control_by_origins : KeepsControl p q Old New body (body + s) None origin
    control_by_origins = record {
      once = λ n k. one_copy n (point_row_in k.at (record { row = n; kind = kind.Node }) k.reached k.stands);
      same = control_kept (old_name p None) (new_name p None origin) (λ n i. ap (option_and_then (old_name p None)) (own.own n i));
    }

    arrives : (i j old : ℕ) → origin j ≡ Some old → DefUse Old i old → CopyArrives New Never NoHanding origin i j
    arrives i j old e u = let at = ends_in i old u in record {
      copy = i + s;
      is_copy = own.own i at.0;
      arrives = subst (Arrives New Never NoHanding (i + s)) (sym (own.once old j at.1 e)) (Arrives.own (uses_kept i old u) (λ none. none));
    }

    origin_is : (n k old : ℕ) → In n → n + s ≡ k → origin k ≡ Some old → n ≡ old
    origin_is n k old i e o = same_Some n old (sym (own.own n i) ∙ (ap origin e ∙ o))

    by_original : (i j old copy : ℕ) → origin copy ≡ Some i → origin j ≡ Some old → HasOriginal Old (λ n. n + s) copy j → DefUse Old i old
    by_original i j old copy e f o = let at = ends_in o.from o.to o.reaches in
        subst (λ z. DefUse Old z old) (origin_is o.from copy i at.0 o.rows.0 e) (subst (DefUse Old o.from) (origin_is o.to j old at.1 o.rows.1 f) o.reaches)

    arrives_back : (i j old copy : ℕ) → origin copy ≡ Some i → origin j ≡ Some old → Arrives New Never NoHanding copy j → DefUse Old i old
    arrives_back i j old copy e f (Arrives.own u none) = by_original i j old copy e f (uses_back copy j u)
    arrives_back i j old copy e f (Arrives.handed a hands u) = absurd hands

    pub definitions_by_origins : KeepsDefinitions Old New Never NoHanding origin
    definitions_by_origins = record { same = λ b d i j old r u e. (arrives i j old e, λ c. arrives_back i j old c.copy c.is_copy e c.arrives) }

    pub body_by_origins : KeepsBody p q Old New body (body + s) None origin
    body_by_origins = record { control = control_by_origins; definitions = definitions_by_origins }
