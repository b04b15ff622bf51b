-- Throws happen at nodes.
use Rattle.std.proofs.Common.{◌≡◌, refl, sym, ◌∙◌, ap, subst, ⊎_elim, arith, ℕ, zero, suc, ◌+◌, ◌<◌, ◌≤◌, Bool, true, false, if◌then◌else◌, List, [], ◌∷◌, ◌++◌, map, length, Option, Some, None, nat_eq, slice_get}
use Rattle.std.specs.List.{Contains}
use Rattle.std.proofs.lemmas.Bool.{false≢true}
use Rattle.std.proofs.lemmas.Bool.Decides.{Decides-eqb}
use Rattle.std.proofs.lemmas.List.Elements.{Contains-append_cases}
use Rattle.std.proofs.lemmas.Option.{none-some, same_Some}
use Rattle.jr_tree.specs.Rows.{Rows, label, parent}
use Rattle.jr_flow_defs.specs.declared.point.Point.{Point}
use Rattle.jr_flow_defs.specs.declared.point.PointKind.TheVariants as kind
use Rattle.jr_flow_defs.specs.Meaning.{Meaning}
use Rattle.jr_flow_defs.specs.Acts.{Act, part, event, node, define, use_of, quit, fork, choose, go, jump, acts}
use Rattle.jr_flow_defs.specs.States.{Moment, before, completed, Pending, State, Hop, at, plainly, all_at, act_hops, ending, left_by, hops_by}
use Rattle.jr_flow_defs.specs.Paths.{Steps}
use Rattle.jr_flow_defs.specs.Edges.{point, act_point, point_by, body_flow}
use Rattle.jr_flow_defs.proofs.Searched.{contains_out}

-- the hop is no throw
abbrev IsPlain : Hop State → Type 0
IsPlain h = h.is_throw ≡ true → ⊥

plain_hop : (a : State) → IsPlain (plainly a)
plain_hop a e = false≢true e

none_in : {A : Type 0} (x : A) → Contains [] x → ⊥
none_in x c = absurd (omega (arith, c.1))

one_plain : (a : State) (h : Hop State) → Contains (plainly a ∷ []) h → IsPlain h
one_plain a h c = ⊎_elim (λ same. subst IsPlain same (plain_hop a)) (λ more. absurd (none_in h more)) (contains_out (plainly a) [] h c)

two_plain : (a b : State) (h : Hop State) → Contains (plainly a ∷ plainly b ∷ []) h → IsPlain h
two_plain a b h c = ⊎_elim (λ same. subst IsPlain same (plain_hop a)) (λ more. one_plain b h more) (contains_out (plainly a) (plainly b ∷ []) h c)

all_plain : (n i count : ℕ) (w : Pending) (h : Hop State) → Contains (all_at n i count w) h → IsPlain h
all_plain n i zero w h c = absurd (none_in h c)
all_plain n i (suc count) w h c = ⊎_elim (λ same. subst IsPlain same (plain_hop (at n i w))) (λ more. all_plain n (i + 1) count w h more) (contains_out (plainly (at n i w)) (all_at n (i + 1) count w) h c)

choice_plain : (n i count : ℕ) (w : Pending) (b : Bool) (a : State) (h : Hop State) → Contains (all_at n i count w ++ (if b then [] else plainly a ∷ [])) h → IsPlain h
choice_plain n i count w b a h c = ⊎_elim (λ early. all_plain n i count w h early) (λ last. by b last) (Contains-append_cases (all_at n i count w) (if b then [] else plainly a ∷ []) h c)
  where
    by : (t : Bool) → Contains (if t then [] else plainly a ∷ []) h → IsPlain h
    by true d = absurd (none_in h d)
    by false d = one_plain a h d

mapped_plain : (body : ℕ) (all : List State) (h : Hop State) → Contains (map (λ a. plainly (ending body a)) all) h → IsPlain h
mapped_plain body [] h c = absurd (none_in h c)
mapped_plain body (a ∷ all) h c = ⊎_elim (λ same. subst IsPlain same (plain_hop (ending body a))) (λ more. mapped_plain body all h more) (contains_out (plainly (ending body a)) (map (λ z. plainly (ending body z)) all) h c)

-- a node stands before an act that throws
act_throws : (o : Option Act) (n i count : ℕ) (w : Pending) (h : Hop State) (x : Point) → Contains (act_hops o n i count w) h → h.is_throw ≡ true → act_point n o ≡ Some x → x.kind ≡ kind.Node
act_throws None n i count w h x c t e = absurd (none-some x e)
act_throws (Some (part k)) n i count w h x c t e = absurd (none-some x e)
act_throws (Some (event k)) n i count w h x c t e = sym (ap (λ z. z.kind) (same_Some (record { row = k; kind = kind.Node }) x e))
act_throws (Some (node k)) n i count w h x c t e = sym (ap (λ z. z.kind) (same_Some (record { row = k; kind = kind.Node }) x e))
act_throws (Some (define k d)) n i count w h x c t e = absurd (one_plain (at n (i + 1) w) h c t)
act_throws (Some (use_of k d)) n i count w h x c t e = absurd (one_plain (at n (i + 1) w) h c t)
act_throws (Some quit) n i count w h x c t e = sym (ap (λ z. z.kind) (same_Some (record { row = n; kind = kind.Node }) x e))
act_throws (Some (fork j)) n i count w h x c t e = sym (ap (λ z. z.kind) (same_Some (record { row = n; kind = kind.Node }) x e))
act_throws (Some (choose b)) n i count w h x c t e = sym (ap (λ z. z.kind) (same_Some (record { row = n; kind = kind.Node }) x e))
act_throws (Some (go j)) n i count w h x c t e = absurd (none-some x e)
act_throws (Some (jump k)) n i count w h x c t e = sym (ap (λ z. z.kind) (same_Some (record { row = n; kind = kind.Node }) x e))

-- of a completed row nothing is thrown
left_plain : (p : Rows) (m : Meaning) (body n : ℕ) (b : Bool) (all : List State) (h : Hop State) → Contains (if b then [] else map (λ a. plainly (ending body a)) all) h → IsPlain h
left_plain p m body n true all h c = absurd (none_in h c)
left_plain p m body n false all h c = mapped_plain body all h c

moment_throws : (o : Moment) (p : Rows) (m : Meaning) (body n : ℕ) (w : Pending) (h : Hop State) (x : Point) → Contains (hops_by o p m body n w) h → h.is_throw ≡ true → point_by o p m body n ≡ Some x → (x.row ≡ body → ⊥) → x.kind ≡ kind.Node
moment_throws (before zero) p m body n w h x c t e apart = by (nat_eq n body) (Decides-eqb n body).0 e
  where
    by : (b : Bool) → (b ≡ true → n ≡ body) → (if b then point n kind.Entry else act_point n (slice_get (acts p m n) 0)) ≡ Some x → x.kind ≡ kind.Node
    by true tells f = absurd (apart (sym (ap (λ z. z.row) (same_Some (record { row = n; kind = kind.Entry }) x f)) ∙ tells refl))
    by false tells f = act_throws (slice_get (acts p m n) 0) n 0 (length (acts p m n)) w h x c t f
moment_throws (before (suc i)) p m body n w h x c t e apart = act_throws (slice_get (acts p m n) (suc i)) n (suc i) (length (acts p m n)) w h x c t e
moment_throws (completed k) p m body n w h x c t e apart = absurd (left_plain p m body n (nat_eq n body) (left_by (label p (parent p n)) p m (parent p n) n k w) h c t)

-- but for the row of the body
pub throws_at_nodes : (p : Rows) (m : Meaning) (body d : ℕ) → body ≤ d → (a b : State) (x : Point) → (body_flow p m body).point a ≡ Some x → Steps (body_flow p m body) a b true → d < x.row → x.kind ≡ kind.Node
throws_at_nodes p m body d le a b x e s lt = moment_throws a.moment p m body a.row a.pending (record { to = s.next; is_throw = true }) x s.hop refl e (λ same. absurd (omega (arith, le, lt, same)))
