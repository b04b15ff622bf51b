-- The search finds what reaches what.
use Rattle.std.proofs.Common.{◌≡◌, ◌⊎◌, inl, inr, ⊎_elim, refl, sym, ◌∙◌, ap, subst, arith, ℕ, ◌+◌, ◌<◌, ◌≤◌, Bool, true, false, not, nat_eq, List, [], ◌∷◌, ◌++◌, length, map, Option, Some, None, slice_get}
use Rattle.std.specs.List.{Contains}
use Rattle.std.specs.List.Sorted.{IsPermutation}
use Rattle.std.proofs.lemmas.Bool.{false≢true, cases_lt}
use Rattle.std.proofs.lemmas.Bool.Decides.{Decides-eqb}
use Rattle.std.proofs.lemmas.Option.{none-some, same_Some, slice_get_within}
use Rattle.std.proofs.lemmas.List.Sorted.{Contains-permutation, IsPermutation-sym}
use Rattle.jr_tree.specs.Rows.{Rows}
use Rattle.jr_places.specs.declared.stamps.Stamps.{Stamps}
use Rattle.jr_places.specs.Stamps.{is_stamped}
use Rattle.jr_flow_defs.specs.declared.point.Point.{Point}
use Rattle.jr_flow_defs.specs.declared.point.PointKind.{PointKind}
use Rattle.jr_flow_defs.specs.declared.point.PointKind.TheVariants as kind
use Rattle.jr_flow_defs.specs.Meaning.{Meaning}
use Rattle.jr_flow_defs.specs.Paths.{Flow}
use Rattle.jr_flow_defs.specs.Edges.{point, body_flow, IsGraph, DefUse}
use Rattle.jr_flow_defs.specs.Graphs.{StepList, StepPath, PassesAt, is_definition_of}
use Rattle.jr_flow_defs.specs.Computed.{is_definition}
use Rattle.jr_flow_defs.proofs.Flowing.{definition_tells}
use Rattle.jr_flow_defs.proofs.Reaching.{reaching_goes_by_numbers}
use Rattle.jr_flow.specs.declared.point.Step.{Step}
use Rattle.jr_flow.specs.declared.links.Links.{Links}
use Rattle.jr_flow.specs.declared.search.Search.{Search}
use Rattle.jr_flow.specs.declared.webs.Web.{Web}
use Rattle.jr_flow.specs.declared.webs.Finder.{Finder}
use Rattle.jr_flow.specs.Linked.{items_in, first_of}
use Rattle.jr_flow.specs.Spread.{lets, IsCome, found_in, HasCome}
use Rattle.jr_flow.specs.Reached.{step_seen, Reaches, AreReaching, HasPair}
use Rattle.jr_flow.specs.Woven.{IsFor, pair_behind, pair_before, IsBound, IsWovenOf, HasList, is_use_by, is_use, NotesUses, AreFound, of_definition, of_list, of_local, of_first, IsFinder, HasLive, Follows, Finds, pairs_in}
use Rattle.jr_flow.proofs.Linking.{get_of, among}
use Rattle.jr_flow.proofs.Weaving.{apart}
use Rattle.jr_flow.proofs.Woven.{of_map, in_map}
use Rattle.jr_flow.proofs.Pairing.{paired, unpaired}

come_enters : (starts : List (ℕ × ℕ)) (key : ℕ) (links : List (ℕ × ℕ)) (enters : ℕ → Bool) (x : ℕ) → IsCome starts key links enters x → enters x ≡ true
come_enters starts key links enters x (IsCome.begin c e) = e
come_enters starts key links enters x (IsCome.on before c e) = e

-- ---- uses

use_tells : (local : ℕ) (o : Option Point) → is_use local o ≡ true → (row : ℕ) × (o ≡ point row (kind.Use local))
use_tells local None e = absurd (false≢true e)
use_tells local (Some x) e = (x.row, ap Some (λ i. record { row = x.row; kind = by x.kind e i }))
  where
    by : (k : PointKind) → is_use_by local k ≡ true → k ≡ kind.Use local
    by (kind.Use d) h = ap kind.Use ((Decides-eqb d local).0 h)
    by kind.Entry h = absurd (false≢true h)
    by kind.Exit h = absurd (false≢true h)
    by kind.Thrown h = absurd (false≢true h)
    by kind.Node h = absurd (false≢true h)
    by (kind.Definition d) h = absurd (false≢true h)

is_its_use : (local row : ℕ) (o : Option Point) → o ≡ point row (kind.Use local) → is_use local o ≡ true
is_its_use local row o e = ap (is_use local) e ∙ (Decides-eqb local local).1 refl

-- ---- one local

module _ (points : List Point) (steps : List Step) (rows : List ℕ) (web : Web) (woven : IsWovenOf points steps rows web) (bound : ℕ) (b : IsBound points steps bound) (key local : ℕ) (at_key : slice_get rows key ≡ Some local) where
  abbrev seen : StepList
  seen = map step_seen steps

  abbrev Stops : ℕ → Type 0
  Stops = PassesAt points (is_definition_of local)

  step_of : (i j : ℕ) (t : Bool) → Contains seen (i, j, t) → (k : ℕ) × (s : Step) × (slice_get steps k ≡ Some s) × (s.from ≡ i) × (s.to ≡ j)
  step_of i j t c = let one = of_map step_seen steps (i, j, t) c in (one.0, one.1, one.2, ap (λ x. x.0) one.3, ap (λ x. x.1) one.3)

  step_inside : (i j : ℕ) (t : Bool) → Contains seen (i, j, t) → (i < bound) × (j < bound)
  step_inside i j t c = let one = step_of i j t c in let inside = b.steps_are one.0 one.1 one.2 in (subst (λ x. x < bound) one.3 inside.0, subst (λ x. x < bound) one.4 inside.1)

  behind_of : (i j : ℕ) → Contains (map pair_behind steps) (i, j) → (t : Bool) × Contains seen (i, j, t)
  behind_of i j c = let one = of_map pair_behind steps (i, j) c in let s = one.1 in
      (s.is_throw, subst (λ x. Contains seen (x, j, s.is_throw)) (ap (λ x. x.0) one.3) (subst (λ x. Contains seen (s.from, x, s.is_throw)) (ap (λ x. x.1) one.3) (in_map step_seen steps one.0 s one.2)))

  behind_in : (i j : ℕ) (t : Bool) → Contains seen (i, j, t) → Contains (map pair_behind steps) (i, j)
  behind_in i j t c = let one = step_of i j t c in let s = one.1 in
      subst (λ x. Contains (map pair_behind steps) (x, j)) one.3 (subst (λ x. Contains (map pair_behind steps) (s.from, x)) one.4 (in_map pair_behind steps one.0 s one.2))

  before_in : (i j : ℕ) (t : Bool) → Contains seen (i, j, t) → Contains (map pair_before steps) (j, i)
  before_in i j t c = let one = step_of i j t c in let s = one.1 in
      subst (λ x. Contains (map pair_before steps) (j, x)) one.3 (subst (λ x. Contains (map pair_before steps) (x, s.from)) one.4 (in_map pair_before steps one.0 s one.2))

  point_inside : (i : ℕ) (x : Point) → slice_get points i ≡ Some x → i < bound
  point_inside i x e = let lt = slice_get_within points i x e in let le = b.points_are in omega (arith, lt, le)

  is_key : (n : ℕ) → slice_get rows n ≡ Some local → n ≡ key
  is_key n e = woven.once n key local e at_key

  definition_listed : (i row : ℕ) → slice_get points i ≡ point row (kind.Definition local) → Contains woven.definitions (key, i)
  definition_listed i row e = let one = woven.definitions_are.every i row local (slice_get_within points i _ e) e in subst (λ n. Contains woven.definitions (n, i)) (is_key one.0 one.1) one.2

  use_listed : (i row : ℕ) → slice_get points i ≡ point row (kind.Use local) → Contains woven.uses (key, i)
  use_listed i row e = let one = woven.uses_are.every i row local (slice_get_within points i _ e) e in subst (λ n. Contains woven.uses (n, i)) (is_key one.0 one.1) one.2

  pub listed_definition : (i : ℕ) → Contains woven.definitions (key, i) → (row : ℕ) × (slice_get points i ≡ point row (kind.Definition local))
  listed_definition i c = let one = woven.definitions_are.only key i c in (one.row, subst (λ d. slice_get points i ≡ point one.row (kind.Definition d)) (same_Some one.local local (sym one.is ∙ at_key)) one.stands)

  module _ (finder : Finder) (h : HasLive bound woven.definitions woven.uses steps key finder) where
    abbrev walls : Stamps
    walls = finder.walls

    wall : (x : ℕ) → Stops x → is_stamped walls x ≡ true
    wall x p = let is = (definition_tells local p.point.kind).0 p.passes in
        h.walls.every x (definition_listed x p.point.row (p.stands ∙ ap Some (λ i. record { row = p.point.row; kind = is i }))) (point_inside x p.point p.stands)

    wall_stops : (x : ℕ) → is_stamped walls x ≡ true → Stops x
    wall_stops x e = let one = listed_definition x (h.walls.only x e) in record { point = record { row = one.0; kind = kind.Definition local }; stands = one.1; passes = (Decides-eqb local local).1 refl }

    opens : (x : ℕ) → (Stops x → ⊥) → lets walls false x ≡ true
    opens x passes = by (is_stamped walls x) refl
      where
        by : (s : Bool) → is_stamped walls x ≡ s → not s ≡ true
        by true e = absurd (passes (wall_stops x e))
        by false e = refl

    live_passes : (x : ℕ) → Contains (found_in finder.live) x → Stops x → ⊥
    live_passes x c p = false≢true (sym (ap not (wall x p)) ∙ come_enters woven.uses key (map pair_before steps) (lets walls false) x (h.live.only x c))

    use_lives : (j row : ℕ) → slice_get points j ≡ point row (kind.Use local) → Contains (found_in finder.live) j
    use_lives j row e = h.live.begun j (use_listed j row e) (opens j no) (point_inside j (record { row = row; kind = kind.Use local }) e)
      where
        no : Stops j → ⊥
        no p = let is = (definition_tells local p.point.kind).0 p.passes in apart p.point.row row local local (sym (p.stands ∙ ap Some (λ i. record { row = p.point.row; kind = is i })) ∙ e)

    module _ (definition : ℕ) (behind : Search) (g : HasCome bound (lets finder.live.met true) (map pair_behind steps) definition (map pair_behind steps) behind) where
      sound : (x : ℕ) → IsCome (map pair_behind steps) definition (map pair_behind steps) (lets finder.live.met true) x → StepPath seen Stops definition x
      sound x (IsCome.begin c e) = let s = behind_of definition x c in StepPath.step s.0 s.1
      sound x (IsCome.on {k = k} before c e) = let s = behind_of k x c in
          StepPath.on s.0 (sound k before) (live_passes k (h.live.is.only k (come_enters (map pair_behind steps) definition (map pair_behind steps) (lets finder.live.met true) k before))) s.1

      complete : (j : ℕ) → StepPath seen Stops definition j → Contains (found_in finder.live) j → Contains (found_in behind) j
      complete j (StepPath.step t c) l = g.begun j (behind_in definition j t c) (h.live.is.met j l) (step_inside definition j t c).1
      complete j (StepPath.on {k = k} t path passes c) l = let inside = step_inside k j t c in
          g.closed k j (complete k path (h.live.closed j k l (before_in k j t c) (opens k passes) inside.0)) (behind_in k j t c) (h.live.is.met j l) inside.1

      pub follow_found : (row : ℕ) (old new : List (ℕ × ℕ)) → slice_get points definition ≡ point row (kind.Definition local) → NotesUses points local definition (found_in behind) (length (found_in behind)) old new
          → AreFound points seen (of_definition definition local) old new
      follow_found row old new at noted = record {
        kept = noted.kept;
        only = λ i j c. ⊎_elim (λ early. inl early) (λ one. inr (reached i j one)) (noted.only i j c);
        every = λ i j r are. subst (λ x. Contains new (x, j)) are.0 (found j r.to (r.uses ∙ ap (λ d. point r.to (kind.Use d)) (sym are.1)) (subst (λ d. StepPath seen (PassesAt points (is_definition_of d)) definition j) (sym are.1) (subst (λ x. StepPath seen (PassesAt points (is_definition_of r.local)) x j) (sym are.0) r.path)));
      }
        where
          reached : (i j : ℕ) → (definition ≡ i) × Contains (found_in behind) j × (is_use local (slice_get points j) ≡ true) → Reaches points seen i j
          reached i j one = let one_use = use_tells local (slice_get points j) one.2 in subst (λ x. Reaches points seen x j) one.0 (record {
            local = local;
            from = row;
            to = one_use.0;
            defines = at;
            uses = one_use.1;
            path = sound j (g.only j one.1);
          })

          found : (j to : ℕ) → slice_get points j ≡ point to (kind.Use local) → StepPath seen Stops definition j → Contains new (definition, j)
          found j to e path = let at_j = get_of (found_in behind) j (complete j path (use_lives j to e)) in
              noted.every at_j.0 j (slice_get_within (found_in behind) at_j.0 j at_j.1) at_j.1 (is_its_use local to (slice_get points j) e)

-- ---- what is found in turn

module _ (points : List Point) (steps : StepList) where
  pub nothing_found : (are : ℕ → ℕ → Type 0) (pairs : List (ℕ × ℕ)) → ((i d : ℕ) → are i d → ⊥) → AreFound points steps are pairs pairs
  nothing_found are pairs none_so = record { kept = λ x c. c; only = λ i j c. inl c; every = λ i j r a. absurd (none_so i r.local a) }

  pub then_found : (first second all : ℕ → ℕ → Type 0) (old mid new : List (ℕ × ℕ)) → ((i d : ℕ) → all i d → (first i d) ⊎ (second i d)) → AreFound points steps first old mid → AreFound points steps second mid new → AreFound points steps all old new
  then_found first second all old mid new split h g = record {
    kept = λ x c. g.kept x (h.kept x c);
    only = λ i j c. ⊎_elim (λ early. h.only i j early) (λ r. inr r) (g.only i j c);
    every = λ i j r a. ⊎_elim (λ one. g.kept (i, j) (h.every i j r one)) (λ two. g.every i j r two) (split i r.local a);
  }

  pub fewer_found : (more fewer : ℕ → ℕ → Type 0) (old new : List (ℕ × ℕ)) → ((i j : ℕ) (r : Reaches points steps i j) → fewer i r.local → more i r.local) → AreFound points steps more old new → AreFound points steps fewer old new
  fewer_found more fewer old new weaker h = record { kept = h.kept; only = h.only; every = λ i j r a. h.every i j r (weaker i j r a) }

-- ---- the definitions of a local

pub none_in_list : (links : Links) (key local i d : ℕ) → of_list links key (first_of links key) local i d → ⊥
none_in_list links key local i d h = let from = h.0.1 in let to = h.0.2 in omega (arith, from, to)

pub one_in_list : (links : Links) (key nth local x i d : ℕ) → slice_get (items_in links) nth ≡ Some x → of_list links key (nth + 1) local i d → (of_list links key nth local i d) ⊎ (of_definition x local i d)
one_in_list links key nth local x i d at h = ⊎_elim
    (λ before. inl ((h.0.0, h.0.1, before, h.0.3), h.1))
    (λ past. let to = h.0.2 in let same : h.0.0 ≡ nth = omega (arith, past, to) in inr (same_Some x i (sym at ∙ ap (slice_get (items_in links)) (sym same) ∙ h.0.3), h.1))
    (cases_lt h.0.0 nth)

pub none_at : (links : Links) (key nth local i d : ℕ) → slice_get (items_in links) nth ≡ None → of_list links key (nth + 1) local i d → of_list links key nth local i d
none_at links key nth local i d none h = ⊎_elim
    (λ before. ((h.0.0, h.0.1, before, h.0.3), h.1))
    (λ past. let to = h.0.2 in let same : h.0.0 ≡ nth = omega (arith, past, to) in absurd (none-some i (sym none ∙ ap (slice_get (items_in links)) (sym same) ∙ h.0.3)))
    (cases_lt h.0.0 nth)

module _ (points : List Point) (steps : List Step) (rows : List ℕ) (web : Web) (woven : IsWovenOf points steps rows web) (bound : ℕ) (b : IsBound points steps bound) (key local : ℕ) (at_key : slice_get rows key ≡ Some local) where
  -- each definition of the local stands in its list
  pub all_in_list : (stop i j : ℕ) → first_of web.definitions (key + 1) ≤ stop → (r : Reaches points (map step_seen steps) i j) → of_local local i r.local → of_list web.definitions key stop local i r.local
  all_in_list stop i j past r same =
      let e = r.defines ∙ ap (λ d. point r.from (kind.Definition d)) (sym same) in
      let item = woven.web_is.definitions_are.every key i (definition_listed points steps rows web woven bound b key local at_key i r.from e) in let to = item.to in
      ((item.nth, item.from, omega (arith, to, past), item.stands), same)

-- ---- all locals

pub none_first : (rows : List ℕ) (i d : ℕ) → of_first rows 0 i d → ⊥
none_first rows i d h = let lt = h.1 in omega (arith, lt)

pub next_first : (rows : List ℕ) (n local i d : ℕ) → slice_get rows n ≡ Some local → of_first rows (n + 1) i d → (of_first rows n i d) ⊎ (of_local local i d)
next_first rows n local i d at h = ⊎_elim (λ before. inl (h.0, before, h.2)) (λ past. let lt = h.1 in let same : h.0 ≡ n = omega (arith, past, lt) in inr (same_Some local d (sym at ∙ ap (slice_get rows) (sym same) ∙ h.2))) (cases_lt h.0 n)

pub all_reaching : (points : List Point) (steps : List Step) (rows : List ℕ) (web : Web) (pairs : List (ℕ × ℕ)) → IsWovenOf points steps rows web → AreFound points (map step_seen steps) (of_first rows (length rows)) [] pairs → AreReaching points (map step_seen steps) pairs
all_reaching points steps rows web pairs woven h = record {
  only = λ i j c. ⊎_elim (λ none. absurd (omega (arith, none.1))) (λ r. r) (h.only i j c);
  every = λ i j r. let one = woven.definitions_are.every i r.from r.local (slice_get_within points i _ r.defines) r.defines in h.every i j r (one.0, slice_get_within rows one.0 r.local one.1, one.1);
}

pub reaching_moved : (points : List Point) (steps : StepList) (old new : List (ℕ × ℕ)) → IsPermutation old new → AreReaching points steps old → AreReaching points steps new
reaching_moved points steps old new moved h = record {
  only = λ i j c. h.only i j (Contains-permutation new old (i, j) (IsPermutation-sym old new moved) c);
  every = λ i j r. Contains-permutation old new (i, j) moved (h.every i j r);
}

-- the pairs of a graph are edges of its flow
pub reaching_edges : (p : Rows) (m : Meaning) (body : ℕ) (points : List Point) (steps : StepList) (pairs : List (ℕ × ℕ)) → IsGraph (body_flow p m body) body points steps → AreReaching points steps pairs
    → (i j : ℕ) → (DefUse (body_flow p m body) i j → HasPair points pairs i j) × (HasPair points pairs i j → DefUse (body_flow p m body) i j)
reaching_edges p m body points steps pairs graph are i j = let law = reaching_goes_by_numbers (body_flow p m body) body points steps graph i j in
    (λ u. paired points steps pairs i j are (law.0 u), λ h. law.1 (unpaired points steps pairs i j are h))
