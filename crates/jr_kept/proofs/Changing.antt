-- Changes of locals between that of a local and its uses, by the numbers of points and in a flow.
use Rattle.std.proofs.Common.{◌≡◌, refl, sym, ◌∙◌, ap, subst, ℕ, ◌<◌, Bool, true, List, Option, Some, None, slice_get}
use Rattle.std.specs.List.{Contains}
use Rattle.std.proofs.lemmas.Bool.{false≢true}
use Rattle.std.proofs.lemmas.Option.{same_Some}
use Rattle.jr_tree.specs.Rows.{Rows, end}
use Rattle.jr_flow_defs.specs.declared.point.Point.{Point}
use Rattle.jr_flow_defs.specs.declared.point.PointKind.TheVariants as kind
use Rattle.jr_flow_defs.specs.Paths.{Flow, IsReached, Path, IsPoint, Steps}
use Rattle.jr_flow_defs.specs.Edges.{point, IsGraph, Defines}
use Rattle.jr_flow_defs.specs.Graphs.{StepList, StepPath, StopsAt, PassesAt, is_definition_of}
use Rattle.jr_flow_defs.specs.Computed.{is_definition, defined_at}
use Rattle.jr_flow_defs.specs.Kept.{HasEventIn, IsChangedBetween, IsDisturbed}
use Rattle.jr_flow_defs.proofs.Flowing.{definition_tells}
use Rattle.jr_flow_defs.proofs.Numbered.{by_numbers, by_places, reached_along}
use Rattle.jr_kept.specs.Disturbed.{IsBetween, IsHeld, ThrowsInside, IsUndisturbed}
use Rattle.jr_kept.proofs.Comparing.{place_at}
use Rattle.jr_kept.proofs.Disturbing.{inside_tells}

-- ---- paths that pass no other definition

path_under : {A : Type 0} (f : Flow A) (S T : A → Type 0) → ((a : A) → T a → S a) → (a b : A) → Path f S a b → Path f T a b
path_under f S T weaker a b (Path.hop g) = Path.hop g
path_under f S T weaker a b (Path.on {r = r} path apart g) = Path.on (path_under f S T weaker a r path) (λ t. apart (weaker r t)) g

steps_under : (steps : StepList) (S T : ℕ → Type 0) → ((k j : ℕ) (t : Bool) → Contains steps (k, j, t) → T k → S k) → (i j : ℕ) → StepPath steps S i j → StepPath steps T i j
steps_under steps S T weaker i j (StepPath.step t c) = StepPath.step t c
steps_under steps S T weaker i j (StepPath.on {k = k} t path apart c) = StepPath.on t (steps_under steps S T weaker i k path) (λ s. apart (weaker k j t c s)) c

defined : (d : ℕ) (o : Option Point) → defined_at d o ≡ true → (x : Point) × (o ≡ Some x) × (is_definition d x.kind ≡ true)
defined d None e = absurd (false≢true e)
defined d (Some x) e = (x, refl, e)

module _ {A : Type 0} (p : Rows) (f : Flow A) (body : ℕ) (points : List Point) (steps : StepList) (g : IsGraph f body points steps) (d : ℕ) where
  abbrev stops : A → Bool
  stops a = defined_at d (f.point a)

  abbrev Stops : ℕ → Type 0
  Stops k = PassesAt points (is_definition_of d) k

  points_stop : (a : A) → stops a ≡ true → IsPoint f a
  points_stop a e = let x = defined d (f.point a) e in record { point = x.0; stands = x.1 }

  defines : (a : A) → stops a ≡ true → Defines f d a
  defines a e = let x = defined d (f.point a) e in record { row = x.0.row; stands = x.1 ∙ ap (λ k. point x.0.row k) ((definition_tells d x.0.kind).0 x.2) }

  number_stops : (k j : ℕ) (t : Bool) → Contains steps (k, j, t) → Stops k → StopsAt f g.number stops k
  number_stops k j t c s = let h = g.only k j t c in let x = h.steps.from in
      let same : s.point ≡ x.point = same_Some s.point x.point (sym s.stands ∙ subst (λ m. slice_get points m ≡ Some x.point) h.numbers.0 (g.numbering.stands h.from x.point h.reached x.stands)) in
      record { at = h.from; reached = h.reached; point = x; numbered = h.numbers.0; stop = ap (defined_at d) x.stands ∙ ap (λ z. is_definition d z.kind) (sym same) ∙ s.passes }

  pub to_numbers : (a b : A) → IsReached f a → IsPoint f a → IsPoint f b → Path f (Defines f d) a b → StepPath steps Stops (g.number a) (g.number b)
  to_numbers a b r x y path = steps_under steps (StopsAt f g.number stops) Stops number_stops (g.number a) (g.number b)
      (by_numbers f body points steps g stops points_stop a b r x y (path_under f (Defines f d) (λ z. stops z ≡ true) defines a b path))

  stops_number : (k j : ℕ) (t : Bool) → Contains steps (k, j, t) → StopsAt f g.number stops k → Stops k
  stops_number k j t c s = record {
    point = s.point.point;
    stands = subst (λ m. slice_get points m ≡ Some s.point.point) s.numbered (g.numbering.stands s.at s.point.point s.reached s.point.stands);
    passes = sym (ap (defined_at d) s.point.stands) ∙ s.stop;
  }

  stops_where : (a : A) → Defines f d a → stops a ≡ true
  stops_where a h = ap (defined_at d) h.stands ∙ (definition_tells d (kind.Definition d)).1 refl

  pub of_numbers : (a b : A) → IsReached f a → IsPoint f a → IsReached f b → IsPoint f b → StepPath steps Stops (g.number a) (g.number b) → Path f (Defines f d) a b
  of_numbers a b r x s y path = path_under f (λ z. stops z ≡ true) (Defines f d) stops_where a b
      (by_places f body points steps g stops points_stop a b r x s y (steps_under steps Stops (StopsAt f g.number stops) stops_number (g.number a) (g.number b) path))

  pub comes_to : (a b : A) → IsReached f a → Path f (Defines f d) a b → IsReached f b
  comes_to a b r path = reached_along f (λ z. stops z ≡ true) points_stop a b r (path_under f (Defines f d) (λ z. stops z ≡ true) defines a b path)

  changed_reached : (local : ℕ) (h : IsChangedBetween f d local) → IsReached f h.between
  changed_reached local h = comes_to h.from h.between h.reached h.before

  is_between : (local : ℕ) (h : IsChangedBetween f d local) → IsBetween points steps d (g.number h.between)
  is_between local h =
      let first : IsPoint f h.from = record { point = record { row = h.declares.row; kind = kind.Definition d }; stands = h.declares.stands } in
      let mid : IsPoint f h.between = record { point = record { row = h.row; kind = kind.Definition local }; stands = h.changes } in
      let last : IsPoint f h.to = record { point = record { row = h.used_at; kind = kind.Use d }; stands = h.uses } in
      let there = changed_reached local h in
      record {
        from = g.number h.from;
        to = g.number h.to;
        row = h.declares.row;
        used_at = h.used_at;
        defines = g.numbering.stands h.from first.point h.reached h.declares.stands;
        uses = g.numbering.stands h.to last.point (comes_to h.between h.to there h.after) h.uses;
        before = to_numbers h.from h.between h.reached first mid h.before;
        after = to_numbers h.between h.to there mid last h.after;
      }

  between_none : (local : ℕ) (h : IsChangedBetween f d local) → IsUndisturbed p points steps d → IsHeld p points steps d local → ⊥
  between_none local h none holds = none.between (g.number h.between) h.row local (g.numbering.stands h.between (record { row = h.row; kind = kind.Definition local }) (changed_reached local h) h.changes) h.other holds (is_between local h)

  pub never_disturbed : IsUndisturbed p points steps d → IsDisturbed p f d → ⊥
  never_disturbed none (IsDisturbed.inside {local = local} h) = none.inside (g.number h.at) h.row local (g.numbering.stands h.at (record { row = h.row; kind = kind.Definition local }) h.reached h.defines) ((inside_tells d (end p d) h.row).1 h.inside)
  never_disturbed none (IsDisturbed.between {local = local} u h) = between_none local h none
      (IsHeld.used (g.number u.at) u.row (g.numbering.stands u.at (record { row = u.row; kind = kind.Use local }) u.reached u.uses) ((inside_tells d (end p d) u.row).1 u.inside))
  never_disturbed none (IsDisturbed.throwing {local = local} t h) = between_none local h none (IsHeld.throwing (record {
    from = g.number t.at;
    to = g.number t.next;
    point = record { row = t.row; kind = kind.Node };
    step = g.every (g.number t.at) (g.number t.next) true (record { from = t.at; to = t.next; reached = t.reached; numbers = (refl, refl); steps = t.throws });
    stands = g.numbering.stands t.at (record { row = t.row; kind = kind.Node }) t.reached t.stands;
    inside = (inside_tells d (end p d) t.row).1 t.inside;
  }))

  -- ---- and back

  is_changed : (k row local : ℕ) → slice_get points k ≡ point row (kind.Definition local) → (local ≡ d → ⊥) → IsBetween points steps d k → IsChangedBetween f d local
  is_changed k row local stands other b =
      let first = place_at f body points steps g b.from (record { row = b.row; kind = kind.Definition d }) b.defines refl in
      let mid = place_at f body points steps g k (record { row = row; kind = kind.Definition local }) stands refl in
      let last = place_at f body points steps g b.to (record { row = b.used_at; kind = kind.Use d }) b.uses refl in
      let first_point : IsPoint f first.at = record { point = record { row = b.row; kind = kind.Definition d }; stands = first.stands } in
      let mid_point : IsPoint f mid.at = record { point = record { row = row; kind = kind.Definition local }; stands = mid.stands } in
      let last_point : IsPoint f last.at = record { point = record { row = b.used_at; kind = kind.Use d }; stands = last.stands } in
      record {
        from = first.at;
        between = mid.at;
        to = last.at;
        row = row;
        used_at = b.used_at;
        reached = first.reached;
        declares = record { row = b.row; stands = first.stands };
        changes = mid.stands;
        other = other;
        uses = last.stands;
        before = of_numbers first.at mid.at first.reached first_point mid.reached mid_point (subst (λ n. StepPath steps Stops (g.number first.at) n) (sym mid.numbered) (subst (λ n. StepPath steps Stops n k) (sym first.numbered) b.before));
        after = of_numbers mid.at last.at mid.reached mid_point last.reached last_point (subst (λ n. StepPath steps Stops (g.number mid.at) n) (sym last.numbered) (subst (λ n. StepPath steps Stops n b.to) (sym mid.numbered) b.after));
      }

  -- where throws leave nodes alone
  module _ (nodes : (a b : A) (x : Point) → f.point a ≡ Some x → Steps f a b true → d < x.row → x.kind ≡ kind.Node) where
    has_event : ThrowsInside points steps d (end p d) → HasEventIn p f d
    has_event t =
        let s = g.only t.from t.to true t.step in
        let from = s.steps.from in
        let same : from.point ≡ t.point = same_Some from.point t.point (sym (subst (λ n. slice_get points n ≡ Some from.point) s.numbers.0 (g.numbering.stands s.from from.point s.reached from.stands)) ∙ t.stands) in
        let stands : f.point s.from ≡ Some t.point = from.stands ∙ ap Some same in
        let inside = (inside_tells d (end p d) t.point.row).0 t.inside in record {
          at = s.from;
          next = s.to;
          row = t.point.row;
          reached = s.reached;
          stands = stands ∙ ap (λ k. point t.point.row k) (nodes s.from s.to t.point stands s.steps inside.0);
          throws = s.steps;
          inside = inside;
        }

    pub undisturbed_numbers : (IsDisturbed p f d → ⊥) → IsUndisturbed p points steps d
    undisturbed_numbers calm = record {
      inside = λ k row local stands in_it. let place = place_at f body points steps g k (record { row = row; kind = kind.Definition local }) stands refl in
          calm (IsDisturbed.inside {local = local} (record { at = place.at; row = row; reached = place.reached; defines = place.stands; inside = (inside_tells d (end p d) row).0 in_it }));
      between = λ k row local stands other holds b. by local (is_changed k row local stands other b) holds;
    }
      where
        by : (local : ℕ) → IsChangedBetween f d local → IsHeld p points steps d local → ⊥
        by local changed (IsHeld.used j used_at stands in_it) = let place = place_at f body points steps g j (record { row = used_at; kind = kind.Use local }) stands refl in
            calm (IsDisturbed.between {local = local} (record { at = place.at; row = used_at; reached = place.reached; uses = place.stands; inside = (inside_tells d (end p d) used_at).0 in_it }) changed)
        by local changed (IsHeld.throwing t) = calm (IsDisturbed.throwing {local = local} (has_event t) changed)
