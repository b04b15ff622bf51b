-- Edges from definitions to uses of two flows, where those by the numbers of their points are kept.
use Rattle.std.proofs.Common.{◌≡◌, refl, sym, ◌∙◌, ap, ℕ, Option, Some, None}
use Rattle.std.proofs.lemmas.Option.{none-some}
use Rattle.jr_flow_defs.specs.declared.point.PointKind.{PointKind}
use Rattle.jr_flow_defs.specs.declared.point.PointKind.TheVariants as kind
use Rattle.jr_flow_defs.specs.Paths.{Flow}
use Rattle.jr_flow_defs.specs.Edges.{IsGraph, DefUse, own_number}
use Rattle.jr_flow_defs.specs.Graphs.{ReachesByNumbers}
use Rattle.jr_flow_defs.specs.Kept.{Arrives, CopyArrives, KeepsDefinitions, Never, NoHanding}
use Rattle.jr_flow_defs.proofs.Reaching.{reaching_goes_by_numbers}
use Rattle.jr_flow.specs.Reached.{steps_of}
use Rattle.jr_kept.specs.declared.flows.Flows.{Flows}
use Rattle.jr_kept.specs.Named.{origin_in}
use Rattle.jr_kept.specs.Gathered.{IsFound, IsOriginalOf}
use Rattle.jr_kept.specs.Arrived.{use_from, KeepsUses}
use Rattle.jr_kept.proofs.Comparing.{place_of}
use Rattle.jr_kept.proofs.Uses.{old_use_out}

-- what is found behind a definition that hands on is found
further : (R : ℕ → ℕ → Type 0) (use_of : ℕ → Option ℕ) (used d k : ℕ) → IsFound R use_of used d → use_of d ≡ Some k → (e : ℕ) → IsFound R use_of k e → IsFound R use_of used e
further R use_of used d k f u e (IsFound.first r) = IsFound.on f u r
further R use_of used d k f u e (IsFound.on {d = b} {k = m} more v r) = IsFound.on (further R use_of used d k f u b more) v r

-- a use that is a copy is one of a local
local_used : (k : PointKind) (from : Option ℕ) (old : ℕ) → use_from k from ≡ Some old → (d : ℕ) × (k ≡ kind.Use d)
local_used (kind.Use d) from old e = (d, refl)
local_used _ from old e = absurd (none-some old e)

module _ {A B : Type 0} (flows : Flows) (f : Flow A) (g : Flow B) (before : IsGraph f flows.before.now.body flows.before.now.points.items (steps_of flows.before.now)) (after : IsGraph g flows.after.now.body flows.after.now.points.items (steps_of flows.after.now)) where
  abbrev Reaches : ℕ → ℕ → Type 0
  Reaches d u = ReachesByNumbers flows.after.now.points.items (steps_of flows.after.now) d u

  abbrev origin : ℕ → Option ℕ
  origin n = origin_in flows.origin.now n

  old_by : (i j : ℕ) → (DefUse f i j → ReachesByNumbers flows.before.now.points.items (steps_of flows.before.now) i j) × (ReachesByNumbers flows.before.now.points.items (steps_of flows.before.now) i j → DefUse f i j)
  old_by i j = reaching_goes_by_numbers f flows.before.now.body flows.before.now.points.items (steps_of flows.before.now) before i j

  new_by : (i j : ℕ) → (DefUse g i j → Reaches i j) × (Reaches i j → DefUse g i j)
  new_by i j = reaching_goes_by_numbers g flows.after.now.body flows.after.now.points.items (steps_of flows.after.now) after i j

  module _ (IsHanding : ℕ → Type 0) (Hands : ℕ → ℕ → Type 0) (use_of : ℕ → Option ℕ) (hands : (d k : ℕ) → (use_of d ≡ Some k → Hands d k) × (Hands d k → use_of d ≡ Some k)) (own : (d : ℕ) → (use_of d ≡ None → IsHanding d → ⊥) × ((IsHanding d → ⊥) → use_of d ≡ None)) where
    abbrev Comes : ℕ → ℕ → Type 0
    Comes i j = Arrives g IsHanding Hands i j

    -- what arrives where a definition is handed on that is found arrives at the use
    onward : (used d : ℕ) → IsFound Reaches use_of used d → (i k : ℕ) → Comes i k → Hands d k → Comes i used
    onward used d (IsFound.first r) i k a h = Arrives.handed a h ((new_by d used).1 r)
    onward used d (IsFound.on {d = b} {k = m} f u r) i k a h = onward used b f i m (Arrives.handed a h ((new_by d m).1 r)) ((hands b m).0 u)

    arrives : (used d : ℕ) → IsFound Reaches use_of used d → use_of d ≡ None → Comes d used
    arrives used d (IsFound.first r) none = Arrives.own ((new_by d used).1 r) ((own d).0 none)
    arrives used d (IsFound.on {d = b} {k = m} f u r) none = onward used b f d m (Arrives.own ((new_by d m).1 r) ((own d).0 none)) ((hands b m).0 u)

    found : (i j : ℕ) → Comes i j → IsFound Reaches use_of j i × (use_of i ≡ None)
    found i j (Arrives.own e apart) = (IsFound.first ((new_by i j).0 e), (own i).1 apart)
    found i j (Arrives.handed {d = d} {k = k} a h e) = let o = found i k a in (further Reaches use_of j d k (IsFound.first ((new_by d j).0 e)) ((hands d k).1 h) i o.0, o.1)

    copy_of : (i j : ℕ) → IsOriginalOf Reaches use_of origin j i → CopyArrives g IsHanding Hands origin i j
    copy_of i j o = record { copy = o.copy; is_copy = o.is_copy; arrives = arrives j o.copy o.found o.own }

    original_of : (i j : ℕ) → CopyArrives g IsHanding Hands origin i j → IsOriginalOf Reaches use_of origin j i
    original_of i j c = let o = found c.copy j c.arrives in record { copy = c.copy; found = o.0; own = o.1; is_copy = c.is_copy }

    pub definitions_handed : KeepsUses flows use_of → KeepsDefinitions f g IsHanding Hands origin
    definitions_handed h = record {
      same = λ b d i j old reached at is. let both = h (after.number b) (record { row = j; kind = kind.Use d }) old (after.numbering.stands b (record { row = j; kind = kind.Use d }) reached at) is i in (
        λ e. copy_of i j (both.0 ((old_by i old).0 e)),
        λ c. (old_by i old).1 (both.1 (original_of i j c)),
      );
    }

    pub uses_handed : KeepsDefinitions f g IsHanding Hands origin → KeepsUses flows use_of
    uses_handed h k x old at is n =
        let local = local_used x.kind (origin x.row) old is in
        let place = place_of g flows.after.now.body flows.after.now.points.items (steps_of flows.after.now) after k x at (ap own_number local.1) in
        let both = h.same place.at local.0 n x.row old place.reached (place.stands ∙ ap (λ z. Some (record { row = x.row; kind = z })) local.1) (old_use_out origin x old is) in (
          λ r. original_of n x.row (both.0 ((old_by n old).1 r)),
          λ o. (old_by n old).0 (both.1 (copy_of n x.row o)),
        )

  -- where nothing is handed on
  pub definitions_kept : (use_of : ℕ → Option ℕ) → ((d : ℕ) → use_of d ≡ None) → KeepsUses flows use_of → KeepsDefinitions f g Never NoHanding origin
  definitions_kept use_of none h = definitions_handed Never NoHanding use_of (λ d k. (λ u. absurd (none-some k (sym (none d) ∙ u)), λ h. absurd h)) (λ d. (λ e h. h, λ apart. none d)) h

  pub uses_numbered : (use_of : ℕ → Option ℕ) → ((d : ℕ) → use_of d ≡ None) → KeepsDefinitions f g Never NoHanding origin → KeepsUses flows use_of
  uses_numbered use_of none h = uses_handed Never NoHanding use_of (λ d k. (λ u. absurd (none-some k (sym (none d) ∙ u)), λ h. absurd h)) (λ d. (λ e h. h, λ apart. none d)) h
