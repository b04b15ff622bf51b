-- What reaches what, by pairs of points.
use Rattle.std.proofs.Common.{◌≡◌, ℕ, List, Option, Some, sym, ◌∙◌, ap, subst, slice_get}
use Rattle.std.proofs.lemmas.Option.{same_Some}
use Rattle.std.specs.List.{Contains}
use Rattle.jr_flow_defs.specs.declared.point.Point.{Point}
use Rattle.jr_flow_defs.specs.declared.point.PointKind.{PointKind}
use Rattle.jr_flow_defs.specs.declared.point.PointKind.TheVariants as kind
use Rattle.jr_flow_defs.specs.Edges.{point}
use Rattle.jr_flow_defs.specs.Graphs.{StepList, StepPath, PassesAt, is_definition_of, ReachesByNumbers}
use Rattle.jr_flow.specs.Reached.{Reaches, AreReaching, HasPair}

abbrev defined : ℕ → ℕ → Point
defined a m = record { row = a; kind = kind.Definition m }

abbrev local_in : PointKind → ℕ
local_in (kind.Definition d) = d
local_in _ = 0

abbrev local_at : Point → ℕ
local_at x = local_in x.kind

abbrev row_at : Point → ℕ
row_at x = x.row

local_of : (points : List Point) (i m n a b : ℕ) → slice_get points i ≡ point a (kind.Definition m) → slice_get points i ≡ point b (kind.Definition n) → (m ≡ n) × (a ≡ b)
local_of points i m n a b e f = let same = same_Some (defined a m) (defined b n) (sym e ∙ f) in (ap local_at same, ap row_at same)

pub paired : (points : List Point) (steps : StepList) (pairs : List (ℕ × ℕ)) (i j : ℕ) → AreReaching points steps pairs → ReachesByNumbers points steps i j → HasPair points pairs i j
paired points steps pairs i j are h = record {
  local = h.local;
  from = h.from;
  to = h.to;
  defines = h.defines;
  uses = h.uses;
  pair = are.every h.from h.to (record { local = h.local; from = i; to = j; defines = h.defines; uses = h.uses; path = h.path });
}

pub unpaired : (points : List Point) (steps : StepList) (pairs : List (ℕ × ℕ)) (i j : ℕ) → AreReaching points steps pairs → HasPair points pairs i j → ReachesByNumbers points steps i j
unpaired points steps pairs i j are h = let r = are.only h.from h.to h.pair in let same = local_of points h.from r.local h.local r.from i r.defines h.defines in
    record { local = h.local; from = h.from; to = h.to; defines = h.defines; uses = h.uses; path = subst (λ d. StepPath steps (PassesAt points (is_definition_of d)) h.from h.to) same.0 r.path }
