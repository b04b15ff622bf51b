-- A flow that is a copy of another, place by place.
use Rattle.std.specs.Prelude.{◌≡◌, ℕ, Some, option_map}
use Rattle.jr_tree.specs.Rows.{Rows}
use Rattle.jr_flow_defs.specs.declared.point.Point.{Point}
use Rattle.jr_flow_defs.specs.declared.point.PointKind.{PointKind}
use Rattle.jr_flow_defs.specs.declared.point.PointKind.TheVariants as kind
use Rattle.jr_flow_defs.specs.Paths.{Flow, IsReached}
use Rattle.jr_flow_defs.specs.Edges.{Naming, IsInside, ControlEdge, DefUse}
use Rattle.jr_flow_defs.specs.Kept.{Same, each_hop}

abbrev pub moved_kind : (ℕ → ℕ) → PointKind → PointKind
moved_kind row (kind.Definition d) = kind.Definition (row d)
moved_kind row (kind.Use d) = kind.Use (row d)
moved_kind row k = k

abbrev pub moved_point : (ℕ → ℕ) → Point → Point
moved_point row x = record { row = row x.row; kind = moved_kind row x.kind }

-- each place goes over to one of the other flow, with what comes next, and each row to another
pub record IsCopied {A B : Type 0} (f : Flow A) (g : Flow B) (move : A → B) (row : ℕ → ℕ) : Type 0 where
  pub start : g.start ≡ move f.start
  pub hops : (a : A) → IsReached f a → g.hops (move a) ≡ each_hop move (f.hops a)
  pub points : (a : A) → IsReached f a → g.point (move a) ≡ option_map (moved_point row) (f.point a)
  pub apart : (m n : ℕ) → row m ≡ row n → m ≡ n

-- the names of the rows of points go over, and so does which of them hold which
pub record IsNamedAlike {A : Type 0} (p q : Rows) (f : Flow A) (row : ℕ → ℕ) (naming other : Naming) : Type 0 where
  pub names : (a : A) (x : Point) → IsReached f a → f.point a ≡ Some x → other (row x.row) ≡ naming x.row
  pub inside : (a b : A) (x y : Point) → IsReached f a → IsReached f b → f.point a ≡ Some x → f.point b ≡ Some y
      → (IsInside p x y → IsInside q (moved_point row x) (moved_point row y)) × (IsInside q (moved_point row x) (moved_point row y) → IsInside p x y)

-- an edge of the copy, by the rows of the original
pub record HasOriginal {A : Type 0} (f : Flow A) (row : ℕ → ℕ) (i j : ℕ) : Type 0 where
  pub from : ℕ
  pub to : ℕ
  pub rows : (row from ≡ i) × (row to ≡ j)
  pub reaches : DefUse f from to

-- the law: a copy has the same edges
pub record CopiesKeepEdges {A B : Type 0} (f : Flow A) (g : Flow B) (row : ℕ → ℕ) : Type 0 where
  pub uses : (i j : ℕ) → DefUse f i j → DefUse g (row i) (row j)
  pub originals : (i j : ℕ) → DefUse g i j → HasOriginal f row i j
  pub control : (p q : Rows) (body : ℕ) (naming other : Naming) → IsNamedAlike p q f row naming other → Same (ControlEdge p f body naming) (ControlEdge q g (row body) other)
