-- The locals of the method that is made of a run: those that it takes, those that it declares, and the one that it gives back.
use Rattle.std.specs.Prelude.{◌≡◌, ℕ, ◌≤◌, Bool, true, false, not, ◌&&◌, if◌then◌else◌, List, [], ◌∷◌, flat_map, Option, Some, None, nat_le, nat_lt, option_and_then, slice_get}
use Rattle.jr_tree.specs.declared.label.Role.{Role}
use Rattle.jr_tree.specs.declared.label.Role.TheVariants as role
use Rattle.jr_tree.specs.Rows.{Rows, role_at}
use Rattle.jr_defs.specs.declared.referent.RowType.{RowType}
use Rattle.jr_defs.specs.Referents.{Table}
use Rattle.jr_plain.specs.Search.{gathered, has}
use Rattle.jr_plain.specs.Types.{type_of_declared}
use Rattle.jr_supers.specs.Supers.{ListsOnce}
use Rattle.jr_supers.specs.Tabled.{declared}
use Rattle.jr_flow_defs.specs.declared.point.Point.{Point}
use Rattle.jr_flow_defs.specs.declared.point.PointKind.{PointKind}
use Rattle.jr_flow_defs.specs.declared.point.PointKind.TheVariants as kind
use Rattle.jr_flow_defs.specs.Edges.{point}
use Rattle.jr_flow_defs.specs.Graphs.{PassesAt, StepPath, is_definition_of}
use Rattle.jr_flow.specs.declared.point.Graph.{Graph}
use Rattle.jr_flow.specs.Reached.{steps_of}
use Rattle.jr_extract.specs.declared.locals.Flow.{Flow}
use Rattle.jr_extract.specs.declared.locals.Locals.{Locals}
use Rattle.jr_extract.specs.declared.locals.Variable.{Variable}
use Rattle.jr_extract.specs.declared.run.Run.{Run}
use Rattle.jr_extract.specs.Running.{holds}

-- ---- which locals

-- the local d gets a value at the row i that is used at the row j: by the graph, no other definition of it stands between
pub record Brings (graph : Graph) (d i j : ℕ) : Type 0 where
  pub from : ℕ
  pub to : ℕ
  pub defines : slice_get graph.points.items from ≡ point i (kind.Definition d)
  pub uses : slice_get graph.points.items to ≡ point j (kind.Use d)
  pub path : StepPath (steps_of graph) (PassesAt graph.points.items (is_definition_of d)) from to

-- a local that is declared outside the run has a value from outside that is used in it
pub record Enters (graph : Graph) (run : Run) (d : ℕ) : Type 0 where
  pub from : ℕ
  pub to : ℕ
  pub brings : Brings graph d from to
  pub outer : holds run d ≡ false
  pub outside : holds run from ≡ false
  pub inside : holds run to ≡ true

-- a local gets a value in the run that is used outside
pub record Leaves (graph : Graph) (run : Run) (d : ℕ) : Type 0 where
  pub from : ℕ
  pub to : ℕ
  pub brings : Brings graph d from to
  pub inside : holds run from ≡ true
  pub outside : holds run to ≡ false

abbrev pub is_local_role : Role → Bool
is_local_role role.Local = true
is_local_role role.Parameter = true
is_local_role _ = false

abbrev pub outer_by : Rows → Run → Option ℕ → Option ℕ
outer_by p run None = None
outer_by p run (Some d) = if not (holds run d) && is_local_role (role_at p d) then Some d else None

-- the local or parameter, declared outside the run, to which the row n refers
abbrev pub outer_local : Rows → Table → Run → ℕ → Option ℕ
outer_local p t run n = outer_by p run (declared (t n))

-- it is named in the run
pub record IsNamedIn (p : Rows) (t : Table) (run : Run) (d : ℕ) : Type 0 where
  pub row : ℕ
  pub inside : holds run row ≡ true
  pub names : outer_local p t run row ≡ Some d

-- the lowest number of which P holds, if there is one
abbrev pub IsLowest : (ℕ → Type 0) → Option ℕ → Type 0
IsLowest P None = (d : ℕ) → P d → ⊥
IsLowest P (Some d) = P d × ((e : ℕ) → P e → d ≤ e)

-- ---- with their types

abbrev pub variable_by : ℕ → Option RowType → Option Variable
variable_by d None = None
variable_by d (Some ty) = Some (record { row = d; ty = ty })

-- a local with its type
abbrev pub variable_of : Rows → Table → ℕ → Option Variable
variable_of p t d = variable_by d (type_of_declared p t d)

abbrev pub variable_list : Option Variable → List Variable
variable_list None = []
variable_list (Some v) = v ∷ []

abbrev pub typed : Rows → Table → ℕ → List Variable
typed p t d = variable_list (variable_of p t d)

-- locals with their types
abbrev pub variables_of : Rows → Table → List ℕ → List Variable
variables_of p t locals = flat_map (typed p t) locals

abbrev pub other_of : List ℕ → ℕ → List ℕ
other_of others d = if has others d then [] else d ∷ []

-- those that are not among others
abbrev pub without : List ℕ → List ℕ → List ℕ
without locals others = flat_map (other_of others) locals

-- the others that are named in the run
pub record AreFresh (p : Rows) (t : Table) (run : Run) (entering : List ℕ) (fresh : List Variable) : Type 0 where
  pub named : List ℕ
  pub naming : ListsOnce named (IsNamedIn p t run)
  pub others : fresh ≡ variables_of p t (without named entering)

-- by those whose values enter the run, and the one of which a value leaves it
pub record AreLocalsBy (p : Rows) (t : Table) (run : Run) (entering : List ℕ) (leaving : Option ℕ) (locals : Locals) : Type 0 where
  pub parameters : locals.parameters.items ≡ variables_of p t entering
  pub fresh : AreFresh p t run entering locals.fresh.items
  pub result : locals.result ≡ option_and_then (variable_of p t) leaving

-- The method takes the locals whose values enter the run, and declares the others from outside that are named in it, all in the order of their declarations.
-- It gives back the first of which a value leaves the run.
pub record AreHanded (p : Rows) (t : Table) (graph : Graph) (run : Run) (locals : Locals) : Type 0 where
  pub entering : List ℕ
  pub leaving : Option ℕ
  pub enter : ListsOnce entering (Enters graph run)
  pub leave : IsLowest (Leaves graph run) leaving
  pub handed : AreLocalsBy p t run entering leaving locals

-- ---- as the code finds them

abbrev pub flow_by : PointKind → ℕ → ℕ → Option Flow
flow_by (kind.Definition d) i j = Some (record { local = d; from = i; to = j })
flow_by _ i j = None

abbrev pub flow_between : Option Point → Option Point → Option Flow
flow_between (Some x) (Some y) = flow_by x.kind x.row y.row
flow_between _ _ = None

-- the local, and the rows at which it is defined and used, of a pair of points
abbrev pub flow_of : List Point → ℕ × ℕ → Option Flow
flow_of points pair = flow_between (slice_get points pair.0) (slice_get points pair.1)

abbrev pub enters : Run → Flow → Bool
enters run f = not (holds run f.local) && not (holds run f.from) && holds run f.to

abbrev pub leaves : Run → Flow → Bool
leaves run f = holds run f.from && not (holds run f.to)

abbrev pub local_if : (Flow → Bool) → Option Flow → Option ℕ
local_if test None = None
local_if test (Some f) = if test f then Some f.local else None

abbrev pub entering_by : List Point → Run → ℕ × ℕ → Option ℕ
entering_by points run pair = local_if (enters run) (flow_of points pair)

abbrev pub leaving_by : List Point → Run → ℕ × ℕ → Option ℕ
leaving_by points run pair = local_if (leaves run) (flow_of points pair)

abbrev pub listed : Option ℕ → List ℕ
listed None = []
listed (Some d) = d ∷ []

abbrev pub listed_by : {A : Type 0} → (A → Option ℕ) → A → List ℕ
listed_by of x = listed (of x)

-- what each item gives, if it gives something
abbrev pub given : {A : Type 0} → (A → Option ℕ) → List A → List ℕ
given of items = flat_map (listed_by of) items

abbrev pub lower : Option ℕ → Option ℕ → Option ℕ
lower None found = found
lower (Some d) None = Some d
lower (Some d) (Some e) = if nat_lt e d then Some e else Some d

-- the lowest number that an item gives, or this one
abbrev pub lowest : {A : Type 0} → (A → Option ℕ) → Option ℕ → List A → Option ℕ
lowest of first [] = first
lowest of first (x ∷ rest) = lowest of (lower first (of x)) rest

abbrev pub given_at : (ℕ → Option ℕ) → ℕ → ℕ → List ℕ
given_at of first n = if nat_le first n then listed (of n) else []

-- what the rows from the first one on give, below another one
abbrev pub given_from : (ℕ → Option ℕ) → ℕ → ℕ → List ℕ
given_from of first end = gathered end (given_at of first)
