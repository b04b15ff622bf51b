-- Edges that a change keeps: those of a body and of what it has become, with nodes named by what they are copies of.
use Rattle.std.specs.Prelude.{◌≡◌, ℕ, zero, suc, ◌<◌, Bool, true, false, if◌then◌else◌, List, [], ◌∷◌, filter, Option, Some, None, option_and_then, nat_eq, slice_get}
use Rattle.std.specs.Option.{option_eq}
use Rattle.jr_tree.specs.declared.label.Label.{Label}
use Rattle.jr_tree.specs.declared.label.Label.TheVariants as is
use Rattle.jr_tree.specs.declared.label.NamePlace.TheVariants as place
use Rattle.jr_tree.specs.Rows.{Rows, label, parent, end}
use Rattle.jr_flow_defs.specs.declared.point.Point.{Point}
use Rattle.jr_flow_defs.specs.declared.point.PointKind.TheVariants as kind
use Rattle.jr_flow_defs.specs.Meaning.{Meaning}
use Rattle.jr_flow_defs.specs.Acts.{children, is_parameter}
use Rattle.jr_flow_defs.specs.States.{Moment, before, completed, State, Hop, at, is_throw, hops}
use Rattle.jr_flow_defs.specs.Paths.{Flow, IsReached, Path, Steps}
use Rattle.jr_flow_defs.specs.Edges.{point, point_by, body_flow, FlowNode, Naming, ControlEdge, Defines, DefUse}

-- the old row of which each new row is a copy
abbrev pub Origin : Type 0
Origin = ℕ → Option ℕ

-- ---- names of nodes

abbrev pub is_qualifier : Label → Bool
is_qualifier (is.Name k place.Qualifier b) = true
is_qualifier _ = false

-- the identifiers of a name are one node, at the last one
abbrev pub whole_name : Rows → ℕ → ℕ → ℕ
whole_name p zero n = n
whole_name p (suc room) n = if is_qualifier (label p n) then whole_name p room (parent p n) else n

-- an old row has its own name, but for a statement that is dropped
abbrev pub old_name : Rows → Option ℕ → Naming
old_name p dropped n = if option_eq nat_eq dropped (Some n) then None else Some (whole_name p n n)

-- a new row has the name of the old one, and what is added has none
abbrev pub new_name : Rows → Option ℕ → Origin → Naming
new_name p dropped origin n = option_and_then (old_name p dropped) (origin n)

-- ---- edges of control

abbrev pub Same : (FlowNode → FlowNode → Type 0) → (FlowNode → FlowNode → Type 0) → Type 0
Same R Q = (x y : FlowNode) → (R x y → Q x y) × (Q x y → R x y)

-- the row has just one copy
pub record HasOneCopy (origin : Origin) (n : ℕ) : Type 0 where
  pub copy : ℕ
  pub is_copy : origin copy ≡ Some n
  pub only : (k : ℕ) → origin k ≡ Some n → k ≡ copy

-- a node of the old body at this row has a name, and is no parameter of a catch
pub record IsKeptNode {A : Type 0} (p : Rows) (f : Flow A) (dropped : Option ℕ) (n : ℕ) : Type 0 where
  pub at : A
  pub reached : IsReached f at
  pub stands : f.point at ≡ point n kind.Node
  pub name : ℕ
  pub named : old_name p dropped n ≡ Some name
  pub event : is_parameter (label p n) ≡ false

-- the old body and the new flow have the same edges of control, and each event has one copy
pub record KeepsControl {A B : Type 0} (p q : Rows) (f : Flow A) (g : Flow B) (old new : ℕ) (dropped : Option ℕ) (origin : Origin) : Type 0 where
  pub once : (n : ℕ) → IsKeptNode p f dropped n → HasOneCopy origin n
  pub same : Same (ControlEdge p f old (old_name p dropped)) (ControlEdge q g new (new_name p dropped origin))

-- ---- from definitions to uses

-- which definition, by its row, hands on what reaches which use: none where nothing is added
abbrev pub Handing : Type 1
Handing = ℕ → ℕ → Type 0

-- the definition at the row i, which is itself handed nothing, reaches the use at the row j, straight or through definitions that hand on
pub data Arrives {B : Type 0} (g : Flow B) (IsHanding : ℕ → Type 0) (Hands : ℕ → ℕ → Type 0) (i : ℕ) : ℕ → Type 0 where
  own : {j : ℕ} → DefUse g i j → (IsHanding i → ⊥) → Arrives g IsHanding Hands i j
  handed : {d k j : ℕ} → Arrives g IsHanding Hands i k → Hands d k → DefUse g d j → Arrives g IsHanding Hands i j

-- a copy of the old definition at the row i arrives
pub record CopyArrives {B : Type 0} (g : Flow B) (IsHanding : ℕ → Type 0) (Hands : ℕ → ℕ → Type 0) (origin : Origin) (i j : ℕ) : Type 0 where
  pub copy : ℕ
  pub is_copy : origin copy ≡ Some i
  pub arrives : Arrives g IsHanding Hands copy j

-- at each use that is a copy arrive copies of just the definitions that reached the old use
pub record KeepsDefinitions {A B : Type 0} (f : Flow A) (g : Flow B) (IsHanding : ℕ → Type 0) (Hands : ℕ → ℕ → Type 0) (origin : Origin) : Type 0 where
  pub same : (b : B) (d i j old : ℕ) → IsReached g b → g.point b ≡ point j (kind.Use d) → origin j ≡ Some old
      → (DefUse f i old → CopyArrives g IsHanding Hands origin i j) × (CopyArrives g IsHanding Hands origin i j → DefUse f i old)

-- nothing is handed on
abbrev pub Never : ℕ → Type 0
Never i = ⊥

abbrev pub NoHanding : ℕ → ℕ → Type 0
NoHanding i j = ⊥

-- the flow of a body and that of what it has become have the same edges, where nothing is handed on
pub record KeepsBody {A B : Type 0} (p q : Rows) (f : Flow A) (g : Flow B) (old new : ℕ) (dropped : Option ℕ) (origin : Origin) : Type 0 where
  pub control : KeepsControl p q f g old new dropped origin
  pub definitions : KeepsDefinitions f g Never NoHanding origin

-- ---- a local that is replaced by its initializer

-- the local is used, or gets a value, in the initializer of the local d
pub record IsUsedIn {A : Type 0} (p : Rows) (f : Flow A) (d local : ℕ) : Type 0 where
  pub at : A
  pub row : ℕ
  pub reached : IsReached f at
  pub uses : f.point at ≡ point row (kind.Use local)
  pub inside : (d < row) × (row < end p d)

pub record IsDefinedIn {A : Type 0} (p : Rows) (f : Flow A) (d local : ℕ) : Type 0 where
  pub at : A
  pub row : ℕ
  pub reached : IsReached f at
  pub defines : f.point at ≡ point row (kind.Definition local)
  pub inside : (d < row) × (row < end p d)

-- the local gets a value on the way from the definition of d to a use of d, and the way does not come back to that definition
pub record IsChangedBetween {A : Type 0} (f : Flow A) (d local : ℕ) : Type 0 where
  pub from : A
  pub between : A
  pub to : A
  pub row : ℕ
  pub used_at : ℕ
  pub reached : IsReached f from
  pub declares : Defines f d from
  pub changes : f.point between ≡ point row (kind.Definition local)
  pub other : local ≡ d → ⊥
  pub uses : f.point to ≡ point used_at (kind.Use d)
  pub before : Path f (Defines f d) from between
  pub after : Path f (Defines f d) between to

-- in the initializer of the local d stands an event from which a throw comes to a point: one that catches it, or the exit
pub record HasEventIn {A : Type 0} (p : Rows) (f : Flow A) (d : ℕ) : Type 0 where
  pub at : A
  pub next : A
  pub row : ℕ
  pub reached : IsReached f at
  pub stands : f.point at ≡ point row kind.Node
  pub throws : Steps f at next true
  pub inside : (d < row) × (row < end p d)

-- what keeps the local d from being replaced by its initializer: a definition in it, or one between, of a local that it uses, or of any where it may
-- throw, since a catch may use that (JLS 11.3)
pub data IsDisturbed {A : Type 0} (p : Rows) (f : Flow A) (d : ℕ) : Type 0 where
  inside : {local : ℕ} → IsDefinedIn p f d local → IsDisturbed p f d
  between : {local : ℕ} → IsUsedIn p f d local → IsChangedBetween f d local → IsDisturbed p f d
  throwing : {local : ℕ} → HasEventIn p f d → IsChangedBetween f d local → IsDisturbed p f d

-- the local d of a body is replaced by its initializer, and its statement may be dropped
pub record KeepsInlined (p q : Rows) (m w : Meaning) (old new d : ℕ) (dropped : Option ℕ) (origin : Origin) : Type 0 where
  pub kept : KeepsBody p q (body_flow p m old) (body_flow q w new) old new dropped origin
  pub undisturbed : IsDisturbed p (body_flow p m old) d → ⊥

-- ---- statements that go into a method of their own: its body stands in place of the call

-- a state of the body with the call, or one of the method with that of the call
pub data Within : Type 0 where
  outside : State → Within
  inside : State → State → Within

abbrev pub each_hop : {A B : Type 0} → (A → B) → List (Hop A) → List (Hop B)
each_hop f [] = []
each_hop f (h ∷ all) = record { to = f h.to; is_throw = h.is_throw } ∷ each_hop f all

-- the call acts at the state
abbrev pub is_call_at : ℕ → Option Point → Bool
is_call_at call (Some x) = nat_eq x.row call
is_call_at call None = false

abbrev pub same_way : {A : Type 0} → Bool → Hop A → Bool
same_way true h = h.is_throw
same_way false h = if h.is_throw then false else true

-- behind the method control goes on as behind its call: by a throw where the method completed so
abbrev pub returned : Moment → List (Hop State) → List (Hop Within)
returned (completed c) all = each_hop outside (filter (λ h. same_way (is_throw c) h) all)
returned (before i) all = []

-- the method is left at the state
abbrev pub is_exit : Moment → ℕ → ℕ → Bool
is_exit (completed c) method n = nat_eq n method
is_exit (before i) method n = false

abbrev pub within_hops : Rows → Meaning → ℕ → ℕ → ℕ → Within → List (Hop Within)
within_hops p m body call method (outside a) =
    if is_call_at call (point_by a.moment p m body a.row) then record { to = inside (at method 0 []) a; is_throw = false } ∷ [] else each_hop outside (hops p m body a)
within_hops p m body call method (inside a caller) =
    if is_exit a.moment method a.row then returned a.moment (hops p m body caller) else each_hop (λ b. inside b caller) (hops p m method a)

abbrev pub within_point : Rows → Meaning → ℕ → ℕ → Within → Option Point
within_point p m body method (outside a) = point_by a.moment p m body a.row
within_point p m body method (inside a caller) = point_by a.moment p m method a.row

-- the flow of a body in which the call is followed by the body of the method
abbrev pub joined_flow : Rows → Meaning → ℕ → ℕ → ℕ → Flow Within
joined_flow p m body call method = record { start = outside (at body 0 []); hops = λ a. within_hops p m body call method a; point = λ a. within_point p m body method a }

abbrev pub parameters : Rows → ℕ → List ℕ
parameters p method = filter (λ k. is_parameter (label p k)) (children p method)

abbrev pub is_statement : Label → Bool
is_statement is.Eval = true
is_statement is.Locals = true
is_statement _ = false

-- the statement in which the row stands
abbrev pub statement_round : Rows → ℕ → ℕ → ℕ
statement_round p zero n = n
statement_round p (suc room) n = if is_statement (label p n) then n else statement_round p room (parent p n)

-- the row is that of a definition in the statement of the call
pub record IsAssigned {B : Type 0} (q : Rows) (g : Flow B) (call d : ℕ) : Type 0 where
  pub at : B
  pub local : ℕ
  pub reached : IsReached g at
  pub defines : g.point at ≡ point d (kind.Definition local)
  pub inside : (statement_round q call call < d) × (d < end q (statement_round q call call))

-- the row is that of an added use in the method: of what it returns
pub record IsReturned {B : Type 0} (q : Rows) (g : Flow B) (method : ℕ) (origin : Origin) (k : ℕ) : Type 0 where
  pub at : B
  pub local : ℕ
  pub reached : IsReached g at
  pub uses : g.point at ≡ point k (kind.Use local)
  pub inside : (method < k) × (k < end q method)
  pub added : origin k ≡ None

-- a parameter hands on what reaches its argument, and the local to which the call is assigned what reaches the use of what is returned
pub data Hands {B : Type 0} (q : Rows) (g : Flow B) (call method : ℕ) (origin : Origin) : ℕ → ℕ → Type 0 where
  argument : (i : ℕ) {d k : ℕ} → slice_get (parameters q method) i ≡ Some d → slice_get (children q call) i ≡ Some k → Hands q g call method origin d k
  result : {d k : ℕ} → IsAssigned q g call d → IsReturned q g method origin k → Hands q g call method origin d k

pub data IsHanding {B : Type 0} (q : Rows) (g : Flow B) (call method : ℕ) : ℕ → Type 0 where
  parameter : (i k : ℕ) {d : ℕ} → slice_get (parameters q method) i ≡ Some d → slice_get (children q call) i ≡ Some k → IsHanding q g call method d
  assigned : {d : ℕ} → IsAssigned q g call d → IsHanding q g call method d

-- a value that the copy `inner` of a local gets in the method, other than as a parameter, reaches an exit of the method, and from there a path leads to a
-- use of the copy `outer`, which does not have that value
pub record IsLost (q : Rows) (w : Meaning) (g : Flow Within) (call method : ℕ) (origin : Origin) : Type 0 where
  pub inner : ℕ
  pub outer : ℕ
  pub old : ℕ
  pub copies : (origin inner ≡ Some old) × (origin outer ≡ Some old)
  pub apart : inner ≡ outer → ⊥
  pub from : State
  pub caller : State
  pub row : ℕ
  pub reached : IsReached g (inside from caller)
  pub defines : g.point (inside from caller) ≡ point row (kind.Definition inner)
  pub own : IsHanding q g call method row → ⊥
  pub last : State
  pub ends : is_exit last.moment method last.row ≡ true
  pub before : Path (body_flow q w method) (Defines (body_flow q w method) inner) from last
  pub to : Within
  pub use_row : ℕ
  pub uses : g.point to ≡ point use_row (kind.Use outer)
  pub after : Path g (Defines g outer) (inside last caller) to

-- the row n completes the old body at once, wherever control comes to it: nothing is pending, and no other point comes before the exit (JLS 14.17, 14.20.2)
abbrev pub LeavesAtOnce : Rows → Meaning → ℕ → ℕ → Type 0
LeavesAtOnce p m old n = (a : State) → IsReached (body_flow p m old) a → (body_flow p m old).point a ≡ point n kind.Node
    → (a.pending ≡ []) × ((b : State) (is_throw : Bool) → Steps (body_flow p m old) a b is_throw → (body_flow p m old).point b ≡ point old kind.Exit)

-- statements of a body are replaced by the call of a new method that has them
pub record KeepsExtracted (p q : Rows) (m w : Meaning) (old new call method : ℕ) (origin : Origin) : Type 0 where
  pub control : KeepsControl p q (body_flow p m old) (joined_flow q w new call method) old new None origin
  pub definitions : KeepsDefinitions (body_flow p m old) (joined_flow q w new call method) (IsHanding q (joined_flow q w new call method) call method) (Hands q (joined_flow q w new call method) call method origin) origin
  pub unlost : IsLost q w (joined_flow q w new call method) call method origin → ⊥
  pub returns : (n k : ℕ) → label p n ≡ is.Return → origin k ≡ Some n → method < k → k < end q method → LeavesAtOnce p m old n
