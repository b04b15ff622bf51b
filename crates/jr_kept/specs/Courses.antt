-- What is kept of control where a change is found to lose none, by what it does to the order of statements.
use Rattle.std.specs.Prelude.{◌≡◌, ⊤, ℕ, ◌<◌, ◌≤◌, true, List, length, Option, Some, None, slice_get}
use Rattle.std.specs.List.{Contains}
use Rattle.jr_tree.specs.Rows.{Rows, parent, end}
use Rattle.jr_tree.specs.Tree.{IsTree}
use Rattle.jr_change.specs.declared.change.Raised.{Raised}
use Rattle.jr_change.specs.declared.change.Course.{Course}
use Rattle.jr_change.specs.declared.change.Course.TheVariants as course
use Rattle.jr_change.specs.declared.project.Project.{Project}
use Rattle.jr_locks.specs.Origins.{origin_of, row_by}
use Rattle.jr_flow_defs.specs.Meaning.{Meaning}
use Rattle.jr_flow_defs.specs.Edges.{body_flow}
use Rattle.jr_flow_defs.specs.Kept.{KeepsControl, KeepsBody, KeepsInlined, KeepsExtracted, IsAssigned, IsReturned, joined_flow, parameters, statement_round}
use Rattle.jr_flow.specs.Bodies.{has_code}
use Rattle.jr_flow.specs.Coded.{IsTooLarge}
use Rattle.jr_flow.specs.Views.{rows_in, IsViewOf}
use Rattle.jr_kept.specs.Named.{origin_in}
use Rattle.jr_kept.specs.Returned.{ReturnAtOnce}

-- the project has the rows of a tree, and its view is of the meaning
pub record IsSeen (project : Project) (m : Meaning) : Type 0 where
  pub rows : rows_in project.view ≡ project.marks.rows.now
  pub view : IsViewOf project.view m
  pub tree : IsTree project.marks.rows.now

-- the row is that of a declaration that has code
pub record IsBody (p : Rows) (body : ℕ) : Type 0 where
  pub few : body < length p
  pub has : has_code p body ≡ true

-- the row stands in the body, and in no other that begins behind it
pub record IsBodyRound (p : Rows) (row body : ℕ) : Type 0 where
  pub is : IsBody p body
  pub from : body ≤ row
  pub to : row < end p body
  pub inner : (k : ℕ) → IsBody p k → k ≤ row → row < end p k → k ≤ body

-- just the bodies, rising
pub record AreBodies (p : Rows) (all : List ℕ) : Type 0 where
  pub are : (k : ℕ) → Contains all k → IsBody p k
  pub each : (k : ℕ) → IsBody p k → Contains all k
  pub rising : (i j a b : ℕ) → i < j → slice_get all i ≡ Some a → slice_get all j ≡ Some b → a < b

-- the statement, where it has no copy
abbrev pub dropped_by : Option ℕ → ℕ → Option ℕ
dropped_by None statement = Some statement
dropped_by (Some copy) statement = None

-- the body round the local, which the statement declares, has a copy with the same edges of control, in which the statement has no name if it has no copy
pub record KeepsInlinedControl (p q : Rows) (m w : Meaning) (origin copy : List ℕ) (local statement : ℕ) : Type 0 where
  pub body : ℕ
  pub after : ℕ
  pub round : IsBodyRound p local body
  pub is_copy : row_by (origin_of copy body) ≡ Some after
  pub few : after < length q
  pub declared : parent p local ≡ statement
  pub kept : KeepsControl p q (body_flow p m body) (body_flow q w after) body after (dropped_by (row_by (origin_of copy statement)) statement) (origin_in origin)

-- the body round the call, with the method in place of the call, has the edges of control of the body of which it is a copy, and each `return` that has a
-- copy in the method leaves that body at once
pub record KeepsExtractedControl (p q : Rows) (m w : Meaning) (origin : List ℕ) (call method : ℕ) : Type 0 where
  pub body : ℕ
  pub after : ℕ
  pub round : IsBodyRound q call after
  pub is_copy : row_by (origin_of origin after) ≡ Some body
  pub few : body < length p
  pub is_method : method < length q
  pub apart : after ≡ method → ⊥
  pub kept : KeepsControl p q (body_flow p m body) (joined_flow q w after call method) body after None (origin_in origin)
  pub returns : ReturnAtOnce p q m body method (origin_in origin)

-- control comes to more points of a body than a graph may have
pub record HasLarge (p : Rows) (m : Meaning) : Type 0 where
  pub body : ℕ
  pub few : body < length p
  pub large : IsTooLarge p m body

-- of other changes nothing is told
abbrev pub KeepsCourse : Course → Rows → Rows → Meaning → Meaning → List ℕ → List ℕ → Type 0
KeepsCourse (course.Inlined local statement) p q m w origin copy = KeepsInlinedControl p q m w origin copy local statement
KeepsCourse (course.Extracted call method) p q m w origin copy = KeepsExtractedControl p q m w origin call method
KeepsCourse course.Same p q m w origin copy = ⊤
KeepsCourse (course.Removed range) p q m w origin copy = ⊤

-- the body round the local has a copy that keeps what is to be kept of a local that is replaced by its initializer, where its declaration has no name if it has no copy
pub record KeepsInlinedFlow (p q : Rows) (m w : Meaning) (origin copy : List ℕ) (local statement : ℕ) : Type 0 where
  pub body : ℕ
  pub after : ℕ
  pub round : IsBodyRound p local body
  pub is_copy : row_by (origin_of copy body) ≡ Some after
  pub few : after < length q
  pub declared : parent p local ≡ statement
  pub inlined : KeepsInlined p q m w body after local (dropped_by (row_by (origin_of copy statement)) statement) (origin_in origin)

-- the body round the call is a copy of one of which it keeps, with the method in place of the call, what is to be kept of statements that go into a method
pub record KeepsExtractedFlow (p q : Rows) (m w : Meaning) (origin : List ℕ) (call method : ℕ) : Type 0 where
  pub body : ℕ
  pub after : ℕ
  pub round : IsBodyRound q call after
  pub is_copy : row_by (origin_of origin after) ≡ Some body
  pub few : body < length p
  pub is_method : method < length q
  pub apart : after ≡ method → ⊥
  pub extracted : KeepsExtracted p q m w body after call method (origin_in origin)

-- one table tells what is handed on between the body round the call and the method: the statement of the call stands in the body and holds no parameter of
-- the method, and one added use at most is returned, one where the call is assigned
pub record HandsByOne (q : Rows) (w : Meaning) (origin : List ℕ) (call method : ℕ) : Type 0 where
  pub after : ℕ
  pub round : IsBodyRound q call after
  pub behind : after < statement_round q call call
  pub apart : (i d : ℕ) → slice_get (parameters q method) i ≡ Some d → statement_round q call call < d → d < end q (statement_round q call call) → ⊥
  pub returned : (d : ℕ) → IsAssigned q (joined_flow q w after call method) call d → (k : ℕ) × IsReturned q (joined_flow q w after call method) method (origin_in origin) k
  pub one : (j k : ℕ) → IsReturned q (joined_flow q w after call method) method (origin_in origin) j → IsReturned q (joined_flow q w after call method) method (origin_in origin) k → j ≡ k

-- so it is where statements go into a method of their own
abbrev pub HandsByOneIn : Course → Rows → Meaning → List ℕ → Type 0
HandsByOneIn (course.Extracted call method) q w origin = HandsByOne q w origin call method
HandsByOneIn (course.Inlined local statement) q w origin = ⊤
HandsByOneIn course.Same q w origin = ⊤
HandsByOneIn (course.Removed range) q w origin = ⊤

-- what is kept where no edge from a definition to a use is lost either; of other changes nothing is told
abbrev pub KeepsUsesOf : Course → Rows → Rows → Meaning → Meaning → List ℕ → List ℕ → Type 0
KeepsUsesOf (course.Inlined local statement) p q m w origin copy = KeepsInlinedFlow p q m w origin copy local statement
KeepsUsesOf (course.Extracted call method) p q m w origin copy = KeepsExtractedFlow p q m w origin call method
KeepsUsesOf course.Same p q m w origin copy = ⊤
KeepsUsesOf (course.Removed range) p q m w origin copy = ⊤

-- the method goes elsewhere, and its body has a copy with the same edges of control
pub record KeepsMovedControl (p q : Rows) (m w : Meaning) (origin copy : List ℕ) (method : ℕ) : Type 0 where
  pub after : ℕ
  pub few : method < length p
  pub is_copy : row_by (origin_of copy method) ≡ Some after
  pub few_after : after < length q
  pub kept : KeepsControl p q (body_flow p m method) (body_flow q w after) method after None (origin_in origin)

-- and with the same edges from definitions to uses too
pub record KeepsMovedFlow (p q : Rows) (m w : Meaning) (origin copy : List ℕ) (method : ℕ) : Type 0 where
  pub after : ℕ
  pub few : method < length p
  pub is_copy : row_by (origin_of copy method) ≡ Some after
  pub few_after : after < length q
  pub kept : KeepsBody p q (body_flow p m method) (body_flow q w after) method after None (origin_in origin)

-- what a pull up keeps of the method that goes to the superclass, if the change is one
abbrev pub KeepsRaisedControl : Option Raised → Rows → Rows → Meaning → Meaning → List ℕ → List ℕ → Type 0
KeepsRaisedControl None p q m w origin copy = ⊤
KeepsRaisedControl (Some raised) p q m w origin copy = KeepsMovedControl p q m w origin copy raised.method.first

-- and where no edge from a definition to a use is lost either
abbrev pub KeepsRaisedFlow : Option Raised → Rows → Rows → Meaning → Meaning → List ℕ → List ℕ → Type 0
KeepsRaisedFlow None p q m w origin copy = ⊤
KeepsRaisedFlow (Some raised) p q m w origin copy = KeepsMovedFlow p q m w origin copy raised.method.first
