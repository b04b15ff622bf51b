-- Small changes, and the edges of control before and after them.
use Rattle.std.specs.Prelude.{ℕ, true, false, List, [], ◌∷◌, if◌then◌else◌, Option, Some, None, nat_eq, codes, pos}
use Rattle.jr_base.specs.declared.kind.Kind.TheVariants as token
use Rattle.jr_base.specs.declared.kind.Symbol.TheVariants as y
use Rattle.jr_tree.specs.declared.tree.Primitive.TheVariants as primitive
use Rattle.jr_tree.specs.declared.label.Label.TheVariants as is
use Rattle.jr_tree.specs.declared.label.NameKind.TheVariants as kind
use Rattle.jr_tree.specs.declared.label.NamePlace.TheVariants as place
use Rattle.jr_tree.specs.declared.label.ReceiverKind.TheVariants as on
use Rattle.jr_tree.specs.Rows.{Rows}
use Rattle.jr_defs.specs.declared.referent.Referent.{Referent}
use Rattle.jr_defs.specs.declared.referent.Referent.TheVariants.{Declared}
use Rattle.jr_flow_defs.specs.Meaning.{Meaning, meaning_of}
use Rattle.jr_flow_defs.specs.States.{State}
use Rattle.jr_flow_defs.specs.Paths.{Flow}
use Rattle.jr_flow_defs.specs.Edges.{FlowNode, Naming, body_flow, ControlEdge}
use Rattle.jr_flow_defs.specs.Kept.{Origin, old_name, new_name, Within, joined_flow}
use Rattle.jr_flow_defs.specs.Worked.{told, r, bare}

-- a program with a body, and what its names refer to
pub record Side : Type 0 where
  pub rows : Rows
  pub targets : List (ℕ × Referent)
  pub body : ℕ

-- a program before and after a change, the statement that is dropped, and the old row of each copy
pub record Changed : Type 0 where
  pub old : Side
  pub new : Side
  pub dropped : Option ℕ
  pub origins : List (ℕ × ℕ)

abbrev pub meaning : Side → Meaning
meaning s = meaning_of s.rows (told s.targets)

abbrev pub flow : Side → Flow State
flow s = body_flow s.rows (meaning s) s.body

abbrev pub origin_in : List (ℕ × ℕ) → Origin
origin_in [] n = None
origin_in (one ∷ more) n = if nat_eq one.0 n then Some one.1 else origin_in more n

abbrev pub names_before : Changed → Naming
names_before c = old_name c.old.rows c.dropped

abbrev pub names_after : Changed → Naming
names_after c = new_name c.old.rows c.dropped (origin_in c.origins)

-- the new body with the new method in place of its call
abbrev pub joined : Changed → ℕ → ℕ → Flow Within
joined c call method = joined_flow c.new.rows (meaning c.new) c.new.body call method

-- the edges of control before and after
abbrev pub Before : Changed → FlowNode → FlowNode → Type 0
Before c = ControlEdge c.old.rows (flow c.old) c.old.body (names_before c)

abbrev pub Inlined : Changed → FlowNode → FlowNode → Type 0
Inlined c = ControlEdge c.new.rows (flow c.new) c.new.body (names_after c)

abbrev pub Extracted : Changed → ℕ → ℕ → FlowNode → FlowNode → Type 0
Extracted c call method = ControlEdge c.new.rows (joined c call method) c.new.body (names_after c)

-- int f(int a) { int b = g(a); return b; } becomes int f(int a) { return g(a); }
abbrev pub inlines_before_a_return : Changed
inlines_before_a_return = record {
  old = record {
    rows =
        r 0 26 0 is.Program [] ∷ r 0 26 0 is.Unit [] ∷ r 1 26 1 (is.Class bare false) (codes "A") ∷ r 2 26 2 is.Body [] ∷
        r 3 17 3 (is.Method bare false true) (codes "f") ∷ r 4 6 4 (is.TypeUse (Some primitive.Int) 0) [] ∷
        r 4 8 5 (is.Parameter false 0) (codes "a") ∷ r 6 8 6 (is.TypeUse (Some primitive.Int) 0) [] ∷ r 4 17 6 is.Block [] ∷ r 8 15 8 is.Locals [] ∷
        r 9 11 9 (is.TypeUse (Some primitive.Int) 0) [] ∷ r 9 15 10 (is.Local false 0) (codes "b") ∷ r 11 15 11 is.Value [] ∷
        r 12 15 12 (is.Call on.Absent) (codes "g") ∷ r 13 15 13 (is.Name kind.Variable place.Expression false) (codes "a") ∷ r 8 17 9 is.Return [] ∷
        r 15 17 15 (is.Name kind.Variable place.Expression false) (codes "b") ∷ r 3 24 4 (is.Method bare false true) (codes "g") ∷
        r 17 19 17 (is.TypeUse (Some primitive.Int) 0) [] ∷ r 17 21 18 (is.Parameter false 0) (codes "k") ∷
        r 19 21 19 (is.TypeUse (Some primitive.Int) 0) [] ∷ r 17 24 19 is.Block [] ∷ r 21 24 21 is.Return [] ∷
        r 22 24 22 (is.Literal (token.Int (pos 0))) [] ∷ r 3 26 17 (is.Method bare true true) (codes "h") ∷ r 24 26 24 is.Block [] ∷ [];
    targets = (13, Declared 17 (Some 2)) ∷ (14, Declared 6 None) ∷ (16, Declared 11 None) ∷ [];
    body = 4;
  };
  new = record {
    rows =
        r 0 21 0 is.Program [] ∷ r 0 21 0 is.Unit [] ∷ r 1 21 1 (is.Class bare false) (codes "A") ∷ r 2 21 2 is.Body [] ∷
        r 3 12 3 (is.Method bare false true) (codes "f") ∷ r 4 6 4 (is.TypeUse (Some primitive.Int) 0) [] ∷
        r 4 8 5 (is.Parameter false 0) (codes "a") ∷ r 6 8 6 (is.TypeUse (Some primitive.Int) 0) [] ∷ r 4 12 6 is.Block [] ∷ r 8 12 8 is.Return [] ∷
        r 9 12 9 (is.Call on.Absent) (codes "g") ∷ r 10 12 10 (is.Name kind.Variable place.Expression false) (codes "a") ∷
        r 3 19 4 (is.Method bare false true) (codes "g") ∷ r 12 14 12 (is.TypeUse (Some primitive.Int) 0) [] ∷
        r 12 16 13 (is.Parameter false 0) (codes "k") ∷ r 14 16 14 (is.TypeUse (Some primitive.Int) 0) [] ∷ r 12 19 14 is.Block [] ∷
        r 16 19 16 is.Return [] ∷ r 17 19 17 (is.Literal (token.Int (pos 0))) [] ∷ r 3 21 12 (is.Method bare true true) (codes "h") ∷
        r 19 21 19 is.Block [] ∷ [];
    targets = (10, Declared 12 (Some 2)) ∷ (11, Declared 6 None) ∷ [];
    body = 4;
  };
  dropped = Some 9;
  origins =
      (0, 0) ∷ (1, 1) ∷ (2, 2) ∷ (3, 3) ∷ (4, 4) ∷ (5, 5) ∷ (6, 6) ∷ (7, 7) ∷ (8, 8) ∷ (9, 15) ∷ (10, 13) ∷ (11, 14) ∷ (12, 17) ∷ (13, 18) ∷ (14, 19) ∷
      (15, 20) ∷ (16, 21) ∷ (17, 22) ∷ (18, 23) ∷ (19, 24) ∷ (20, 25) ∷ [];
}

-- int f(int a) { int b = g(a); h(); return b; } becomes int f(int a) { h(); return g(a); }
abbrev pub inlines_past_a_call : Changed
inlines_past_a_call = record {
  old = record {
    rows =
        r 0 28 0 is.Program [] ∷ r 0 28 0 is.Unit [] ∷ r 1 28 1 (is.Class bare false) (codes "A") ∷ r 2 28 2 is.Body [] ∷
        r 3 19 3 (is.Method bare false true) (codes "f") ∷ r 4 6 4 (is.TypeUse (Some primitive.Int) 0) [] ∷
        r 4 8 5 (is.Parameter false 0) (codes "a") ∷ r 6 8 6 (is.TypeUse (Some primitive.Int) 0) [] ∷ r 4 19 6 is.Block [] ∷ r 8 15 8 is.Locals [] ∷
        r 9 11 9 (is.TypeUse (Some primitive.Int) 0) [] ∷ r 9 15 10 (is.Local false 0) (codes "b") ∷ r 11 15 11 is.Value [] ∷
        r 12 15 12 (is.Call on.Absent) (codes "g") ∷ r 13 15 13 (is.Name kind.Variable place.Expression false) (codes "a") ∷ r 8 17 9 is.Eval [] ∷
        r 15 17 15 (is.Call on.Absent) (codes "h") ∷ r 8 19 15 is.Return [] ∷ r 17 19 17 (is.Name kind.Variable place.Expression false) (codes "b") ∷
        r 3 26 4 (is.Method bare false true) (codes "g") ∷ r 19 21 19 (is.TypeUse (Some primitive.Int) 0) [] ∷
        r 19 23 20 (is.Parameter false 0) (codes "k") ∷ r 21 23 21 (is.TypeUse (Some primitive.Int) 0) [] ∷ r 19 26 21 is.Block [] ∷
        r 23 26 23 is.Return [] ∷ r 24 26 24 (is.Literal (token.Int (pos 0))) [] ∷ r 3 28 19 (is.Method bare true true) (codes "h") ∷
        r 26 28 26 is.Block [] ∷ [];
    targets = (13, Declared 19 (Some 2)) ∷ (14, Declared 6 None) ∷ (16, Declared 26 (Some 2)) ∷ (18, Declared 11 None) ∷ [];
    body = 4;
  };
  new = record {
    rows =
        r 0 23 0 is.Program [] ∷ r 0 23 0 is.Unit [] ∷ r 1 23 1 (is.Class bare false) (codes "A") ∷ r 2 23 2 is.Body [] ∷
        r 3 14 3 (is.Method bare false true) (codes "f") ∷ r 4 6 4 (is.TypeUse (Some primitive.Int) 0) [] ∷
        r 4 8 5 (is.Parameter false 0) (codes "a") ∷ r 6 8 6 (is.TypeUse (Some primitive.Int) 0) [] ∷ r 4 14 6 is.Block [] ∷ r 8 11 8 is.Eval [] ∷
        r 9 11 9 (is.Call on.Absent) (codes "h") ∷ r 8 14 9 is.Return [] ∷ r 11 14 11 (is.Call on.Absent) (codes "g") ∷
        r 12 14 12 (is.Name kind.Variable place.Expression false) (codes "a") ∷ r 3 21 4 (is.Method bare false true) (codes "g") ∷
        r 14 16 14 (is.TypeUse (Some primitive.Int) 0) [] ∷ r 14 18 15 (is.Parameter false 0) (codes "k") ∷
        r 16 18 16 (is.TypeUse (Some primitive.Int) 0) [] ∷ r 14 21 16 is.Block [] ∷ r 18 21 18 is.Return [] ∷
        r 19 21 19 (is.Literal (token.Int (pos 0))) [] ∷ r 3 23 14 (is.Method bare true true) (codes "h") ∷ r 21 23 21 is.Block [] ∷ [];
    targets = (10, Declared 21 (Some 2)) ∷ (12, Declared 14 (Some 2)) ∷ (13, Declared 6 None) ∷ [];
    body = 4;
  };
  dropped = Some 9;
  origins =
      (0, 0) ∷ (1, 1) ∷ (2, 2) ∷ (3, 3) ∷ (4, 4) ∷ (5, 5) ∷ (6, 6) ∷ (7, 7) ∷ (8, 8) ∷ (9, 15) ∷ (10, 16) ∷ (11, 17) ∷ (12, 13) ∷ (13, 14) ∷ (14, 19) ∷
      (15, 20) ∷ (16, 21) ∷ (17, 22) ∷ (18, 23) ∷ (19, 24) ∷ (20, 25) ∷ (21, 26) ∷ (22, 27) ∷ [];
}

-- int f(int a) { try { a = g(a); h(); } finally { h(); } return a; } becomes int f(int a) { try { a = m(a); } finally { h(); } return a; } and int m(int a) { a = g(a); h(); return a; }
abbrev pub extracts_from_a_try : Changed
extracts_from_a_try = record {
  old = record {
    rows =
        r 0 32 0 is.Program [] ∷ r 0 32 0 is.Unit [] ∷ r 1 32 1 (is.Class bare false) (codes "A") ∷ r 2 32 2 is.Body [] ∷
        r 3 23 3 (is.Method bare false true) (codes "f") ∷ r 4 6 4 (is.TypeUse (Some primitive.Int) 0) [] ∷
        r 4 8 5 (is.Parameter false 0) (codes "a") ∷ r 6 8 6 (is.TypeUse (Some primitive.Int) 0) [] ∷ r 4 23 6 is.Block [] ∷
        r 8 21 8 (is.Try true) [] ∷ r 9 18 9 is.Block [] ∷ r 10 16 10 is.Eval [] ∷ r 11 16 11 (is.Assign y.Assign) [] ∷
        r 12 14 12 (is.Name kind.Variable place.Expression false) (codes "a") ∷ r 12 16 13 (is.Call on.Absent) (codes "g") ∷
        r 14 16 14 (is.Name kind.Variable place.Expression false) (codes "a") ∷ r 10 18 11 is.Eval [] ∷ r 16 18 16 (is.Call on.Absent) (codes "h") ∷
        r 9 21 10 is.Block [] ∷ r 18 21 18 is.Eval [] ∷ r 19 21 19 (is.Call on.Absent) (codes "h") ∷ r 8 23 9 is.Return [] ∷
        r 21 23 21 (is.Name kind.Variable place.Expression false) (codes "a") ∷ r 3 30 4 (is.Method bare false true) (codes "g") ∷
        r 23 25 23 (is.TypeUse (Some primitive.Int) 0) [] ∷ r 23 27 24 (is.Parameter false 0) (codes "k") ∷
        r 25 27 25 (is.TypeUse (Some primitive.Int) 0) [] ∷ r 23 30 25 is.Block [] ∷ r 27 30 27 is.Return [] ∷
        r 28 30 28 (is.Literal (token.Int (pos 0))) [] ∷ r 3 32 23 (is.Method bare true true) (codes "h") ∷ r 30 32 30 is.Block [] ∷ [];
    targets = (13, Declared 6 None) ∷ (14, Declared 23 (Some 2)) ∷ (15, Declared 6 None) ∷ (17, Declared 30 (Some 2)) ∷ (20, Declared 30 (Some 2)) ∷ (22, Declared 6 None) ∷ [];
    body = 4;
  };
  new = record {
    rows =
        r 0 44 0 is.Program [] ∷ r 0 44 0 is.Unit [] ∷ r 1 44 1 (is.Class bare false) (codes "A") ∷ r 2 44 2 is.Body [] ∷
        r 3 21 3 (is.Method bare false true) (codes "f") ∷ r 4 6 4 (is.TypeUse (Some primitive.Int) 0) [] ∷
        r 4 8 5 (is.Parameter false 0) (codes "a") ∷ r 6 8 6 (is.TypeUse (Some primitive.Int) 0) [] ∷ r 4 21 6 is.Block [] ∷
        r 8 19 8 (is.Try true) [] ∷ r 9 16 9 is.Block [] ∷ r 10 16 10 is.Eval [] ∷ r 11 16 11 (is.Assign y.Assign) [] ∷
        r 12 14 12 (is.Name kind.Variable place.Expression false) (codes "a") ∷ r 12 16 13 (is.Call on.Absent) (codes "m") ∷
        r 14 16 14 (is.Name kind.Variable place.Expression false) (codes "a") ∷ r 9 19 10 is.Block [] ∷ r 16 19 16 is.Eval [] ∷
        r 17 19 17 (is.Call on.Absent) (codes "h") ∷ r 8 21 9 is.Return [] ∷ r 19 21 19 (is.Name kind.Variable place.Expression false) (codes "a") ∷
        r 3 35 4 (is.Method bare false true) (codes "m") ∷ r 21 23 21 (is.TypeUse (Some primitive.Int) 0) [] ∷
        r 21 25 22 (is.Parameter false 0) (codes "a") ∷ r 23 25 23 (is.TypeUse (Some primitive.Int) 0) [] ∷ r 21 35 23 is.Block [] ∷
        r 25 31 25 is.Eval [] ∷ r 26 31 26 (is.Assign y.Assign) [] ∷ r 27 29 27 (is.Name kind.Variable place.Expression false) (codes "a") ∷
        r 27 31 28 (is.Call on.Absent) (codes "g") ∷ r 29 31 29 (is.Name kind.Variable place.Expression false) (codes "a") ∷ r 25 33 26 is.Eval [] ∷
        r 31 33 31 (is.Call on.Absent) (codes "h") ∷ r 25 35 31 is.Return [] ∷ r 33 35 33 (is.Name kind.Variable place.Expression false) (codes "a") ∷
        r 3 42 21 (is.Method bare false true) (codes "g") ∷ r 35 37 35 (is.TypeUse (Some primitive.Int) 0) [] ∷
        r 35 39 36 (is.Parameter false 0) (codes "k") ∷ r 37 39 37 (is.TypeUse (Some primitive.Int) 0) [] ∷ r 35 42 37 is.Block [] ∷
        r 39 42 39 is.Return [] ∷ r 40 42 40 (is.Literal (token.Int (pos 0))) [] ∷ r 3 44 35 (is.Method bare true true) (codes "h") ∷
        r 42 44 42 is.Block [] ∷ [];
    targets = (13, Declared 6 None) ∷ (14, Declared 21 (Some 2)) ∷ (15, Declared 6 None) ∷ (18, Declared 42 (Some 2)) ∷ (20, Declared 6 None) ∷ (28, Declared 23 None) ∷ (29, Declared 35 (Some 2)) ∷ (30, Declared 23 None) ∷ (32, Declared 42 (Some 2)) ∷ (34, Declared 23 None) ∷ [];
    body = 4;
  };
  dropped = None;
  origins =
      (0, 0) ∷ (1, 1) ∷ (2, 2) ∷ (3, 3) ∷ (4, 4) ∷ (5, 5) ∷ (6, 6) ∷ (7, 7) ∷ (8, 8) ∷ (9, 9) ∷ (10, 10) ∷ (16, 18) ∷ (17, 19) ∷ (18, 20) ∷ (19, 21) ∷
      (20, 22) ∷ (23, 6) ∷ (26, 11) ∷ (27, 12) ∷ (28, 13) ∷ (29, 14) ∷ (30, 15) ∷ (31, 16) ∷ (32, 17) ∷ (35, 23) ∷ (36, 24) ∷ (37, 25) ∷ (38, 26) ∷
      (39, 27) ∷ (40, 28) ∷ (41, 29) ∷ (42, 30) ∷ (43, 31) ∷ [];
}

-- int f(int a) { try { a = g(a); h(); return a; } finally { h(); } return a; } becomes int f(int a) { try { a = m(a); } finally { h(); } return a; } and int m(int a) { a = g(a); h(); return a; return a; }
abbrev pub extracts_a_return : Changed
extracts_a_return = record {
  old = record {
    rows =
        r 0 34 0 is.Program [] ∷ r 0 34 0 is.Unit [] ∷ r 1 34 1 (is.Class bare false) (codes "A") ∷ r 2 34 2 is.Body [] ∷
        r 3 25 3 (is.Method bare false true) (codes "f") ∷ r 4 6 4 (is.TypeUse (Some primitive.Int) 0) [] ∷
        r 4 8 5 (is.Parameter false 0) (codes "a") ∷ r 6 8 6 (is.TypeUse (Some primitive.Int) 0) [] ∷ r 4 25 6 is.Block [] ∷
        r 8 23 8 (is.Try true) [] ∷ r 9 20 9 is.Block [] ∷ r 10 16 10 is.Eval [] ∷ r 11 16 11 (is.Assign y.Assign) [] ∷
        r 12 14 12 (is.Name kind.Variable place.Expression false) (codes "a") ∷ r 12 16 13 (is.Call on.Absent) (codes "g") ∷
        r 14 16 14 (is.Name kind.Variable place.Expression false) (codes "a") ∷ r 10 18 11 is.Eval [] ∷ r 16 18 16 (is.Call on.Absent) (codes "h") ∷
        r 10 20 16 is.Return [] ∷ r 18 20 18 (is.Name kind.Variable place.Expression false) (codes "a") ∷ r 9 23 10 is.Block [] ∷
        r 20 23 20 is.Eval [] ∷ r 21 23 21 (is.Call on.Absent) (codes "h") ∷ r 8 25 9 is.Return [] ∷
        r 23 25 23 (is.Name kind.Variable place.Expression false) (codes "a") ∷ r 3 32 4 (is.Method bare false true) (codes "g") ∷
        r 25 27 25 (is.TypeUse (Some primitive.Int) 0) [] ∷ r 25 29 26 (is.Parameter false 0) (codes "k") ∷
        r 27 29 27 (is.TypeUse (Some primitive.Int) 0) [] ∷ r 25 32 27 is.Block [] ∷ r 29 32 29 is.Return [] ∷
        r 30 32 30 (is.Literal (token.Int (pos 0))) [] ∷ r 3 34 25 (is.Method bare true true) (codes "h") ∷ r 32 34 32 is.Block [] ∷ [];
    targets = (13, Declared 6 None) ∷ (14, Declared 25 (Some 2)) ∷ (15, Declared 6 None) ∷ (17, Declared 32 (Some 2)) ∷ (19, Declared 6 None) ∷ (22, Declared 32 (Some 2)) ∷ (24, Declared 6 None) ∷ [];
    body = 4;
  };
  new = record {
    rows =
        r 0 46 0 is.Program [] ∷ r 0 46 0 is.Unit [] ∷ r 1 46 1 (is.Class bare false) (codes "A") ∷ r 2 46 2 is.Body [] ∷
        r 3 21 3 (is.Method bare false true) (codes "f") ∷ r 4 6 4 (is.TypeUse (Some primitive.Int) 0) [] ∷
        r 4 8 5 (is.Parameter false 0) (codes "a") ∷ r 6 8 6 (is.TypeUse (Some primitive.Int) 0) [] ∷ r 4 21 6 is.Block [] ∷
        r 8 19 8 (is.Try true) [] ∷ r 9 16 9 is.Block [] ∷ r 10 16 10 is.Eval [] ∷ r 11 16 11 (is.Assign y.Assign) [] ∷
        r 12 14 12 (is.Name kind.Variable place.Expression false) (codes "a") ∷ r 12 16 13 (is.Call on.Absent) (codes "m") ∷
        r 14 16 14 (is.Name kind.Variable place.Expression false) (codes "a") ∷ r 9 19 10 is.Block [] ∷ r 16 19 16 is.Eval [] ∷
        r 17 19 17 (is.Call on.Absent) (codes "h") ∷ r 8 21 9 is.Return [] ∷ r 19 21 19 (is.Name kind.Variable place.Expression false) (codes "a") ∷
        r 3 37 4 (is.Method bare false true) (codes "m") ∷ r 21 23 21 (is.TypeUse (Some primitive.Int) 0) [] ∷
        r 21 25 22 (is.Parameter false 0) (codes "a") ∷ r 23 25 23 (is.TypeUse (Some primitive.Int) 0) [] ∷ r 21 37 23 is.Block [] ∷
        r 25 31 25 is.Eval [] ∷ r 26 31 26 (is.Assign y.Assign) [] ∷ r 27 29 27 (is.Name kind.Variable place.Expression false) (codes "a") ∷
        r 27 31 28 (is.Call on.Absent) (codes "g") ∷ r 29 31 29 (is.Name kind.Variable place.Expression false) (codes "a") ∷ r 25 33 26 is.Eval [] ∷
        r 31 33 31 (is.Call on.Absent) (codes "h") ∷ r 25 35 31 is.Return [] ∷ r 33 35 33 (is.Name kind.Variable place.Expression false) (codes "a") ∷
        r 25 37 33 is.Return [] ∷ r 35 37 35 (is.Name kind.Variable place.Expression false) (codes "a") ∷
        r 3 44 21 (is.Method bare false true) (codes "g") ∷ r 37 39 37 (is.TypeUse (Some primitive.Int) 0) [] ∷
        r 37 41 38 (is.Parameter false 0) (codes "k") ∷ r 39 41 39 (is.TypeUse (Some primitive.Int) 0) [] ∷ r 37 44 39 is.Block [] ∷
        r 41 44 41 is.Return [] ∷ r 42 44 42 (is.Literal (token.Int (pos 0))) [] ∷ r 3 46 37 (is.Method bare true true) (codes "h") ∷
        r 44 46 44 is.Block [] ∷ [];
    targets = (13, Declared 6 None) ∷ (14, Declared 21 (Some 2)) ∷ (15, Declared 6 None) ∷ (18, Declared 44 (Some 2)) ∷ (20, Declared 6 None) ∷ (28, Declared 23 None) ∷ (29, Declared 37 (Some 2)) ∷ (30, Declared 23 None) ∷ (32, Declared 44 (Some 2)) ∷ (34, Declared 23 None) ∷ (36, Declared 23 None) ∷ [];
    body = 4;
  };
  dropped = None;
  origins =
      (0, 0) ∷ (1, 1) ∷ (2, 2) ∷ (3, 3) ∷ (4, 4) ∷ (5, 5) ∷ (6, 6) ∷ (7, 7) ∷ (8, 8) ∷ (9, 9) ∷ (10, 10) ∷ (16, 20) ∷ (17, 21) ∷ (18, 22) ∷ (19, 23) ∷
      (20, 24) ∷ (23, 6) ∷ (26, 11) ∷ (27, 12) ∷ (28, 13) ∷ (29, 14) ∷ (30, 15) ∷ (31, 16) ∷ (32, 17) ∷ (33, 18) ∷ (34, 19) ∷ (37, 25) ∷ (38, 26) ∷
      (39, 27) ∷ (40, 28) ∷ (41, 29) ∷ (42, 30) ∷ (43, 31) ∷ (44, 32) ∷ (45, 33) ∷ [];
}
