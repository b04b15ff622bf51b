-- Small programs with the edges of control and from definitions to uses of one of their bodies. Rows are written as label and identifier, with the row round them, the
-- row where they end, and the row before.
use Rattle.std.specs.Prelude.{ℕ, true, false, if◌then◌else◌, List, [], ◌∷◌, Some, None, nat_eq, codes, pos, Decides}
use Rattle.jr_base.specs.declared.text.Text.{Text}
use Rattle.jr_base.specs.declared.kind.Kind.TheVariants as token
use Rattle.jr_base.specs.declared.kind.Symbol.TheVariants as y
use Rattle.jr_tree.specs.declared.tree.Primitive.TheVariants as primitive
use Rattle.jr_tree.specs.declared.label.Label.{Label}
use Rattle.jr_tree.specs.declared.label.Label.TheVariants as is
use Rattle.jr_tree.specs.declared.label.Modifiers.{Modifiers}
use Rattle.jr_tree.specs.declared.label.NameKind.TheVariants as kind
use Rattle.jr_tree.specs.declared.label.NamePlace.TheVariants as place
use Rattle.jr_tree.specs.declared.label.ReceiverKind.TheVariants as on
use Rattle.jr_tree.specs.declared.row.Row.{Row}
use Rattle.jr_tree.specs.Decls.{modifiers_of}
use Rattle.jr_tree.specs.Rows.{Rows}
use Rattle.jr_defs.specs.declared.referent.Referent.{Referent}
use Rattle.jr_defs.specs.declared.referent.Referent.TheVariants.{Unbound, ArrayLength, Declared}
use Rattle.jr_defs.specs.Referents.{Table}
use Rattle.jr_plain.specs.Search.{among}
use Rattle.jr_plain.specs.Same.{same_pair}
use Rattle.jr_flow_defs.specs.Meaning.{meaning_of}
use Rattle.jr_flow_defs.specs.States.{State}
use Rattle.jr_flow_defs.specs.Paths.{Flow}
use Rattle.jr_flow_defs.specs.Edges.{FlowNode, entry, exit, acting, Naming, body_flow, ControlEdge, DefUse}
use Rattle.jr_flow_defs.specs.Kept.{old_name}
use Rattle.jr_flow_defs.specs.Computed.{same_edge}

-- a program, what its names refer to, the row of a body, and its edges
pub record Worked : Type 0 where
  pub rows : Rows
  pub targets : List (ℕ × Referent)
  pub body : ℕ
  pub edges : List (FlowNode × FlowNode)
  pub uses : List (ℕ × ℕ)

abbrev pub told : List (ℕ × Referent) → Table
told [] n = Unbound
told (one ∷ more) n = if nat_eq one.0 n then one.1 else told more n

abbrev pub flow_of : Worked → Flow State
flow_of w = body_flow w.rows (meaning_of w.rows (told w.targets)) w.body

abbrev pub naming_of : Worked → Naming
naming_of w = old_name w.rows None

-- these are its edges, and no others
pub record HasEdges (w : Worked) : Type 0 where
  pub control : (x y : FlowNode) → Decides (among same_edge w.edges (x, y)) (ControlEdge w.rows (flow_of w) w.body (naming_of w) x y)
  pub uses : (i j : ℕ) → Decides (among same_pair w.uses (i, j)) (DefUse (flow_of w) i j)

abbrev pub r : ℕ → ℕ → ℕ → Label → Text → Row
r over stop before l x = record { label = l; name = x; parent = over; end = stop; previous = before }

abbrev pub bare : Modifiers
bare = modifiers_of []

-- int f(int a) { int r; if (a < 1) r = a; else r = g(a); return r; }
abbrev pub an_if_with_else : Worked
an_if_with_else = record {
  rows =
      r 0 34 0 is.Program [] ∷ r 0 34 0 is.Unit [] ∷ r 1 34 1 (is.Class bare false) (codes "A") ∷ r 2 34 2 is.Body [] ∷
      r 3 27 3 (is.Method bare false true) (codes "f") ∷ r 4 6 4 (is.TypeUse (Some primitive.Int) 0) [] ∷
      r 4 8 5 (is.Parameter false 0) (codes "a") ∷ r 6 8 6 (is.TypeUse (Some primitive.Int) 0) [] ∷ r 4 27 6 is.Block [] ∷ r 8 12 8 is.Locals [] ∷
      r 9 11 9 (is.TypeUse (Some primitive.Int) 0) [] ∷ r 9 12 10 (is.Local false 0) (codes "r") ∷ r 8 25 9 is.If [] ∷
      r 12 16 12 (is.Binary y.Less) [] ∷ r 13 15 13 (is.Name kind.Variable place.Expression false) (codes "a") ∷
      r 13 16 14 (is.Literal (token.Int (pos 1))) [] ∷ r 12 20 13 is.Eval [] ∷ r 16 20 16 (is.Assign y.Assign) [] ∷
      r 17 19 17 (is.Name kind.Variable place.Expression false) (codes "r") ∷ r 17 20 18 (is.Name kind.Variable place.Expression false) (codes "a") ∷
      r 12 25 16 is.Eval [] ∷ r 20 25 20 (is.Assign y.Assign) [] ∷ r 21 23 21 (is.Name kind.Variable place.Expression false) (codes "r") ∷
      r 21 25 22 (is.Call on.Absent) (codes "g") ∷ r 23 25 23 (is.Name kind.Variable place.Expression false) (codes "a") ∷ r 8 27 12 is.Return [] ∷
      r 25 27 25 (is.Name kind.Variable place.Expression false) (codes "r") ∷ r 3 34 4 (is.Method bare false true) (codes "g") ∷
      r 27 29 27 (is.TypeUse (Some primitive.Int) 0) [] ∷ r 27 31 28 (is.Parameter false 0) (codes "k") ∷
      r 29 31 29 (is.TypeUse (Some primitive.Int) 0) [] ∷ r 27 34 29 is.Block [] ∷ r 31 34 31 is.Return [] ∷
      r 32 34 32 (is.Literal (token.Int (pos 0))) [] ∷ [];
  targets = (14, Declared 6 None) ∷ (18, Declared 11 None) ∷ (19, Declared 6 None) ∷ (22, Declared 11 None) ∷ (23, Declared 27 (Some 2)) ∷ (24, Declared 6 None) ∷ (26, Declared 11 None) ∷ [];
  body = 4;
  edges =
      (entry, acting 9) ∷ (acting 9, acting 12) ∷ (acting 12, acting 16) ∷ (acting 12, acting 23) ∷ (acting 16, acting 25) ∷ (acting 20, acting 25) ∷
      (acting 23, acting 20) ∷ (acting 23, exit) ∷ (acting 25, exit) ∷ [];
  uses = (6, 14) ∷ (6, 19) ∷ (6, 24) ∷ (18, 26) ∷ (22, 26) ∷ [];
}

-- int f(int a, int b) { while (a < 9) { if (a == b) break; a++; } return a; }
abbrev pub a_while_with_break : Worked
a_while_with_break = record {
  rows =
      r 0 27 0 is.Program [] ∷ r 0 27 0 is.Unit [] ∷ r 1 27 1 (is.Class bare false) (codes "A") ∷ r 2 27 2 is.Body [] ∷
      r 3 27 3 (is.Method bare false true) (codes "f") ∷ r 4 6 4 (is.TypeUse (Some primitive.Int) 0) [] ∷
      r 4 8 5 (is.Parameter false 0) (codes "a") ∷ r 6 8 6 (is.TypeUse (Some primitive.Int) 0) [] ∷ r 4 10 6 (is.Parameter false 0) (codes "b") ∷
      r 8 10 8 (is.TypeUse (Some primitive.Int) 0) [] ∷ r 4 27 8 is.Block [] ∷ r 10 25 10 is.While [] ∷ r 11 15 11 (is.Binary y.Less) [] ∷
      r 12 14 12 (is.Name kind.Variable place.Expression false) (codes "a") ∷ r 12 15 13 (is.Literal (token.Int (pos 9))) [] ∷
      r 11 25 12 is.Nest [] ∷ r 15 25 15 is.Block [] ∷ r 16 22 16 is.If [] ∷ r 17 21 17 (is.Binary y.Equal) [] ∷
      r 18 20 18 (is.Name kind.Variable place.Expression false) (codes "a") ∷ r 18 21 19 (is.Name kind.Variable place.Expression false) (codes "b") ∷
      r 17 22 18 (is.Break false) [] ∷ r 16 25 17 is.Eval [] ∷ r 22 25 22 (is.PostStep y.PlusPlus) [] ∷
      r 23 25 23 (is.Name kind.Variable place.Expression false) (codes "a") ∷ r 10 27 11 is.Return [] ∷
      r 25 27 25 (is.Name kind.Variable place.Expression false) (codes "a") ∷ [];
  targets = (13, Declared 6 None) ∷ (19, Declared 6 None) ∷ (20, Declared 8 None) ∷ (24, Declared 6 None) ∷ (26, Declared 6 None) ∷ [];
  body = 4;
  edges =
      (entry, acting 11) ∷ (acting 11, acting 17) ∷ (acting 11, acting 25) ∷ (acting 17, acting 21) ∷ (acting 17, acting 22) ∷
      (acting 21, acting 25) ∷ (acting 22, acting 11) ∷ (acting 25, exit) ∷ [];
  uses = (6, 13) ∷ (6, 19) ∷ (6, 24) ∷ (6, 26) ∷ (8, 20) ∷ (23, 13) ∷ (23, 19) ∷ (23, 24) ∷ (23, 26) ∷ [];
}

-- int f(int a) { try { return g(a); } finally { a = 0; h(); } }
abbrev pub a_return_through_finally : Worked
a_return_through_finally = record {
  rows =
      r 0 30 0 is.Program [] ∷ r 0 30 0 is.Unit [] ∷ r 1 30 1 (is.Class bare false) (codes "A") ∷ r 2 30 2 is.Body [] ∷
      r 3 21 3 (is.Method bare false true) (codes "f") ∷ r 4 6 4 (is.TypeUse (Some primitive.Int) 0) [] ∷
      r 4 8 5 (is.Parameter false 0) (codes "a") ∷ r 6 8 6 (is.TypeUse (Some primitive.Int) 0) [] ∷ r 4 21 6 is.Block [] ∷
      r 8 21 8 (is.Try true) [] ∷ r 9 14 9 is.Block [] ∷ r 10 14 10 is.Return [] ∷ r 11 14 11 (is.Call on.Absent) (codes "g") ∷
      r 12 14 12 (is.Name kind.Variable place.Expression false) (codes "a") ∷ r 9 21 10 is.Block [] ∷ r 14 19 14 is.Eval [] ∷
      r 15 19 15 (is.Assign y.Assign) [] ∷ r 16 18 16 (is.Name kind.Variable place.Expression false) (codes "a") ∷
      r 16 19 17 (is.Literal (token.Int (pos 0))) [] ∷ r 14 21 15 is.Eval [] ∷ r 19 21 19 (is.Call on.Absent) (codes "h") ∷
      r 3 28 4 (is.Method bare false true) (codes "g") ∷ r 21 23 21 (is.TypeUse (Some primitive.Int) 0) [] ∷
      r 21 25 22 (is.Parameter false 0) (codes "k") ∷ r 23 25 23 (is.TypeUse (Some primitive.Int) 0) [] ∷ r 21 28 23 is.Block [] ∷
      r 25 28 25 is.Return [] ∷ r 26 28 26 (is.Literal (token.Int (pos 0))) [] ∷ r 3 30 21 (is.Method bare true true) (codes "h") ∷
      r 28 30 28 is.Block [] ∷ [];
  targets = (12, Declared 21 (Some 2)) ∷ (13, Declared 6 None) ∷ (17, Declared 6 None) ∷ (20, Declared 28 (Some 2)) ∷ [];
  body = 4;
  edges =
      (entry, acting 12) ∷ (acting 11, acting 15) ∷ (acting 12, acting 11) ∷ (acting 12, acting 15) ∷ (acting 15, acting 20) ∷ (acting 19, exit) ∷
      (acting 20, acting 19) ∷ (acting 20, exit) ∷ [];
  uses = (6, 13) ∷ [];
}

-- int f(int a) { try { a = g(a); } catch (E e) { a = 2; } return a; }
abbrev pub a_call_that_throws : Worked
a_call_that_throws = record {
  rows =
      r 0 34 0 is.Program [] ∷ r 0 34 0 is.Unit [] ∷ r 1 34 1 (is.Class bare false) (codes "A") ∷ r 2 34 2 is.Body [] ∷
      r 3 27 3 (is.Method bare false true) (codes "f") ∷ r 4 6 4 (is.TypeUse (Some primitive.Int) 0) [] ∷
      r 4 8 5 (is.Parameter false 0) (codes "a") ∷ r 6 8 6 (is.TypeUse (Some primitive.Int) 0) [] ∷ r 4 27 6 is.Block [] ∷
      r 8 25 8 (is.Try false) [] ∷ r 9 16 9 is.Block [] ∷ r 10 16 10 is.Eval [] ∷ r 11 16 11 (is.Assign y.Assign) [] ∷
      r 12 14 12 (is.Name kind.Variable place.Expression false) (codes "a") ∷ r 12 16 13 (is.Call on.Absent) (codes "g") ∷
      r 14 16 14 (is.Name kind.Variable place.Expression false) (codes "a") ∷ r 9 25 10 is.Catch [] ∷ r 16 20 16 (is.Parameter false 0) (codes "e") ∷
      r 17 20 17 (is.TypeUse None 0) [] ∷ r 18 20 18 (is.Name kind.Type place.Other false) (codes "E") ∷ r 16 25 17 is.Block [] ∷
      r 20 25 20 is.Eval [] ∷ r 21 25 21 (is.Assign y.Assign) [] ∷ r 22 24 22 (is.Name kind.Variable place.Expression false) (codes "a") ∷
      r 22 25 23 (is.Literal (token.Int (pos 2))) [] ∷ r 8 27 9 is.Return [] ∷
      r 25 27 25 (is.Name kind.Variable place.Expression false) (codes "a") ∷ r 3 34 4 (is.Method bare false true) (codes "g") ∷
      r 27 29 27 (is.TypeUse (Some primitive.Int) 0) [] ∷ r 27 31 28 (is.Parameter false 0) (codes "k") ∷
      r 29 31 29 (is.TypeUse (Some primitive.Int) 0) [] ∷ r 27 34 29 is.Block [] ∷ r 31 34 31 is.Return [] ∷
      r 32 34 32 (is.Literal (token.Int (pos 0))) [] ∷ [];
  targets = (13, Declared 6 None) ∷ (14, Declared 27 (Some 2)) ∷ (15, Declared 6 None) ∷ (23, Declared 6 None) ∷ (26, Declared 6 None) ∷ [];
  body = 4;
  edges =
      (entry, acting 14) ∷ (acting 11, acting 25) ∷ (acting 14, acting 11) ∷ (acting 14, acting 17) ∷ (acting 14, exit) ∷ (acting 17, acting 21) ∷
      (acting 21, acting 25) ∷ (acting 25, exit) ∷ [];
  uses = (6, 15) ∷ (13, 26) ∷ (23, 26) ∷ [];
}

-- void f(int a) { while (a < 9) try { h(); return; } finally { break; } }
abbrev pub a_finally_that_breaks : Worked
a_finally_that_breaks = record {
  rows =
      r 0 21 0 is.Program [] ∷ r 0 21 0 is.Unit [] ∷ r 1 21 1 (is.Class bare false) (codes "A") ∷ r 2 21 2 is.Body [] ∷
      r 3 19 3 (is.Method bare true true) (codes "f") ∷ r 4 7 4 (is.Parameter false 0) (codes "a") ∷ r 5 7 5 (is.TypeUse (Some primitive.Int) 0) [] ∷
      r 4 19 5 is.Block [] ∷ r 7 19 7 is.While [] ∷ r 8 12 8 (is.Binary y.Less) [] ∷
      r 9 11 9 (is.Name kind.Variable place.Expression false) (codes "a") ∷ r 9 12 10 (is.Literal (token.Int (pos 9))) [] ∷
      r 8 19 9 (is.Try true) [] ∷ r 12 17 12 is.Block [] ∷ r 13 16 13 is.Eval [] ∷ r 14 16 14 (is.Call on.Absent) (codes "h") ∷
      r 13 17 14 is.Return [] ∷ r 12 19 13 is.Block [] ∷ r 17 19 17 (is.Break false) [] ∷ r 3 21 4 (is.Method bare true true) (codes "h") ∷
      r 19 21 19 is.Block [] ∷ [];
  targets = (10, Declared 5 None) ∷ (15, Declared 19 (Some 2)) ∷ [];
  body = 4;
  edges =
      (entry, acting 8) ∷ (acting 8, acting 15) ∷ (acting 8, exit) ∷ (acting 14, acting 16) ∷ (acting 15, acting 14) ∷ (acting 15, acting 18) ∷
      (acting 16, acting 18) ∷ (acting 18, exit) ∷ [];
  uses = (5, 10) ∷ [];
}

-- void f(int n) { for (int i = 0; i < n; i = g(i)) { if (i == 3) continue; h(); } }
abbrev pub a_for_with_continue : Worked
a_for_with_continue = record {
  rows =
      r 0 39 0 is.Program [] ∷ r 0 39 0 is.Unit [] ∷ r 1 39 1 (is.Class bare false) (codes "A") ∷ r 2 39 2 is.Body [] ∷
      r 3 30 3 (is.Method bare true true) (codes "f") ∷ r 4 7 4 (is.Parameter false 0) (codes "n") ∷ r 5 7 5 (is.TypeUse (Some primitive.Int) 0) [] ∷
      r 4 30 5 is.Block [] ∷ r 7 30 7 (is.For true true) [] ∷ r 8 14 8 is.ForLocals [] ∷ r 9 11 9 (is.TypeUse (Some primitive.Int) 0) [] ∷
      r 9 14 10 (is.Local false 0) (codes "i") ∷ r 11 14 11 is.Value [] ∷ r 12 14 12 (is.Literal (token.Int (pos 0))) [] ∷
      r 8 17 9 (is.Binary y.Less) [] ∷ r 14 16 14 (is.Name kind.Variable place.Expression false) (codes "i") ∷
      r 14 17 15 (is.Name kind.Variable place.Expression false) (codes "n") ∷ r 8 21 14 (is.Assign y.Assign) [] ∷
      r 17 19 17 (is.Name kind.Variable place.Expression false) (codes "i") ∷ r 17 21 18 (is.Call on.Absent) (codes "g") ∷
      r 19 21 19 (is.Name kind.Variable place.Expression false) (codes "i") ∷ r 8 30 17 is.Nest [] ∷ r 21 30 21 is.Block [] ∷ r 22 28 22 is.If [] ∷
      r 23 27 23 (is.Binary y.Equal) [] ∷ r 24 26 24 (is.Name kind.Variable place.Expression false) (codes "i") ∷
      r 24 27 25 (is.Literal (token.Int (pos 3))) [] ∷ r 23 28 24 (is.Continue false) [] ∷ r 22 30 23 is.Eval [] ∷
      r 28 30 28 (is.Call on.Absent) (codes "h") ∷ r 3 37 4 (is.Method bare false true) (codes "g") ∷
      r 30 32 30 (is.TypeUse (Some primitive.Int) 0) [] ∷ r 30 34 31 (is.Parameter false 0) (codes "k") ∷
      r 32 34 32 (is.TypeUse (Some primitive.Int) 0) [] ∷ r 30 37 32 is.Block [] ∷ r 34 37 34 is.Return [] ∷
      r 35 37 35 (is.Literal (token.Int (pos 0))) [] ∷ r 3 39 30 (is.Method bare true true) (codes "h") ∷ r 37 39 37 is.Block [] ∷ [];
  targets = (15, Declared 11 None) ∷ (16, Declared 5 None) ∷ (18, Declared 11 None) ∷ (19, Declared 30 (Some 2)) ∷ (20, Declared 11 None) ∷ (25, Declared 11 None) ∷ (29, Declared 37 (Some 2)) ∷ [];
  body = 4;
  edges =
      (entry, acting 8) ∷ (acting 8, acting 23) ∷ (acting 8, exit) ∷ (acting 19, acting 8) ∷ (acting 19, exit) ∷ (acting 23, acting 27) ∷
      (acting 23, acting 29) ∷ (acting 27, acting 19) ∷ (acting 28, acting 19) ∷ (acting 29, acting 28) ∷ (acting 29, exit) ∷ [];
  uses = (5, 16) ∷ (11, 15) ∷ (11, 20) ∷ (11, 25) ∷ (18, 15) ∷ (18, 20) ∷ (18, 25) ∷ [];
}

-- void f(int k) { do { if (k == 3) continue; h(); } while (g(k) < 9); }
abbrev pub a_do_with_continue : Worked
a_do_with_continue = record {
  rows =
      r 0 31 0 is.Program [] ∷ r 0 31 0 is.Unit [] ∷ r 1 31 1 (is.Class bare false) (codes "A") ∷ r 2 31 2 is.Body [] ∷
      r 3 22 3 (is.Method bare true true) (codes "f") ∷ r 4 7 4 (is.Parameter false 0) (codes "k") ∷ r 5 7 5 (is.TypeUse (Some primitive.Int) 0) [] ∷
      r 4 22 5 is.Block [] ∷ r 7 22 7 is.Do [] ∷ r 8 18 8 is.Nest [] ∷ r 9 18 9 is.Block [] ∷ r 10 16 10 is.If [] ∷
      r 11 15 11 (is.Binary y.Equal) [] ∷ r 12 14 12 (is.Name kind.Variable place.Expression false) (codes "k") ∷
      r 12 15 13 (is.Literal (token.Int (pos 3))) [] ∷ r 11 16 12 (is.Continue false) [] ∷ r 10 18 11 is.Eval [] ∷
      r 16 18 16 (is.Call on.Absent) (codes "h") ∷ r 8 22 9 (is.Binary y.Less) [] ∷ r 18 21 18 (is.Call on.Absent) (codes "g") ∷
      r 19 21 19 (is.Name kind.Variable place.Expression false) (codes "k") ∷ r 18 22 19 (is.Literal (token.Int (pos 9))) [] ∷
      r 3 29 4 (is.Method bare false true) (codes "g") ∷ r 22 24 22 (is.TypeUse (Some primitive.Int) 0) [] ∷
      r 22 26 23 (is.Parameter false 0) (codes "k") ∷ r 24 26 24 (is.TypeUse (Some primitive.Int) 0) [] ∷ r 22 29 24 is.Block [] ∷
      r 26 29 26 is.Return [] ∷ r 27 29 27 (is.Literal (token.Int (pos 0))) [] ∷ r 3 31 22 (is.Method bare true true) (codes "h") ∷
      r 29 31 29 is.Block [] ∷ [];
  targets = (13, Declared 5 None) ∷ (17, Declared 29 (Some 2)) ∷ (19, Declared 22 (Some 2)) ∷ (20, Declared 5 None) ∷ [];
  body = 4;
  edges =
      (entry, acting 11) ∷ (acting 8, acting 11) ∷ (acting 8, exit) ∷ (acting 11, acting 15) ∷ (acting 11, acting 17) ∷ (acting 15, acting 19) ∷
      (acting 16, acting 19) ∷ (acting 17, acting 16) ∷ (acting 17, exit) ∷ (acting 19, acting 8) ∷ (acting 19, exit) ∷ [];
  uses = (5, 13) ∷ (5, 20) ∷ [];
}

-- void f(int k) { x: do { switch (k) { case 1: h(); case 2: k = 3; break; default: break x; } } while (k < 9); }
abbrev pub a_switch_with_a_labeled_break : Worked
a_switch_with_a_labeled_break = record {
  rows =
      r 0 35 0 is.Program [] ∷ r 0 35 0 is.Unit [] ∷ r 1 35 1 (is.Class bare false) (codes "A") ∷ r 2 35 2 is.Body [] ∷
      r 3 33 3 (is.Method bare true true) (codes "f") ∷ r 4 7 4 (is.Parameter false 0) (codes "k") ∷ r 5 7 5 (is.TypeUse (Some primitive.Int) 0) [] ∷
      r 4 33 5 is.Block [] ∷ r 7 33 7 is.Labeled (codes "x") ∷ r 8 33 8 is.Do [] ∷ r 9 30 9 is.Nest [] ∷ r 10 30 10 is.Block [] ∷
      r 11 30 11 is.Switch [] ∷ r 12 14 12 (is.Name kind.Variable place.Expression false) (codes "k") ∷ r 12 19 13 is.Group [] ∷
      r 14 17 14 is.Case [] ∷ r 15 17 15 (is.Literal (token.Int (pos 1))) [] ∷ r 14 19 15 is.Eval [] ∷ r 17 19 17 (is.Call on.Absent) (codes "h") ∷
      r 12 27 14 is.Group [] ∷ r 19 22 19 is.Case [] ∷ r 20 22 20 (is.Literal (token.Int (pos 2))) [] ∷ r 19 26 20 is.Eval [] ∷
      r 22 26 22 (is.Assign y.Assign) [] ∷ r 23 25 23 (is.Name kind.Variable place.Expression false) (codes "k") ∷
      r 23 26 24 (is.Literal (token.Int (pos 3))) [] ∷ r 19 27 22 (is.Break false) [] ∷ r 12 30 19 is.Group [] ∷ r 27 29 27 is.Default [] ∷
      r 27 30 28 (is.Break true) (codes "x") ∷ r 9 33 10 (is.Binary y.Less) [] ∷
      r 30 32 30 (is.Name kind.Variable place.Expression false) (codes "k") ∷ r 30 33 31 (is.Literal (token.Int (pos 9))) [] ∷
      r 3 35 4 (is.Method bare true true) (codes "h") ∷ r 33 35 33 is.Block [] ∷ [];
  targets = (13, Declared 5 None) ∷ (18, Declared 33 (Some 2)) ∷ (24, Declared 5 None) ∷ (29, Declared 8 None) ∷ (31, Declared 5 None) ∷ [];
  body = 4;
  edges =
      (entry, acting 12) ∷ (acting 9, acting 12) ∷ (acting 9, exit) ∷ (acting 12, acting 18) ∷ (acting 12, acting 22) ∷ (acting 12, acting 29) ∷
      (acting 17, acting 22) ∷ (acting 18, acting 17) ∷ (acting 18, exit) ∷ (acting 22, acting 26) ∷ (acting 26, acting 9) ∷ (acting 29, exit) ∷ [];
  uses = (5, 13) ∷ (24, 13) ∷ (24, 31) ∷ [];
}

-- int f(int a, int b) { return a > 0 && b / a == 2 ? a : (b = a); }
abbrev pub a_test_of_two_conditions : Worked
a_test_of_two_conditions = record {
  rows =
      r 0 27 0 is.Program [] ∷ r 0 27 0 is.Unit [] ∷ r 1 27 1 (is.Class bare false) (codes "A") ∷ r 2 27 2 is.Body [] ∷
      r 3 27 3 (is.Method bare false true) (codes "f") ∷ r 4 6 4 (is.TypeUse (Some primitive.Int) 0) [] ∷
      r 4 8 5 (is.Parameter false 0) (codes "a") ∷ r 6 8 6 (is.TypeUse (Some primitive.Int) 0) [] ∷ r 4 10 6 (is.Parameter false 0) (codes "b") ∷
      r 8 10 8 (is.TypeUse (Some primitive.Int) 0) [] ∷ r 4 27 8 is.Block [] ∷ r 10 27 10 is.Return [] ∷ r 11 27 11 is.Conditional [] ∷
      r 12 22 12 (is.Binary y.AndAnd) [] ∷ r 13 17 13 (is.Binary y.Greater) [] ∷
      r 14 16 14 (is.Name kind.Variable place.Expression false) (codes "a") ∷ r 14 17 15 (is.Literal (token.Int (pos 0))) [] ∷
      r 13 22 14 (is.Binary y.Equal) [] ∷ r 17 21 17 (is.Binary y.Slash) [] ∷ r 18 20 18 (is.Name kind.Variable place.Expression false) (codes "b") ∷
      r 18 21 19 (is.Name kind.Variable place.Expression false) (codes "a") ∷ r 17 22 18 (is.Literal (token.Int (pos 2))) [] ∷
      r 12 23 13 (is.Name kind.Variable place.Expression false) (codes "a") ∷ r 12 27 22 is.Paren [] ∷ r 23 27 23 (is.Assign y.Assign) [] ∷
      r 24 26 24 (is.Name kind.Variable place.Expression false) (codes "b") ∷ r 24 27 25 (is.Name kind.Variable place.Expression false) (codes "a") ∷ [];
  targets = (15, Declared 6 None) ∷ (19, Declared 8 None) ∷ (20, Declared 6 None) ∷ (22, Declared 6 None) ∷ (25, Declared 8 None) ∷ (26, Declared 6 None) ∷ [];
  body = 4;
  edges =
      (entry, acting 13) ∷ (acting 11, exit) ∷ (acting 12, acting 11) ∷ (acting 13, acting 12) ∷ (acting 13, acting 18) ∷ (acting 18, acting 12) ∷
      (acting 18, exit) ∷ [];
  uses = (6, 15) ∷ (6, 20) ∷ (6, 22) ∷ (6, 26) ∷ (8, 19) ∷ [];
}

-- int f(int a) { try { if (a < 1) return a; a = g(a); } finally { h(); } return a; }
abbrev pub a_finally_for_each_completion : Worked
a_finally_for_each_completion = record {
  rows =
      r 0 36 0 is.Program [] ∷ r 0 36 0 is.Unit [] ∷ r 1 36 1 (is.Class bare false) (codes "A") ∷ r 2 36 2 is.Body [] ∷
      r 3 27 3 (is.Method bare false true) (codes "f") ∷ r 4 6 4 (is.TypeUse (Some primitive.Int) 0) [] ∷
      r 4 8 5 (is.Parameter false 0) (codes "a") ∷ r 6 8 6 (is.TypeUse (Some primitive.Int) 0) [] ∷ r 4 27 6 is.Block [] ∷
      r 8 25 8 (is.Try true) [] ∷ r 9 22 9 is.Block [] ∷ r 10 17 10 is.If [] ∷ r 11 15 11 (is.Binary y.Less) [] ∷
      r 12 14 12 (is.Name kind.Variable place.Expression false) (codes "a") ∷ r 12 15 13 (is.Literal (token.Int (pos 1))) [] ∷
      r 11 17 12 is.Return [] ∷ r 15 17 15 (is.Name kind.Variable place.Expression false) (codes "a") ∷ r 10 22 11 is.Eval [] ∷
      r 17 22 17 (is.Assign y.Assign) [] ∷ r 18 20 18 (is.Name kind.Variable place.Expression false) (codes "a") ∷
      r 18 22 19 (is.Call on.Absent) (codes "g") ∷ r 20 22 20 (is.Name kind.Variable place.Expression false) (codes "a") ∷ r 9 25 10 is.Block [] ∷
      r 22 25 22 is.Eval [] ∷ r 23 25 23 (is.Call on.Absent) (codes "h") ∷ r 8 27 9 is.Return [] ∷
      r 25 27 25 (is.Name kind.Variable place.Expression false) (codes "a") ∷ r 3 34 4 (is.Method bare false true) (codes "g") ∷
      r 27 29 27 (is.TypeUse (Some primitive.Int) 0) [] ∷ r 27 31 28 (is.Parameter false 0) (codes "k") ∷
      r 29 31 29 (is.TypeUse (Some primitive.Int) 0) [] ∷ r 27 34 29 is.Block [] ∷ r 31 34 31 is.Return [] ∷
      r 32 34 32 (is.Literal (token.Int (pos 0))) [] ∷ r 3 36 27 (is.Method bare true true) (codes "h") ∷ r 34 36 34 is.Block [] ∷ [];
  targets = (13, Declared 6 None) ∷ (16, Declared 6 None) ∷ (19, Declared 6 None) ∷ (20, Declared 27 (Some 2)) ∷ (21, Declared 6 None) ∷ (24, Declared 34 (Some 2)) ∷ (26, Declared 6 None) ∷ [];
  body = 4;
  edges =
      (entry, acting 11) ∷ (acting 11, acting 15) ∷ (acting 11, acting 20) ∷ (acting 15, acting 24) ∷ (acting 17, acting 24) ∷
      (acting 20, acting 17) ∷ (acting 20, acting 24) ∷ (acting 23, acting 25) ∷ (acting 23, exit) ∷ (acting 24, acting 23) ∷ (acting 24, exit) ∷
      (acting 25, exit) ∷ [];
  uses = (6, 13) ∷ (6, 16) ∷ (6, 21) ∷ (19, 26) ∷ [];
}

-- A p; int n; int f(A o) { return o.p.n; }
abbrev pub a_longer_name : Worked
a_longer_name = record {
  rows =
      r 0 21 0 is.Program [] ∷ r 0 21 0 is.Unit [] ∷ r 1 21 1 (is.Class bare false) (codes "A") ∷ r 2 21 2 is.Body [] ∷
      r 3 14 3 (is.Method bare false true) (codes "f") ∷ r 4 6 4 (is.TypeUse (Some primitive.Int) 0) [] ∷
      r 4 9 5 (is.Parameter false 0) (codes "o") ∷ r 6 9 6 (is.TypeUse None 0) [] ∷ r 7 9 7 (is.Name kind.Type place.Other false) (codes "A") ∷
      r 4 14 6 is.Block [] ∷ r 9 14 9 is.Return [] ∷ r 10 14 10 (is.Name kind.Variable place.Expression true) (codes "n") ∷
      r 11 14 11 (is.Name kind.Ambiguous place.Qualifier true) (codes "p") ∷ r 12 14 12 (is.Name kind.Ambiguous place.Qualifier false) (codes "o") ∷
      r 3 18 4 (is.Fields bare) [] ∷ r 14 17 14 (is.TypeUse None 0) [] ∷ r 15 17 15 (is.Name kind.Type place.Other false) (codes "A") ∷
      r 14 18 15 (is.Field bare 0) (codes "p") ∷ r 3 21 14 (is.Fields bare) [] ∷ r 18 20 18 (is.TypeUse (Some primitive.Int) 0) [] ∷
      r 18 21 19 (is.Field bare 0) (codes "n") ∷ [];
  targets = (8, Declared 2 None) ∷ (11, Declared 20 (Some 2)) ∷ (12, Declared 17 (Some 2)) ∷ (13, Declared 6 None) ∷ (16, Declared 2 None) ∷ [];
  body = 4;
  edges =
      (entry, acting 11) ∷ (acting 10, exit) ∷ (acting 11, acting 10) ∷ (acting 11, exit) ∷ [];
  uses = (6, 13) ∷ [];
}

-- void f(int[] x, int i) { x[i] += g(i); x[i] = x.length; }
abbrev pub elements_of_an_array : Worked
elements_of_an_array = record {
  rows =
      r 0 31 0 is.Program [] ∷ r 0 31 0 is.Unit [] ∷ r 1 31 1 (is.Class bare false) (codes "A") ∷ r 2 31 2 is.Body [] ∷
      r 3 24 3 (is.Method bare true true) (codes "f") ∷ r 4 7 4 (is.Parameter false 0) (codes "x") ∷ r 5 7 5 (is.TypeUse (Some primitive.Int) 1) [] ∷
      r 4 9 5 (is.Parameter false 0) (codes "i") ∷ r 7 9 7 (is.TypeUse (Some primitive.Int) 0) [] ∷ r 4 24 7 is.Block [] ∷ r 9 17 9 is.Eval [] ∷
      r 10 17 10 (is.Assign y.PlusAssign) [] ∷ r 11 15 11 is.Index [] ∷ r 12 14 12 (is.Name kind.Variable place.Expression false) (codes "x") ∷
      r 12 15 13 (is.Name kind.Variable place.Expression false) (codes "i") ∷ r 11 17 12 (is.Call on.Absent) (codes "g") ∷
      r 15 17 15 (is.Name kind.Variable place.Expression false) (codes "i") ∷ r 9 24 10 is.Eval [] ∷ r 17 24 17 (is.Assign y.Assign) [] ∷
      r 18 22 18 is.Index [] ∷ r 19 21 19 (is.Name kind.Variable place.Expression false) (codes "x") ∷
      r 19 22 20 (is.Name kind.Variable place.Expression false) (codes "i") ∷
      r 18 24 19 (is.Name kind.Variable place.Expression true) (codes "length") ∷
      r 22 24 22 (is.Name kind.Ambiguous place.Qualifier false) (codes "x") ∷ r 3 31 4 (is.Method bare false true) (codes "g") ∷
      r 24 26 24 (is.TypeUse (Some primitive.Int) 0) [] ∷ r 24 28 25 (is.Parameter false 0) (codes "k") ∷
      r 26 28 26 (is.TypeUse (Some primitive.Int) 0) [] ∷ r 24 31 26 is.Block [] ∷ r 28 31 28 is.Return [] ∷
      r 29 31 29 (is.Literal (token.Int (pos 0))) [] ∷ [];
  targets = (13, Declared 5 None) ∷ (14, Declared 7 None) ∷ (15, Declared 24 (Some 2)) ∷ (16, Declared 7 None) ∷ (20, Declared 5 None) ∷ (21, Declared 7 None) ∷ (22, ArrayLength) ∷ (23, Declared 5 None) ∷ [];
  body = 4;
  edges =
      (entry, acting 12) ∷ (acting 10, acting 22) ∷ (acting 11, acting 10) ∷ (acting 11, exit) ∷ (acting 12, acting 15) ∷ (acting 12, exit) ∷
      (acting 15, acting 11) ∷ (acting 15, exit) ∷ (acting 17, exit) ∷ (acting 18, acting 17) ∷ (acting 18, exit) ∷ (acting 22, acting 18) ∷
      (acting 22, exit) ∷ [];
  uses = (5, 13) ∷ (5, 20) ∷ (5, 23) ∷ (7, 14) ∷ (7, 16) ∷ (7, 21) ∷ [];
}
