-- Two bodies with the same labels in the same order, of which one has a call behind its loop and the other has it inside.
use Rattle.std.specs.Prelude.{true, false, List, [], ◌∷◌, map, Some, None, codes}
use Rattle.jr_tree.specs.declared.tree.Primitive.TheVariants as primitive
use Rattle.jr_tree.specs.declared.label.Label.{Label}
use Rattle.jr_tree.specs.declared.label.Label.TheVariants as is
use Rattle.jr_tree.specs.declared.label.NameKind.TheVariants as kind
use Rattle.jr_tree.specs.declared.label.NamePlace.TheVariants as place
use Rattle.jr_tree.specs.declared.label.ReceiverKind.TheVariants as on
use Rattle.jr_tree.specs.Rows.{Rows}
use Rattle.jr_defs.specs.declared.referent.Referent.TheVariants.{Declared}
use Rattle.jr_flow_defs.specs.Edges.{entry, exit, acting}
use Rattle.jr_flow_defs.specs.Worked.{Worked, r, bare}

abbrev pub labels : Rows → List Label
labels p = map (λ row. row.label) p

-- void m(boolean c) { while (c) { f(); } g(); } void f() {} void g() {}
abbrev pub behind_the_loop : Worked
behind_the_loop = record {
  rows =
      r 0 20 0 is.Program [] ∷ r 0 20 0 is.Unit [] ∷ r 1 20 1 (is.Class bare false) (codes "A") ∷ r 2 20 2 is.Body [] ∷
      r 3 16 3 (is.Method bare true true) (codes "m") ∷ r 4 7 4 (is.Parameter false 0) (codes "c") ∷ r 5 7 5 (is.TypeUse (Some primitive.Boolean) 0) [] ∷
      r 4 16 5 is.Block [] ∷ r 7 14 7 is.While [] ∷ r 8 10 8 (is.Name kind.Variable place.Expression false) (codes "c") ∷
      r 8 14 9 is.Nest [] ∷ r 10 14 10 is.Block [] ∷ r 11 14 11 is.Eval [] ∷ r 12 14 12 (is.Call on.Absent) (codes "f") ∷
      r 7 16 8 is.Eval [] ∷ r 14 16 14 (is.Call on.Absent) (codes "g") ∷ r 3 18 4 (is.Method bare true true) (codes "f") ∷ r 16 18 16 is.Block [] ∷
      r 3 20 16 (is.Method bare true true) (codes "g") ∷ r 18 20 18 is.Block [] ∷ [];
  targets = (9, Declared 5 None) ∷ (13, Declared 16 (Some 2)) ∷ (15, Declared 18 (Some 2)) ∷ [];
  body = 4;
  edges =
      (entry, acting 8) ∷ (acting 8, acting 13) ∷ (acting 13, acting 12) ∷ (acting 13, exit) ∷ (acting 12, acting 8) ∷ (acting 8, acting 15) ∷
      (acting 15, acting 14) ∷ (acting 15, exit) ∷ (acting 14, exit) ∷ [];
  uses = (5, 9) ∷ [];
}

-- void m(boolean c) { while (c) { f(); g(); } } void f() {} void g() {}
abbrev pub in_the_loop : Worked
in_the_loop = record {
  rows =
      r 0 20 0 is.Program [] ∷ r 0 20 0 is.Unit [] ∷ r 1 20 1 (is.Class bare false) (codes "A") ∷ r 2 20 2 is.Body [] ∷
      r 3 16 3 (is.Method bare true true) (codes "m") ∷ r 4 7 4 (is.Parameter false 0) (codes "c") ∷ r 5 7 5 (is.TypeUse (Some primitive.Boolean) 0) [] ∷
      r 4 16 5 is.Block [] ∷ r 7 16 7 is.While [] ∷ r 8 10 8 (is.Name kind.Variable place.Expression false) (codes "c") ∷
      r 8 16 9 is.Nest [] ∷ r 10 16 10 is.Block [] ∷ r 11 14 11 is.Eval [] ∷ r 12 14 12 (is.Call on.Absent) (codes "f") ∷
      r 11 16 12 is.Eval [] ∷ r 14 16 14 (is.Call on.Absent) (codes "g") ∷ r 3 18 4 (is.Method bare true true) (codes "f") ∷ r 16 18 16 is.Block [] ∷
      r 3 20 16 (is.Method bare true true) (codes "g") ∷ r 18 20 18 is.Block [] ∷ [];
  targets = (9, Declared 5 None) ∷ (13, Declared 16 (Some 2)) ∷ (15, Declared 18 (Some 2)) ∷ [];
  body = 4;
  edges =
      (entry, acting 8) ∷ (acting 8, acting 13) ∷ (acting 13, acting 12) ∷ (acting 13, exit) ∷ (acting 12, acting 15) ∷ (acting 15, acting 14) ∷
      (acting 15, exit) ∷ (acting 14, acting 8) ∷ (acting 8, exit) ∷ [];
  uses = (5, 9) ∷ [];
}
