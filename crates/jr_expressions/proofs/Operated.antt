-- Expressions with operators, from what their functions call.
use Rattle.std.proofs.Common.{◌≡◌, ◌∙◌, ap, ℕ, ◌+◌, ◌<◌, ◌^◌, length, arith, cond, Bool, true, false, ◌∷◌, Some, None}
use Rattle.std.specs.Prelude.{option_map}
use Rattle.jr_base.specs.declared.kind.Symbol.{Symbol}
use Rattle.jr_core.specs.declared.code.Code.{Code}
use Rattle.jr_core.specs.declared.code.Code.TheVariants as c
use Rattle.jr_core.specs.declared.operators.BinaryOp.{BinaryOp}
use Rattle.jr_core.specs.declared.operators.UnaryOp.{UnaryOp}
use Rattle.jr_core.specs.declared.operators.StepOp.{StepOp}
use Rattle.jr_defs.specs.declared.referent.RowType.{RowType}
use Rattle.jr_tree.specs.Rows.{end}
use Rattle.jr_plain.specs.Conversions.{of_two}
use Rattle.jr_plain.specs.Supertypes.{is_reference_type}
use Rattle.jr_plain.specs.Types.{type_at}
use Rattle.jr_codes.specs.declared.source.Source.{Source}
use Rattle.jr_codes.specs.Facts.{type_in}
use Rattle.jr_codes.specs.Symbols.{binary_op, unary_op, step_op}
use Rattle.jr_codes.specs.Making.{Below, code, code_if, of_one}
use Rattle.jr_codes.specs.Conversions.{int, converted, shown, Converts, Shows}
use Rattle.jr_expressions.specs.Expressions.{unary_made, step_before_made, step_after_made, joined_made, is_joined, strict_made, conditional_by, conditional_made, assigned_as, combined_as, assign_by, index_made, instance_test_by, instance_test_made, reference_cast, cast_by, cast_made}
use Rattle.jr_codes.specs.Reads.{rows_of, table_of, facts, IsReadAt, Becomes}
use Rattle.jr_codes.specs.Waiting.{HandsOn}
use Rattle.jr_expressions.proofs.Standing.{found, one_becomes, two_become, three_become, along, both_some}

pub unary_becomes : {s : Source} {n m : ℕ} {a : Code} {u : UnaryOp} {old left new : Below} (op : Symbol) → unary_op op ≡ Some u → old ≡ (m, a) ∷ left → new ≡ (n, c.Unary u a) ∷ left
    → Becomes s n (λ parts. unary_made op parts) old new
unary_becomes {n = n} {m = m} {a = a} {u = u} {left = left} {new = new} op is e st =
    one_becomes (λ m a. code_if (option_map (λ u. c.Unary u a) (unary_op op))) e
    (found (option_map (λ u. c.Unary u a) (unary_op op)) (c.Unary u a) n left new (ap (option_map (λ u. c.Unary u a)) is) st)

pub before_becomes : {s : Source} {n m : ℕ} {a : Code} {u : StepOp} {old left new : Below} (op : Symbol) → step_op op ≡ Some u → old ≡ (m, a) ∷ left → new ≡ (n, c.PreStep u a) ∷ left
    → Becomes s n (λ parts. step_before_made op parts) old new
before_becomes {n = n} {m = m} {a = a} {u = u} {left = left} {new = new} op is e st =
    one_becomes (λ m a. code_if (option_map (λ u. c.PreStep u a) (step_op op))) e
    (found (option_map (λ u. c.PreStep u a) (step_op op)) (c.PreStep u a) n left new (ap (option_map (λ u. c.PreStep u a)) is) st)

pub after_becomes : {s : Source} {n m : ℕ} {a : Code} {u : StepOp} {old left new : Below} (op : Symbol) → step_op op ≡ Some u → old ≡ (m, a) ∷ left → new ≡ (n, c.PostStep a u) ∷ left
    → Becomes s n (λ parts. step_after_made op parts) old new
after_becomes {n = n} {m = m} {a = a} {u = u} {left = left} {new = new} op is e st =
    one_becomes (λ m a. code_if (option_map (λ u. c.PostStep a u) (step_op op))) e
    (found (option_map (λ u. c.PostStep a u) (step_op op)) (c.PostStep a u) n left new (ap (option_map (λ u. c.PostStep a u)) is) st)

pub strict_becomes : {s : Source} {n m k : ℕ} {x y : Code} {b : BinaryOp} {old mid left new : Below} {joined : Bool} (op : Symbol) → is_joined op (facts s) n ≡ Some joined → binary_op op ≡ Some b
    → Shows (facts s) m joined old mid x → Shows (facts s) k joined mid left y → new ≡ (n, c.Binary x b y) ∷ left → Becomes s n (λ parts. strict_made op (facts s) n parts) old new
strict_becomes {s} {n} {m} {k} {x} {y} {b} {old} {mid} {left} {new} {joined} op j is first second st =
    along (λ o parts. joined_made o (is_joined op (facts s) n) (facts s) parts) is (along (λ o parts. joined_made (Some b) o (facts s) parts) j
    (two_become (λ m a k d. code_if (of_two (λ l r. Some (c.Binary l b r)) (shown (facts s) m joined a) (shown (facts s) k joined d))) first.was second.was
    (found (of_two (λ l r. Some (c.Binary l b r)) (shown (facts s) m joined first.given) (shown (facts s) k joined second.given)) (c.Binary x b y) n left new
    (both_some (λ l r. Some (c.Binary l b r)) first.is second.is) st)))

pub index_becomes : {s : Source} {n m k : ℕ} {a y : Code} {old mid left new : Below} → old ≡ (m, a) ∷ mid → Converts (facts s) k int mid left y → new ≡ (n, c.Index a y) ∷ left
    → Becomes s n (λ parts. index_made (facts s) parts) old new
index_becomes {s} {n} {m} {k} {a} {y} {old} {mid} {left} {new} e second st =
    two_become (λ m a k d. code_if (option_map (λ at. c.Index a at) (converted (facts s) k int d))) e second.was
    (found (option_map (λ at. c.Index a at) (converted (facts s) k int second.given)) (c.Index a y) n left new (ap (option_map (λ at. c.Index a at)) second.is) st)

pub conditional_becomes : {s : Source} {n m k l : ℕ} {a x y : Code} {to : RowType} {old mid third left new : Below} → (facts s).typed n ≡ Some to → old ≡ (m, a) ∷ mid
    → Converts (facts s) k to mid third x → Converts (facts s) l to third left y → new ≡ (n, c.Cond a x y) ∷ left → Becomes s n (λ parts. conditional_made (facts s) n parts) old new
conditional_becomes {s} {n} {m} {k} {l} {a} {x} {y} {to} {old} {mid} {third} {left} {new} is e first other st =
    along (λ o parts. conditional_by o (facts s) parts) is
    (three_become (λ m a k b l d. code_if (of_two (λ p q. Some (c.Cond a p q)) (converted (facts s) k to b) (converted (facts s) l to d))) e first.was other.was
    (found (of_two (λ p q. Some (c.Cond a p q)) (converted (facts s) k to first.given) (converted (facts s) l to other.given)) (c.Cond a x y) n left new
    (both_some (λ p q. Some (c.Cond a p q)) first.is other.is) st))

pub plain_becomes : {s : Source} {n m k : ℕ} {a y : Code} {to : RowType} {old mid left new : Below} → (facts s).typed m ≡ Some to → old ≡ (m, a) ∷ mid
    → Converts (facts s) k to mid left y → new ≡ (n, c.Assign a None y) ∷ left → Becomes s n (λ parts. assign_by None (facts s) parts) old new
plain_becomes {s} {n} {m} {k} {a} {y} {to} {old} {mid} {left} {new} is e second st =
    two_become (λ m a k b. code_if (assigned_as ((facts s).typed m) (facts s) a k b)) e second.was
    (found (assigned_as ((facts s).typed m) (facts s) a k second.given) (c.Assign a None y) n left new
    (ap (λ o. assigned_as o (facts s) a k second.given) is ∙ ap (option_map (λ value. c.Assign a None value)) second.is) st)

pub compound_becomes : {s : Source} {n m k : ℕ} {a y : Code} {b : BinaryOp} {joined : Bool} {old mid left new : Below} (op : Symbol) → binary_op op ≡ Some b → is_joined op (facts s) m ≡ Some joined
    → old ≡ (m, a) ∷ mid → Shows (facts s) k joined mid left y → new ≡ (n, c.Assign a (Some b) y) ∷ left → Becomes s n (λ parts. assign_by (Some op) (facts s) parts) old new
compound_becomes {s} {n} {m} {k} {a} {y} {b} {joined} {old} {mid} {left} {new} op is j e second st =
    two_become (λ m a k d. code_if (combined_as (binary_op op) (is_joined op (facts s) m) (facts s) a k d)) e second.was
    (found (combined_as (binary_op op) (is_joined op (facts s) m) (facts s) a k second.given) (c.Assign a (Some b) y) n left new
    (ap (λ o. combined_as o (is_joined op (facts s) m) (facts s) a k second.given) is ∙ ap (λ o. combined_as (Some b) o (facts s) a k second.given) j
    ∙ ap (option_map (λ value. c.Assign a (Some b) value)) second.is) st)

pub plus_two : (n len bound : ℕ) → n < len → len + 3 < bound → n + 2 < bound
plus_two n len bound inside few = omega (arith, inside, few)

pub plus_one : (n len bound : ℕ) → n < len → len + 3 < bound → n + 1 < bound
plus_one n len bound inside few = omega (arith, inside, few)

-- the row behind the first child, and the first child, are counted
pub two_counted : {s : Source} {n : ℕ} → IsReadAt s n → n + 2 < 2 ^ 32
two_counted {s} {n} read = plus_two n (length (rows_of s)) (2 ^ 32) read.inside read.few

pub one_counted : {s : Source} {n : ℕ} → IsReadAt s n → n + 1 < 2 ^ 32
one_counted {s} {n} read = plus_one n (length (rows_of s)) (2 ^ 32) read.inside read.few

pub instance_becomes : {s : Source} {n m : ℕ} {a : Code} {tested : RowType} {old left new : Below} → (IsReadAt s n → type_at (rows_of s) (table_of s) (end (rows_of s) (n + 1)) ≡ Some tested)
    → old ≡ (m, a) ∷ left → new ≡ (n, c.IsA a (type_in (facts s) tested)) ∷ left → Becomes s n (λ parts. instance_test_made (facts s) n parts) old new
instance_becomes {s} {n} {m} {a} {tested} {old} {left} {new} is e st = record {
  stands = λ read parts rest h lone. (along {s = s} {n = n} {old = old} {new = new} (λ o parts. instance_test_by o (facts s) parts) (is read)
      (one_becomes (λ m a. code (c.IsA a (type_in (facts s) tested))) e st)).stands read parts rest h lone;
}

-- a cast that widens, and one that does not
pub widens_becomes : {s : Source} {n m : ℕ} {from : RowType} (to : RowType) {old new : Below} → (facts s).typed m ≡ Some from → (IsReadAt s n → (facts s).is_subtype from to ≡ true) → HandsOn m n old new
    → Becomes s n (λ parts. of_one parts (λ m a. code_if (reference_cast ((facts s).typed m) (facts s) to a))) old new
widens_becomes {s} {n} {m} {from} to {old} {new} typed sub on = record {
  stands = λ read parts rest h lone. (one_becomes {s = s} {n = n} (λ m a. code_if (reference_cast ((facts s).typed m) (facts s) to a)) on.was
      (found (reference_cast ((facts s).typed m) (facts s) to on.part) on.part n on.rest new
      (ap (λ o. reference_cast o (facts s) to on.part) typed ∙ ap (λ b. Some (cond b on.part (c.Cast (type_in (facts s) to) on.part))) (sub read)) on.is)).stands read parts rest h lone;
}

pub narrows_becomes : {s : Source} {n m : ℕ} {a : Code} {from : RowType} (to : RowType) {old left new : Below} → (facts s).typed m ≡ Some from → (IsReadAt s n → (facts s).is_subtype from to ≡ false)
    → old ≡ (m, a) ∷ left → new ≡ (n, c.Cast (type_in (facts s) to) a) ∷ left
    → Becomes s n (λ parts. of_one parts (λ m a. code_if (reference_cast ((facts s).typed m) (facts s) to a))) old new
narrows_becomes {s} {n} {m} {a} {from} to {old} {left} {new} typed sub e st = record {
  stands = λ read parts rest h lone. (one_becomes {s = s} {n = n} (λ m a. code_if (reference_cast ((facts s).typed m) (facts s) to a)) e
      (found (reference_cast ((facts s).typed m) (facts s) to a) (c.Cast (type_in (facts s) to) a) n left new
      (ap (λ o. reference_cast o (facts s) to a) typed ∙ ap (λ b. Some (cond b a (c.Cast (type_in (facts s) to) a))) (sub read)) st)).stands read parts rest h lone;
}

pub plain_cast_becomes : {s : Source} {n m : ℕ} {y : Code} {old left new : Below} (to : RowType) → Converts (facts s) m to old left y → new ≡ (n, y) ∷ left
    → Becomes s n (λ parts. of_one parts (λ m a. code_if (converted (facts s) m to a))) old new
plain_cast_becomes {s} {n} {m} {y} {old} {left} {new} to one st =
    one_becomes (λ m a. code_if (converted (facts s) m to a)) one.was (found (converted (facts s) m to one.given) y n left new one.is st)

pub cast_becomes : {s : Source} {n : ℕ} {to : RowType} {old new : Below} (b : Bool) → (IsReadAt s n → type_at (rows_of s) (table_of s) (n + 1) ≡ Some to) → is_reference_type to ≡ b
    → Becomes s n (λ parts. of_one parts (λ m a. code_if (cond b (reference_cast ((facts s).typed m) (facts s) to a) (converted (facts s) m to a)))) old new
    → Becomes s n (λ parts. cast_made (facts s) n parts) old new
cast_becomes {s} {n} {to} {old} {new} b is same becomes = record {
  stands = λ read parts rest h lone. (along {s = s} {n = n} {old = old} {new = new} (λ o parts. cast_by o (facts s) parts) (is read)
      (along {s = s} {n = n} {old = old} {new = new} (λ b parts. of_one parts (λ m a. code_if (cond b (reference_cast ((facts s).typed m) (facts s) to a) (converted (facts s) m to a)))) same becomes)).stands read parts rest h lone;
}
