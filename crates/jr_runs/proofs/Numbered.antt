-- Labels that have nothing besides are told by their number; all others are in a group.
use Rattle.std.proofs.Common.{◌≡◌, refl, sym, ◌∙◌, ap, ℕ, true, cond, eqb, ◌||◌, Option, Some, None, IfSome}
use Rattle.std.proofs.lemmas.Option.{same_Some}
use Rattle.jr_tree.specs.declared.label.Label.{Label}
use Rattle.jr_tree.specs.declared.label.Label.TheVariants as is
use Rattle.jr_runs.specs.Labels.{number_of, is_type_like, is_member_like, is_variable_like, is_statement_like, is_operation_like, is_operand_like}

-- the label of a number
abbrev plain : ℕ → Label
plain k = cond (eqb k 0) is.Program (cond (eqb k 1) is.Unit (cond (eqb k 2) is.Package (cond (eqb k 3) is.Body (cond (eqb k 4) is.DefaultConstructor (cond (eqb k 5) is.ImplicitCall (cond (eqb k 6) is.Value (cond (eqb k 7) is.List (cond (eqb k 10) is.Block (cond (eqb k 11) is.Nest (cond (eqb k 12) is.Locals (cond (eqb k 13) is.Skip (cond (eqb k 14) is.Do (cond (eqb k 15) is.While (cond (eqb k 16) is.If (cond (eqb k 17) is.Eval (cond (eqb k 20) is.ForLocals (cond (eqb k 21) is.ForExprs (cond (eqb k 22) is.Switch (cond (eqb k 23) is.Group (cond (eqb k 24) is.Case (cond (eqb k 25) is.Default (cond (eqb k 26) is.Labeled (cond (eqb k 27) is.Return (cond (eqb k 28) is.Throw (cond (eqb k 29) is.Catch (cond (eqb k 30) is.Conditional (cond (eqb k 31) is.IsA (cond (eqb k 32) is.Cast (cond (eqb k 33) is.Paren (cond (eqb k 34) is.Select (cond (eqb k 35) is.SuperSelect (cond (eqb k 36) is.Index (cond (eqb k 37) is.New (is.Skip))))))))))))))))))))))))))))))))))

plain_tells : (l : Label) → IfSome (number_of l) (λ k. l ≡ plain k)
plain_tells is.Program = refl
plain_tells is.Unit = refl
plain_tells is.Package = refl
plain_tells is.Body = refl
plain_tells is.DefaultConstructor = refl
plain_tells is.ImplicitCall = refl
plain_tells is.Value = refl
plain_tells is.List = refl
plain_tells is.Block = refl
plain_tells is.Nest = refl
plain_tells is.Locals = refl
plain_tells is.Skip = refl
plain_tells is.Do = refl
plain_tells is.While = refl
plain_tells is.If = refl
plain_tells is.Eval = refl
plain_tells is.ForLocals = refl
plain_tells is.ForExprs = refl
plain_tells is.Switch = refl
plain_tells is.Group = refl
plain_tells is.Case = refl
plain_tells is.Default = refl
plain_tells is.Labeled = refl
plain_tells is.Return = refl
plain_tells is.Throw = refl
plain_tells is.Catch = refl
plain_tells is.Conditional = refl
plain_tells is.IsA = refl
plain_tells is.Cast = refl
plain_tells is.Paren = refl
plain_tells is.Select = refl
plain_tells is.SuperSelect = refl
plain_tells is.Index = refl
plain_tells is.New = refl
plain_tells _ = tt

told : (l : Label) (k : ℕ) (o : Option ℕ) → o ≡ Some k → IfSome o (λ k. l ≡ plain k) → l ≡ plain k
told l k (Some n) e h = h ∙ ap plain (same_Some n k e)
told l k None e h = cc

pub numbered_are_same : (a b : Label) (k : ℕ) → number_of a ≡ Some k → number_of b ≡ Some k → a ≡ b
numbered_are_same a b k g h = told a k (number_of a) g (plain_tells a) ∙ sym (told b k (number_of b) h (plain_tells b))

pub is_some_like : (l : Label) → number_of l ≡ None → (is_type_like l || is_member_like l || is_variable_like l || is_statement_like l || is_operation_like l || is_operand_like l) ≡ true
is_some_like is.Program h = cc
is_some_like is.Unit h = cc
is_some_like is.Package h = cc
is_some_like is.Body h = cc
is_some_like is.DefaultConstructor h = cc
is_some_like is.ImplicitCall h = cc
is_some_like is.Value h = cc
is_some_like is.List h = cc
is_some_like is.Block h = cc
is_some_like is.Nest h = cc
is_some_like is.Locals h = cc
is_some_like is.Skip h = cc
is_some_like is.Do h = cc
is_some_like is.While h = cc
is_some_like is.If h = cc
is_some_like is.Eval h = cc
is_some_like is.ForLocals h = cc
is_some_like is.ForExprs h = cc
is_some_like is.Switch h = cc
is_some_like is.Group h = cc
is_some_like is.Case h = cc
is_some_like is.Default h = cc
is_some_like is.Labeled h = cc
is_some_like is.Return h = cc
is_some_like is.Throw h = cc
is_some_like is.Catch h = cc
is_some_like is.Conditional h = cc
is_some_like is.IsA h = cc
is_some_like is.Cast h = cc
is_some_like is.Paren h = cc
is_some_like is.Select h = cc
is_some_like is.SuperSelect h = cc
is_some_like is.Index h = cc
is_some_like is.New h = cc
is_some_like _ h = refl
