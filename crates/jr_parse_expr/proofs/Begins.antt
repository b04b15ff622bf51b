-- The readers of operands by how they begin are those by the token.
use Rattle.std.proofs.Common.{◌≡◌, ℕ, zero, suc, ◌-◌, ◌<◌, ◌≤◌, Bool, true, false, cond, List, ◌∷◌, [], drop, Option, Some, None, Ok, Err, refl, ap, ◌∙◌, arith}
use Rattle.std.proofs.lemmas.Bool.{le-ltb, lt-ltb}
use Rattle.std.specs.Prelude.{nat_lt, ◌&&◌}
use Rattle.jr_base.specs.declared.kind.Symbol.{Symbol}
use Rattle.jr_base.specs.declared.kind.Symbol.TheVariants as y
use Rattle.jr_base.specs.declared.kind.Keyword.TheVariants as k
use Rattle.jr_base.specs.declared.kind.Kind.{Kind}
use Rattle.jr_base.specs.declared.kind.Kind.TheVariants as kind
use Rattle.jr_tree.specs.declared.tree.Name.{Name}
use Rattle.jr_tree.specs.declared.tree.Primitive.{Primitive}
use Rattle.jr_tree.specs.Depth.{expr_depth}
use Rattle.jr_tree.specs.Levels.{is_assignment}
use Rattle.jr_tree.specs.Mirror.Exprs as x
use Rattle.jr_tree.specs.Shape.{is_target, is_statement}
use Rattle.jr_parse_laws.specs.declared.fault.Fault.TheVariants.{NoTree, TooDeep}
use Rattle.jr_parse_laws.specs.Parsers.{Parser, pure, refuse, deep, symbol_at}
use Rattle.jr_parse_laws.proofs.Outcomes.{and_then_alike}
use Rattle.jr_parse_starts.specs.Starts.{is_plain_literal, within, over}
use Rattle.jr_parse_expr.specs.Names.{name, primitive_at}
use Rattle.jr_parse_expr.specs.Exprs as spec
use Rattle.jr_parse_expr.specs.Exprs.{Lead, Nothing, next_token, skipping, operand, operand_by, assigned, effect_created_by, effect_operand, effect_by, effect_end, below}
use Rattle.jr_parse_expr.specs.Begun as started
use Rattle.jr_parse_expr.specs.Begun.{kind_start, begun, new_operand, assignment_of, effect_created, effect_literal, effect_begun, new_effect, effect_ended}

module _ (room : ℕ) (inner : Lead → ℕ → Parser x.Expr) (list : Parser x.InitList) where
  operand_begins : (token : Kind) (ts : List Kind) → operand_by room inner list token ts ≡ begun room inner list (kind_start token) (token ∷ ts)
  operand_begins (kind.Ident head) ts = refl
  operand_begins (kind.Word k.This) ts = refl
  operand_begins (kind.Word k.Super) ts = refl
  operand_begins (kind.Word k.New) ts = refl
  operand_begins (kind.Word w) ts = refl
  operand_begins (kind.Sym y.OpenParen) ts = refl
  operand_begins (kind.Sym y.Minus) ts = refl
  operand_begins (kind.Sym s) ts = refl
  operand_begins token ts = refl

  pub operand_is_new : (ts : List Kind) → operand room inner list Nothing ts ≡ new_operand room inner list ts
  unfolding operand
  operand_is_new [] = refl
  operand_is_new (token ∷ ts) = operand_begins token ts

-- ---- the same for those that stand as statements

pub below_is : (low room : ℕ) → low ≡ room - 1 → low ≡ below room
below_is low zero h = omega arith
below_is low (suc room) h = omega arith

literal_again : {A : Type 0} (b d : Bool) (x y z : A) → cond b (cond d x y) z ≡ cond b (cond d x (cond b y z)) z
literal_again true d x y z = refl
literal_again false d x y z = refl

module _ (room : ℕ) (inner : Lead → ℕ → Parser x.Expr) (list : Parser x.InitList) (low : Lead → ℕ → Parser x.Expr) (low_list : Parser x.InitList) where
  created_is : (n : Name) (ts : List Kind) → next_token (effect_created_by room inner list low low_list n) ts ≡ effect_created room inner list (below room) low low_list n ts
  created_is n [] = refl
  created_is n (kind.Sym y.OpenBracket ∷ ts) = refl
  created_is n (kind.Sym s ∷ ts) = refl
  created_is n (token ∷ ts) = refl

  creation_by_is : (p : Option Primitive) (ts : List Kind) → spec.effect_creation_by room inner list low low_list p ts ≡ started.effect_creation_by room inner list (below room) low low_list p ts
  creation_by_is None ts = and_then_alike (name ts) (λ n. next_token (effect_created_by room inner list low low_list n)) (effect_created room inner list (below room) low low_list) created_is
  creation_by_is (Some p) ts = refl

  literal_is : (token : Kind) (ts : List Kind)
      → cond (is_plain_literal token) (within 1 room token (pure (x.Lit token)) ts) (refuse (token ∷ ts)) ≡ effect_literal room inner list (below room) low low_list (token ∷ ts)
  literal_is token ts = literal_again (is_plain_literal token) (nat_lt room 1) (deep (token ∷ ts)) (Ok (x.Lit token, ts)) (refuse (token ∷ ts))

  effect_begins : (token : Kind) (ts : List Kind) → effect_by room inner list low low_list token ts ≡ effect_begun room inner list (below room) low low_list (kind_start token) (token ∷ ts)
  effect_begins (kind.Ident head) ts = refl
  effect_begins (kind.Word k.This) ts = refl
  effect_begins (kind.Word k.Super) ts = refl
  effect_begins (kind.Word k.New) ts = creation_by_is (primitive_at ts) ts
  effect_begins (kind.Word w) ts = literal_is (kind.Word w) ts
  effect_begins (kind.Sym y.OpenParen) ts = refl
  effect_begins (kind.Sym y.Minus) ts = refl
  effect_begins (kind.Sym s) ts = refl
  effect_begins token ts = literal_is token ts

  new_effect_is : (ts : List Kind) → effect_operand room inner list low low_list Nothing ts ≡ new_effect room inner list (below room) low low_list ts
  new_effect_is [] = refl
  new_effect_is (token ∷ ts) = effect_begins token ts

  pub effect_is_new : (low_room : ℕ) (ts : List Kind) → low_room ≡ room - 1 → effect_operand room inner list low low_list Nothing ts ≡ new_effect room inner list low_room low low_list ts
  effect_is_new low_room ts h = rw (below_is low_room room h) (new_effect_is ts)

module _ (room : ℕ) (inner : Lead → ℕ → Parser x.Expr) (list : Parser x.InitList) where
  ended_by : (b : Bool) (left : x.Expr) (op : Symbol) (token : Kind) (ts : List Kind)
      → cond b (over (expr_depth left) room (skipping (assigned room inner list left op)) (token ∷ ts)) (cond (is_statement left) (Ok (left, token ∷ ts)) (refuse (token ∷ ts))) ≡ effect_ended room inner list left (cond b (Some op) None) (token ∷ ts)
  ended_by true left op token ts = refl
  ended_by false left op token ts = refl

  end_is : (left : x.Expr) (ts : List Kind) → effect_end room inner list left ts ≡ effect_ended room inner list left (assignment_of left (symbol_at ts)) ts
  unfolding effect_end
  end_is left [] = refl
  end_is left (kind.Sym op ∷ ts) = ended_by (is_assignment op && is_target left) left op (kind.Sym op) ts
  end_is left (token ∷ ts) = refl

  pub end_high : (left : x.Expr) (ts : List Kind) (op : Symbol) → assignment_of left (symbol_at ts) ≡ Some op → room < expr_depth left → effect_end room inner list left ts ≡ Err (TooDeep, ts)
  end_high left ts op h high = end_is left ts ∙ ap (λ o. effect_ended room inner list left o ts) h ∙ rw (lt-ltb room (expr_depth left) high) refl

  pub end_assigned : (left : x.Expr) (ts : List Kind) (op : Symbol) → assignment_of left (symbol_at ts) ≡ Some op → expr_depth left ≤ room → effect_end room inner list left ts ≡ assigned room inner list left op (drop 1 ts)
  end_assigned left ts op h low = end_is left ts ∙ ap (λ o. effect_ended room inner list left o ts) h ∙ rw (le-ltb room (expr_depth left) low) refl

  pub end_statement : (left : x.Expr) (ts : List Kind) → assignment_of left (symbol_at ts) ≡ None → is_statement left ≡ true → effect_end room inner list left ts ≡ Ok (left, ts)
  end_statement left ts h s = end_is left ts ∙ ap (λ o. effect_ended room inner list left o ts) h ∙ rw s refl

  pub end_refused : (left : x.Expr) (ts : List Kind) → assignment_of left (symbol_at ts) ≡ None → is_statement left ≡ false → effect_end room inner list left ts ≡ Err (NoTree, ts)
  end_refused left ts h s = end_is left ts ∙ ap (λ o. effect_ended room inner list left o ts) h ∙ rw s refl
