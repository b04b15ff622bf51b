-- A level of expressions is read the same whatever stands behind, and with more levels; and so are all.
use Rattle.std.proofs.Common.{◌≡◌, ℕ, zero, suc, ◌+◌, ◌≤◌, Bool, true, false, ◌&&◌, ◌||◌, not, cond, ltb, List, [], ◌∷◌, Option, Some, None, Ok, Err, refl, sym, arith}
use Rattle.std.specs.Prelude.{⊤}
use Rattle.std.proofs.lemmas.Bool.{ltb-false}
use Rattle.jr_base.specs.declared.kind.Kind.{Kind}
use Rattle.jr_base.specs.declared.kind.Kind.TheVariants as kind
use Rattle.jr_base.specs.declared.kind.Symbol.{Symbol}
use Rattle.jr_base.specs.declared.kind.Symbol.TheVariants as y
use Rattle.jr_base.specs.declared.kind.Keyword.TheVariants as k
use Rattle.jr_tree.specs.Levels.{binary_level, is_assignment, is_unary, is_step, is_least_kind}
use Rattle.jr_tree.specs.Shape.{level, is_target, is_new_array}
use Rattle.jr_tree.specs.Depth.{expr_depth}
use Rattle.jr_tree.specs.Mirror.Exprs as x
use Rattle.jr_parse_laws.specs.declared.fault.Fault.TheVariants.{NoTree}
use Rattle.jr_parse_laws.specs.Parsers.{Parser, and_then, first, symbol_at, pure, refuse, deep, identifier, ◌>>=◌}
use Rattle.jr_parse_laws.proofs.Outcomes.{no_first}
use Rattle.jr_parse_starts.specs.Starts.{is_plain_literal, over}
use Rattle.jr_parse_expr.specs.Names.{type_use, dotted}
use Rattle.jr_parse_expr.specs.Exprs as reader
use Rattle.jr_parse_expr.specs.Exprs.{Lead, Nothing, Named, Indexed, This, Super, skipping}
use Rattle.jr_parse_expr.specs.Follow.{is_tight}
use Rattle.jr_parse_expr.proofs.Asked.{ReadsExprs}
use Rattle.jr_parse_expr.proofs.Chains as chains
use Rattle.jr_parse_expr.proofs.Climbs as climbs
use Rattle.jr_parse_expr.proofs.Locals.{Kept, Local, here, along, local_pure, local_refuse, kept_bind, local_skip, local_identifier, on_kept, by_room, local_over, cond_local, kept_same}
use Rattle.jr_parse_expr.proofs.NameLocals.{type_local, dotted_local}
use Rattle.jr_parse_expr.proofs.ExprLocals.{NearExprs, bind, closed_by, by_first, call_local, after_dotted_local, after_bracket_local, super_local, in_parens_local, creation_local, first_negated, first_negated_is, first_prefix, first_operand, first_operand_is, looks_symbol}

module _ (room other : ℕ) (le : room ≤ other) (inner inner' : Lead → ℕ → Parser x.Expr) (list list' : Parser x.InitList) (reads : ReadsExprs room inner) (reads' : ReadsExprs other inner')
    (near : NearExprs room other le inner inner') (near_list : Local room other le list list') where
  -- ---- operands

  then : {A B : Type 0} (p q : Parser A) (f g : A → Parser B) → Local room other le p q → ((a : A) → Local room other le (f a) (g a)) → Local room other le (p >>= f) (q >>= g)
  then p q f g one next = bind room other le inner inner' list list' reads reads' near near_list p q f g one next

  first_negated_local : (o : Option Kind) → Local room other le (first_negated room inner list o) (first_negated other inner' list' o)
  first_negated_local None ts = local_refuse room other le ts
  first_negated_local (Some token) ts =
      cond_local room other le (skipping (pure (x.Unary y.Minus (x.Lit token)))) (skipping (pure (x.Unary y.Minus (x.Lit token)))) (inner Nothing 12 >>= (λ v. pure (x.Unary y.Minus v))) (inner' Nothing 12 >>= (λ v. pure (x.Unary y.Minus v)))
      (local_skip room other le (pure (x.Unary y.Minus (x.Lit token))) (pure (x.Unary y.Minus (x.Lit token))) (local_pure room other le (x.Unary y.Minus (x.Lit token))))
      (then (inner Nothing 12) (inner' Nothing 12) (λ v. pure (x.Unary y.Minus v)) (λ v. pure (x.Unary y.Minus v)) (near.plain 12) (λ v. local_pure room other le (x.Unary y.Minus v))) (is_least_kind token) ts

  negated_local : Local room other le (reader.negated room inner list) (reader.negated other inner' list')
  negated_local =
      by_first room other le inner inner' list list' reads reads' near near_list (first_negated room inner list) (first_negated other inner' list') (reader.negated room inner list) (reader.negated other inner' list') (first_negated_is room inner list) (first_negated_is other inner' list') first_negated_local

  stepped : (f : x.Expr → x.Expr) → Local room other le (over 1 room (skipping (inner Nothing 12 >>= (λ v. pure (f v))))) (over 1 other (skipping (inner' Nothing 12 >>= (λ v. pure (f v)))))
  stepped f =
      local_over room other le 1 (skipping (inner Nothing 12 >>= (λ v. pure (f v)))) (skipping (inner' Nothing 12 >>= (λ v. pure (f v))))
      (local_skip room other le (inner Nothing 12 >>= (λ v. pure (f v))) (inner' Nothing 12 >>= (λ v. pure (f v)))
      (then (inner Nothing 12) (inner' Nothing 12) (λ v. pure (f v)) (λ v. pure (f v)) (near.plain 12) (λ v. local_pure room other le (f v))))

  pub first_prefix_local : (s : Symbol) → Local room other le (first_prefix room inner list s) (first_prefix other inner' list' s)
  first_prefix_local s =
      cond_local room other le (over 1 room (skipping (inner Nothing 12 >>= (λ v. pure (x.Unary s v))))) (over 1 other (skipping (inner' Nothing 12 >>= (λ v. pure (x.Unary s v)))))
      (λ us. cond (is_step s) (over 1 room (skipping (inner Nothing 12 >>= (λ v. pure (x.PreStep s v)))) us) (refuse us))
      (λ us. cond (is_step s) (over 1 other (skipping (inner' Nothing 12 >>= (λ v. pure (x.PreStep s v)))) us) (refuse us)) (stepped (x.Unary s))
      (cond_local room other le (over 1 room (skipping (inner Nothing 12 >>= (λ v. pure (x.PreStep s v))))) (over 1 other (skipping (inner' Nothing 12 >>= (λ v. pure (x.PreStep s v))))) refuse refuse (stepped (x.PreStep s))
      (local_refuse room other le) (is_step s)) (is_unary s)

  first_operand_local : (o : Option Kind) → Local room other le (first_operand room inner list o) (first_operand other inner' list' o)
  first_operand_local None ts = local_refuse room other le ts
  first_operand_local (Some (kind.Ident head)) ts =
      local_skip room other le (dotted true [] head >>= reader.after_dotted room inner list) (dotted true [] head >>= reader.after_dotted other inner' list')
      (then (dotted true [] head) (dotted true [] head) (reader.after_dotted room inner list) (reader.after_dotted other inner' list') (dotted_local room other le true [] head) (after_dotted_local room other le inner inner' list list' reads reads' near near_list)) ts
  first_operand_local (Some (kind.Word k.This)) ts = local_skip room other le (pure (x.This None)) (pure (x.This None)) (local_pure room other le (x.This None)) ts
  first_operand_local (Some (kind.Word k.Super)) ts = local_skip room other le (reader.super_member room inner list) (reader.super_member other inner' list') (super_local room other le inner inner' list list' reads reads' near near_list) ts
  first_operand_local (Some (kind.Word k.New)) ts = local_skip room other le (reader.creation room inner list) (reader.creation other inner' list') (creation_local room other le inner inner' list list' reads reads' near near_list) ts
  first_operand_local (Some (kind.Sym y.OpenParen)) ts =
      by_room room other le 1 (skipping (reader.in_parens other inner' list')) ts (skipping (reader.in_parens room inner list) ts) (ltb room 1) refl
      (λ some. local_skip room other le (reader.in_parens room inner list) (reader.in_parens other inner' list') (in_parens_local room other le inner inner' list list' reads reads' near near_list (ltb-false room 1 some)) ts)
  first_operand_local (Some (kind.Sym y.Minus)) ts =
      local_over room other le 1 (skipping (reader.negated room inner list)) (skipping (reader.negated other inner' list')) (local_skip room other le (reader.negated room inner list) (reader.negated other inner' list') negated_local) ts
  first_operand_local (Some (kind.Sym s)) ts = first_prefix_local s ts
  first_operand_local (Some token) ts =
      cond_local room other le (skipping (pure (x.Lit token))) (skipping (pure (x.Lit token))) refuse refuse (local_skip room other le (pure (x.Lit token)) (pure (x.Lit token)) (local_pure room other le (x.Lit token)))
      (local_refuse room other le) (is_plain_literal token) ts

  pub operand_local : (lead : Lead) → Local room other le (reader.operand room inner list lead) (reader.operand other inner' list' lead)
  unfolding reader.operand
  operand_local Nothing =
      by_first room other le inner inner' list list' reads reads' near near_list (first_operand room inner list) (first_operand other inner' list') (reader.operand room inner list Nothing) (reader.operand other inner' list' Nothing) (first_operand_is room inner list) (first_operand_is other inner' list')
      first_operand_local
  operand_local (Named d) = after_dotted_local room other le inner inner' list list' reads reads' near near_list d
  operand_local (Indexed n) = after_bracket_local room other le inner inner' list list' reads reads' near near_list n
  operand_local This = local_pure room other le (x.This None)
  operand_local Super = super_local room other le inner inner' list list' reads reads' near near_list

  -- ---- turns of a loop

  abbrev pub Alike : Option (Parser x.Expr) → Option (Parser x.Expr) → Type 0
  Alike None None = ⊤
  Alike (Some p) (Some q) = Local room other le p q
  Alike _ _ = ⊥

  pub turn_kept : (left : x.Expr) (o o' : Option (Parser x.Expr)) (on on' : x.Expr → Parser x.Expr) (ts : List Kind) → Alike o o'
      → ((p : Parser x.Expr) → o ≡ Some p → expr_depth left ≤ room → (us : List Kind) (r : x.Expr × List Kind) → p us ≡ Ok r → Kept room other le (on' r.0) r.1 (on r.0 r.1))
      → Kept room other le (λ us. reader.turn other inner' list' left o' on' us) ts (reader.turn room inner list left o on ts)
  turn_kept left None None on on' ts a next = here room other le (λ us. Ok (left, us)) (λ w. Ok (left, w)) ts (λ w e. refl)
  turn_kept left None (Some q) on on' ts a next = absurd a
  turn_kept left (Some p) None on on' ts a next = absurd a
  turn_kept left (Some p) (Some q) on on' [] a next =
      by_room room other le (expr_depth left) (skipping (q >>= on')) [] (Err (NoTree, [])) (ltb room (expr_depth left)) refl (λ b wider. here room other le (skipping (q >>= on')) (λ w. Err (NoTree, w)) [] (λ w e. let n = no_first w e in rw n refl))
  turn_kept left (Some p) (Some q) on on' (token ∷ ts) a next =
      by_room room other le (expr_depth left) (skipping (q >>= on')) (token ∷ ts) (and_then (p ts) on) (ltb room (expr_depth left)) refl
      (λ b. along room other le (q >>= on') (skipping (q >>= on')) token ts (and_then (p ts) on) (λ us. refl)
      (kept_bind room other le q on on' ts (p ts) (a ts) (λ r e. next p refl (ltb-false room (expr_depth left) b) ts r e)))

  -- ---- what stands behind an operand

  selected_local : (left : x.Expr) → Local room other le (reader.selected room inner list left) (reader.selected other inner' list' left)
  selected_local left =
      then identifier identifier (λ member. reader.call_or room inner list (x.a_receiver (x.Of left)) member (x.Select left member)) (λ member. reader.call_or other inner' list' (x.a_receiver (x.Of left)) member (x.Select left member))
      (local_identifier room other le) (λ member. call_local room other le inner inner' list list' reads reads' near near_list (x.a_receiver (x.Of left)) member (x.Select left member))

  indexed_local : (left : x.Expr) → Local room other le (reader.indexed room inner list left) (reader.indexed other inner' list' left)
  indexed_local left = closed_by room other le inner inner' list list' reads reads' near near_list (inner Nothing 0) (inner' Nothing 0) y.CloseBracket (λ at. pure (x.Index left at)) (λ at. pure (x.Index left at)) (near.plain 0) (λ at. local_pure room other le (x.Index left at))

  some_alike : (b : Bool) (p q : Parser x.Expr) → Local room other le p q → Alike (cond b (Some p) None) (cond b (Some q) None)
  some_alike true p q one = one
  some_alike false p q one = tt

  none_alike : (b : Bool) (p q : Parser x.Expr) → Local room other le p q → Alike (cond b None (Some p)) (cond b None (Some q))
  none_alike true p q one = tt
  none_alike false p q one = one

  pub suffix_alike : (left : x.Expr) (o : Option Symbol) → Alike (reader.suffix room inner list left o) (reader.suffix other inner' list' left o)
  suffix_alike left None = tt
  suffix_alike left (Some y.Dot) = some_alike (is_tight left 14) (reader.selected room inner list left) (reader.selected other inner' list' left) (selected_local left)
  suffix_alike left (Some y.OpenBracket) = some_alike (is_tight left 14 && not (is_new_array left)) (reader.indexed room inner list left) (reader.indexed other inner' list' left) (indexed_local left)
  suffix_alike left (Some s) = some_alike (is_step s && is_tight left 13) (pure (x.PostStep left s)) (pure (x.PostStep left s)) (local_pure room other le (x.PostStep left s))

  abbrev suffix_step : x.Expr → List Kind → Option (Parser x.Expr)
  suffix_step left ts = reader.suffix room inner list left (symbol_at ts)

  suffix_turns : (turns : ℕ) (left : x.Expr) (ts : List Kind) → suc room ≤ turns + expr_depth left → Kept room other le (reader.suffixes other inner' list' left) ts (reader.suffixes_from room inner list turns left ts)
  suffix_turns zero left ts l =
      kept_same room other le (λ us. reader.turn other inner' list' left (reader.suffix other inner' list' left (symbol_at us)) (reader.suffixes other inner' list') us) (reader.suffixes other inner' list' left)
      (λ us. sym (chains.suffixes_unroll other inner' list' left us)) ts (reader.turn room inner list left (suffix_step left ts) (λ v. deep) ts)
      (on_kept room other le symbol_at (λ o us. reader.turn other inner' list' left (reader.suffix other inner' list' left o) (reader.suffixes other inner' list') us) looks_symbol ts (reader.turn room inner list left (suffix_step left ts) (λ v. deep) ts)
      (turn_kept left (suffix_step left ts) (reader.suffix other inner' list' left (symbol_at ts)) (λ v. deep) (reader.suffixes other inner' list') ts (suffix_alike left (symbol_at ts)) (λ p s low us r i. absurd (omega arith))))
  suffix_turns (suc turns) left ts l =
      kept_same room other le (λ us. reader.turn other inner' list' left (reader.suffix other inner' list' left (symbol_at us)) (reader.suffixes other inner' list') us) (reader.suffixes other inner' list' left)
      (λ us. sym (chains.suffixes_unroll other inner' list' left us)) ts (reader.turn room inner list left (suffix_step left ts) (reader.suffixes_from room inner list turns) ts)
      (on_kept room other le symbol_at (λ o us. reader.turn other inner' list' left (reader.suffix other inner' list' left o) (reader.suffixes other inner' list') us) looks_symbol ts
      (reader.turn room inner list left (suffix_step left ts) (reader.suffixes_from room inner list turns) ts)
      (turn_kept left (suffix_step left ts) (reader.suffix other inner' list' left (symbol_at ts)) (reader.suffixes_from room inner list turns) (reader.suffixes other inner' list') ts (suffix_alike left (symbol_at ts))
      (λ p s low us r i. let h = chains.raises room inner list left ts p s us r.0 r.1 i in suffix_turns turns r.0 r.1 (omega arith))))

  pub suffixes_local : (left : x.Expr) → Local room other le (reader.suffixes room inner list left) (reader.suffixes other inner' list' left)
  unfolding reader.suffixes
  suffixes_local left ts = suffix_turns (suc room) left ts (omega arith)

  -- ---- operators

  choice_local : (left : x.Expr) → Local room other le (reader.choice room inner list left) (reader.choice other inner' list' left)
  choice_local left =
      closed_by room other le inner inner' list list' reads reads' near near_list (inner Nothing 0) (inner' Nothing 0) y.Colon (λ a. inner Nothing 1 >>= (λ b. pure (x.Cond left a b))) (λ a. inner' Nothing 1 >>= (λ b. pure (x.Cond left a b))) (near.plain 0)
      (λ a. then (inner Nothing 1) (inner' Nothing 1) (λ b. pure (x.Cond left a b)) (λ b. pure (x.Cond left a b)) (near.plain 1) (λ b. local_pure room other le (x.Cond left a b)))

  binary_local : (left : x.Expr) (op : Symbol) → Local room other le (reader.binary room inner list left op) (reader.binary other inner' list' left op)
  binary_local left op =
      then (inner Nothing (suc (binary_level op))) (inner' Nothing (suc (binary_level op))) (λ v. pure (x.Binary left op v)) (λ v. pure (x.Binary left op v)) (near.plain (suc (binary_level op))) (λ v. local_pure room other le (x.Binary left op v))

  pub assigned_local : (left : x.Expr) (op : Symbol) → Local room other le (reader.assigned room inner list left op) (reader.assigned other inner' list' left op)
  assigned_local left op = then (inner Nothing 0) (inner' Nothing 0) (λ v. pure (x.Assign left op v)) (λ v. pure (x.Assign left op v)) (near.plain 0) (λ v. local_pure room other le (x.Assign left op v))

  tested_local : (left : x.Expr) → Local room other le (reader.tested room inner list left) (reader.tested other inner' list' left)
  tested_local left = then type_use type_use (λ ty. pure (x.IsA left ty)) (λ ty. pure (x.IsA left ty)) (type_local room other le) (λ ty. local_pure room other le (x.IsA left ty))

  by_alike : (least : ℕ) (left : x.Expr) (op : Symbol) (b : Bool) → Alike (cond b (cond (ltb 0 least || not (is_target left)) None (Some (reader.assigned room inner list left op)))
      (cond (ltb (binary_level op) 1 || (ltb (binary_level op) least || ltb (level left) (binary_level op))) None (Some (reader.binary room inner list left op))))
      (cond b (cond (ltb 0 least || not (is_target left)) None (Some (reader.assigned other inner' list' left op)))
      (cond (ltb (binary_level op) 1 || (ltb (binary_level op) least || ltb (level left) (binary_level op))) None (Some (reader.binary other inner' list' left op))))
  by_alike least left op true = none_alike (ltb 0 least || not (is_target left)) (reader.assigned room inner list left op) (reader.assigned other inner' list' left op) (assigned_local left op)
  by_alike least left op false =
      none_alike (ltb (binary_level op) 1 || (ltb (binary_level op) least || ltb (level left) (binary_level op))) (reader.binary room inner list left op) (reader.binary other inner' list' left op) (binary_local left op)

  operator_alike : (least : ℕ) (left : x.Expr) (o : Option Kind) → Alike (reader.operator room inner list least left o) (reader.operator other inner' list' least left o)
  operator_alike least left None = tt
  operator_alike least left (Some (kind.Sym y.Question)) = none_alike (ltb 1 least || ltb (level left) 2) (reader.choice room inner list left) (reader.choice other inner' list' left) (choice_local left)
  operator_alike least left (Some (kind.Sym op)) = by_alike least left op (is_assignment op)
  operator_alike least left (Some (kind.Word k.Instanceof)) = none_alike (ltb 8 least || ltb (level left) 8) (reader.tested room inner list left) (reader.tested other inner' list' left) (tested_local left)
  operator_alike least left (Some token) = tt

  abbrev operator_step : ℕ → x.Expr → List Kind → Option (Parser x.Expr)
  operator_step least left ts = reader.operator room inner list least left (first ts)

  climb_turns : (turns least : ℕ) (left : x.Expr) (ts : List Kind) → suc room ≤ turns + expr_depth left → Kept room other le (reader.climb other inner' list' least left) ts (reader.climb_from room inner list turns least left ts)
  climb_turns zero least left ts l =
      kept_same room other le (λ us. reader.turn other inner' list' left (reader.operator other inner' list' least left (first us)) (reader.climb other inner' list' least) us) (reader.climb other inner' list' least left)
      (λ us. sym (climbs.climb_unroll other inner' list' least left us)) ts (reader.turn room inner list left (operator_step least left ts) (λ v. deep) ts)
      (on_kept room other le first (λ o us. reader.turn other inner' list' left (reader.operator other inner' list' least left o) (reader.climb other inner' list' least) us) (λ ts us e. e) ts
      (reader.turn room inner list left (operator_step least left ts) (λ v. deep) ts)
      (turn_kept left (operator_step least left ts) (reader.operator other inner' list' least left (first ts)) (λ v. deep) (reader.climb other inner' list' least) ts (operator_alike least left (first ts)) (λ p s low us r i. absurd (omega arith))))
  climb_turns (suc turns) least left ts l =
      kept_same room other le (λ us. reader.turn other inner' list' left (reader.operator other inner' list' least left (first us)) (reader.climb other inner' list' least) us) (reader.climb other inner' list' least left)
      (λ us. sym (climbs.climb_unroll other inner' list' least left us)) ts (reader.turn room inner list left (operator_step least left ts) (reader.climb_from room inner list turns least) ts)
      (on_kept room other le first (λ o us. reader.turn other inner' list' left (reader.operator other inner' list' least left o) (reader.climb other inner' list' least) us) (λ ts us e. e) ts
      (reader.turn room inner list left (operator_step least left ts) (reader.climb_from room inner list turns least) ts)
      (turn_kept left (operator_step least left ts) (reader.operator other inner' list' least left (first ts)) (reader.climb_from room inner list turns least) (reader.climb other inner' list' least) ts (operator_alike least left (first ts))
      (λ p s low us r i. let h = climbs.raises room inner list least left ts p s us r.0 r.1 i in climb_turns turns least r.0 r.1 (omega arith))))

  pub climb_local : (least : ℕ) (left : x.Expr) → Local room other le (reader.climb room inner list least left) (reader.climb other inner' list' least left)
  unfolding reader.climb
  climb_local least left ts = climb_turns (suc room) least left ts (omega arith)

  pub operations_local : (lead : Lead) (least : ℕ) → Local room other le (reader.operations room inner list lead least) (reader.operations other inner' list' lead least)
  unfolding reader.operations
  operations_local lead least =
      then (reader.operand room inner list lead >>= reader.suffixes room inner list) (reader.operand other inner' list' lead >>= reader.suffixes other inner' list') (reader.climb room inner list least) (reader.climb other inner' list' least)
      (then (reader.operand room inner list lead) (reader.operand other inner' list' lead) (reader.suffixes room inner list) (reader.suffixes other inner' list') (operand_local lead) suffixes_local) (climb_local least)
