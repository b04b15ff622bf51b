-- A reader of expressions gives no token back.
use Rattle.std.proofs.Common.{◌≡◌, ℕ, zero, suc, ◌+◌, ◌≤◌, Bool, true, false, cond, List, [], ◌∷◌, ◌++◌, length, Option, Some, None, Ok, Err, refl, ap, inl, inr, arith}
use Rattle.jr_base.specs.declared.text.Text.{Text}
use Rattle.jr_base.specs.declared.kind.Symbol.{Symbol}
use Rattle.jr_base.specs.declared.kind.Symbol.TheVariants as y
use Rattle.jr_base.specs.declared.kind.Kind.{Kind}
use Rattle.jr_base.specs.declared.kind.Kind.TheVariants as kind
use Rattle.jr_base.specs.declared.kind.Keyword.TheVariants as k
use Rattle.jr_tree.specs.declared.tree.Name.{Name}
use Rattle.jr_tree.specs.declared.tree.Base.{Base}
use Rattle.jr_tree.specs.declared.tree.Base.TheVariants as base
use Rattle.jr_tree.specs.declared.tree.Primitive.{Primitive}
use Rattle.jr_tree.specs.Levels.{is_unary, is_step, is_assignment, is_least_kind, binary_level}
use Rattle.jr_tree.specs.Shape.{level}
use Rattle.jr_tree.specs.Depth.{expr_depth}
use Rattle.jr_tree.specs.Mirror.Exprs as x
use Rattle.jr_parse_laws.specs.declared.fault.Fault.{Fault}
use Rattle.std.specs.Prelude.{nat_lt, ◌&&◌, ◌||◌, not}
use Rattle.jr_parse_laws.specs.declared.fault.Fault.TheVariants.{NoTree, TooDeep}
use Rattle.jr_parse_laws.specs.Parsers.{Outcome, Parser, and_then, pure, expect, identifier, first, is_at, symbol_at, many_from, many, commas, begins_with, after_comma, with_front, ◌>>=◌, ◌>>◌}
use Rattle.jr_parse_laws.proofs.Outcomes.{bind_ok, chosen, ok_is, err_ok}
use Rattle.jr_parse_laws.proofs.Turns.{Keeps, expect_keeps, identifier_keeps}
use Rattle.jr_parse_starts.specs.Starts.{within, over, no_level, next_is, starts_expr, starts_list, starts_init, begins_cast_operand, is_plain_literal}
use Rattle.jr_parse_expr.specs.Names.{dims, pairs, counted, parts, named_all, name_after, name, primitive_at, base_by, element, type_use, Dotted, Plain, Enclosing, dotted_from, dotted_behind, dotted, name_of}
use Rattle.jr_parse_expr.specs.Exprs as spec
use Rattle.jr_parse_expr.specs.Exprs.{Lead, Nothing, Named, Indexed, This, Super}

-- ---- from the parts to the whole

pub keeps_err : {A : Type 0} (f : List Kind → Fault × List Kind) → Keeps {A = A} (λ ts. Err (f ts))
keeps_err f ts a rest h = absurd (err_ok h)

pub keeps_pure : {A : Type 0} (a : A) → Keeps (pure a)
keeps_pure {A} a ts b rest h = let e = ap (λ (y : A × List Kind). length y.1) (ok_is h) in omega arith

pub keeps_bind : {A B : Type 0} (p : Parser A) (f : A → Parser B) → Keeps p → ((a : A) → Keeps (f a)) → Keeps (p >>= f)
keeps_bind p f hp hf ts b rest h =
    let e = bind_ok (p ts) f (b, rest) h in
    let l = hp ts e.0.0 e.0.1 e.1 in
    let m = hf e.0.0 e.0.1 b rest e.2 in
    omega arith

pub keeps_skipping : {A : Type 0} (p : Parser A) → Keeps p → Keeps (spec.skipping p)
keeps_skipping p hp [] a rest h = absurd (err_ok h)
keeps_skipping p hp (token ∷ ts) a rest h = let l = hp ts a rest h in omega arith

pub keeps_next : {A : Type 0} (f : Kind → Parser A) → ((token : Kind) → Keeps (f token)) → Keeps (spec.next_token f)
keeps_next f hf [] a rest h = absurd (err_ok h)
keeps_next f hf (token ∷ ts) a rest h = let l = hf token ts a rest h in omega arith

pub keeps_if : {A : Type 0} (t : List Kind → Bool) (p q : Parser A) → Keeps p → Keeps q → Keeps (λ ts. cond (t ts) (p ts) (q ts))
keeps_if t p q hp hq ts a rest h = elim (chosen (t ts) _ _ _ h) [ inl e ↦ hp ts a rest e.1 | inr e ↦ hq ts a rest e.1 ]

pub keeps_within : {A : Type 0} (levels room : ℕ) (token : Kind) (p : Parser A) → Keeps p → Keeps (within levels room token p)
keeps_within levels room token p hp = keeps_if (λ ts. nat_lt room levels) (λ ts. Err (TooDeep, token ∷ ts)) p (keeps_err (λ ts. (TooDeep, token ∷ ts))) hp

pub keeps_over : {A : Type 0} (height room : ℕ) (p : Parser A) → Keeps p → Keeps (over height room p)
keeps_over height room p hp = keeps_if (λ ts. nat_lt room height) (λ ts. Err (TooDeep, ts)) p (keeps_err (λ ts. (TooDeep, ts))) hp

pub keeps_behind : {A : Type 0} (s : Symbol) (p : Parser A) → Keeps p → Keeps (expect s >> p)
keeps_behind s p hp = keeps_bind (expect s) (λ u. p) (expect_keeps s) (λ u. hp)

from_keeps : {A : Type 0} (starts : Option Kind → Bool) (item : Parser A) → Keeps item → (turns : ℕ) → Keeps (many_from starts item turns)
from_keeps starts item hp zero = keeps_pure []
from_keeps starts item hp (suc turns) =
    keeps_if (λ ts. starts (first ts)) (item >>= (λ a. many_from starts item turns >>= (λ all. pure (a ∷ all)))) (pure [])
    (keeps_bind item (λ a. many_from starts item turns >>= (λ all. pure (a ∷ all))) hp
    (λ a. keeps_bind (many_from starts item turns) (λ all. pure (a ∷ all)) (from_keeps starts item hp turns) (λ all. keeps_pure (a ∷ all))))
    (keeps_pure [])

pub keeps_many : {A : Type 0} (starts : Option Kind → Bool) (item : Parser A) → Keeps item → Keeps (many starts item)
unfolding many
keeps_many starts item hp ts = from_keeps starts item hp (length ts) ts

pub keeps_commas : {A : Type 0} (item : Parser A) → Keeps item → Keeps (commas item)
keeps_commas item hp =
    keeps_bind item (λ a. many (begins_with y.Comma) (after_comma item) >>= (λ all. pure (a ∷ all))) hp
    (λ a. keeps_bind (many (begins_with y.Comma) (after_comma item)) (λ all. pure (a ∷ all)) (keeps_many (begins_with y.Comma) (after_comma item) (keeps_behind y.Comma item hp)) (λ all. keeps_pure (a ∷ all)))

-- ---- names and types

pub dims_keeps : Keeps dims
unfolding dims
dims_keeps = keeps_bind pairs (λ all. pure (0 + length all)) (keeps_many (begins_with y.OpenBracket) (expect y.OpenBracket >> expect y.CloseBracket) (keeps_behind y.OpenBracket (expect y.CloseBracket) (expect_keeps y.CloseBracket))) (λ all. keeps_pure (0 + length all))

pub name_after_keeps : (head : Text) → Keeps (name_after head)
unfolding name_after
name_after_keeps head =
    keeps_bind (parts >>= (λ all. pure (head ∷ [] ++ all))) (λ all. pure (name_of all))
    (keeps_bind parts (λ all. pure (head ∷ [] ++ all)) (keeps_many (begins_with y.Dot) (expect y.Dot >> identifier) (keeps_behind y.Dot identifier identifier_keeps)) (λ all. keeps_pure (head ∷ [] ++ all)))
    (λ all. keeps_pure (name_of all))

pub name_keeps : Keeps name
name_keeps = keeps_bind identifier name_after identifier_keeps name_after_keeps

base_keeps : (p : Option Primitive) → Keeps (base_by p)
base_keeps None ts a rest h = keeps_bind name (λ n. pure (base.Named n)) name_keeps (λ n. keeps_pure (base.Named n)) ts a rest h
base_keeps (Some p) [] a rest h = absurd (err_ok h)
base_keeps (Some p) (token ∷ ts) a rest h = let l = keeps_pure (base.Primitive p) ts a rest h in omega arith

pub element_keeps : Keeps element
unfolding element
element_keeps ts = base_keeps (primitive_at ts) ts

pub type_use_keeps : Keeps type_use
unfolding type_use
type_use_keeps = keeps_bind element _ element_keeps (λ b. keeps_bind dims _ dims_keeps (λ n. keeps_pure _))

mutual
  dotted_from_keeps : (b : Bool) (turns : ℕ) (before : List Text) (last : Text) → Keeps (dotted_from b turns before last)
  dotted_from_keeps b zero before last ts a rest h = keeps_pure (Plain before last) ts a rest h
  dotted_from_keeps b (suc turns) before last [] a rest h = keeps_pure (Plain before last) [] a rest h
  dotted_from_keeps b (suc turns) before last (kind.Sym y.Dot ∷ ts) a rest h = let l = dotted_behind_keeps b turns before last ts a rest h in omega arith
  dotted_from_keeps b (suc turns) before last (token ∷ ts) a rest h = keeps_pure (Plain before last) (token ∷ ts) a rest h

  dotted_behind_keeps : (b : Bool) (turns : ℕ) (before : List Text) (last : Text) → Keeps (dotted_behind b turns before last)
  dotted_behind_keeps b turns before last [] a rest h = absurd (err_ok h)
  dotted_behind_keeps b turns before last (kind.Ident name ∷ ts) a rest h = let l = dotted_from_keeps b turns (before ++ last ∷ []) name ts a rest h in omega arith
  dotted_behind_keeps true turns before last (kind.Word k.This ∷ ts) a rest h = let l = keeps_pure (Enclosing before last) ts a rest h in omega arith
  dotted_behind_keeps false turns before last (kind.Word k.This ∷ ts) a rest h = absurd (err_ok h)
  dotted_behind_keeps b turns before last (token ∷ ts) a rest h = absurd (err_ok h)

pub dotted_keeps : (b : Bool) (before : List Text) (last : Text) → Keeps (dotted b before last)
unfolding dotted
dotted_keeps b before last ts = dotted_from_keeps b (length ts) before last ts

-- ---- expressions, where their parts keep

module _ (room : ℕ) (inner : Lead → ℕ → Parser x.Expr) (list : Parser x.InitList) (inner_keeps : (lead : Lead) (least : ℕ) → Keeps (inner lead least)) (list_keeps : Keeps list) where
  arguments_keeps : Keeps (spec.arguments room inner list)
  unfolding spec.arguments
  arguments_keeps =
      keeps_bind (spec.any_commas starts_expr (inner Nothing 0)) _
      (keeps_if (λ ts. starts_expr (first ts)) (commas (inner Nothing 0)) (pure []) (keeps_commas (inner Nothing 0) (inner_keeps Nothing 0)) (keeps_pure []))
      (λ all. keeps_behind y.CloseParen (pure all) (keeps_pure all))

  call_keeps : (receiver : x.AnyReceiver) (method : Text) (access : x.Expr) → Keeps (spec.call_or room inner list receiver method access)
  call_keeps receiver method access =
      keeps_if (is_at y.OpenParen) (spec.skipping (spec.arguments room inner list >>= (λ args. pure (x.Call receiver method (x.exprs args))))) (pure access)
      (keeps_skipping (spec.arguments room inner list >>= (λ args. pure (x.Call receiver method (x.exprs args))))
      (keeps_bind (spec.arguments room inner list) (λ args. pure (x.Call receiver method (x.exprs args))) arguments_keeps (λ args. keeps_pure (x.Call receiver method (x.exprs args)))))
      (keeps_pure access)

  after_dotted_keeps : (d : Dotted) → Keeps (spec.after_dotted room inner list d)
  unfolding spec.after_dotted
  after_dotted_keeps (Enclosing before last) = keeps_pure _
  after_dotted_keeps (Plain before last) = call_keeps _ _ _

  after_bracket_keeps : (n : Name) → Keeps (spec.after_bracket room inner list n)
  unfolding spec.after_bracket
  after_bracket_keeps n = keeps_bind (inner Nothing 0) _ (inner_keeps Nothing 0) (λ at. keeps_behind y.CloseBracket _ (keeps_pure _))

  super_keeps : Keeps (spec.super_member room inner list)
  unfolding spec.super_member
  super_keeps = keeps_behind y.Dot _ (keeps_bind identifier _ identifier_keeps (λ member. call_keeps _ _ _))

  sizes_from_keeps : (turns : ℕ) → Keeps (spec.sizes_from room inner list turns)
  sizes_from_keeps zero = keeps_pure ([], 0)
  sizes_from_keeps (suc turns) =
      keeps_if (is_at y.OpenBracket) _ (pure ([], 0))
      (keeps_skipping _
      (keeps_if (is_at y.CloseBracket) _ _
      (keeps_skipping _ (keeps_bind dims _ dims_keeps (λ more. keeps_pure ([], suc more))))
      (keeps_bind (inner Nothing 0) _ (inner_keeps Nothing 0)
      (λ e. keeps_behind y.CloseBracket _ (keeps_bind (spec.sizes_from room inner list turns) _ (sizes_from_keeps turns) (λ r. keeps_pure (e ∷ r.0, r.1)))))))
      (keeps_pure ([], 0))

  sizes_keeps : Keeps (spec.sizes room inner list)
  unfolding spec.sizes
  sizes_keeps ts = sizes_from_keeps (length ts) ts

  sized_keeps : (b : Base) → Keeps (spec.sized room inner list b)
  unfolding spec.sized
  sized_keeps b = keeps_bind (inner Nothing 0) _ (inner_keeps Nothing 0) (λ size. keeps_behind y.CloseBracket _ (keeps_bind (spec.sizes room inner list) _ sizes_keeps (λ r. keeps_pure _)))

  unsized_keeps : (b : Base) → Keeps (spec.unsized room inner list b)
  unfolding spec.unsized
  unsized_keeps b = keeps_bind dims _ dims_keeps (λ more. keeps_bind list _ list_keeps (λ items. keeps_pure _))

  array_keeps : (b : Base) → Keeps (spec.array room inner list b)
  unfolding spec.array
  array_keeps b = keeps_if (is_at y.CloseBracket) _ _ (keeps_skipping _ (unsized_keeps b)) (sized_keeps b)

  created_keeps : (n : Name) (token : Kind) → Keeps (spec.created_by room inner list n token)
  created_keeps n (kind.Sym y.OpenParen) = keeps_bind (spec.arguments room inner list) _ arguments_keeps (λ args. keeps_pure _)
  created_keeps n (kind.Sym y.OpenBracket) = keeps_within 1 room (kind.Sym y.OpenBracket) _ (array_keeps (base.Named n))
  created_keeps n token = keeps_err (λ ts. (NoTree, token ∷ ts))

  creation_by_keeps : (p : Option Primitive) → Keeps (spec.creation_by room inner list p)
  creation_by_keeps None = keeps_bind name _ name_keeps (λ n. keeps_next _ (created_keeps n))
  creation_by_keeps (Some p) = keeps_next _ (λ token. keeps_within 1 room token _ (keeps_behind y.OpenBracket _ (array_keeps (base.Primitive p))))

  creation_keeps : Keeps (spec.creation room inner list)
  unfolding spec.creation
  creation_keeps ts = creation_by_keeps (primitive_at ts) ts

  closed_keeps : (e : x.Expr) → Keeps (spec.closed e)
  closed_keeps e = keeps_behind y.CloseParen _ (keeps_pure _)

  inner_closed_keeps : (lead : Lead) → Keeps (inner lead 0 >>= spec.closed)
  inner_closed_keeps lead = keeps_bind (inner lead 0) spec.closed (inner_keeps lead 0) closed_keeps

  cast_keeps : (b : Base) (n : ℕ) → Keeps (spec.cast room inner list b n)
  cast_keeps b n = keeps_bind (inner Nothing 12) _ (inner_keeps Nothing 12) (λ e. keeps_pure _)

  primitive_cast_keeps : Keeps (spec.primitive_cast room inner list)
  unfolding spec.primitive_cast
  primitive_cast_keeps = keeps_bind element _ element_keeps (λ b. keeps_bind dims _ dims_keeps (λ n. keeps_behind y.CloseParen _ (cast_keeps b n)))

  name_in_parens_keeps : (n : Name) → Keeps (spec.name_in_parens room inner list n)
  unfolding spec.name_in_parens
  name_in_parens_keeps n = keeps_if (λ ts. next_is begins_cast_operand (first ts)) _ (pure _) (cast_keeps (base.Named n) 0) (keeps_pure _)

  array_cast_keeps : (n : Name) → Keeps (spec.array_cast room inner list n)
  unfolding spec.array_cast
  array_cast_keeps n =
      keeps_bind dims _ dims_keeps
      (λ more. keeps_behind y.CloseParen _ (keeps_if (λ ts. next_is begins_cast_operand (first ts)) _ _ (cast_keeps (base.Named n) (suc more)) (keeps_err _)))

  bracket_in_parens_keeps : (n : Name) → Keeps (spec.bracket_in_parens room inner list n)
  unfolding spec.bracket_in_parens
  bracket_in_parens_keeps n = keeps_if (is_at y.CloseBracket) _ _ (keeps_skipping _ (array_cast_keeps n)) (inner_closed_keeps (Indexed n))

  dotted_by_keeps : (before : List Text) (last : Text) (o : Option Symbol) → Keeps (spec.dotted_in_parens_by room inner list before last o)
  dotted_by_keeps before last (Some y.CloseParen) = keeps_skipping _ (name_in_parens_keeps (name_of (before ++ last ∷ [])))
  dotted_by_keeps before last (Some y.OpenBracket) = keeps_skipping _ (bracket_in_parens_keeps (name_of (before ++ last ∷ [])))
  dotted_by_keeps before last _ = inner_closed_keeps (Named (Plain before last))

  dotted_in_parens_keeps : (d : Dotted) → Keeps (spec.dotted_in_parens room inner list d)
  unfolding spec.dotted_in_parens
  dotted_in_parens_keeps (Enclosing before last) ts = inner_closed_keeps (Named (Enclosing before last)) ts
  dotted_in_parens_keeps (Plain before last) ts = dotted_by_keeps before last (symbol_at ts) ts

  in_parens_by_keeps : (p : Option Primitive) (token : Kind) → Keeps (spec.in_parens_by room inner list p token)
  in_parens_by_keeps (Some p) token = primitive_cast_keeps
  in_parens_by_keeps None (kind.Ident head) = keeps_skipping _ (keeps_bind (dotted true [] head) _ (dotted_keeps true [] head) dotted_in_parens_keeps)
  in_parens_by_keeps None token = inner_closed_keeps Nothing

  in_parens_keeps : Keeps (spec.in_parens room inner list)
  unfolding spec.in_parens
  in_parens_keeps [] a rest h = absurd (err_ok h)
  in_parens_keeps (token ∷ ts) a rest h = in_parens_by_keeps _ token (token ∷ ts) a rest h

  prefix_keeps : (s : Symbol) → Keeps (spec.prefix room inner list s)
  prefix_keeps s =
      keeps_if (λ ts. is_unary s) _ _ (keeps_within 1 room (kind.Sym s) _ (keeps_bind (inner Nothing 12) _ (inner_keeps Nothing 12) (λ e. keeps_pure _)))
      (keeps_if (λ ts. is_step s) _ _ (keeps_within 1 room (kind.Sym s) _ (keeps_bind (inner Nothing 12) _ (inner_keeps Nothing 12) (λ e. keeps_pure _))) (keeps_err _))

  negated_by_keeps : (token : Kind) (ts : List Kind) (a : x.Expr) (rest : List Kind) → spec.negated_by room inner list token ts ≡ Ok (a, rest) → length rest ≤ suc (length ts)
  negated_by_keeps token ts a rest h =
      elim (chosen (is_least_kind token) _ _ _ h) [
        | inl e ↦ (let l = keeps_pure _ ts a rest e.1 in omega arith)
        | inr e ↦ (let l = keeps_bind (inner Nothing 12) _ (inner_keeps Nothing 12) (λ e. keeps_pure _) (token ∷ ts) a rest e.1 in omega arith)
      ]

  negated_keeps : Keeps (spec.negated room inner list)
  unfolding spec.negated
  negated_keeps [] a rest h = absurd (err_ok h)
  negated_keeps (token ∷ ts) a rest h = let l = negated_by_keeps token ts a rest h in omega arith

  operand_by_keeps : (token : Kind) → Keeps (spec.operand_by room inner list token)
  operand_by_keeps (kind.Ident head) = keeps_bind (dotted true [] head) _ (dotted_keeps true [] head) after_dotted_keeps
  operand_by_keeps (kind.Word k.This) = keeps_pure _
  operand_by_keeps (kind.Word k.Super) = super_keeps
  operand_by_keeps (kind.Word k.New) = creation_keeps
  operand_by_keeps (kind.Sym y.OpenParen) = keeps_within 1 room (kind.Sym y.OpenParen) _ in_parens_keeps
  operand_by_keeps (kind.Sym y.Minus) = keeps_within 1 room (kind.Sym y.Minus) _ negated_keeps
  operand_by_keeps (kind.Sym s) = prefix_keeps s
  operand_by_keeps token = keeps_if (λ ts. is_plain_literal token) (pure (x.Lit token)) _ (keeps_pure (x.Lit token)) (keeps_err (λ ts. (NoTree, token ∷ ts)))

  operand_keeps : (lead : Lead) → Keeps (spec.operand room inner list lead)
  unfolding spec.operand
  operand_keeps Nothing = keeps_next _ operand_by_keeps
  operand_keeps (Named d) = after_dotted_keeps d
  operand_keeps (Indexed n) = after_bracket_keeps n
  operand_keeps This = keeps_pure _
  operand_keeps Super = super_keeps

  abbrev KeepsAny : Option (Parser x.Expr) → Type 0
  KeepsAny None = Unit {0}
  KeepsAny (Some p) = Keeps p

  turn_keeps : (left : x.Expr) (o : Option (Parser x.Expr)) (on : x.Expr → Parser x.Expr) → KeepsAny o → ((e : x.Expr) → Keeps (on e)) → Keeps (spec.turn room inner list left o on)
  turn_keeps left None on ho hon = keeps_pure left
  turn_keeps left (Some p) on ho hon = keeps_over (expr_depth left) room _ (keeps_skipping _ (keeps_bind p on ho hon))

  selected_keeps : (left : x.Expr) → Keeps (spec.selected room inner list left)
  selected_keeps left = keeps_bind identifier _ identifier_keeps (λ member. call_keeps _ _ _)

  indexed_keeps : (left : x.Expr) → Keeps (spec.indexed room inner list left)
  indexed_keeps left = keeps_bind (inner Nothing 0) _ (inner_keeps Nothing 0) (λ at. keeps_behind y.CloseBracket _ (keeps_pure _))

  any_if : (b : Bool) (p : Parser x.Expr) → Keeps p → KeepsAny (cond b (Some p) None)
  any_if true p h = h
  any_if false p h = tt

  suffix_keeps : (left : x.Expr) (o : Option Symbol) → KeepsAny (spec.suffix room inner list left o)
  suffix_keeps left (Some y.Dot) = any_if _ _ (selected_keeps left)
  suffix_keeps left (Some y.OpenBracket) = any_if _ _ (indexed_keeps left)
  suffix_keeps left (Some s) = any_if (is_step s && not (nat_lt (level left) 13)) (pure (x.PostStep left s)) (keeps_pure (x.PostStep left s))
  suffix_keeps left None = tt

  suffixes_from_keeps : (turns : ℕ) (left : x.Expr) → Keeps (spec.suffixes_from room inner list turns left)
  suffixes_from_keeps zero left ts = turn_keeps left (spec.suffix room inner list left (symbol_at ts)) _ (suffix_keeps left (symbol_at ts)) (λ e. keeps_err _) ts
  suffixes_from_keeps (suc turns) left ts = turn_keeps left (spec.suffix room inner list left (symbol_at ts)) _ (suffix_keeps left (symbol_at ts)) (suffixes_from_keeps turns) ts

  assigned_keeps : (left : x.Expr) (op : Symbol) → Keeps (spec.assigned room inner list left op)
  assigned_keeps left op = keeps_bind (inner Nothing 0) _ (inner_keeps Nothing 0) (λ value. keeps_pure _)

  any_unless : (b : Bool) (p : Parser x.Expr) → Keeps p → KeepsAny (cond b None (Some p))
  any_unless true p h = tt
  any_unless false p h = h

  any_either : (b : Bool) (o u : Option (Parser x.Expr)) → KeepsAny o → KeepsAny u → KeepsAny (cond b o u)
  any_either true o u h i = h
  any_either false o u h i = i

  operator_by_keeps : (least : ℕ) (left : x.Expr) (op : Symbol) → KeepsAny (spec.operator_by room inner list least left op)
  operator_by_keeps least left op =
      any_either (is_assignment op) _ _ (any_unless _ _ (assigned_keeps left op)) (any_unless _ _ (keeps_bind (inner Nothing (suc (binary_level op))) _ (inner_keeps Nothing (suc (binary_level op))) (λ right. keeps_pure _)))

  operator_keeps : (least : ℕ) (left : x.Expr) (o : Option Kind) → KeepsAny (spec.operator room inner list least left o)
  operator_keeps least left (Some (kind.Sym y.Question)) =
      any_unless _ _ (keeps_bind (inner Nothing 0) _ (inner_keeps Nothing 0) (λ a. keeps_behind y.Colon _ (keeps_bind (inner Nothing 1) _ (inner_keeps Nothing 1) (λ b. keeps_pure _))))
  operator_keeps least left (Some (kind.Sym op)) = operator_by_keeps least left op
  operator_keeps least left (Some (kind.Word k.Instanceof)) = any_unless (nat_lt 8 least || nat_lt (level left) 8) _ (keeps_bind type_use _ type_use_keeps (λ ty. keeps_pure _))
  operator_keeps least left _ = tt

  climb_from_keeps : (turns least : ℕ) (left : x.Expr) → Keeps (spec.climb_from room inner list turns least left)
  climb_from_keeps zero least left ts = turn_keeps left (spec.operator room inner list least left (first ts)) _ (operator_keeps least left (first ts)) (λ e. keeps_err _) ts
  climb_from_keeps (suc turns) least left ts = turn_keeps left (spec.operator room inner list least left (first ts)) _ (operator_keeps least left (first ts)) (climb_from_keeps turns least) ts

  operations_keeps : (lead : Lead) (least : ℕ) → Keeps (spec.operations room inner list lead least)
  unfolding spec.operations spec.suffixes spec.climb
  operations_keeps lead least =
      keeps_bind _ (spec.climb_from room inner list (suc room) least) (keeps_bind (spec.operand room inner list lead) (spec.suffixes_from room inner list (suc room)) (operand_keeps lead) (suffixes_from_keeps (suc room)))
      (climb_from_keeps (suc room) least)

  init_of_keeps : Keeps (spec.init_of room inner list)
  unfolding spec.init_of
  init_of_keeps =
      keeps_if (λ ts. starts_list (first ts)) (list >>= (λ l. pure (x.Listed l))) (inner Nothing 0 >>= (λ e. pure (x.Value e))) (keeps_bind list (λ l. pure (x.Listed l)) list_keeps (λ l. keeps_pure (x.Listed l)))
      (keeps_bind (inner Nothing 0) (λ e. pure (x.Value e)) (inner_keeps Nothing 0) (λ e. keeps_pure (x.Value e)))

  after_item_from_keeps : (turns : ℕ) → Keeps (spec.after_item_from room inner list turns)
  after_item_from_keeps zero = keeps_pure ([], false)
  after_item_from_keeps (suc turns) =
      keeps_if (is_at y.Comma) _ (pure ([], false))
      (keeps_skipping _
      (keeps_if (λ us. starts_init (first us)) _ (pure ([], true))
      (keeps_bind (spec.init_of room inner list) _ init_of_keeps (λ i. keeps_bind (spec.after_item_from room inner list turns) _ (after_item_from_keeps turns) (λ r. keeps_pure (i ∷ r.0, r.1))))
      (keeps_pure ([], true))))
      (keeps_pure ([], false))

  after_item_keeps : Keeps (spec.after_item room inner list)
  unfolding spec.after_item
  after_item_keeps ts = after_item_from_keeps (length ts) ts

  items_keeps : Keeps (spec.items room inner list)
  unfolding spec.items
  items_keeps =
      keeps_if (λ ts. starts_init (first ts)) _ _
      (keeps_bind (spec.init_of room inner list) _ init_of_keeps (λ i. keeps_bind (spec.after_item room inner list) _ after_item_keeps (λ r. keeps_pure (i ∷ r.0, r.1))))
      (keeps_if (is_at y.Comma) _ (pure ([], false)) (keeps_skipping _ (keeps_pure ([], true))) (keeps_pure ([], false)))

  braces_keeps : Keeps (spec.braces room inner list)
  unfolding spec.braces
  braces_keeps = keeps_behind y.OpenBrace _ (keeps_bind (spec.items room inner list) _ items_keeps (λ r. keeps_behind y.CloseBrace _ (keeps_pure _)))

-- ---- of at most so many levels

no_level_keeps : {A : Type 0} (starts : Option Kind → Bool) → Keeps {A = A} (no_level starts)
no_level_keeps starts = keeps_if (λ ts. starts (first ts)) _ _ (keeps_err _) (keeps_err _)

mutual
  unfolding spec.expr spec.list

  pub expr_keeps : (room : ℕ) (lead : Lead) (least : ℕ) → Keeps (spec.expr room lead least)
  expr_keeps zero lead least = no_level_keeps starts_expr
  expr_keeps (suc room) lead least = operations_keeps room (spec.expr room) (spec.list room) (expr_keeps room) (list_keeps room) lead least

  pub list_keeps : (room : ℕ) → Keeps (spec.list room)
  list_keeps zero = no_level_keeps starts_list
  list_keeps (suc room) = braces_keeps room (spec.expr room) (spec.list room) (expr_keeps room) (list_keeps room)

pub init_keeps : (room : ℕ) → Keeps (spec.init room)
init_keeps room = init_of_keeps room (spec.expr room) (spec.list room) (expr_keeps room) (list_keeps room)
