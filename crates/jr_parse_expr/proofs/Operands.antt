-- Reading an operand, before what may stand behind it, is exact in both directions.
use Rattle.std.proofs.Common.{◌≡◌, ℕ, suc, ◌≤◌, Bool, true, false, not, cond, ltb, List, [], ◌∷◌, ◌++◌, Some, None, Ok, Err, refl, sym, ap, ◌∙◌, subst, inl, inr, arith}
use Rattle.std.proofs.lemmas.Bool.{not-true, not_from_false, and_from, and_parts, or_right, le-ltb, ltb-false}
use Rattle.jr_base.specs.declared.text.Text.{Text}
use Rattle.jr_base.specs.declared.kind.Kind.{Kind}
use Rattle.jr_base.specs.declared.kind.Kind.TheVariants as kind
use Rattle.jr_base.specs.declared.kind.Symbol.{Symbol}
use Rattle.jr_base.specs.declared.kind.Symbol.TheVariants as y
use Rattle.jr_base.specs.declared.kind.Keyword.TheVariants as k
use Rattle.jr_tree.specs.Levels.{is_unary, is_step, is_literal, is_least_kind, is_minus}
use Rattle.jr_tree.specs.Shape.{is_empty, level, is_least, IsShapedExpr, AreShapedExprs, IsShapedAnyReceiver}
use Rattle.jr_tree.specs.Depth.{expr_depth, exprs_depth, any_receiver_depth}
use Rattle.jr_tree.specs.Mirror.Exprs as x
use Rattle.jr_parse_laws.specs.declared.fault.Fault.TheVariants.{NoTree}
use Rattle.jr_parse_laws.specs.Parsers.{Outcome, Parser, and_then, first, is_at, is_symbol, begins_with, expect, identifier}
use Rattle.jr_parse_laws.proofs.Outcomes.{bind_ok, chosen, ok_is, err_ok, is_symbol_is}
use Rattle.jr_parse_laws.proofs.Exact.{expect_sound, identifier_token}
use Rattle.jr_parse_laws.proofs.Turns.{at_first}
use Rattle.jr_parse_starts.specs.Starts.{is_plain_literal, begins_operand, starts_expr}
use Rattle.jr_parse_expr.specs.Names.{name_of, Dotted, Plain, Enclosing, dotted}
use Rattle.jr_parse_expr.specs.Exprs.{Lead, Nothing, receiver_of, arguments, call_or, after_dotted, super_member, creation, in_parens, prefix, negated, operand}
use Rattle.jr_parse_expr.specs.Writing.{write_all, write_qualifier, write_expr, write_exprs}
use Rattle.jr_parse_expr.specs.Follow.{Unless, LastEnds, Ends}
use Rattle.jr_parse_expr.proofs.Beginnings.{binary_low, begins_any}
use Rattle.jr_parse_expr.proofs.Followers.{unless}
use Rattle.jr_parse_expr.proofs.NameReads.{dotted_name, dotted_method, dotted_end, dotted_this, dotted_sound, DottedFound, has_parts, parts_append}
use Rattle.jr_parse_expr.proofs.Asked.{ReadsExprs, ReadsLists, Operand, depth_pos, exprs_listed}
use Rattle.jr_parse_expr.proofs.Arguments.{arguments_read, arguments_sound}
use Rattle.jr_parse_expr.proofs.Creations.{new_read, new_array_read, creation_sound}
use Rattle.jr_parse_expr.proofs.Parentheses.{casts_read, parens_read, in_parens_sound}

begun_not_least : (token : Kind) → begins_operand token ≡ true → is_least_kind token ≡ false
begun_not_least kind.IntMin h = absurd (cc)
begun_not_least kind.LongMin h = absurd (cc)
begun_not_least token h = refl

least_literal : (token : Kind) → is_least_kind token ≡ true → is_literal token ≡ true
least_literal kind.IntMin h = refl
least_literal kind.LongMin h = refl
least_literal token h = absurd (cc)

least_is : (e : x.Expr) → is_least e ≡ true → (token : Kind) × (e ≡ x.Lit token) × (is_least_kind token ≡ true)
least_is (x.Lit token) h = (token, refl, h)
least_is e h = absurd (cc)

-- what begins with a part of its own kind, to which it goes on
abbrev pub goes_on_from : x.Expr → Bool
goes_on_from (x.PostStep value op) = true
goes_on_from (x.Select object name) = true
goes_on_from (x.Index array at) = true
goes_on_from (x.Call (x.a_receiver (x.Of object)) name args) = true
goes_on_from _ = false

-- the receiver of a call behind names

pub shaped_receiver : (before : List Text) → IsShapedAnyReceiver (receiver_of before)
shaped_receiver [] = tt
shaped_receiver (part ∷ before) = refl

pub low_receiver : (room : ℕ) (before : List Text) → any_receiver_depth (receiver_of before) ≤ room
low_receiver room [] = omega arith
low_receiver room (part ∷ before) = omega arith

pub received : (before : List Text) (last : Text) (us : List Kind) → write_all (before ++ last ∷ []) us ≡ write_qualifier (receiver_of before) (kind.Ident last ∷ us)
received [] last us = refl
received (part ∷ before) last us = ap (λ ts. kind.Ident part ∷ ts) (parts_append before (last ∷ []) us)

module _ (room : ℕ) (inner : Lead → ℕ → Parser x.Expr) (list : Parser x.InitList) (reads : ReadsExprs room inner) (lists : ReadsLists room list) where
  -- ---- a call, or what stands there without one

  pub call_read : (object : x.AnyReceiver) (method : Text) (access : x.Expr) (args : x.Exprs) (rest : List Kind) → AreShapedExprs args → exprs_depth args ≤ room
      → call_or room inner list object method access (kind.Sym y.OpenParen ∷ write_exprs args (kind.Sym y.CloseParen ∷ rest)) ≡ Ok (x.Call object method args, rest)
  call_read object method access args rest s low =
      rw (arguments_read room inner list reads args rest s low) (ap (λ args. Ok (x.Call object method args, rest)) (exprs_listed args))

  pub access_read : (object : x.AnyReceiver) (method : Text) (access : x.Expr) (rest : List Kind) → begins_with y.OpenParen (first rest) ≡ false
      → call_or room inner list object method access rest ≡ Ok (access, rest)
  access_read object method access rest h = let g : is_at y.OpenParen rest ≡ false = sym (at_first y.OpenParen rest) ∙ h in rw g refl

  -- what is made of a receiver, a name and perhaps arguments
  pub call_sound : (object : x.AnyReceiver) (method : Text) (access : x.Expr) (ts us : List Kind) (r : x.Expr × List Kind) → IsShapedAnyReceiver object → any_receiver_depth object ≤ room
      → ts ≡ write_qualifier object (kind.Ident method ∷ us)
      → (begins_with y.OpenParen (first us) ≡ false → Operand room ts (access, us))
      → call_or room inner list object method access us ≡ Ok r → Operand room ts r
  call_sound object method access ts [] r s low same plain h = subst (Operand room ts) (ok_is h) (plain refl)
  call_sound object method access ts (token ∷ us) r s low same plain h =
      elim (chosen (is_symbol y.OpenParen token) _ _ _ h) [
        | inl t ↦
            (let a = bind_ok (arguments room inner list us) _ r t.1 in
            let found = arguments_sound room inner list reads us a.0 a.1 in
            let low_args : exprs_depth (x.exprs a.0.0) ≤ room = found.low in
            subst (Operand room ts) (ok_is a.2)
            (record {
              shaped = (s, found.shaped);
              tight = omega arith;
              not_least = refl;
              low = omega arith;
              written = same ∙ ap (λ token. write_qualifier object (kind.Ident method ∷ token ∷ us)) (is_symbol_is y.OpenParen token t.0)
                  ∙ ap (λ us. write_qualifier object (kind.Ident method ∷ kind.Sym y.OpenParen ∷ us)) found.written;
              ended = tt;
            }))
        | inr t ↦ subst (Operand room ts) (ok_is t.1) (plain t.0)
      ]

  -- ---- names

  name_read : (all : List Text) (rest : List Kind) → not (is_empty all) ≡ true → begins_with y.Dot (first rest) ≡ false → begins_with y.OpenParen (first rest) ≡ false
      → operand room inner list Nothing (write_all all rest) ≡ Ok (x.NameExpr (name_of all), rest)
  unfolding operand after_dotted
  name_read [] rest some dot paren = absurd (cc)
  name_read (head ∷ all) rest some dot paren =
      let d = dotted_name true [] head all rest dot in
      rw (d.read, access_read (receiver_of d.front) d.last (x.NameExpr (name_of (d.front ++ d.last ∷ []))) rest paren) (ap (λ all. Ok (x.NameExpr (name_of all), rest)) d.parts)

  this_read : (all : List Text) (rest : List Kind) → not (is_empty all) ≡ true
      → operand room inner list Nothing (write_all all (kind.Sym y.Dot ∷ kind.Word k.This ∷ rest)) ≡ Ok (x.This (Some (name_of all)), rest)
  unfolding operand after_dotted
  this_read [] rest some = absurd (cc)
  this_read (head ∷ all) rest some =
      let d = dotted_this [] head all rest in
      rw d.read (ap (λ all. Ok (x.This (Some (name_of all)), rest)) d.parts)

  own_call_read : (method : Text) (args : x.Exprs) (rest : List Kind) → AreShapedExprs args → exprs_depth args ≤ room
      → operand room inner list Nothing (kind.Ident method ∷ kind.Sym y.OpenParen ∷ write_exprs args (kind.Sym y.CloseParen ∷ rest)) ≡ Ok (x.Call x.no_receiver method args, rest)
  unfolding operand after_dotted
  own_call_read method args rest s low =
      let us = kind.Sym y.OpenParen ∷ write_exprs args (kind.Sym y.CloseParen ∷ rest) in
      rw (dotted_end true [] method us refl) (call_read x.no_receiver method (x.NameExpr (name_of (method ∷ []))) args rest s low)

  name_call_read : (all : List Text) (method : Text) (args : x.Exprs) (rest : List Kind) → not (is_empty all) ≡ true → AreShapedExprs args → exprs_depth args ≤ room
      → operand room inner list Nothing (write_all all (kind.Sym y.Dot ∷ kind.Ident method ∷ kind.Sym y.OpenParen ∷ write_exprs args (kind.Sym y.CloseParen ∷ rest)))
      ≡ Ok (x.Call (x.a_receiver (x.OfName (name_of all))) method args, rest)
  unfolding operand after_dotted
  name_call_read [] method args rest some s low = absurd (cc)
  name_call_read (head ∷ all) method args rest some s low =
      let us = kind.Sym y.OpenParen ∷ write_exprs args (kind.Sym y.CloseParen ∷ rest) in
      rw (dotted_method true [] head all method us, dotted_end true (head ∷ all) method us refl)
      (call_read (x.a_receiver (x.OfName (name_of (head ∷ all)))) method (x.NameExpr (name_of (head ∷ all ++ method ∷ []))) args rest s low)

  -- ---- operators in front

  -- the bound is there since a part has a level
  has_room : (value : x.Expr) → expr_depth value ≤ room → ltb room 1 ≡ false
  has_room value low = let pos = depth_pos value in le-ltb room 1 (omega arith)

  negated_read : (ts : List Kind) (value : x.Expr) (rest : List Kind) → starts_expr (first ts) ≡ true → inner Nothing 12 ts ≡ Ok (value, rest)
      → negated room inner list ts ≡ Ok (x.Unary y.Minus value, rest)
  unfolding negated
  negated_read [] value rest starts h = absurd (cc)
  negated_read (token ∷ ts) value rest starts h =
      ap (λ b. cond b (Ok (x.Unary y.Minus (x.Lit token), ts)) (and_then (inner Nothing 12 (token ∷ ts)) (λ e rest. Ok (x.Unary y.Minus e, rest)))) (begun_not_least token starts) ∙ rw h refl

  least_read : (token : Kind) (rest : List Kind) → is_least_kind token ≡ true → negated room inner list (token ∷ rest) ≡ Ok (x.Unary y.Minus (x.Lit token), rest)
  unfolding negated
  least_read token rest h = ap (λ b. cond b (Ok (x.Unary y.Minus (x.Lit token), rest)) (and_then (inner Nothing 12 (token ∷ rest)) (λ e rest. Ok (x.Unary y.Minus e, rest)))) h

  minus_read : (value : x.Expr) (rest : List Kind) (b : Bool) → is_least value ≡ b → IsShapedExpr (x.Unary y.Minus value) → expr_depth value ≤ room → LastEnds (x.Unary y.Minus value) (first rest)
      → negated room inner list (write_expr value rest) ≡ Ok (x.Unary y.Minus value, rest)
  minus_read value rest true e s low ended =
      let l = least_is value e in
      subst (λ value. negated room inner list (write_expr value rest) ≡ Ok (x.Unary y.Minus value, rest)) (sym l.1) (least_read l.0 rest l.2)
  minus_read value rest false e s low ended =
      let after : Ends 12 value (first rest) = subst (λ b. Unless b (Ends 12 value (first rest))) e ended in
      negated_read (write_expr value rest) value rest (begins_any value rest s.3 e) (reads.complete 12 value rest (record { shaped = s.3; fits = (s.1, not_from_false _ e); low = low }) after)

  sign_read : (value : x.Expr) (rest : List Kind) → not (is_least value) ≡ true → IsShapedExpr value → 12 ≤ level value → expr_depth value ≤ room → Unless (is_least value) (Ends 12 value (first rest))
      → inner Nothing 12 (write_expr value rest) ≡ Ok (value, rest)
  sign_read value rest plain s tight low ended =
      let after : Ends 12 value (first rest) = subst (λ b. Unless b (Ends 12 value (first rest))) (not-true _ plain) ended in
      reads.complete 12 value rest (record { shaped = s; fits = (tight, plain); low = low }) after

  unary_read : (op : Symbol) (value : x.Expr) (rest : List Kind) → IsShapedExpr (x.Unary op value) → expr_depth value ≤ room → LastEnds (x.Unary op value) (first rest)
      → operand room inner list Nothing (kind.Sym op ∷ write_expr value rest) ≡ Ok (x.Unary op value, rest)
  unfolding operand
  unary_read y.Minus value rest s low ended = rw (has_room value low) (minus_read value rest (is_least value) refl s low ended)
  unary_read y.Plus value rest s low ended = rw (has_room value low, sign_read value rest s.2 s.3 s.1 low ended) refl
  unary_read y.Tilde value rest s low ended = rw (has_room value low, sign_read value rest s.2 s.3 s.1 low ended) refl
  unary_read y.Not value rest s low ended = rw (has_room value low, sign_read value rest s.2 s.3 s.1 low ended) refl
  unary_read _ value rest s low ended = absurd (let h = s.0 in cc)

  pre_step_read : (op : Symbol) (value : x.Expr) (rest : List Kind) → IsShapedExpr (x.PreStep op value) → expr_depth value ≤ room → Ends 12 value (first rest)
      → operand room inner list Nothing (kind.Sym op ∷ write_expr value rest) ≡ Ok (x.PreStep op value, rest)
  unfolding operand
  pre_step_read y.PlusPlus value rest s low ended = rw (has_room value low, reads.complete 12 value rest (record { shaped = s.2; fits = s.1; low = low }) ended) refl
  pre_step_read y.MinusMinus value rest s low ended = rw (has_room value low, reads.complete 12 value rest (record { shaped = s.2; fits = s.1; low = low }) ended) refl
  pre_step_read _ value rest s low ended = absurd (let h = s.0 in cc)

  literal_read : (token : Kind) (rest : List Kind) → is_literal token ≡ true → is_least_kind token ≡ false → operand room inner list Nothing (token ∷ rest) ≡ Ok (x.Lit token, rest)
  unfolding operand
  literal_read (kind.Ident name) rest h g = absurd (cc)
  literal_read (kind.Sym s) rest h g = absurd (cc)
  literal_read (kind.Word k.This) rest h g = absurd (cc)
  literal_read (kind.Word k.Super) rest h g = absurd (cc)
  literal_read (kind.Word k.New) rest h g = absurd (cc)
  literal_read token rest h g =
      ap (λ b. cond b (Ok (x.Lit token, rest)) (Err (NoTree, token ∷ rest))) (and_from (is_literal token) (not (is_least_kind token)) h (not_from_false _ g))

  -- ---- behind `super`

  super_select_read : (member : Text) (rest : List Kind) → begins_with y.OpenParen (first rest) ≡ false
      → operand room inner list Nothing (kind.Word k.Super ∷ kind.Sym y.Dot ∷ kind.Ident member ∷ rest) ≡ Ok (x.SuperSelect member, rest)
  unfolding operand super_member
  super_select_read member rest h = access_read (x.a_receiver x.Super) member (x.SuperSelect member) rest h

  super_call_read : (method : Text) (args : x.Exprs) (rest : List Kind) → AreShapedExprs args → exprs_depth args ≤ room
      → operand room inner list Nothing (kind.Word k.Super ∷ kind.Sym y.Dot ∷ kind.Ident method ∷ kind.Sym y.OpenParen ∷ write_exprs args (kind.Sym y.CloseParen ∷ rest)) ≡ Ok (x.Call (x.a_receiver x.Super) method args, rest)
  unfolding operand super_member
  super_call_read method args rest s low = call_read (x.a_receiver x.Super) method (x.SuperSelect method) args rest s low

  -- ---- what is written with no part in front is read

  new_is : (ts : List Kind) → operand room inner list Nothing (kind.Word k.New ∷ ts) ≡ creation room inner list ts
  unfolding operand
  new_is ts = refl

  paren_is : (ts : List Kind) → 1 ≤ room → operand room inner list Nothing (kind.Sym y.OpenParen ∷ ts) ≡ in_parens room inner list ts
  unfolding operand
  paren_is ts some = rw (le-ltb room 1 some) refl

  this_is : (ts : List Kind) → operand room inner list Nothing (kind.Word k.This ∷ ts) ≡ Ok (x.This None, ts)
  unfolding operand
  this_is ts = refl

  pub operand_read : (e : x.Expr) (rest : List Kind) → IsShapedExpr e → 12 ≤ level e → is_least e ≡ false → expr_depth e ≤ suc room → LastEnds e (first rest) → goes_on_from e ≡ false
      → operand room inner list Nothing (write_expr e rest) ≡ Ok (e, rest)
  operand_read (x.Assign target op value) rest s t l low ended g = absurd (omega arith)
  operand_read (x.Cond c a b) rest s t l low ended g = absurd (omega arith)
  operand_read (x.Binary left op right) rest s t l low ended g = absurd (let b = binary_low op in omega arith)
  operand_read (x.IsA value ty) rest s t l low ended g = absurd (omega arith)
  operand_read (x.Unary op value) rest s t l low ended g = unary_read op value rest s (omega arith) ended
  operand_read (x.Cast ty value) rest s t l low ended g =
      let pos = depth_pos value in
      paren_is _ (omega arith) ∙ casts_read room inner list reads ty value rest s (omega arith) ended
  operand_read (x.PreStep op value) rest s t l low ended g = pre_step_read op value rest s (omega arith) ended
  operand_read (x.PostStep value op) rest s t l low ended g = absurd (cc)
  operand_read (x.Lit token) rest s t l low ended g = literal_read token rest s l
  operand_read (x.This None) rest s t l low ended g = this_is rest
  operand_read (x.This (Some n)) rest s t l low ended g = this_read n.parts rest s
  operand_read (x.Paren inside) rest s t l low ended g =
      let pos = depth_pos inside in
      paren_is _ (omega arith) ∙ parens_read room inner list reads inside rest (record { shaped = s.1; fits = s.0; low = omega arith }) ended
  operand_read (x.NameExpr n) rest s t l low ended g = name_read n.parts rest s ended.0 ended.1
  operand_read (x.Select object name) rest s t l low ended g = absurd (cc)
  operand_read (x.SuperSelect name) rest s t l low ended g = super_select_read name rest ended
  operand_read (x.Index array at) rest s t l low ended g = absurd (cc)
  operand_read (x.Call x.no_receiver name args) rest s t l low ended g = own_call_read name args rest s.1 (omega arith)
  operand_read (x.Call (x.a_receiver (x.Of object)) name args) rest s t l low ended g = absurd (cc)
  operand_read (x.Call (x.a_receiver (x.OfName n)) name args) rest s t l low ended g = name_call_read n.parts name args rest s.0 s.1 (omega arith)
  operand_read (x.Call (x.a_receiver x.Super) name args) rest s t l low ended g = super_call_read name args rest s.1 (omega arith)
  operand_read (x.New class args) rest s t l low ended g = new_is _ ∙ new_read room inner list reads lists class args rest s.0 s.1 (omega arith)
  operand_read (x.NewArray element ds more items) rest s t l low ended g = new_is _ ∙ new_array_read room inner list reads lists element ds more items rest s low ended

  -- ---- what is read is written

  named_sound : (d : Dotted) (ts us : List Kind) (r : x.Expr × List Kind) → DottedFound ts (d, us) → after_dotted room inner list d us ≡ Ok r → Operand room ts r
  unfolding after_dotted
  named_sound (Enclosing before last) ts us r found h =
      subst (Operand room ts) (ok_is h)
      (record { shaped = has_parts before last; tight = omega arith; not_least = refl; low = omega arith; written = found.written; ended = tt })
  named_sound (Plain before last) ts us r found h =
      call_sound (receiver_of before) last (x.NameExpr (name_of (before ++ last ∷ []))) ts us r (shaped_receiver before) (low_receiver room before)
      (found.written ∙ received before last us)
      (λ paren. record { shaped = has_parts before last; tight = omega arith; not_least = refl; low = omega arith; written = found.written; ended = (found.ended, paren) }) h

  super_sound : (ts : List Kind) (r : x.Expr × List Kind) → super_member room inner list ts ≡ Ok r → Operand room (kind.Word k.Super ∷ ts) r
  unfolding super_member
  super_sound ts r h =
      let a = bind_ok (expect y.Dot ts) _ r h in
      let dot = expect_sound y.Dot ts a.0 a.1 in
      let b = bind_ok (identifier a.0.1) _ r a.2 in
      let member = identifier_token.took a.0.1 b.0 b.1 in
      let same : kind.Word k.Super ∷ ts ≡ kind.Word k.Super ∷ kind.Sym y.Dot ∷ kind.Ident b.0.0 ∷ b.0.1 = ap (λ ts. kind.Word k.Super ∷ ts) (dot ∙ ap (λ us. kind.Sym y.Dot ∷ us) member) in
      call_sound (x.a_receiver x.Super) b.0.0 (x.SuperSelect b.0.0) (kind.Word k.Super ∷ ts) b.0.1 r tt (omega arith) same
      (λ paren. record { shaped = tt; tight = omega arith; not_least = refl; low = omega arith; written = same; ended = paren }) b.2

  -- an operator and its operand
  unary_made : (op : Symbol) (ts : List Kind) (r : x.Expr × List Kind) → is_unary op ≡ true → and_then (inner Nothing 12 ts) (λ e rest. Ok (x.Unary op e, rest)) ≡ Ok r → Operand room (kind.Sym op ∷ ts) r
  unary_made op ts r u h =
      let a = bind_ok (inner Nothing 12 ts) _ r h in
      let value = reads.sound 12 ts a.0 (omega arith) a.1 in
      let low = value.is.low in
      subst (Operand room (kind.Sym op ∷ ts)) (ok_is a.2)
      (record {
        shaped = (u, value.is.fits.0, or_right (is_minus op) _ value.is.fits.1, value.is.shaped);
        tight = omega arith;
        not_least = refl;
        low = omega arith;
        written = ap (λ ts. kind.Sym op ∷ ts) value.written;
        ended = unless (is_least a.0.0) (Ends 12 a.0.0 (first a.0.1)) (λ e. value.ended);
      })

  pub pre_step_made : (op : Symbol) (ts : List Kind) (r : x.Expr × List Kind) → is_step op ≡ true → and_then (inner Nothing 12 ts) (λ e rest. Ok (x.PreStep op e, rest)) ≡ Ok r → Operand room (kind.Sym op ∷ ts) r
  pre_step_made op ts r u h =
      let a = bind_ok (inner Nothing 12 ts) _ r h in
      let value = reads.sound 12 ts a.0 (omega arith) a.1 in
      let low = value.is.low in
      subst (Operand room (kind.Sym op ∷ ts)) (ok_is a.2)
      (record { shaped = (u, value.is.fits, value.is.shaped); tight = omega arith; not_least = refl; low = omega arith; written = ap (λ ts. kind.Sym op ∷ ts) value.written; ended = value.ended })

  pub prefix_sound : (op : Symbol) (ts : List Kind) (r : x.Expr × List Kind) → prefix room inner list op ts ≡ Ok r → Operand room (kind.Sym op ∷ ts) r
  prefix_sound op ts r h =
      elim (chosen (is_unary op) _ _ _ h) [
        | inl u ↦
            (elim (chosen (ltb room 1) _ _ _ u.1) [
              | inl t ↦ absurd (err_ok t.1)
              | inr t ↦ unary_made op ts r u.0 t.1
            ])
        | inr u ↦
            (elim (chosen (is_step op) _ _ _ u.1) [
              | inl v ↦
                  (elim (chosen (ltb room 1) _ _ _ v.1) [
                    | inl t ↦ absurd (err_ok t.1)
                    | inr t ↦ pre_step_made op ts r v.0 t.1
                  ])
              | inr v ↦ absurd (err_ok v.1)
            ])
      ]

  negated_sound : (ts : List Kind) (r : x.Expr × List Kind) → 1 ≤ room → negated room inner list ts ≡ Ok r → Operand room (kind.Sym y.Minus ∷ ts) r
  unfolding negated
  negated_sound [] r some h = absurd (err_ok h)
  negated_sound (token ∷ ts) r some h =
      elim (chosen (is_least_kind token) _ _ _ h) [
        | inl t ↦
            subst (Operand room (kind.Sym y.Minus ∷ token ∷ ts)) (ok_is t.1)
            (record {
              shaped = (refl, omega arith, refl, least_literal token t.0);
              tight = omega arith;
              not_least = refl;
              low = omega arith;
              written = refl;
              ended = subst (λ b. Unless b (Ends 12 (x.Lit token) (first ts))) (sym t.0) tt;
            })
        | inr t ↦ unary_made y.Minus (token ∷ ts) r refl t.1
      ]

  literal_sound : (token : Kind) (ts : List Kind) (r : x.Expr × List Kind) → cond {A = Outcome x.Expr} (is_plain_literal token) (Ok (x.Lit token, ts)) (Err (NoTree, token ∷ ts)) ≡ Ok r → Operand room (token ∷ ts) r
  literal_sound token ts r h =
      elim (chosen (is_plain_literal token) _ _ _ h) [
        | inl t ↦
            (let p = and_parts (is_literal token) (not (is_least_kind token)) t.0 in
            subst (Operand room (token ∷ ts)) (ok_is t.1) (record { shaped = p.0; tight = omega arith; not_least = not-true _ p.1; low = omega arith; written = refl; ended = tt }))
        | inr t ↦ absurd (err_ok t.1)
      ]

  pub operand_sound : (ts : List Kind) (r : x.Expr × List Kind) → operand room inner list Nothing ts ≡ Ok r → Operand room ts r
  unfolding operand
  operand_sound [] r h = absurd (err_ok h)
  operand_sound (kind.Ident head ∷ ts) r h =
      let d = bind_ok (dotted true [] head ts) _ r h in
      named_sound d.0.0 (kind.Ident head ∷ ts) d.0.1 r (dotted_sound true [] head ts d.0 d.1) d.2
  operand_sound (kind.Word k.This ∷ ts) r h =
      subst (Operand room (kind.Word k.This ∷ ts)) (ok_is h) (record { shaped = tt; tight = omega arith; not_least = refl; low = omega arith; written = refl; ended = tt })
  operand_sound (kind.Word k.Super ∷ ts) r h = super_sound ts r h
  operand_sound (kind.Word k.New ∷ ts) r h = creation_sound room inner list reads lists ts r h
  operand_sound (kind.Sym y.OpenParen ∷ ts) r h =
      elim (chosen (ltb room 1) _ _ _ h) [
        | inl t ↦ absurd (err_ok t.1)
        | inr t ↦ in_parens_sound room inner list reads ts r (ltb-false room 1 t.0) t.1
      ]
  operand_sound (kind.Sym y.Minus ∷ ts) r h =
      elim (chosen (ltb room 1) _ _ _ h) [
        | inl t ↦ absurd (err_ok t.1)
        | inr t ↦ negated_sound ts r (ltb-false room 1 t.0) t.1
      ]
  operand_sound (kind.Sym s ∷ ts) r h = prefix_sound s ts r h
  operand_sound (token ∷ ts) r h = literal_sound token ts r h
