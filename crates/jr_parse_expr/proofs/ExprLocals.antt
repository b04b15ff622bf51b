-- An expression is read the same whatever stands behind, and with more levels.
use Rattle.std.proofs.Common.{◌≡◌, ℕ, zero, suc, ◌+◌, ◌-◌, zero-add, ◌<◌, ◌≤◌, true, cond, List, [], ◌∷◌, ◌++◌, length, Option, Some, None, Ok, refl, sym, ap, ◌∙◌, subst, arith}
use Rattle.jr_base.specs.declared.text.Text.{Text}
use Rattle.jr_base.specs.declared.kind.Kind.{Kind}
use Rattle.jr_base.specs.declared.kind.Kind.TheVariants as kind
use Rattle.jr_base.specs.declared.kind.Symbol.{Symbol}
use Rattle.jr_base.specs.declared.kind.Symbol.TheVariants as y
use Rattle.jr_base.specs.declared.kind.Keyword.TheVariants as k
use Rattle.jr_tree.specs.declared.tree.Name.{Name}
use Rattle.jr_tree.specs.declared.tree.Primitive.{Primitive}
use Rattle.jr_tree.specs.declared.tree.Base.{Base}
use Rattle.jr_tree.specs.declared.tree.Base.TheVariants as base
use Rattle.jr_tree.specs.Levels.{is_unary, is_step, is_least_kind}
use Rattle.jr_tree.specs.Mirror.Exprs as x
use Rattle.jr_parse_laws.specs.Parsers.{Parser, and_then, first, symbol_of, symbol_at, is_at, is_symbol, begins_with, pure, refuse, expect, identifier, many, after_comma, commas, ◌>>=◌, ◌>>◌}
use Rattle.jr_parse_laws.proofs.Outcomes.{and_then_when, cond_alike, cond_same, no_first}
use Rattle.jr_parse_laws.proofs.Exact.{expect_sound}
use Rattle.jr_parse_laws.proofs.Turns.{behind_shortens}
use Rattle.jr_parse_starts.specs.Starts.{begins_cast_operand, next_is, starts_expr, is_plain_literal, over}
use Rattle.jr_parse_expr.specs.Names.{name_of, type_of, primitive_kind, primitive_at, name, dims, element, Dotted, Plain, Enclosing, dotted}
use Rattle.jr_parse_expr.specs.Exprs as reader
use Rattle.jr_parse_expr.specs.Exprs.{Lead, Nothing, Named, Indexed, This, Super, skipping, next_token}
use Rattle.jr_parse_expr.proofs.Asked.{ReadsExprs, inner_keeps}
use Rattle.jr_parse_expr.proofs.Locals.{Kept, Local, here, along, local_pure, local_refuse, local_bind, kept_bind, local_skip, local_expect, local_identifier, local_on, local_if, looks_at, looks_first, local_over, kept_same, kept_if, local_many}
use Rattle.jr_parse_expr.proofs.NameLocals.{name_local, dims_local, looks_primitive, element_local, dotted_local}

pub looks_symbol : (ts us : List Kind) → first ts ≡ first us → symbol_at ts ≡ symbol_at us
looks_symbol [] [] e = refl
looks_symbol [] (k ∷ us) e = absurd (cc)
looks_symbol (k ∷ ts) [] e = absurd (cc)
looks_symbol (k ∷ ts) (j ∷ us) e = let same : k ≡ j = cc in ap symbol_of same

module _ (room : ℕ) (inner : Lead → ℕ → Parser x.Expr) (list : Parser x.InitList) where
  -- ---- the readers that take a token, as told by that token

  abbrev pub first_in : Option Kind → Parser x.Expr
  first_in None = refuse
  first_in (Some token) = reader.in_parens_by room inner list (primitive_kind token) token

  first_in_is : (us : List Kind) → first_in (first us) us ≡ reader.in_parens room inner list us
  unfolding reader.in_parens
  first_in_is [] = refl
  first_in_is (token ∷ us) = refl

  abbrev pub first_negated : Option Kind → Parser x.Expr
  first_negated None = refuse
  first_negated (Some token) = λ us. cond (is_least_kind token) (skipping (pure (x.Unary y.Minus (x.Lit token))) us) ((inner Nothing 12 >>= (λ v. pure (x.Unary y.Minus v))) us)

  pub first_negated_is : (us : List Kind) → first_negated (first us) us ≡ reader.negated room inner list us
  unfolding reader.negated
  first_negated_is [] = refl
  first_negated_is (token ∷ us) = refl

  abbrev first_created : Name → Option Kind → Parser x.Expr
  first_created n (Some (kind.Sym y.OpenParen)) = skipping (reader.arguments room inner list >>= (λ args. pure (x.New n (x.exprs args))))
  first_created n (Some (kind.Sym y.OpenBracket)) = over 1 room (skipping (reader.array room inner list (base.Named n)))
  first_created n _ = refuse

  first_created_is : (n : Name) (us : List Kind) → first_created n (first us) us ≡ next_token (reader.created_by room inner list n) us
  first_created_is n [] = refl
  first_created_is n (kind.Sym y.OpenParen ∷ us) = refl
  first_created_is n (kind.Sym y.OpenBracket ∷ us) = refl
  first_created_is n (token ∷ us) = refl

  abbrev first_sized : Primitive → Option Kind → Parser x.Expr
  first_sized p None = refuse
  first_sized p (Some token) = over 1 room (skipping (expect y.OpenBracket >> reader.array room inner list (base.Primitive p)))

  first_sized_is : (p : Primitive) (us : List Kind) → first_sized p (first us) us ≡ reader.creation_by room inner list (Some p) us
  first_sized_is p [] = refl
  first_sized_is p (token ∷ us) = refl

  abbrev pub first_prefix : Symbol → Parser x.Expr
  first_prefix s us =
      cond (is_unary s) (over 1 room (skipping (inner Nothing 12 >>= (λ v. pure (x.Unary s v)))) us)
      (cond (is_step s) (over 1 room (skipping (inner Nothing 12 >>= (λ v. pure (x.PreStep s v)))) us) (refuse us))

  abbrev pub first_operand : Option Kind → Parser x.Expr
  first_operand None = refuse
  first_operand (Some (kind.Ident head)) = skipping (dotted true [] head >>= reader.after_dotted room inner list)
  first_operand (Some (kind.Word k.This)) = skipping (pure (x.This None))
  first_operand (Some (kind.Word k.Super)) = skipping (reader.super_member room inner list)
  first_operand (Some (kind.Word k.New)) = skipping (reader.creation room inner list)
  first_operand (Some (kind.Sym y.OpenParen)) = over 1 room (skipping (reader.in_parens room inner list))
  first_operand (Some (kind.Sym y.Minus)) = over 1 room (skipping (reader.negated room inner list))
  first_operand (Some (kind.Sym s)) = first_prefix s
  first_operand (Some token) = λ us. cond (is_plain_literal token) (skipping (pure (x.Lit token)) us) (refuse us)

  pub first_operand_is : (us : List Kind) → first_operand (first us) us ≡ reader.operand room inner list Nothing us
  unfolding reader.operand
  first_operand_is [] = refl
  first_operand_is (kind.Ident head ∷ us) = refl
  first_operand_is (kind.Word k.This ∷ us) = refl
  first_operand_is (kind.Word k.Super ∷ us) = refl
  first_operand_is (kind.Word k.New ∷ us) = refl
  first_operand_is (kind.Sym y.OpenParen ∷ us) = refl
  first_operand_is (kind.Sym y.Minus ∷ us) = refl
  first_operand_is (kind.Sym s ∷ us) = refl
  first_operand_is (token ∷ us) = refl

  -- ---- sizes of an array: a turn, and then the others

  abbrev empties : Parser (List x.Expr × ℕ)
  empties = dims >>= (λ more. pure (([], suc more)))

  abbrev a_size : Parser (List x.Expr × ℕ) → Parser (List x.Expr × ℕ)
  a_size more = λ us. cond (is_at y.CloseBracket us) (skipping empties us) ((inner Nothing 0 >>= (λ v. expect y.CloseBracket >> (more >>= (λ r. pure ((v ∷ r.0, r.1)))))) us)

  abbrev a_turn : Parser (List x.Expr × ℕ) → Parser (List x.Expr × ℕ)
  a_turn more = λ us. cond (is_at y.OpenBracket us) (skipping (a_size more) us) (Ok (([], 0), us))

  module _ (reads : ReadsExprs room inner) where
    size_shortens : (ts : List Kind) (v : x.Expr) (rest : List Kind) (u : Unit {0}) (left : List Kind) → inner Nothing 0 ts ≡ Ok (v, rest) → expect y.CloseBracket rest ≡ Ok (u, left) → length left < length ts
    size_shortens ts v rest u left h g =
        let a = inner_keeps room inner reads ts v rest h in
        let b = ap (λ (ts : List Kind). length ts) (expect_sound y.CloseBracket rest (u, left) g) in
        omega arith

    more_sizes : (turns : ℕ) (ts : List Kind) → length ts ≤ turns → reader.sizes_from room inner list (suc turns) ts ≡ reader.sizes_from room inner list turns ts
    more_sizes zero [] l = refl
    more_sizes zero (token ∷ ts) l = absurd (omega arith)
    more_sizes (suc turns) [] l = refl
    more_sizes (suc turns) (token ∷ ts) l =
        cond_same (is_symbol y.OpenBracket token) _ _ (Ok (([], 0), token ∷ ts)) (λ _. cond_alike (is_at y.CloseBracket ts) (skipping empties ts) _ _ (λ _.
        and_then_when (inner Nothing 0 ts) _ _ (λ v rest i. and_then_when (expect y.CloseBracket rest) _ _ (λ u left j.
        let s = size_shortens ts v rest u left i j in
        ap (λ o. and_then o (λ r. pure ((v ∷ r.0, r.1)))) (more_sizes turns left (omega arith))))))

    enough_sizes : (d : ℕ) (ts : List Kind) → reader.sizes_from room inner list (d + length ts) ts ≡ reader.sizes_from room inner list (length ts) ts
    enough_sizes zero ts = rw zero-add refl
    enough_sizes (suc d) ts = let n : suc d + length ts ≡ suc (d + length ts) = omega arith in ap (λ n. reader.sizes_from room inner list n ts) n ∙ more_sizes (d + length ts) ts (omega arith) ∙ enough_sizes d ts

    sizes_unroll : (ts : List Kind) → a_turn (reader.sizes room inner list) ts ≡ reader.sizes room inner list ts
    unfolding reader.sizes
    sizes_unroll [] = refl
    sizes_unroll (token ∷ ts) =
        cond_same (is_symbol y.OpenBracket token) _ _ (Ok (([], 0), token ∷ ts)) (λ _. cond_alike (is_at y.CloseBracket ts) (skipping empties ts) _ _ (λ _.
        and_then_when (inner Nothing 0 ts) _ _ (λ v rest i. and_then_when (expect y.CloseBracket rest) _ _ (λ u left j.
        let s = size_shortens ts v rest u left i j in
        let d : (length ts - length left) + length left ≡ length ts = omega arith in
        ap (λ o. and_then o (λ r. pure ((v ∷ r.0, r.1)))) (sym (enough_sizes (length ts - length left) left) ∙ ap (λ n. reader.sizes_from room inner list n left) d)))))

module _ (room other : ℕ) (le : room ≤ other) where
  pub record NearExprs (inner inner' : Lead → ℕ → Parser x.Expr) : Type 0 where
    pub plain : (least : ℕ) → Local room other le (inner Nothing least) (inner' Nothing least)
    -- where a level is left, also behind what was read before
    pub led : 1 ≤ room → (lead : Lead) (least : ℕ) → Local room other le (inner lead least) (inner' lead least)

  module _ (inner inner' : Lead → ℕ → Parser x.Expr) (list list' : Parser x.InitList) (reads : ReadsExprs room inner) (reads' : ReadsExprs other inner') (near : NearExprs inner inner') (near_list : Local room other le list list') where
    abbrev pub L : {A : Type 0} → Parser A → Parser A → Type 0
    L p q = Local room other le p q

    pub bind : {A B : Type 0} (p q : Parser A) (f g : A → Parser B) → L p q → ((a : A) → L (f a) (g a)) → L (p >>= f) (q >>= g)
    bind p q f g one next = local_bind room other le p q f g one next

    pub give : {A : Type 0} (a : A) → L (pure a) (pure a)
    give a = local_pure room other le a

    -- a part, and then a symbol
    pub closed_by : {A B : Type 0} (p q : Parser A) (s : Symbol) (f g : A → Parser B) → L p q → ((a : A) → L (f a) (g a)) → L (p >>= (λ a. expect s >> f a)) (q >>= (λ a. expect s >> g a))
    closed_by p q s f g one next = bind p q _ _ one (λ a. bind (expect s) (expect s) _ _ (local_expect room other le s) (λ u. next a))

    -- ---- arguments

    item_local : L (after_comma (inner Nothing 0)) (after_comma (inner' Nothing 0))
    item_local = bind (expect y.Comma) (expect y.Comma) (λ u. inner Nothing 0) (λ u. inner' Nothing 0) (local_expect room other le y.Comma) (λ u. near.plain 0)

    others_local : L (many (begins_with y.Comma) (after_comma (inner Nothing 0))) (many (begins_with y.Comma) (after_comma (inner' Nothing 0)))
    others_local =
        local_many room other le (begins_with y.Comma) (after_comma (inner Nothing 0)) (after_comma (inner' Nothing 0)) refl (behind_shortens y.Comma (inner Nothing 0) (inner_keeps room inner reads))
        (behind_shortens y.Comma (inner' Nothing 0) (inner_keeps other inner' reads')) item_local

    commas_local : L (commas (inner Nothing 0)) (commas (inner' Nothing 0))
    commas_local =
        bind (inner Nothing 0) (inner' Nothing 0) (λ a. many (begins_with y.Comma) (after_comma (inner Nothing 0)) >>= (λ all. pure (a ∷ all))) (λ a. many (begins_with y.Comma) (after_comma (inner' Nothing 0)) >>= (λ all. pure (a ∷ all))) (near.plain 0)
        (λ a. bind (many (begins_with y.Comma) (after_comma (inner Nothing 0))) (many (begins_with y.Comma) (after_comma (inner' Nothing 0))) (λ all. pure (a ∷ all)) (λ all. pure (a ∷ all)) others_local (λ all. give (a ∷ all)))

    any_local : L (reader.any_commas starts_expr (inner Nothing 0)) (reader.any_commas starts_expr (inner' Nothing 0))
    any_local =
        local_if room other le (λ ts. starts_expr (first ts)) (commas (inner Nothing 0)) (commas (inner' Nothing 0)) (pure []) (pure []) (looks_first room other le starts_expr) commas_local (give [])

    pub arguments_local : L (reader.arguments room inner list) (reader.arguments other inner' list')
    unfolding reader.arguments
    arguments_local = closed_by (reader.any_commas starts_expr (inner Nothing 0)) (reader.any_commas starts_expr (inner' Nothing 0)) y.CloseParen (λ all. pure all) (λ all. pure all) any_local (λ all. give all)

    pub call_local : (object : x.AnyReceiver) (method : Text) (access : x.Expr) → L (reader.call_or room inner list object method access) (reader.call_or other inner' list' object method access)
    call_local object method access =
        local_if room other le (is_at y.OpenParen) (skipping (reader.arguments room inner list >>= (λ args. pure (x.Call object method (x.exprs args))))) (skipping (reader.arguments other inner' list' >>= (λ args. pure (x.Call object method (x.exprs args)))))
        (pure access) (pure access) (looks_at room other le y.OpenParen)
        (local_skip room other le _ _ (bind (reader.arguments room inner list) (reader.arguments other inner' list') (λ args. pure (x.Call object method (x.exprs args))) (λ args. pure (x.Call object method (x.exprs args))) arguments_local
        (λ args. give (x.Call object method (x.exprs args))))) (give access)

    pub after_dotted_local : (d : Dotted) → L (reader.after_dotted room inner list d) (reader.after_dotted other inner' list' d)
    unfolding reader.after_dotted
    after_dotted_local (Enclosing before last) ts = give (x.This (Some (name_of (before ++ last ∷ [])))) ts
    after_dotted_local (Plain before last) ts = call_local (reader.receiver_of before) last (x.NameExpr (name_of (before ++ last ∷ []))) ts

    pub after_bracket_local : (n : Name) → L (reader.after_bracket room inner list n) (reader.after_bracket other inner' list' n)
    unfolding reader.after_bracket
    after_bracket_local n = closed_by (inner Nothing 0) (inner' Nothing 0) y.CloseBracket (λ at. pure (x.Index (x.NameExpr n) at)) (λ at. pure (x.Index (x.NameExpr n) at)) (near.plain 0) (λ at. give (x.Index (x.NameExpr n) at))

    pub super_local : L (reader.super_member room inner list) (reader.super_member other inner' list')
    unfolding reader.super_member
    super_local =
        bind (expect y.Dot) (expect y.Dot) _ _ (local_expect room other le y.Dot)
        (λ u. bind identifier identifier (λ member. reader.call_or room inner list (x.a_receiver x.Super) member (x.SuperSelect member)) (λ member. reader.call_or other inner' list' (x.a_receiver x.Super) member (x.SuperSelect member)) (local_identifier room other le)
        (λ member. call_local (x.a_receiver x.Super) member (x.SuperSelect member)))

    -- ---- casts and parentheses

    cast_local : (b : Base) (pairs : ℕ) → L (reader.cast room inner list b pairs) (reader.cast other inner' list' b pairs)
    cast_local b pairs = bind (inner Nothing 12) (inner' Nothing 12) (λ v. pure (x.Cast (type_of b pairs) v)) (λ v. pure (x.Cast (type_of b pairs) v)) (near.plain 12) (λ v. give (x.Cast (type_of b pairs) v))

    primitive_local : L (reader.primitive_cast room inner list) (reader.primitive_cast other inner' list')
    unfolding reader.primitive_cast
    primitive_local =
        bind element element _ _ (element_local room other le)
        (λ b. bind dims dims _ _ (dims_local room other le) (λ pairs. bind (expect y.CloseParen) (expect y.CloseParen) (λ u. reader.cast room inner list b pairs) (λ u. reader.cast other inner' list' b pairs) (local_expect room other le y.CloseParen) (λ u. cast_local b pairs)))

    name_in_local : (n : Name) → L (reader.name_in_parens room inner list n) (reader.name_in_parens other inner' list' n)
    unfolding reader.name_in_parens
    name_in_local n =
        local_if room other le (λ ts. next_is begins_cast_operand (first ts)) (reader.cast room inner list (base.Named n) 0) (reader.cast other inner' list' (base.Named n) 0) (pure (x.Paren (x.NameExpr n))) (pure (x.Paren (x.NameExpr n)))
        (looks_first room other le (next_is begins_cast_operand)) (cast_local (base.Named n) 0) (give (x.Paren (x.NameExpr n)))

    array_cast_local : (n : Name) → L (reader.array_cast room inner list n) (reader.array_cast other inner' list' n)
    unfolding reader.array_cast
    array_cast_local n =
        bind dims dims _ _ (dims_local room other le)
        (λ more. bind (expect y.CloseParen) (expect y.CloseParen) _ _ (local_expect room other le y.CloseParen)
        (λ u. local_if room other le (λ ts. next_is begins_cast_operand (first ts)) (reader.cast room inner list (base.Named n) (suc more)) (reader.cast other inner' list' (base.Named n) (suc more)) refuse refuse
        (looks_first room other le (next_is begins_cast_operand)) (cast_local (base.Named n) (suc more)) (local_refuse room other le)))

    pub closed_local : (v : x.Expr) → L (reader.closed v) (reader.closed v)
    closed_local v = bind (expect y.CloseParen) (expect y.CloseParen) (λ u. pure (x.Paren v)) (λ u. pure (x.Paren v)) (local_expect room other le y.CloseParen) (λ u. give (x.Paren v))

    led_closed : 1 ≤ room → (lead : Lead) → L (inner lead 0 >>= reader.closed) (inner' lead 0 >>= reader.closed)
    led_closed some lead = bind (inner lead 0) (inner' lead 0) reader.closed reader.closed (near.led some lead 0) closed_local

    bracket_local : 1 ≤ room → (n : Name) → L (reader.bracket_in_parens room inner list n) (reader.bracket_in_parens other inner' list' n)
    unfolding reader.bracket_in_parens
    bracket_local some n =
        local_if room other le (is_at y.CloseBracket) (skipping (reader.array_cast room inner list n)) (skipping (reader.array_cast other inner' list' n)) (inner (Indexed n) 0 >>= reader.closed) (inner' (Indexed n) 0 >>= reader.closed)
        (looks_at room other le y.CloseBracket) (local_skip room other le (reader.array_cast room inner list n) (reader.array_cast other inner' list' n) (array_cast_local n)) (led_closed some (Indexed n))

    dotted_by_local : 1 ≤ room → (before : List Text) (last : Text) (o : Option Symbol) → L (reader.dotted_in_parens_by room inner list before last o) (reader.dotted_in_parens_by other inner' list' before last o)
    dotted_by_local some before last (Some y.CloseParen) ts =
        local_skip room other le (reader.name_in_parens room inner list (name_of (before ++ last ∷ []))) (reader.name_in_parens other inner' list' (name_of (before ++ last ∷ []))) (name_in_local (name_of (before ++ last ∷ []))) ts
    dotted_by_local some before last (Some y.OpenBracket) ts =
        local_skip room other le (reader.bracket_in_parens room inner list (name_of (before ++ last ∷ []))) (reader.bracket_in_parens other inner' list' (name_of (before ++ last ∷ []))) (bracket_local some (name_of (before ++ last ∷ []))) ts
    dotted_by_local some before last o ts = led_closed some (Named (Plain before last)) ts

    dotted_in_local : 1 ≤ room → (d : Dotted) → L (reader.dotted_in_parens room inner list d) (reader.dotted_in_parens other inner' list' d)
    unfolding reader.dotted_in_parens
    dotted_in_local some (Enclosing before last) ts = led_closed some (Named (Enclosing before last)) ts
    dotted_in_local some (Plain before last) ts =
        local_on room other le symbol_at (reader.dotted_in_parens_by room inner list before last) (reader.dotted_in_parens_by other inner' list' before last) looks_symbol (dotted_by_local some before last) ts

    parens_by_local : 1 ≤ room → (o : Option Primitive) (token : Kind) → L (reader.in_parens_by room inner list o token) (reader.in_parens_by other inner' list' o token)
    parens_by_local some (Some p) token ts = primitive_local ts
    parens_by_local some None (kind.Ident head) ts =
        local_skip room other le (dotted true [] head >>= reader.dotted_in_parens room inner list) (dotted true [] head >>= reader.dotted_in_parens other inner' list')
        (bind (dotted true [] head) (dotted true [] head) (reader.dotted_in_parens room inner list) (reader.dotted_in_parens other inner' list') (dotted_local room other le true [] head) (dotted_in_local some)) ts
    parens_by_local some None token ts = bind (inner Nothing 0) (inner' Nothing 0) reader.closed reader.closed (near.plain 0) closed_local ts

    -- what comes first is looked at, and read again
    pub by_first : {A : Type 0} (f g : Option Kind → Parser A) (p q : Parser A) → ((us : List Kind) → f (first us) us ≡ p us) → ((us : List Kind) → g (first us) us ≡ q us) → ((o : Option Kind) → L (f o) (g o)) → L p q
    by_first f g p q fp gq one ts =
        subst (Kept room other le q ts) (fp ts) (kept_same room other le (λ us. g (first us) us) q gq ts (f (first ts) ts) (local_on room other le first f g (λ ts us same. same) one ts))

    first_in_local : 1 ≤ room → (o : Option Kind) → L (first_in room inner list o) (first_in other inner' list' o)
    first_in_local some None ts = local_refuse room other le ts
    first_in_local some (Some token) ts = parens_by_local some (primitive_kind token) token ts

    pub in_parens_local : 1 ≤ room → L (reader.in_parens room inner list) (reader.in_parens other inner' list')
    in_parens_local some =
        by_first (first_in room inner list) (first_in other inner' list') (reader.in_parens room inner list) (reader.in_parens other inner' list') (first_in_is room inner list) (first_in_is other inner' list') (first_in_local some)

    -- ---- creations

    from_kept : (turns : ℕ) (ts : List Kind) → length ts ≤ turns → Kept room other le (reader.sizes other inner' list') ts (reader.sizes_from room inner list turns ts)
    from_kept zero [] l =
        kept_same room other le (a_turn other inner' list' (reader.sizes other inner' list')) (reader.sizes other inner' list') (sizes_unroll other inner' list' reads') [] (Ok (([], 0), []))
        (here room other le (a_turn other inner' list' (reader.sizes other inner' list')) (λ w. Ok (([], 0), w)) [] (λ w f. let n = no_first w f in rw n refl))
    from_kept zero (token ∷ ts) l = absurd (omega arith)
    from_kept (suc turns) [] l =
        kept_same room other le (a_turn other inner' list' (reader.sizes other inner' list')) (reader.sizes other inner' list') (sizes_unroll other inner' list' reads') [] (Ok (([], 0), []))
        (here room other le (a_turn other inner' list' (reader.sizes other inner' list')) (λ w. Ok (([], 0), w)) [] (λ w f. let n = no_first w f in rw n refl))
    from_kept (suc turns) (token ∷ ts) l =
        kept_same room other le (a_turn other inner' list' (reader.sizes other inner' list')) (reader.sizes other inner' list') (sizes_unroll other inner' list' reads') (token ∷ ts) (reader.sizes_from room inner list (suc turns) (token ∷ ts))
        (kept_if room other le (is_at y.OpenBracket) (skipping (a_size other inner' list' (reader.sizes other inner' list'))) (λ us. Ok (([], 0), us)) (token ∷ ts) (a_size room inner list (reader.sizes_from room inner list turns) ts) (Ok (([], 0), token ∷ ts))
        (looks_at room other le y.OpenBracket)
        (λ _. along room other le (a_size other inner' list' (reader.sizes other inner' list')) (skipping (a_size other inner' list' (reader.sizes other inner' list'))) token ts (a_size room inner list (reader.sizes_from room inner list turns) ts) (λ us. refl)
        (kept_if room other le (is_at y.CloseBracket) (skipping (empties other inner' list')) (inner' Nothing 0 >>= (λ v. expect y.CloseBracket >> (reader.sizes other inner' list' >>= (λ r. pure ((v ∷ r.0, r.1)))))) ts
        (skipping (empties room inner list) ts) ((inner Nothing 0 >>= (λ v. expect y.CloseBracket >> (reader.sizes_from room inner list turns >>= (λ r. pure ((v ∷ r.0, r.1)))))) ts) (looks_at room other le y.CloseBracket)
        (λ _. local_skip room other le (empties room inner list) (empties other inner' list') (bind dims dims (λ more. pure (([], suc more))) (λ more. pure (([], suc more))) (dims_local room other le) (λ more. give (([], suc more)))) ts)
        (λ _. kept_bind room other le (inner' Nothing 0) (λ v. expect y.CloseBracket >> (reader.sizes_from room inner list turns >>= (λ r. pure ((v ∷ r.0, r.1))))) (λ v. expect y.CloseBracket >> (reader.sizes other inner' list' >>= (λ r. pure ((v ∷ r.0, r.1))))) ts
        (inner Nothing 0 ts) (near.plain 0 ts)
        (λ v i. kept_bind room other le (expect y.CloseBracket) (λ u. reader.sizes_from room inner list turns >>= (λ r. pure ((v.0 ∷ r.0, r.1)))) (λ u. reader.sizes other inner' list' >>= (λ r. pure ((v.0 ∷ r.0, r.1)))) v.1
        (expect y.CloseBracket v.1) (local_expect room other le y.CloseBracket v.1)
        (λ u j.
        let s = size_shortens room inner list reads ts v.0 v.1 u.0 u.1 i j in
        kept_bind room other le (reader.sizes other inner' list') (λ r. pure ((v.0 ∷ r.0, r.1))) (λ r. pure ((v.0 ∷ r.0, r.1))) u.1 (reader.sizes_from room inner list turns u.1) (from_kept turns u.1 (omega arith)) (λ r f. give ((v.0 ∷ r.0.0, r.0.1)) r.1))))))
        (λ _. here room other le (λ us. Ok (([], 0), us)) (λ w. Ok (([], 0), w)) (token ∷ ts) (λ w f. refl)))

    sizes_local : L (reader.sizes room inner list) (reader.sizes other inner' list')
    unfolding reader.sizes
    sizes_local ts = from_kept (length ts) ts (omega arith)

    sized_local : (b : Base) → L (reader.sized room inner list b) (reader.sized other inner' list' b)
    unfolding reader.sized
    sized_local b =
        closed_by (inner Nothing 0) (inner' Nothing 0) y.CloseBracket (λ size. reader.sizes room inner list >>= (λ r. pure (x.NewArray b (x.more_exprs size (x.exprs r.0)) r.1 x.no_list)))
        (λ size. reader.sizes other inner' list' >>= (λ r. pure (x.NewArray b (x.more_exprs size (x.exprs r.0)) r.1 x.no_list))) (near.plain 0)
        (λ size. bind (reader.sizes room inner list) (reader.sizes other inner' list') (λ r. pure (x.NewArray b (x.more_exprs size (x.exprs r.0)) r.1 x.no_list)) (λ r. pure (x.NewArray b (x.more_exprs size (x.exprs r.0)) r.1 x.no_list)) sizes_local
        (λ r. give (x.NewArray b (x.more_exprs size (x.exprs r.0)) r.1 x.no_list)))

    unsized_local : (b : Base) → L (reader.unsized room inner list b) (reader.unsized other inner' list' b)
    unfolding reader.unsized
    unsized_local b =
        bind dims dims (λ more. list >>= (λ items. pure (x.NewArray b x.no_exprs (suc more) (x.a_list items)))) (λ more. list' >>= (λ items. pure (x.NewArray b x.no_exprs (suc more) (x.a_list items)))) (dims_local room other le)
        (λ more. bind list list' (λ items. pure (x.NewArray b x.no_exprs (suc more) (x.a_list items))) (λ items. pure (x.NewArray b x.no_exprs (suc more) (x.a_list items))) near_list
        (λ items. give (x.NewArray b x.no_exprs (suc more) (x.a_list items))))

    array_local : (b : Base) → L (reader.array room inner list b) (reader.array other inner' list' b)
    unfolding reader.array
    array_local b =
        local_if room other le (is_at y.CloseBracket) (skipping (reader.unsized room inner list b)) (skipping (reader.unsized other inner' list' b)) (reader.sized room inner list b) (reader.sized other inner' list' b)
        (looks_at room other le y.CloseBracket) (local_skip room other le (reader.unsized room inner list b) (reader.unsized other inner' list' b) (unsized_local b)) (sized_local b)

    first_created_local : (n : Name) (o : Option Kind) → L (first_created room inner list n o) (first_created other inner' list' n o)
    first_created_local n None ts = local_refuse room other le ts
    first_created_local n (Some (kind.Sym y.OpenParen)) ts =
        local_skip room other le (reader.arguments room inner list >>= (λ args. pure (x.New n (x.exprs args)))) (reader.arguments other inner' list' >>= (λ args. pure (x.New n (x.exprs args))))
        (bind (reader.arguments room inner list) (reader.arguments other inner' list') (λ args. pure (x.New n (x.exprs args))) (λ args. pure (x.New n (x.exprs args))) arguments_local (λ args. give (x.New n (x.exprs args)))) ts
    first_created_local n (Some (kind.Sym y.OpenBracket)) ts =
        local_over room other le 1 (skipping (reader.array room inner list (base.Named n))) (skipping (reader.array other inner' list' (base.Named n)))
        (local_skip room other le (reader.array room inner list (base.Named n)) (reader.array other inner' list' (base.Named n)) (array_local (base.Named n))) ts
    first_created_local n (Some token) ts = local_refuse room other le ts

    pub created_local : (n : Name) → L (next_token (reader.created_by room inner list n)) (next_token (reader.created_by other inner' list' n))
    created_local n =
        by_first (first_created room inner list n) (first_created other inner' list' n) (next_token (reader.created_by room inner list n)) (next_token (reader.created_by other inner' list' n))
        (first_created_is room inner list n) (first_created_is other inner' list' n) (first_created_local n)

    primitive_array_local : (b : Base) → L (expect y.OpenBracket >> reader.array room inner list b) (expect y.OpenBracket >> reader.array other inner' list' b)
    primitive_array_local b =
        bind (expect y.OpenBracket) (expect y.OpenBracket) (λ u. reader.array room inner list b) (λ u. reader.array other inner' list' b) (local_expect room other le y.OpenBracket) (λ u. array_local b)

    pub creation_by_local : (o : Option Primitive) → L (reader.creation_by room inner list o) (reader.creation_by other inner' list' o)
    creation_by_local None ts =
        bind name name (λ n. next_token (reader.created_by room inner list n)) (λ n. next_token (reader.created_by other inner' list' n)) (name_local room other le) created_local ts
    creation_by_local (Some p) ts =
        by_first (first_sized room inner list p) (first_sized other inner' list' p) (reader.creation_by room inner list (Some p)) (reader.creation_by other inner' list' (Some p)) (first_sized_is room inner list p) (first_sized_is other inner' list' p)
        (first_sized_local p) ts where
          first_sized_local : (p : Primitive) (o : Option Kind) → L (first_sized room inner list p o) (first_sized other inner' list' p o)
          first_sized_local p None ts = local_refuse room other le ts
          first_sized_local p (Some token) ts =
              local_over room other le 1 (skipping (expect y.OpenBracket >> reader.array room inner list (base.Primitive p))) (skipping (expect y.OpenBracket >> reader.array other inner' list' (base.Primitive p)))
              (local_skip room other le (expect y.OpenBracket >> reader.array room inner list (base.Primitive p)) (expect y.OpenBracket >> reader.array other inner' list' (base.Primitive p)) (primitive_array_local (base.Primitive p))) ts

    pub creation_local : L (reader.creation room inner list) (reader.creation other inner' list')
    unfolding reader.creation
    creation_local = local_on room other le primitive_at (reader.creation_by room inner list) (reader.creation_by other inner' list') (looks_primitive room other le) creation_by_local
