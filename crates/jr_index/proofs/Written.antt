-- The labels of each tree stand for its tokens.
use Rattle.std.proofs.Common.{◌≡◌, ℕ, zero, suc, ◌+◌, Bool, true, false, List, [], ◌∷◌, ◌++◌, length, map, Option, Some, None, nat_lt, refl, sym, ap, ◌∙◌, subst, arith, append_assoc, append-nil}
use Rattle.std.specs.Prelude.{slice_index_or, is_some, if◌then◌else◌}
use Rattle.jr_base.specs.declared.text.Text.{Text}
use Rattle.jr_base.specs.declared.kind.Kind.{Kind}
use Rattle.jr_base.specs.declared.kind.Kind.TheVariants as token
use Rattle.jr_base.specs.declared.kind.Symbol.TheVariants as y
use Rattle.jr_base.specs.declared.kind.Keyword.{Keyword}
use Rattle.jr_base.specs.declared.kind.Keyword.TheVariants as k
use Rattle.jr_tree.specs.declared.tree.Name.{Name}
use Rattle.jr_tree.specs.declared.tree.Base.{Base}
use Rattle.jr_tree.specs.declared.tree.Base.TheVariants as base
use Rattle.jr_tree.specs.declared.tree.TypeUse.{TypeUse}
use Rattle.jr_tree.specs.declared.tree.Param.{Param}
use Rattle.jr_tree.specs.declared.tree.Modifier.{Modifier}
use Rattle.jr_tree.specs.declared.tree.ResultType.{ResultType}
use Rattle.jr_tree.specs.declared.tree.ResultType.TheVariants as outcome
use Rattle.jr_tree.specs.declared.tree.PackageDecl.{PackageDecl}
use Rattle.jr_tree.specs.declared.tree.Import.{Import}
use Rattle.jr_tree.specs.declared.tree.Import.TheVariants as import
use Rattle.jr_tree.specs.Mirror.Exprs as x
use Rattle.jr_tree.specs.Mirror.Stmts as s
use Rattle.jr_tree.specs.Mirror.Decls as d
use Rattle.jr_tree.specs.Words as w
use Rattle.jr_tree.specs.Words.{Tokens, word, mark, ident}
use Rattle.jr_tree.specs.Tokens as t
use Rattle.jr_tree.specs.Exprs as l
use Rattle.jr_tree.specs.Stmts as ls
use Rattle.jr_tree.specs.Decls as ld
use Rattle.jr_tree.specs.declared.label.Label.{Label}
use Rattle.jr_tree.specs.declared.label.Label.TheVariants as is
use Rattle.jr_tree.specs.declared.label.NameKind.{NameKind}
use Rattle.jr_tree.specs.declared.label.NameKind.TheVariants as kind
use Rattle.jr_tree.specs.declared.label.NamePlace.{NamePlace}
use Rattle.jr_tree.specs.declared.label.NamePlace.TheVariants as place
use Rattle.jr_tree.specs.declared.label.ReceiverKind.TheVariants as on
use Rattle.jr_tree.specs.declared.label.ImportKind.TheVariants as importing
use Rattle.jr_index.specs.Events as e
use Rattle.jr_index.specs.Events.{Events, Open, Close, Pass, Own, named, opens, closes, name_label}
use Rattle.jr_index.specs.Naming.{own_kind}
use Rattle.jr_index.proofs.Owning.{Stands, Owns, loose, two, two_loose, own_first, own_next, nothing, pass, passes, own, declare, own_last, node, owner, like, own_like}

-- one token, before others, and a pair of tokens round others
tok : (t : Kind) → Stands (Pass 1 ∷ []) (t ∷ [])
tok t = pass 1 (t ∷ []) refl

before : (t : Kind) {es : Events} {ts : Tokens} → Stands es ts → Stands (Pass 1 ∷ es) (t ∷ ts)
before t h = two (tok t) h

around : (a b : Kind) {es : Events} {ts : Tokens} → Stands es ts → Stands (Pass 1 ∷ es ++ Pass 1 ∷ []) (a ∷ (ts ++ b ∷ []))
around a b h = two (before a h) (tok b)

parens : {es : Events} {ts : Tokens} → Stands es ts → Stands (Pass 1 ∷ es ++ Pass 1 ∷ []) (w.parens ts)
parens h = around (token.Sym y.OpenParen) (token.Sym y.CloseParen) h

-- two tokens before others, and one before the first of a list
before_two : (a b : Kind) {es : Events} {ts : Tokens} → Stands es ts → Stands (Pass 2 ∷ es) (a ∷ b ∷ ts)
before_two a b h = two (pass 2 (a ∷ b ∷ []) refl) h

before_none : {es : Events} {ts : Tokens} → Stands es ts → Stands (Pass 0 ∷ es) ts
before_none h = two (pass 0 [] refl) h

maybe : (b : Bool) (t : Kind) → Stands (e.if_there b ∷ []) (w.if_true b (t ∷ []))
maybe true t = pass 1 (t ∷ []) refl
maybe false t = pass 0 [] refl

brackets_length : (n : ℕ) → length (w.brackets n) ≡ n + n
brackets_length zero = refl
brackets_length (suc n) = let h = brackets_length n in omega arith

brackets_are : (n : ℕ) → Stands (e.brackets n) (w.brackets n)
brackets_are n = passes n n (w.brackets n) (brackets_length n)

modifiers_length : (ms : List Modifier) → length (w.modifiers_tokens ms) ≡ length ms
modifiers_length [] = refl
modifiers_length (m ∷ ms) = ap suc (modifiers_length ms)

modifiers_are : (ms : List Modifier) → Stands (Pass (length ms) ∷ []) (w.modifiers_tokens ms)
modifiers_are ms = pass (length ms) (w.modifiers_tokens ms) (modifiers_length ms)

-- ---- names

closes_last : (dots n : ℕ) → closes dots (suc (suc n)) ≡ closes dots (suc n) ++ Pass 1 ∷ Own ∷ Close ∷ []
closes_last dots zero = refl
closes_last dots (suc n) = ap (λ all. Pass dots ∷ Own ∷ Close ∷ all) (closes_last 1 n)

module _ (meant : NameKind) (at : NamePlace) (parts : List Text) where
  abbrev part : ℕ → Text
  part i = slice_index_or parts i []

  abbrev one : ℕ → Label
  one i = name_label meant at (length parts) i

  -- the tokens of the first identifiers
  abbrev first_tokens : ℕ → Tokens
  first_tokens zero = ident (part 0)
  first_tokens (suc i) = first_tokens i ++ token.Sym y.Dot ∷ ident (part (suc i))

  kind_by : (b q : Bool) (x : Text) → own_kind (if b then is.Name (l.left_kind meant) place.Qualifier q else is.Name meant at q) x ≡ token.Ident x
  kind_by true q x = refl
  kind_by false q x = refl

  own_part : (i : ℕ) → Owns (own_kind (one i) (part i)) (Own ∷ []) (token.Ident (part i) ∷ [])
  own_part i = subst (λ t. Owns t (Own ∷ []) (token.Ident (part i) ∷ [])) (sym (kind_by (nat_lt (suc i) (length parts)) (nat_lt 0 i) (part i))) (own (token.Ident (part i)))

  abbrev first_events : ℕ → Events
  first_events i = opens meant at parts (suc i) ++ closes 0 (suc i)

  -- the label of an identifier closes behind those before it
  shape : (i : ℕ) → named (one (suc i)) (part (suc i)) (first_events i ++ Pass 1 ∷ Own ∷ []) ≡ first_events (suc i)
  shape i =
      ap (λ all. Open (one (suc i)) (part (suc i)) ∷ all)
      (append_assoc (first_events i) (Pass 1 ∷ Own ∷ []) (Close ∷ [])
      ∙ append_assoc (opens meant at parts (suc i)) (closes 0 (suc i)) (Pass 1 ∷ Own ∷ Close ∷ [])
      ∙ ap (λ all. opens meant at parts (suc i) ++ all) (sym (closes_last 0 i)))

  first_are : (i : ℕ) → Stands (first_events i) (first_tokens i)
  first_are zero = owner (one 0) (part 0) (own_next (pass 0 [] refl) (own_part 0))
  first_are (suc i) = subst (λ es. Stands es (first_tokens (suc i))) (shape i)
      (owner (one (suc i)) (part (suc i)) (own_next (first_are i) (own_next (tok (token.Sym y.Dot)) (own_part (suc i)))))

  -- the others behind the first ones
  all_tokens : (ps : List Text) (i : ℕ) → length parts ≡ suc i + length ps → ((j : ℕ) → slice_index_or parts (suc i + j) [] ≡ slice_index_or ps j [])
      → (last : ℕ) → suc last ≡ length parts → first_tokens i ++ w.after_each y.Dot (map ident ps) ≡ first_tokens last
  all_tokens [] i n same last e = (let here : i ≡ last = omega arith in append-nil (first_tokens i) ∙ ap first_tokens here)
  all_tokens (p ∷ ps) i n same last e =
      let here : part (suc i) ≡ p = ap (λ k. slice_index_or parts k []) (omega arith) ∙ same 0 in
      sym (append_assoc (first_tokens i) (token.Sym y.Dot ∷ ident p) (w.after_each y.Dot (map ident ps)))
      ∙ ap (λ x. (first_tokens i ++ token.Sym y.Dot ∷ ident x) ++ w.after_each y.Dot (map ident ps)) (sym here)
      ∙ all_tokens ps (suc i) (omega arith) (λ j. ap (λ k. slice_index_or parts k []) (omega arith) ∙ same (suc j)) last e

parts_are : (meant : NameKind) (at : NamePlace) (parts : List Text) → Stands (opens meant at parts (length parts) ++ closes 0 (length parts)) (w.between y.Dot (map ident parts))
parts_are meant at [] = nothing
parts_are meant at (p ∷ ps) = like (first_are meant at (p ∷ ps) (length ps))
    (sym (all_tokens meant at (p ∷ ps) ps 0 (omega arith) (λ j. (let e : suc 0 + j ≡ suc j = omega arith in ap (λ k. slice_index_or (p ∷ ps) k []) e)) (length ps) (omega arith)))

name_are : (meant : NameKind) (at : NamePlace) (n : Name) → Stands (e.name_events meant at n) (w.name_tokens n)
name_are meant at n = parts_are meant at n.parts

-- ---- types

type_name_are : (n : Name) → Stands (e.type_name n) (w.name_tokens n)
type_name_are n = name_are kind.Type place.Other n

base_are : (b : Base) → Stands (e.base_events b) (w.base_tokens b)
base_are (base.Primitive p) = tok (token.Word (w.primitive_word p))
base_are (base.Named n) = type_name_are n

type_are : (ty : TypeUse) → Stands (e.type_events ty) (w.type_tokens ty)
type_are ty = node (is.TypeUse (l.primitive_of ty.base) ty.dims) [] refl (loose (two (base_are ty.base) (brackets_are ty.dims)))

param_are : (p : Param) → Stands (e.param_events p) (w.param_tokens p)
param_are p = owner (is.Parameter p.is_final p.dims) p.name
    (own_next (two (maybe p.is_final (token.Word k.Final)) (type_are p.ty)) (own_first (own (token.Ident p.name)) (brackets_are p.dims)))

more_params : (ps : List Param) → Stands (e.params_events 1 ps) (w.after_each y.Comma (map w.param_tokens ps))
more_params [] = nothing
more_params (p ∷ ps) = two (before (token.Sym y.Comma) (param_are p)) (more_params ps)

params_are : (ps : List Param) → Stands (e.params_events 0 ps) (w.between y.Comma (map w.param_tokens ps))
params_are [] = nothing
params_are (p ∷ ps) = two (before_none (param_are p)) (more_params ps)

-- a word and names with commas
more_names : (at : NamePlace) (ns : List Name) → Stands (e.names_events at ns) (w.after_each y.Comma (map w.name_tokens ns))
more_names at [] = nothing
more_names at (n ∷ ns) = two (before (token.Sym y.Comma) (name_are kind.Type at n)) (more_names at ns)

names_are : (at : NamePlace) (first : Keyword) (ns : List Name) → Stands (e.names_events at ns) (w.names_after first ns)
names_are at first [] = nothing
names_are at first (n ∷ ns) = two (before (token.Word first) (name_are kind.Type at n)) (more_names at ns)

-- ---- expressions

mutual
  expr_are : (a : x.Expr) → Stands (e.expr_events a) (t.expr_tokens a)
  expr_are (x.Assign target op value) = node (is.Assign op) [] refl (loose (two (expr_are target) (before (token.Sym op) (expr_are value))))
  expr_are (x.Cond c a b) = node is.Conditional [] refl (loose (like
      (two (two (expr_are c) (before (token.Sym y.Question) (expr_are a))) (before (token.Sym y.Colon) (expr_are b)))
      (append_assoc (t.expr_tokens c) (token.Sym y.Question ∷ t.expr_tokens a) (token.Sym y.Colon ∷ t.expr_tokens b))))
  expr_are (x.Binary a op b) = node (is.Binary op) [] refl (loose (two (expr_are a) (before (token.Sym op) (expr_are b))))
  expr_are (x.IsA value ty) = node is.IsA [] refl (loose (two (expr_are value) (before (token.Word k.Instanceof) (type_are ty))))
  expr_are (x.Unary op value) = node (is.Unary op) [] refl (loose (before (token.Sym op) (expr_are value)))
  expr_are (x.Cast ty value) = node is.Cast [] refl (loose (two (before (token.Sym y.OpenParen) (type_are ty)) (before (token.Sym y.CloseParen) (expr_are value))))
  expr_are (x.PreStep op value) = node (is.PreStep op) [] refl (loose (before (token.Sym op) (expr_are value)))
  expr_are (x.PostStep value op) = node (is.PostStep op) [] refl (loose (two (expr_are value) (tok (token.Sym op))))
  expr_are (x.Lit one) = node (is.Literal one) [] refl (loose (tok one))
  expr_are (x.This None) = node (is.This false) [] refl (loose (tok (token.Word k.This)))
  expr_are (x.This (Some class)) = node (is.This true) [] refl (loose (like
      (two (type_name_are class) (pass 2 (token.Sym y.Dot ∷ token.Word k.This ∷ []) refl))
      (sym (append_assoc (w.name_tokens class) (mark y.Dot) (word k.This)))))
  expr_are (x.Paren inner) = node is.Paren [] refl (loose (parens (expr_are inner)))
  expr_are (x.NameExpr name) = name_are kind.Variable place.Expression name
  expr_are (x.Select object name) = owner is.Select name (own_next (expr_are object) (own_next (tok (token.Sym y.Dot)) (own (token.Ident name))))
  expr_are (x.SuperSelect name) = owner is.SuperSelect name (own_next (pass 2 (token.Word k.Super ∷ token.Sym y.Dot ∷ []) refl) (own (token.Ident name)))
  expr_are (x.Index a at) = node is.Index [] refl (loose (like
      (two (two (expr_are a) (before (token.Sym y.OpenBracket) (expr_are at))) (tok (token.Sym y.CloseBracket)))
      (append_assoc (t.expr_tokens a) (token.Sym y.OpenBracket ∷ t.expr_tokens at) (mark y.CloseBracket))))
  expr_are (x.Call x.no_receiver name args) = owner (is.Call on.Absent) name (own_first (own (token.Ident name)) (parens (exprs_are args)))
  expr_are (x.Call (x.a_receiver (x.Of object)) name args) =
      owner (is.Call on.Expression) name (own_next (two (expr_are object) (tok (token.Sym y.Dot))) (own_first (own (token.Ident name)) (parens (exprs_are args))))
  expr_are (x.Call (x.a_receiver (x.OfName n)) name args) =
      owner (is.Call on.Name) name
      (own_next (two (name_are kind.Ambiguous place.Receiver n) (tok (token.Sym y.Dot))) (own_first (own (token.Ident name)) (parens (exprs_are args))))
  expr_are (x.Call (x.a_receiver x.Super) name args) =
      owner (is.Call on.Super) name (own_next (two (tok (token.Word k.Super)) (tok (token.Sym y.Dot))) (own_first (own (token.Ident name)) (parens (exprs_are args))))
  expr_are (x.New class args) =
      node is.New [] refl (two_loose (loose (before (token.Word k.New) (type_name_are class))) (two_loose own_last (loose (parens (exprs_are args)))))
  expr_are (x.NewArray b lengths extra x.no_list) =
      node (is.NewArray (l.primitive_of b) (l.count lengths) extra) [] refl
      (loose (two (two (two (before (token.Word k.New) (base_are b)) (lengths_are lengths)) (brackets_are extra)) nothing))
  expr_are (x.NewArray b lengths extra (x.a_list list)) =
      node (is.NewArray (l.primitive_of b) (l.count lengths) extra) [] refl
      (loose (two (two (two (before (token.Word k.New) (base_are b)) (lengths_are lengths)) (brackets_are extra)) (list_are list)))

  exprs_are : (all : x.Exprs) → Stands (e.exprs_events 0 all) (t.exprs_tokens all)
  exprs_are x.no_exprs = nothing
  exprs_are (x.more_exprs a all) = two (before_none (expr_are a)) (more_exprs all)

  more_exprs : (all : x.Exprs) → Stands (e.exprs_events 1 all) (t.after_expr all)
  more_exprs x.no_exprs = nothing
  more_exprs (x.more_exprs a all) = two (before (token.Sym y.Comma) (expr_are a)) (more_exprs all)

  lengths_are : (all : x.Exprs) → Stands (e.lengths_events all) (t.dims_tokens all)
  lengths_are x.no_exprs = nothing
  lengths_are (x.more_exprs a all) = two (around (token.Sym y.OpenBracket) (token.Sym y.CloseBracket) (expr_are a)) (lengths_are all)

  list_are : (list : x.InitList) → Stands (e.list_events list) (t.list_tokens list)
  list_are (x.ListOf all is_open_ended) = node is.List [] refl (loose (like
      (two (before (token.Sym y.OpenBrace) (inits_are all)) (two (maybe is_open_ended (token.Sym y.Comma)) (tok (token.Sym y.CloseBrace))))
      (ap (λ ts. token.Sym y.OpenBrace ∷ ts) (sym (append_assoc (t.inits_tokens all) (w.if_true is_open_ended (mark y.Comma)) (mark y.CloseBrace))))))

  init_are : (i : x.Init) → Stands (e.init_events i) (t.init_tokens i)
  init_are (x.Value value) = node is.Value [] refl (loose (expr_are value))
  init_are (x.Listed list) = list_are list

  inits_are : (all : x.Inits) → Stands (e.inits_events 0 all) (t.inits_tokens all)
  inits_are x.no_inits = nothing
  inits_are (x.more_inits i all) = two (before_none (init_are i)) (more_inits all)

  more_inits : (all : x.Inits) → Stands (e.inits_events 1 all) (t.after_init all)
  more_inits x.no_inits = nothing
  more_inits (x.more_inits i all) = two (before (token.Sym y.Comma) (init_are i)) (more_inits all)

-- ---- parts of statements

any_init_are : (i : Option x.Init) → Stands (e.any_init_events i) (w.if_some (λ i. token.Sym y.Assign ∷ t.init_tokens i) i)
any_init_are None = nothing
any_init_are (Some i) = before (token.Sym y.Assign) (init_are i)

any_expr_are : (a : Option x.Expr) → Stands (e.if_some e.expr_events a) (w.if_some t.expr_tokens a)
any_expr_are None = nothing
any_expr_are (Some a) = expr_are a

local_are : (is_final : Bool) (v : s.Declarator) → Stands (e.local_events is_final v) (t.declarator_tokens v)
local_are is_final (s.DeclaratorOf name dims init) =
    owner (is.Local is_final dims) name (own_first (own (token.Ident name)) (two (brackets_are dims) (any_init_are init)))

more_locals : (is_final : Bool) (vs : List s.Declarator) → Stands (e.locals_events 1 is_final vs) (t.after_declarator vs)
more_locals is_final [] = nothing
more_locals is_final (v ∷ vs) = two (before (token.Sym y.Comma) (local_are is_final v)) (more_locals is_final vs)

locals_are : (is_final : Bool) (vs : List s.Declarator) → Stands (e.locals_events 0 is_final vs) (t.declarators_tokens vs)
locals_are is_final [] = nothing
locals_are is_final (v ∷ vs) = two (before_none (local_are is_final v)) (more_locals is_final vs)

any_for_are : (i : Option s.ForInit) → Stands (e.if_some e.for_events i) (w.if_some t.for_init_tokens i)
any_for_are None = nothing
any_for_are (Some (s.Locals is_final ty ds)) =
    node is.ForLocals [] refl (loose (two (two (maybe is_final (token.Word k.Final)) (type_are ty)) (locals_are is_final ds)))
any_for_are (Some (s.Exprs es)) = node is.ForExprs [] refl (loose (exprs_are es))

case_are : (c : s.SwitchLabel) → Stands (e.case_events c) (t.label_tokens c)
case_are (s.Case value) = node is.Case [] refl (loose (around (token.Word k.Case) (token.Sym y.Colon) (expr_are value)))
case_are s.Default = node is.Default [] refl (loose (pass 2 (token.Word k.Default ∷ token.Sym y.Colon ∷ []) refl))

cases_are : (cs : List s.SwitchLabel) → Stands (e.cases_events cs) (t.labels_tokens cs)
cases_are [] = nothing
cases_are (c ∷ cs) = two (case_are c) (cases_are cs)

-- ---- statements

break_are : (label : Option Text) → Stands (e.jump_events (is.Break (is_some label)) label) (token.Word k.Break ∷ (w.if_some ident label ++ mark y.Semicolon))
break_are None = node (is.Break false) [] refl (loose (pass 2 (token.Word k.Break ∷ token.Sym y.Semicolon ∷ []) refl))
break_are (Some name) = owner (is.Break true) name (own_next (tok (token.Word k.Break)) (own_first (own (token.Ident name)) (tok (token.Sym y.Semicolon))))

continue_are : (label : Option Text) → Stands (e.jump_events (is.Continue (is_some label)) label) (token.Word k.Continue ∷ (w.if_some ident label ++ mark y.Semicolon))
continue_are None = node (is.Continue false) [] refl (loose (pass 2 (token.Word k.Continue ∷ token.Sym y.Semicolon ∷ []) refl))
continue_are (Some name) = owner (is.Continue true) name (own_next (tok (token.Word k.Continue)) (own_first (own (token.Ident name)) (tok (token.Sym y.Semicolon))))

-- a condition, and what stands behind it
abbrev opened : Keyword → Tokens → Tokens
opened word ts = token.Word word ∷ token.Sym y.OpenParen ∷ ts

condition : (word : Keyword) {cs bs : Events} {ts us : Tokens} → Stands cs ts → Stands bs us → Stands (Pass 2 ∷ cs ++ Pass 1 ∷ bs) (token.Word word ∷ (w.parens ts ++ us))
condition word {cs} {bs} {ts} {us} c b = like (two (before_two (token.Word word) (token.Sym y.OpenParen) c) (before (token.Sym y.CloseParen) b))
    (ap (opened word) (sym (append_assoc ts (mark y.CloseParen) us)))

mutual
  stmt_are : (a : s.Stmt) → Stands (e.stmt_events a) (t.stmt_tokens a)
  stmt_are (s.Nest b) = node is.Nest [] refl (loose (block_are b))
  stmt_are (s.Local is_final ty ds) =
      node is.Locals [] refl (loose (two (two (two (maybe is_final (token.Word k.Final)) (type_are ty)) (locals_are is_final ds)) (tok (token.Sym y.Semicolon))))
  stmt_are s.Skip = node is.Skip [] refl (loose (tok (token.Sym y.Semicolon)))
  stmt_are (s.Do body c) =
      let front = token.Word k.Do ∷ t.stmt_tokens body in
      node is.Do [] refl (loose (like
      (two (two (before (token.Word k.Do) (stmt_are body)) (before_two (token.Word k.While) (token.Sym y.OpenParen) (expr_are c)))
      (pass 2 (token.Sym y.CloseParen ∷ token.Sym y.Semicolon ∷ []) refl))
      (append_assoc front (opened k.While (t.expr_tokens c)) (token.Sym y.CloseParen ∷ token.Sym y.Semicolon ∷ [])
      ∙ ap (λ ts. front ++ opened k.While ts) (sym (append_assoc (t.expr_tokens c) (mark y.CloseParen) (mark y.Semicolon))))))
  stmt_are (s.While c body) = node is.While [] refl (loose (condition k.While (expr_are c) (stmt_are body)))
  stmt_are (s.If c a b) = node is.If [] refl (loose (two (condition k.If (expr_are c) (stmt_are a)) (any_stmt_are b)))
  stmt_are (s.Eval value) = node is.Eval [] refl (loose (two (expr_are value) (tok (token.Sym y.Semicolon))))
  stmt_are (s.For first c update body) =
      let a = opened k.For (w.if_some t.for_init_tokens first) in
      let b = token.Sym y.Semicolon ∷ w.if_some t.expr_tokens c in
      let u = token.Sym y.Semicolon ∷ t.exprs_tokens update in
      node (is.For (is_some first) (is_some c)) [] refl (loose (like
      (two (two (two (before_two (token.Word k.For) (token.Sym y.OpenParen) (any_for_are first)) (before (token.Sym y.Semicolon) (any_expr_are c)))
      (before (token.Sym y.Semicolon) (exprs_are update))) (before (token.Sym y.CloseParen) (stmt_are body)))
      (sym (append_assoc ((a ++ b) ++ u) (mark y.CloseParen) (t.stmt_tokens body))
      ∙ ap (λ ts. ts ++ t.stmt_tokens body) (append_assoc (a ++ b) u (mark y.CloseParen) ∙ append_assoc a b (u ++ mark y.CloseParen)))))
  stmt_are (s.Switch value gs) =
      let braced = token.Sym y.CloseParen ∷ token.Sym y.OpenBrace ∷ t.groups_tokens gs in
      node is.Switch [] refl (loose (like
      (two (two (before_two (token.Word k.Switch) (token.Sym y.OpenParen) (expr_are value)) (before_two (token.Sym y.CloseParen) (token.Sym y.OpenBrace) (groups_are gs)))
      (tok (token.Sym y.CloseBrace)))
      (append_assoc (opened k.Switch (t.expr_tokens value)) braced (mark y.CloseBrace)
      ∙ ap (opened k.Switch) (sym (append_assoc (t.expr_tokens value) (mark y.CloseParen) (w.in_braces (t.groups_tokens gs)))))))
  stmt_are (s.Labeled label body) = owner is.Labeled label (own_first (own (token.Ident label)) (before (token.Sym y.Colon) (stmt_are body)))
  stmt_are (s.Break label) = break_are label
  stmt_are (s.Continue label) = continue_are label
  stmt_are (s.Return value) = node is.Return [] refl (loose (around (token.Word k.Return) (token.Sym y.Semicolon) (any_expr_are value)))
  stmt_are (s.Throw value) = node is.Throw [] refl (loose (around (token.Word k.Throw) (token.Sym y.Semicolon) (expr_are value)))
  stmt_are (s.Try body cs last) =
      node (is.Try (e.has_block last)) [] refl (loose (two (two (before (token.Word k.Try) (block_are body)) (catches_are cs)) (any_block_are last)))
  stmt_are (s.CtorCall which args) =
      owner (is.ConstructorCall which) [] (own_first (own_first (own (token.Word (w.which_word which))) (parens (exprs_are args))) (tok (token.Sym y.Semicolon)))

  any_stmt_are : (b : s.AnyStmt) → Stands (e.any_stmt_events b) (t.else_tokens b)
  any_stmt_are s.no_stmt = nothing
  any_stmt_are (s.a_stmt b) = before (token.Word k.Else) (stmt_are b)

  any_block_are : (b : s.AnyBlock) → Stands (e.any_block_events b) (t.finally_tokens b)
  any_block_are s.no_block = nothing
  any_block_are (s.a_block b) = before (token.Word k.Finally) (block_are b)

  block_are : (b : s.Block) → Stands (e.block_events b) (t.block_tokens b)
  block_are (s.BlockOf all) = node is.Block [] refl (loose (around (token.Sym y.OpenBrace) (token.Sym y.CloseBrace) (stmts_are all)))

  stmts_are : (all : s.Stmts) → Stands (e.stmts_events all) (t.stmts_tokens all)
  stmts_are s.no_stmts = nothing
  stmts_are (s.more_stmts a all) = two (stmt_are a) (stmts_are all)

  groups_are : (gs : s.Groups) → Stands (e.groups_events gs) (t.groups_tokens gs)
  groups_are s.no_groups = nothing
  groups_are (s.more_groups g gs) = two (group_are g) (groups_are gs)

  group_are : (g : s.Group) → Stands (e.group_events g) (t.group_tokens g)
  group_are (s.GroupOf labels all) = node is.Group [] refl (loose (two (cases_are labels) (stmts_are all)))

  catches_are : (cs : s.Catches) → Stands (e.catches_events cs) (t.catches_tokens cs)
  catches_are s.no_catches = nothing
  catches_are (s.more_catches c cs) = two (catch_are c) (catches_are cs)

  catch_are : (c : s.Catch) → Stands (e.catch_events c) (t.catch_tokens c)
  catch_are (s.CatchOf p b) = node is.Catch [] refl (loose (condition k.Catch (param_are p) (block_are b)))

-- ---- declarations

field_are : (mods : List Modifier) (v : s.Declarator) → Stands (e.field_events mods v) (t.declarator_tokens v)
field_are mods (s.DeclaratorOf name dims init) =
    owner (is.Field (ld.modifiers_of mods) dims) name (own_first (own (token.Ident name)) (two (brackets_are dims) (any_init_are init)))

more_fields : (mods : List Modifier) (vs : List s.Declarator) → Stands (e.fields_events 1 mods vs) (t.after_declarator vs)
more_fields mods [] = nothing
more_fields mods (v ∷ vs) = two (before (token.Sym y.Comma) (field_are mods v)) (more_fields mods vs)

fields_are : (mods : List Modifier) (vs : List s.Declarator) → Stands (e.fields_events 0 mods vs) (t.declarators_tokens vs)
fields_are mods [] = nothing
fields_are mods (v ∷ vs) = two (before_none (field_are mods v)) (more_fields mods vs)

result_are : (r : ResultType) → Stands (e.result_events r) (w.result_tokens r)
result_are outcome.Void = tok (token.Word k.Void)
result_are (outcome.Of ty) = type_are ty

body_are : (b : Option s.Block) → Stands (e.body_or_semicolon b) (t.body_tokens b)
body_are None = tok (token.Sym y.Semicolon)
body_are (Some b) = block_are b

call_are : (is_written : Bool) → Stands (e.implicit_call is_written) []
call_are true = nothing
call_are false = node is.ImplicitCall [] refl (loose nothing)

default_are : (is_written : Bool) → Stands (e.default_constructor is_written) []
default_are true = nothing
default_are false = node is.DefaultConstructor [] refl (loose (node is.ImplicitCall [] refl (loose nothing)))

superclass_are : (n : Option Name) → Stands (e.superclass_events n) (w.parent_tokens n)
superclass_are None = nothing
superclass_are (Some n) = before (token.Word k.Extends) (name_are kind.Type place.Superclass n)

-- a name with parameters, thrown classes and a body, behind what stands before it
signature : (h : Tokens) (a : Kind) (ps ts bs : Tokens)
    → ((h ++ a ∷ token.Sym y.OpenParen ∷ ps) ++ token.Sym y.CloseParen ∷ ts) ++ bs ≡ h ++ a ∷ (w.parens ps ++ ts ++ bs)
signature h a ps ts bs =
    let front = a ∷ token.Sym y.OpenParen ∷ ps in
    let thrown = token.Sym y.CloseParen ∷ ts in
    ap (λ xs. xs ++ bs) (append_assoc h front thrown) ∙ append_assoc h (front ++ thrown) bs
    ∙ ap (λ xs. h ++ a ∷ token.Sym y.OpenParen ∷ (xs ++ bs)) (sym (append_assoc ps (mark y.CloseParen) ts))

mutual
  member_are : (m : d.Member) → Stands (e.member_events m) (t.member_tokens m)
  member_are (d.Field mods ty ds) =
      node (is.Fields (ld.modifiers_of mods)) [] refl (loose (two (two (two (modifiers_are mods) (type_are ty)) (fields_are mods ds)) (tok (token.Sym y.Semicolon))))
  member_are (d.Method mods gives name params thrown body) =
      let head = w.modifiers_tokens mods ++ w.result_tokens gives in
      owner (is.Method (ld.modifiers_of mods) (ld.is_void gives) (is_some body)) name (own_like
      (own_first (own_first (own_next (two (modifiers_are mods) (result_are gives)) (own_first (own (token.Ident name)) (before (token.Sym y.OpenParen) (params_are params))))
      (before (token.Sym y.CloseParen) (names_are place.Other k.Throws thrown))) (body_are body))
      (signature head (token.Ident name) (w.between y.Comma (map w.param_tokens params)) (w.names_after k.Throws thrown) (t.body_tokens body)))
  member_are (d.Constructor mods name params thrown body) =
      let front = w.modifiers_tokens mods in
      let ps = w.between y.Comma (map w.param_tokens params) in
      let ts = w.names_after k.Throws thrown in
      owner (is.Constructor (ld.modifiers_of mods)) name (own_like
      (own_first (own_first (own_first (own_next (modifiers_are mods) (own_first (declare (token.Ident name)) (call_are (ls.calls_first body))))
      (before (token.Sym y.OpenParen) (params_are params)))
      (before (token.Sym y.CloseParen) (names_are place.Other k.Throws thrown))) (block_are body))
      (ap (λ xs. (xs ++ token.Sym y.CloseParen ∷ ts) ++ t.block_tokens body) (append_assoc front (token.Ident name ∷ []) (token.Sym y.OpenParen ∷ ps))
      ∙ signature front (token.Ident name) ps ts (t.block_tokens body)))
  member_are (d.Init is_static body) = node (is.Initializer is_static) [] refl (loose (two (maybe is_static (token.Word k.Static)) (block_are body)))
  member_are (d.Nested decl) = decl_are true decl

  members_are : (all : d.Members) → Stands (e.members_events all) (t.members_tokens all)
  members_are d.no_members = nothing
  members_are (d.more_members m all) = two (member_are m) (members_are all)

  decl_are : (is_member : Bool) (a : d.TypeDecl) → Stands (e.decl_events is_member a) (t.decl_tokens a)
  decl_are is_member (d.Class mods name parent faces body) =
      let front = w.modifiers_tokens mods in
      let up = w.parent_tokens parent in
      let over = w.names_after k.Implements faces in
      let inside = w.in_braces (t.members_tokens body) in
      owner (is.Class (ld.modifiers_of mods) is_member) name (own_like
      (own_first (own_first (own_next (two (modifiers_are mods) (tok (token.Word k.Class))) (own_first (declare (token.Ident name)) (superclass_are parent)))
      (names_are place.Superinterface k.Implements faces))
      (node is.Body [] refl (loose (two (two (before (token.Sym y.OpenBrace) (default_are (ld.has_constructor body))) (members_are body)) (tok (token.Sym y.CloseBrace))))))
      (ap (λ xs. (xs ++ over) ++ inside) (append_assoc front (word k.Class) (token.Ident name ∷ up))
      ∙ ap (λ xs. xs ++ inside) (append_assoc front (token.Word k.Class ∷ token.Ident name ∷ up) over)
      ∙ append_assoc front (token.Word k.Class ∷ token.Ident name ∷ (up ++ over)) inside))
  decl_are is_member (d.Interface mods name faces body) =
      let front = w.modifiers_tokens mods in
      let over = w.names_after k.Extends faces in
      let inside = w.in_braces (t.members_tokens body) in
      owner (is.Interface (ld.modifiers_of mods) is_member) name (own_like
      (own_first (own_next (two (modifiers_are mods) (tok (token.Word k.Interface))) (own_first (declare (token.Ident name)) (names_are place.Superinterface k.Extends faces)))
      (node is.Body [] refl (loose (around (token.Sym y.OpenBrace) (token.Sym y.CloseBrace) (members_are body)))))
      (ap (λ xs. xs ++ inside) (append_assoc front (word k.Interface) (token.Ident name ∷ over))
      ∙ append_assoc front (token.Word k.Interface ∷ token.Ident name ∷ over) inside))
  decl_are is_member d.Empty = node (is.EmptyDecl is_member) [] refl (loose (tok (token.Sym y.Semicolon)))

-- ---- units

any_package_are : (p : Option PackageDecl) → Stands (e.if_some e.package_events p) (w.if_some w.package_tokens p)
any_package_are None = nothing
any_package_are (Some p) = node is.Package [] refl (loose (around (token.Word k.Package) (token.Sym y.Semicolon) (name_are kind.Package place.Other p.name)))

import_are : (i : Import) → Stands (e.import_events i) (w.import_tokens i)
import_are (import.Single n) = node (is.Import importing.Single) [] refl (loose (around (token.Word k.Import) (token.Sym y.Semicolon) (type_name_are n)))
import_are (import.OnDemand n) = node (is.Import importing.OnDemand) [] refl
    (loose (two (before (token.Word k.Import) (name_are kind.PackageOrType place.Other n)) (pass 3 (token.Sym y.Dot ∷ token.Sym y.Star ∷ token.Sym y.Semicolon ∷ []) refl)))
import_are (import.StaticSingle n member) = owner (is.Import importing.StaticSingle) member
    (own_next (before_two (token.Word k.Import) (token.Word k.Static) (type_name_are n))
    (own_next (tok (token.Sym y.Dot)) (own_first (own (token.Ident member)) (tok (token.Sym y.Semicolon)))))

imports_are : (all : List Import) → Stands (e.imports_events all) (w.joined (map w.import_tokens all))
imports_are [] = nothing
imports_are (i ∷ all) = two (import_are i) (imports_are all)

decls_are : (all : List d.TypeDecl) → Stands (e.decls_events all) (t.decls_tokens all)
decls_are [] = nothing
decls_are (a ∷ all) = two (decl_are false a) (decls_are all)

-- what stands below a unit, for all of its tokens
pub below_unit : (p : Option PackageDecl) (imports : List Import) (types : List d.TypeDecl)
    → Stands (e.if_some e.package_events p ++ e.imports_events imports ++ e.decls_events types) (t.unit_tokens (d.UnitOf p imports types))
below_unit p imports types = two (two (any_package_are p) (imports_are imports)) (decls_are types)
