-- A tree written in front of the tokens that follow it (JLS 15, 18).
use Rattle.std.specs.Prelude.{ℕ, zero, suc, Bool, true, false, List, [], ◌∷◌, ◌++◌, Some, None}
use Rattle.jr_base.specs.declared.text.Text.{Text}
use Rattle.jr_base.specs.declared.kind.Kind.{Kind}
use Rattle.jr_base.specs.declared.kind.Kind.TheVariants as kind
use Rattle.jr_base.specs.declared.kind.Symbol.TheVariants as y
use Rattle.jr_base.specs.declared.kind.Keyword.TheVariants as k
use Rattle.jr_tree.specs.declared.tree.Name.{Name}
use Rattle.jr_tree.specs.declared.tree.Base.{Base}
use Rattle.jr_tree.specs.declared.tree.Base.TheVariants as base
use Rattle.jr_tree.specs.declared.tree.TypeUse.{TypeUse}
use Rattle.jr_tree.specs.Words.{primitive_word}
use Rattle.jr_tree.specs.Mirror.Exprs as x
use Rattle.jr_parse_expr.specs.Names.{Dotted, Plain, Enclosing}
use Rattle.jr_parse_expr.specs.Exprs.{Lead, Nothing, Named, Indexed, This, Super}

-- ---- names and types

-- a dot before each
abbrev pub write_parts : List Text → List Kind → List Kind
write_parts [] rest = rest
write_parts (part ∷ parts) rest = kind.Sym y.Dot ∷ kind.Ident part ∷ write_parts parts rest

-- a dot between two
abbrev pub write_all : List Text → List Kind → List Kind
write_all [] rest = rest
write_all (part ∷ parts) rest = kind.Ident part ∷ write_parts parts rest

abbrev pub write_name : Name → List Kind → List Kind
write_name n rest = write_all n.parts rest

abbrev pub write_brackets : ℕ → List Kind → List Kind
write_brackets zero rest = rest
write_brackets (suc n) rest = kind.Sym y.OpenBracket ∷ kind.Sym y.CloseBracket ∷ write_brackets n rest

abbrev pub write_base : Base → List Kind → List Kind
write_base (base.Primitive p) rest = kind.Word (primitive_word p) ∷ rest
write_base (base.Named n) rest = write_name n rest

abbrev pub write_type : TypeUse → List Kind → List Kind
write_type t rest = write_base t.base (write_brackets t.dims rest)

-- ---- expressions

abbrev pub write_comma : Bool → List Kind → List Kind
write_comma true rest = kind.Sym y.Comma ∷ rest
write_comma false rest = rest

abbrev mutual
  pub write_expr : x.Expr → List Kind → List Kind
  write_expr (x.Assign target op value) rest = write_expr target (kind.Sym op ∷ write_expr value rest)
  write_expr (x.Cond c a b) rest = write_expr c (kind.Sym y.Question ∷ write_expr a (kind.Sym y.Colon ∷ write_expr b rest))
  write_expr (x.Binary left op right) rest = write_expr left (kind.Sym op ∷ write_expr right rest)
  write_expr (x.IsA value ty) rest = write_expr value (kind.Word k.Instanceof ∷ write_type ty rest)
  write_expr (x.Unary op value) rest = kind.Sym op ∷ write_expr value rest
  write_expr (x.Cast ty value) rest = kind.Sym y.OpenParen ∷ write_type ty (kind.Sym y.CloseParen ∷ write_expr value rest)
  write_expr (x.PreStep op value) rest = kind.Sym op ∷ write_expr value rest
  write_expr (x.PostStep value op) rest = write_expr value (kind.Sym op ∷ rest)
  write_expr (x.Lit token) rest = token ∷ rest
  write_expr (x.This None) rest = kind.Word k.This ∷ rest
  write_expr (x.This (Some n)) rest = write_name n (kind.Sym y.Dot ∷ kind.Word k.This ∷ rest)
  write_expr (x.Paren inner) rest = kind.Sym y.OpenParen ∷ write_expr inner (kind.Sym y.CloseParen ∷ rest)
  write_expr (x.NameExpr n) rest = write_name n rest
  write_expr (x.Select object name) rest = write_expr object (kind.Sym y.Dot ∷ kind.Ident name ∷ rest)
  write_expr (x.SuperSelect name) rest = kind.Word k.Super ∷ kind.Sym y.Dot ∷ kind.Ident name ∷ rest
  write_expr (x.Index array at) rest = write_expr array (kind.Sym y.OpenBracket ∷ write_expr at (kind.Sym y.CloseBracket ∷ rest))
  write_expr (x.Call object name args) rest = write_qualifier object (kind.Ident name ∷ kind.Sym y.OpenParen ∷ write_exprs args (kind.Sym y.CloseParen ∷ rest))
  write_expr (x.New class args) rest = kind.Word k.New ∷ write_name class (kind.Sym y.OpenParen ∷ write_exprs args (kind.Sym y.CloseParen ∷ rest))
  write_expr (x.NewArray element dims more list) rest = kind.Word k.New ∷ write_base element (write_dims dims (write_brackets more (write_any_list list rest)))

  -- the receiver of a call, and its dot
  pub write_qualifier : x.AnyReceiver → List Kind → List Kind
  write_qualifier x.no_receiver rest = rest
  write_qualifier (x.a_receiver r) rest = write_receiver r (kind.Sym y.Dot ∷ rest)

  pub write_receiver : x.Receiver → List Kind → List Kind
  write_receiver (x.Of object) rest = write_expr object rest
  write_receiver (x.OfName n) rest = write_name n rest
  write_receiver x.Super rest = kind.Word k.Super ∷ rest

  -- with commas
  pub write_exprs : x.Exprs → List Kind → List Kind
  write_exprs x.no_exprs rest = rest
  write_exprs (x.more_exprs e all) rest = write_expr e (write_others all rest)

  pub write_others : x.Exprs → List Kind → List Kind
  write_others x.no_exprs rest = rest
  write_others (x.more_exprs e all) rest = kind.Sym y.Comma ∷ write_expr e (write_others all rest)

  -- each in brackets
  pub write_dims : x.Exprs → List Kind → List Kind
  write_dims x.no_exprs rest = rest
  write_dims (x.more_exprs e all) rest = kind.Sym y.OpenBracket ∷ write_expr e (kind.Sym y.CloseBracket ∷ write_dims all rest)

  pub write_any_list : x.AnyList → List Kind → List Kind
  write_any_list x.no_list rest = rest
  write_any_list (x.a_list l) rest = write_list l rest

  pub write_list : x.InitList → List Kind → List Kind
  write_list (x.ListOf all is_open_ended) rest = kind.Sym y.OpenBrace ∷ write_inits all (write_comma is_open_ended (kind.Sym y.CloseBrace ∷ rest))

  pub write_init : x.Init → List Kind → List Kind
  write_init (x.Value value) rest = write_expr value rest
  write_init (x.Listed l) rest = write_list l rest

  pub write_inits : x.Inits → List Kind → List Kind
  write_inits x.no_inits rest = rest
  write_inits (x.more_inits i all) rest = write_init i (write_more all rest)

  pub write_more : x.Inits → List Kind → List Kind
  write_more x.no_inits rest = rest
  write_more (x.more_inits i all) rest = kind.Sym y.Comma ∷ write_init i (write_more all rest)

-- ---- what the caller has read already

abbrev pub write_dotted : Dotted → List Kind → List Kind
write_dotted (Plain before last) rest = write_all (before ++ last ∷ []) rest
write_dotted (Enclosing before last) rest = write_all (before ++ last ∷ []) (kind.Sym y.Dot ∷ kind.Word k.This ∷ rest)

abbrev pub write_lead : Lead → List Kind → List Kind
write_lead Nothing rest = rest
write_lead (Named d) rest = write_dotted d rest
write_lead (Indexed n) rest = write_name n (kind.Sym y.OpenBracket ∷ rest)
write_lead This rest = kind.Word k.This ∷ rest
write_lead Super rest = kind.Word k.Super ∷ rest
