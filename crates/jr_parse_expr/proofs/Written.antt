-- Writing in front of a rest is writing out the tokens and then the rest.
use Rattle.std.proofs.Common.{◌≡◌, ℕ, zero, suc, ◌≤◌, Bool, true, false, List, [], ◌∷◌, ◌++◌, map, length, Some, None, refl, sym, ap, ◌∙◌, append_assoc, length-append, arith}
use Rattle.jr_base.specs.declared.text.Text.{Text}
use Rattle.jr_base.specs.declared.kind.Kind.{Kind}
use Rattle.jr_base.specs.declared.kind.Kind.TheVariants as kind
use Rattle.jr_base.specs.declared.kind.Symbol.TheVariants as y
use Rattle.jr_base.specs.declared.kind.Keyword.TheVariants as k
use Rattle.jr_tree.specs.declared.tree.Name.{Name}
use Rattle.jr_tree.specs.declared.tree.Base.{Base}
use Rattle.jr_tree.specs.declared.tree.Base.TheVariants as base
use Rattle.jr_tree.specs.declared.tree.TypeUse.{TypeUse}
use Rattle.jr_tree.specs.Words.{ident, mark, after_each, between, brackets, if_true, name_tokens, base_tokens, type_tokens}
use Rattle.jr_tree.specs.Tokens.{expr_tokens, qualifier_tokens, receiver_tokens, exprs_tokens, after_expr, dims_tokens, any_list_tokens, list_tokens, init_tokens, inits_tokens, after_init}
use Rattle.jr_tree.specs.Mirror.Exprs as x
use Rattle.jr_parse_expr.specs.Writing.{write_parts, write_all, write_name, write_brackets, write_base, write_type, write_comma, write_expr, write_qualifier, write_receiver, write_exprs, write_others, write_dims, write_any_list, write_list, write_init, write_inits, write_more}

parts_written : (parts : List Text) (rest : List Kind) → write_parts parts rest ≡ after_each y.Dot (map ident parts) ++ rest
parts_written [] rest = refl
parts_written (part ∷ parts) rest = ap (λ ts. kind.Sym y.Dot ∷ kind.Ident part ∷ ts) (parts_written parts rest)

all_written : (parts : List Text) (rest : List Kind) → write_all parts rest ≡ between y.Dot (map ident parts) ++ rest
all_written [] rest = refl
all_written (part ∷ parts) rest = ap (λ ts. kind.Ident part ∷ ts) (parts_written parts rest)

pub name_written : (n : Name) (rest : List Kind) → write_name n rest ≡ name_tokens n ++ rest
name_written n rest = all_written n.parts rest

pub brackets_written : (n : ℕ) (rest : List Kind) → write_brackets n rest ≡ brackets n ++ rest
brackets_written zero rest = refl
brackets_written (suc n) rest = ap (λ ts. kind.Sym y.OpenBracket ∷ kind.Sym y.CloseBracket ∷ ts) (brackets_written n rest)

pub base_written : (b : Base) (rest : List Kind) → write_base b rest ≡ base_tokens b ++ rest
base_written (base.Primitive p) rest = refl
base_written (base.Named n) rest = name_written n rest

pub type_written : (t : TypeUse) (rest : List Kind) → write_type t rest ≡ type_tokens t ++ rest
type_written t rest = simp append_assoc (rw (brackets_written t.dims rest) (base_written t.base _))

pub comma_written : (b : Bool) (rest : List Kind) → write_comma b rest ≡ if_true b (mark y.Comma) ++ rest
comma_written true rest = refl
comma_written false rest = refl

mutual
  pub written : (e : x.Expr) (rest : List Kind) → write_expr e rest ≡ expr_tokens e ++ rest
  written (x.Assign target op value) rest = simp append_assoc (rw (written value rest) (written target _))
  written (x.Cond c a b) rest = simp append_assoc (rw (written b rest, written a (kind.Sym y.Colon ∷ (expr_tokens b ++ rest))) (written c _))
  written (x.Binary left op right) rest = simp append_assoc (rw (written right rest) (written left _))
  written (x.IsA value ty) rest = simp append_assoc (rw (type_written ty rest) (simp append_assoc (written value _)))
  written (x.Unary op value) rest = ap (λ ts. kind.Sym op ∷ ts) (written value rest)
  written (x.Cast ty value) rest = simp append_assoc (rw (written value rest) (ap (λ ts. kind.Sym y.OpenParen ∷ ts) (simp append_assoc at (type_written ty (kind.Sym y.CloseParen ∷ (expr_tokens value ++ rest))))))
  written (x.PreStep op value) rest = ap (λ ts. kind.Sym op ∷ ts) (written value rest)
  written (x.PostStep value op) rest = simp append_assoc (written value (kind.Sym op ∷ rest))
  written (x.Lit token) rest = refl
  written (x.This None) rest = refl
  written (x.This (Some n)) rest = simp append_assoc (name_written n (kind.Sym y.Dot ∷ kind.Word k.This ∷ rest))
  written (x.Paren inner) rest = simp append_assoc (ap (λ ts. kind.Sym y.OpenParen ∷ ts) (written inner (kind.Sym y.CloseParen ∷ rest)))
  written (x.NameExpr n) rest = name_written n rest
  written (x.Select object name) rest = simp append_assoc (written object (kind.Sym y.Dot ∷ kind.Ident name ∷ rest))
  written (x.SuperSelect name) rest = refl
  written (x.Index array at) rest = simp append_assoc (rw (written at (kind.Sym y.CloseBracket ∷ rest)) (written array _))
  written (x.Call object name args) rest = simp append_assoc (rw (exprs_written args (kind.Sym y.CloseParen ∷ rest)) (qualifier_written object _))
  written (x.New class args) rest =
      simp append_assoc (rw (exprs_written args (kind.Sym y.CloseParen ∷ rest)) (ap (λ ts. kind.Word k.New ∷ ts) (name_written class _)))
  written (x.NewArray element dims more list) rest =
      simp append_assoc (rw (any_list_written list rest, brackets_written more (any_list_tokens list ++ rest), dims_written dims (brackets more ++ (any_list_tokens list ++ rest)))
      (ap (λ ts. kind.Word k.New ∷ ts) (base_written element _)))

  pub qualifier_written : (q : x.AnyReceiver) (rest : List Kind) → write_qualifier q rest ≡ qualifier_tokens q ++ rest
  qualifier_written x.no_receiver rest = refl
  qualifier_written (x.a_receiver r) rest = simp append_assoc (receiver_written r (kind.Sym y.Dot ∷ rest))

  pub receiver_written : (r : x.Receiver) (rest : List Kind) → write_receiver r rest ≡ receiver_tokens r ++ rest
  receiver_written (x.Of object) rest = written object rest
  receiver_written (x.OfName n) rest = name_written n rest
  receiver_written x.Super rest = refl

  pub exprs_written : (all : x.Exprs) (rest : List Kind) → write_exprs all rest ≡ exprs_tokens all ++ rest
  exprs_written x.no_exprs rest = refl
  exprs_written (x.more_exprs e all) rest = simp append_assoc (rw (others_written all rest) (written e _))

  pub others_written : (all : x.Exprs) (rest : List Kind) → write_others all rest ≡ after_expr all ++ rest
  others_written x.no_exprs rest = refl
  others_written (x.more_exprs e all) rest = simp append_assoc (rw (others_written all rest) (ap (λ ts. kind.Sym y.Comma ∷ ts) (written e _)))

  pub dims_written : (all : x.Exprs) (rest : List Kind) → write_dims all rest ≡ dims_tokens all ++ rest
  dims_written x.no_exprs rest = refl
  dims_written (x.more_exprs e all) rest = simp append_assoc (rw (dims_written all rest) (ap (λ ts. kind.Sym y.OpenBracket ∷ ts) (written e _)))

  pub any_list_written : (l : x.AnyList) (rest : List Kind) → write_any_list l rest ≡ any_list_tokens l ++ rest
  any_list_written x.no_list rest = refl
  any_list_written (x.a_list l) rest = list_written l rest

  pub list_written : (l : x.InitList) (rest : List Kind) → write_list l rest ≡ list_tokens l ++ rest
  list_written (x.ListOf all is_open_ended) rest =
      simp append_assoc (rw (comma_written is_open_ended (kind.Sym y.CloseBrace ∷ rest)) (ap (λ ts. kind.Sym y.OpenBrace ∷ ts) (inits_written all _)))

  pub init_written : (i : x.Init) (rest : List Kind) → write_init i rest ≡ init_tokens i ++ rest
  init_written (x.Value value) rest = written value rest
  init_written (x.Listed l) rest = list_written l rest

  pub inits_written : (all : x.Inits) (rest : List Kind) → write_inits all rest ≡ inits_tokens all ++ rest
  inits_written x.no_inits rest = refl
  inits_written (x.more_inits i all) rest = simp append_assoc (rw (more_written all rest) (init_written i _))

  pub more_written : (all : x.Inits) (rest : List Kind) → write_more all rest ≡ after_init all ++ rest
  more_written x.no_inits rest = refl
  more_written (x.more_inits i all) rest = simp append_assoc (rw (more_written all rest) (ap (λ ts. kind.Sym y.Comma ∷ ts) (init_written i _)))

-- ---- what follows

joined_longer : (front rest : List Kind) → length rest ≤ length (front ++ rest)
joined_longer front rest = rw length-append (omega arith)

pub longer : (e : x.Expr) (rest : List Kind) → length rest ≤ length (write_expr e rest)
longer e rest = rw (written e rest) (joined_longer (expr_tokens e) rest)

pub init_longer : (i : x.Init) (rest : List Kind) → length rest ≤ length (write_init i rest)
init_longer i rest = rw (init_written i rest) (joined_longer (init_tokens i) rest)

pub written_front : (e : x.Expr) (front rest : List Kind) → write_expr e (front ++ rest) ≡ write_expr e front ++ rest
written_front e front rest = written e (front ++ rest) ∙ sym (append_assoc (expr_tokens e) front rest) ∙ ap (λ ts. ts ++ rest) (sym (written e front))
