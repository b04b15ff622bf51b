-- What the readers of a tree ask of the readers of its parts, and what follows from it.
use Rattle.std.proofs.Common.{◌≡◌, ℕ, suc, ◌<◌, ◌≤◌, true, false, List, [], ◌∷◌, ◌++◌, length, Ok, refl, ap, arith}
use Rattle.std.proofs.lemmas.Bool.{not-true}
use Rattle.jr_base.specs.declared.text.Text.{Text}
use Rattle.jr_base.specs.declared.kind.Kind.{Kind}
use Rattle.jr_base.specs.declared.kind.Kind.TheVariants as kind
use Rattle.jr_base.specs.declared.kind.Symbol.{Symbol}
use Rattle.jr_base.specs.declared.kind.Symbol.TheVariants as y
use Rattle.jr_tree.specs.declared.tree.Name.{Name}
use Rattle.jr_tree.specs.Shape.{level, is_least, IsShapedExpr, IsShapedList}
use Rattle.jr_tree.specs.Depth.{expr_depth, list_depth}
use Rattle.jr_tree.specs.Mirror.Exprs as x
use Rattle.jr_parse_laws.specs.Parsers.{Parser, and_then, first, is_at}
use Rattle.jr_parse_laws.proofs.Outcomes.{is_symbol_is}
use Rattle.jr_parse_laws.proofs.Turns.{Keeps}
use Rattle.jr_parse_starts.specs.Starts.{starts_expr}
use Rattle.jr_parse_expr.specs.Names.{name_of, Plain, dotted}
use Rattle.jr_parse_expr.specs.Exprs.{Lead, Nothing, Named, Indexed}
use Rattle.jr_parse_expr.specs.Writing.{write_expr, write_list}
use Rattle.jr_parse_expr.specs.Follow.{LastEnds, Ends, IsExpr}
use Rattle.jr_parse_expr.proofs.Written.{longer}
use Rattle.jr_parse_expr.proofs.Beginnings.{begins_any}

-- an expression that was read, and the tokens after it
pub record Found (room least : ℕ) (ts : List Kind) (r : x.Expr × List Kind) : Type 0 where
  pub is : IsExpr room least r.0
  pub written : ts ≡ write_expr r.0 r.1
  pub ended : Ends least r.0 (first r.1)

pub record ReadsExprs (room : ℕ) (read : Lead → ℕ → Parser x.Expr) : Type 0 where
  pub complete : (least : ℕ) (e : x.Expr) (rest : List Kind) → IsExpr room least e → Ends least e (first rest) → read Nothing least (write_expr e rest) ≡ Ok (e, rest)
  pub sound : (least : ℕ) (ts : List Kind) (r : x.Expr × List Kind) → least ≤ 12 → read Nothing least ts ≡ Ok r → Found room least ts r
  -- a name at the head may have been read before
  pub named : (least : ℕ) (head : Text) (ts : List Kind) → 0 < room → read Nothing least (kind.Ident head ∷ ts) ≡ and_then (dotted true [] head ts) (λ d. read (Named d) least)
  -- and an open bracket behind it
  pub into_bracket : (least : ℕ) (before : List Text) (last : Text) (ts : List Kind) (r : x.Expr × List Kind)
      → read (Named (Plain before last)) least (kind.Sym y.OpenBracket ∷ ts) ≡ Ok r → read (Indexed (name_of (before ++ last ∷ []))) least ts ≡ Ok r
  pub out_of_bracket : (least : ℕ) (before : List Text) (last : Text) (ts : List Kind) (r : x.Expr × List Kind)
      → read (Indexed (name_of (before ++ last ∷ []))) least ts ≡ Ok r → read (Named (Plain before last)) least (kind.Sym y.OpenBracket ∷ ts) ≡ Ok r
  pub no_index : (least : ℕ) (n : Name) (ts : List Kind) (r : x.Expr × List Kind) → read (Indexed n) least (kind.Sym y.CloseBracket ∷ ts) ≡ Ok r → ⊥

pub record ListFound (room : ℕ) (ts : List Kind) (r : x.InitList × List Kind) : Type 0 where
  pub shaped : IsShapedList r.0
  pub low : list_depth r.0 ≤ room
  pub written : ts ≡ write_list r.0 r.1

pub record ReadsLists (room : ℕ) (read : Parser x.InitList) : Type 0 where
  pub complete : (l : x.InitList) (rest : List Kind) → IsShapedList l → list_depth l ≤ room → read (write_list l rest) ≡ Ok (l, rest)
  pub sound : (ts : List Kind) (r : x.InitList × List Kind) → read ts ≡ Ok r → ListFound room ts r

-- an operand that was read, of at most a level more
pub record Operand (room : ℕ) (ts : List Kind) (r : x.Expr × List Kind) : Type 0 where
  pub shaped : IsShapedExpr r.0
  pub tight : 12 ≤ level r.0
  pub not_least : is_least r.0 ≡ false
  pub low : expr_depth r.0 ≤ suc room
  pub written : ts ≡ write_expr r.0 r.1
  pub ended : LastEnds r.0 (first r.1)

-- ---- facts on trees

pub depth_pos : (e : x.Expr) → 1 ≤ expr_depth e
depth_pos (x.Lit token) = omega arith
depth_pos e = omega arith

pub list_depth_pos : (l : x.InitList) → 1 ≤ list_depth l
list_depth_pos (x.ListOf all b) = omega arith

abbrev pub listed : x.Exprs → List x.Expr
listed x.no_exprs = []
listed (x.more_exprs e all) = e ∷ listed all

pub exprs_listed : (all : x.Exprs) → x.exprs (listed all) ≡ all
exprs_listed x.no_exprs = refl
exprs_listed (x.more_exprs e all) = ap (x.more_exprs e) (exprs_listed all)

-- ---- facts on tokens

pub at_sound : (s : Symbol) (ts : List Kind) → is_at s ts ≡ true → (us : List Kind) × (ts ≡ kind.Sym s ∷ us)
at_sound s [] h = absurd (cc)
at_sound s (token ∷ ts) h = (ts, ap (λ token. token ∷ ts) (is_symbol_is s token h))

pub starts_no_bracket : (ts : List Kind) → starts_expr (first ts) ≡ true → is_at y.CloseBracket ts ≡ false
starts_no_bracket [] h = refl
starts_no_bracket (kind.Sym y.CloseBracket ∷ ts) h = absurd (cc)
starts_no_bracket (token ∷ ts) h = refl

-- ---- what was found

pub found_starts : {room least : ℕ} {ts : List Kind} {r : x.Expr × List Kind} → Found room least ts r → starts_expr (first ts) ≡ true
found_starts {ts = ts} {r = r} f = rw f.written (begins_any r.0 r.1 f.is.shaped (not-true _ f.is.fits.1))

pub found_keeps : {room least : ℕ} {ts : List Kind} {r : x.Expr × List Kind} → Found room least ts r → length r.1 ≤ length ts
found_keeps {ts = ts} {r = r} f = let same = ap (λ (ts : List Kind). length ts) f.written in let l = longer r.0 r.1 in omega arith

pub inner_keeps : (room : ℕ) (read : Lead → ℕ → Parser x.Expr) → ReadsExprs room read → Keeps (read Nothing 0)
inner_keeps room read reads ts e rest h = found_keeps (reads.sound 0 ts (e, rest) (omega arith) h)
