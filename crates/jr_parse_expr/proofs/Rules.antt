-- Names, types, expressions, initializers and arguments as rules of a grammar, to be put together by the library of laws.
use Rattle.std.proofs.Common.{◌≡◌, ℕ, suc, ◌≤◌, false, List, [], ◌∷◌, ◌++◌, Option, Ok, Err, refl, sym, ap, ◌∙◌, subst, append_assoc, arith}
use Rattle.std.specs.Prelude.{⊤}
use Rattle.jr_base.specs.declared.kind.Kind.{Kind}
use Rattle.jr_base.specs.declared.kind.Kind.TheVariants as kind
use Rattle.jr_base.specs.declared.kind.Symbol.TheVariants as y
use Rattle.jr_tree.specs.declared.tree.Name.{Name}
use Rattle.jr_tree.specs.declared.tree.TypeUse.{TypeUse}
use Rattle.jr_tree.specs.declared.tree.Base.TheVariants as base
use Rattle.jr_tree.specs.Words.{name_tokens, type_tokens, brackets}
use Rattle.jr_tree.specs.Tokens.{init_tokens, exprs_tokens}
use Rattle.jr_tree.specs.Shape.{IsName, IsTypeUse}
use Rattle.jr_tree.specs.Mirror.Exprs as x
use Rattle.jr_parse_laws.specs.declared.fault.Fault.{Fault}
use Rattle.jr_parse_laws.specs.Parsers.{Parser, first, begins_with}
use Rattle.jr_parse_laws.proofs.Exact.{Parsed, Exact, Rule, always}
use Rattle.jr_parse_expr.specs.Names.{name_of, type_of, name, dims, type_use}
use Rattle.jr_parse_expr.specs.Exprs.{Nothing, expr, list, init, arguments}
use Rattle.jr_parse_expr.specs.Writing.{write_name, write_brackets, write_type, write_expr, write_init, write_exprs}
use Rattle.jr_parse_expr.specs.Follow.{TypeEnds, Ends, InitEnds, IsExpr}
use Rattle.jr_parse_expr.specs.Laws.{IsInitOf}
use Rattle.jr_parse_expr.proofs.Written.{name_written, brackets_written, type_written, init_written, exprs_written, written_front}
use Rattle.jr_parse_expr.proofs.NameReads.{name_read, name_sound, dims_read, dims_sound, type_read, type_sound}
use Rattle.jr_parse_expr.proofs.Asked.{listed, exprs_listed}
use Rattle.jr_parse_expr.proofs.Arguments.{arguments_read, arguments_sound}
use Rattle.jr_parse_expr.proofs.Initializers.{init_read, init_sound}
use Rattle.jr_parse_expr.proofs.ExprReads.{all_read}
use Rattle.jr_parse_expr.proofs.Locals.{Local}
use Rattle.jr_parse_expr.proofs.NameLocals.{name_local, dims_local, type_local}
use Rattle.jr_parse_expr.proofs.ExprLocals.{arguments_local}
use Rattle.jr_parse_expr.proofs.AllLocals.{all_local, wider_le, alone_by, init_local}
use Rattle.jr_parse_expr.proofs.Growths.{Growing, leading_then, leading_one, grows, none_grows, sample, sample_is}
use Rattle.jr_parse_expr.proofs.NameGrowths.{name_grows, dims_stop, type_grows, brackets_more, leading_brackets}
use Rattle.jr_parse_expr.proofs.PartGrowths.{AreArgs, write_args, arguments_grow}
use Rattle.jr_parse_expr.proofs.AllGrowths.{all_grow, init_grows}
use Rattle.jr_parse_laws.proofs.Stops.{leading_nothing}

-- a rule from what is read, where it stops, and that this does not hang on what stands behind
pub exact_by : {A : Type 0} (Can : ℕ → Type 0) (Is : ℕ → A → Type 0) (write : A → List Kind → List Kind) (ends : A → Option Kind → Type 0) (read : ℕ → Parser A)
    → ((room : ℕ) (a : A) (rest : List Kind) → Is room a → ends a (first rest) → read room (write a rest) ≡ Ok (a, rest))
    → ((room : ℕ) (ts : List Kind) (r : A × List Kind) → read room ts ≡ Ok r → Parsed Is write ends room ts r)
    → ((room : ℕ) (ts : List Kind) (stop : Fault × List Kind) → Can room → read room ts ≡ Err stop → Growing Is write room ts stop)
    → ((room other : ℕ) (le : room ≤ other) → Can room → Local room other le (read room) (read other))
    → ((a : A) (front rest : List Kind) → write a (front ++ rest) ≡ write a front ++ rest)
    → ((room other : ℕ) (a : A) → room ≤ other → Is room a → Is other a)
    → ((room : ℕ) → Can room → (a : A) × Is room a)
    → Exact Can Is write ends read
exact_by Can Is write ends read complete sound grow local front wider sample = record {
  complete = complete;
  sound = sound;
  stuck = λ room ts stop can h.
      let g = grow room ts stop can h in
      record {
        viable = g.viable;
        deeper = g.deeper;
        alone = λ other w up e.
            let le = wider_le stop.0 room other up in
            let a = alone_by room other le (read other) ts (read room ts) stop.0 stop.1 h (local room other le can ts) up in
            (a.front ++ w, record { front = a.front; one = a.split; two = refl }, a.again w e);
      };
  front = front;
  wider = wider;
  sample = sample;
}

front_by : (into : List Kind → List Kind) (tokens : List Kind) → ((z : List Kind) → into z ≡ tokens ++ z) → (front rest : List Kind) → into (front ++ rest) ≡ into front ++ rest
front_by into tokens h front rest = h (front ++ rest) ∙ sym (append_assoc tokens front rest) ∙ ap (λ ts. ts ++ rest) (sym (h front))

-- ---- names and types

abbrev pub is_named : ℕ → Name → Type 0
is_named room n = IsName n

abbrev pub name_ends : Name → Option Kind → Type 0
name_ends n o = begins_with y.Dot o ≡ false

pub a_name_exact : Exact always is_named write_name name_ends (λ room. name)
a_name_exact = exact_by always is_named write_name name_ends (λ room. name) (λ room n rest is ended. name_read n rest is ended)
    (λ room ts r h. let found = name_sound ts r h in record { is = found.0; written = found.1; ended = found.2 })
    (λ room ts stop can h. name_grows room ts stop h) (λ room other le can. name_local room other le) (λ n front rest. front_by (write_name n) (name_tokens n) (name_written n) front rest) (λ room other n le is. is)
    (λ room can. (name_of ([] ∷ []), refl))

abbrev pub a_name : Rule Name
a_name = record {
  Can = always;
  Is = is_named;
  write = write_name;
  ends = name_ends;
  read = λ room. name;
  exact = a_name_exact;
}

abbrev pub is_count : ℕ → ℕ → Type 0
is_count room n = ⊤

abbrev pub dims_end : ℕ → Option Kind → Type 0
dims_end n o = begins_with y.OpenBracket o ≡ false

dims_grow : (room : ℕ) (ts : List Kind) (stop : Fault × List Kind) → dims ts ≡ Err stop → Growing is_count write_brackets room ts stop
dims_grow room ts stop h =
    let s = dims_stop ts stop h in
    subst (λ ts. Growing is_count write_brackets room ts stop) (sym s.split)
    (subst (Growing is_count write_brackets room (write_brackets s.count (kind.Sym y.OpenBracket ∷ s.rest))) s.here
    (none_grows room s.rest (λ z. write_brackets s.count (kind.Sym y.OpenBracket ∷ z)) (leading_then (leading_brackets s.count) (leading_one (kind.Sym y.OpenBracket))) (suc s.count) (λ z. kind.Sym y.CloseBracket ∷ z)
    (λ z. brackets_more s.count z) tt))

-- pairs of brackets
pub some_dims_exact : Exact always is_count write_brackets dims_end (λ room. dims)
some_dims_exact = exact_by always is_count write_brackets dims_end (λ room. dims) (λ room n rest is ended. dims_read n rest ended) (λ room ts r h. let found = dims_sound ts r h in record { is = tt; written = found.0; ended = found.1 })
    (λ room ts stop can h. dims_grow room ts stop h) (λ room other le can. dims_local room other le) (λ n front rest. front_by (write_brackets n) (brackets n) (brackets_written n) front rest) (λ room other n le is. is)
    (λ room can. (0, tt))

abbrev pub some_dims : Rule ℕ
some_dims = record {
  Can = always;
  Is = is_count;
  write = write_brackets;
  ends = dims_end;
  read = λ room. dims;
  exact = some_dims_exact;
}

abbrev pub is_type : ℕ → TypeUse → Type 0
is_type room t = IsTypeUse t

pub a_type_exact : Exact always is_type write_type TypeEnds (λ room. type_use)
a_type_exact = exact_by always is_type write_type TypeEnds (λ room. type_use) (λ room t rest is ended. type_read t rest is ended)
    (λ room ts r h. let found = type_sound ts r h in record { is = found.is; written = found.written; ended = found.ended })
    (λ room ts stop can h. type_grows room ts stop h) (λ room other le can. type_local room other le) (λ t front rest. front_by (write_type t) (type_tokens t) (type_written t) front rest) (λ room other t le is. is)
    (λ room can. (type_of (base.Named (name_of ([] ∷ []))) 0, refl))

abbrev pub a_type : Rule TypeUse
a_type = record {
  Can = always;
  Is = is_type;
  write = write_type;
  ends = TypeEnds;
  read = λ room. type_use;
  exact = a_type_exact;
}

-- ---- expressions

abbrev pub has_level : ℕ → Type 0
has_level room = 1 ≤ room

abbrev pub is_expr : ℕ → ℕ → x.Expr → Type 0
is_expr least room e = IsExpr room least e

abbrev pub read_expr : ℕ → ℕ → Parser x.Expr
read_expr least room = expr room Nothing least

-- from a level of binding on
pub an_expr_exact : (least : ℕ) → least ≤ 12 → Exact has_level (is_expr least) write_expr (Ends least) (read_expr least)
an_expr_exact least le = exact_by has_level (is_expr least) write_expr (Ends least) (read_expr least) (λ room e rest is ended. (all_read room).exprs.complete least e rest is ended)
    (λ room ts r h. let found = (all_read room).exprs.sound least ts r le h in record { is = found.is; written = found.written; ended = found.ended })
    (λ room ts stop can h. (all_grow room).exprs.grow can least ts stop le h) (λ room other up can. (all_local room other up).exprs.plain least) written_front
    (λ room other e up is. record { shaped = is.shaped; fits = is.fits; low = let l = is.low in omega arith }) (λ room can. (sample, sample_is room least can (omega arith)))

abbrev pub an_expr : (least : ℕ) → least ≤ 12 → Rule x.Expr
an_expr least le = record {
  Can = has_level;
  Is = is_expr least;
  write = write_expr;
  ends = Ends least;
  read = read_expr least;
  exact = an_expr_exact least le;
}

-- ---- initializers

pub an_init_exact : Exact has_level IsInitOf write_init InitEnds init
an_init_exact = exact_by has_level IsInitOf write_init InitEnds init (λ room i rest is ended. init_read room (expr room) (list room) (all_read room).exprs (all_read room).lists i rest is.0 is.1 ended)
    (λ room ts r h. let found = init_sound room (expr room) (list room) (all_read room).exprs (all_read room).lists ts r h in record { is = (found.shaped, found.low); written = found.written; ended = found.ended })
    (λ room ts stop can h. init_grows room (expr room) (list room) (all_read room).exprs (all_read room).lists (all_grow room).exprs (all_grow room).lists can ts stop h)
    (λ room other le can. init_local room other le (expr room) (expr other) (list room) (list other) (all_read room).exprs (all_read other).exprs (all_read room).lists (all_read other).lists (all_local room other le).exprs (all_local room other le).lists)
    (λ i front rest. front_by (write_init i) (init_tokens i) (init_written i) front rest) (λ room other i le is. (is.0, (let l = is.1 in omega arith)))
    (λ room can. (x.Value sample, (((omega arith, refl), tt), can)))

abbrev pub an_init : Rule x.Init
an_init = record {
  Can = has_level;
  Is = IsInitOf;
  write = write_init;
  ends = InitEnds;
  read = init;
  exact = an_init_exact;
}

-- ---- arguments, behind the open parenthesis

abbrev pub are_args : ℕ → List x.Expr → Type 0
are_args room all = AreArgs room (x.exprs all)

abbrev pub write_listed : List x.Expr → List Kind → List Kind
write_listed all rest = write_args (x.exprs all) rest

abbrev pub args_end : List x.Expr → Option Kind → Type 0
args_end all o = ⊤

abbrev pub read_args : ℕ → Parser (List x.Expr)
read_args room = arguments room (expr room) (list room)

listed_exprs : (all : List x.Expr) → listed (x.exprs all) ≡ all
listed_exprs [] = refl
listed_exprs (e ∷ all) = ap (λ all. e ∷ all) (listed_exprs all)

args_front : (all : List x.Expr) (front rest : List Kind) → write_listed all (front ++ rest) ≡ write_listed all front ++ rest
args_front all front rest = front_by (write_exprs (x.exprs all)) (exprs_tokens (x.exprs all)) (exprs_written (x.exprs all)) (kind.Sym y.CloseParen ∷ front) rest

pub some_args_exact : Exact always are_args write_listed args_end read_args
some_args_exact = exact_by always are_args write_listed args_end read_args
    (λ room all rest is ended. arguments_read room (expr room) (list room) (all_read room).exprs (x.exprs all) rest is.0 is.1 ∙ ap (λ all. Ok (all, rest)) (listed_exprs all))
    (λ room ts r h. let found = arguments_sound room (expr room) (list room) (all_read room).exprs ts r h in record { is = (found.shaped, found.low); written = found.written; ended = tt })
    (λ room ts stop can h. grows room room ts stop (λ z. z) leading_nothing listed (λ z. z) (λ a z. ap (λ all. write_args all z) (exprs_listed a)) (λ r a is. (r, subst (AreArgs r) (sym (exprs_listed a)) is)) (λ a is. subst (AreArgs room) (sym (exprs_listed a)) is)
    (arguments_grow room (expr room) (list room) (all_read room).exprs (all_read room).lists (all_grow room).exprs (all_grow room).lists ts stop h))
    (λ room other le can. arguments_local room other le (expr room) (expr other) (list room) (list other) (all_read room).exprs (all_read other).exprs (all_local room other le).exprs (all_local room other le).lists)
    args_front (λ room other all le is. (is.0, (let l = is.1 in omega arith))) (λ room can. ([], (tt, omega arith)))

abbrev pub some_args : Rule (List x.Expr)
some_args = record {
  Can = always;
  Is = are_args;
  write = write_listed;
  ends = args_end;
  read = read_args;
  exact = some_args_exact;
}
