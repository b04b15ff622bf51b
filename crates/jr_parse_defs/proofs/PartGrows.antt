-- Where expressions, variables and parameters of statements stop, what stands before begins a tree.
use Rattle.std.proofs.Common.{◌≡◌, ℕ, zero, suc, ◌≤◌, Bool, true, false, not, List, [], ◌∷◌, ◌++◌, length, Some, None, Ok, Err, refl, sym, ap, ◌∙◌, subst, ◌⊎◌, inl, inr, arith}
use Rattle.std.proofs.lemmas.Bool.{and_parts}
use Rattle.std.specs.List.{AllByRecursion}
use Rattle.jr_base.specs.declared.text.Text.{Text}
use Rattle.jr_base.specs.declared.kind.Kind.{Kind}
use Rattle.jr_base.specs.declared.kind.Kind.TheVariants as kind
use Rattle.jr_base.specs.declared.kind.Symbol.{Symbol}
use Rattle.jr_base.specs.declared.kind.Symbol.TheVariants as y
use Rattle.jr_base.specs.declared.kind.Keyword.TheVariants as k
use Rattle.jr_tree.specs.declared.tree.Name.{Name}
use Rattle.jr_tree.specs.declared.tree.TypeUse.{TypeUse}
use Rattle.jr_tree.specs.declared.tree.Base.TheVariants as base
use Rattle.jr_tree.specs.Levels.{is_literal, is_least_kind, is_step, is_assignment}
use Rattle.jr_tree.specs.Shape.{is_empty, IsWholeExpr, IsStatementExpr, AreStatementExprs, IsShapedInit, IsShapedDeclarator, IsShapedParam, IsTypeUse}
use Rattle.jr_tree.specs.Depth.{deepest, expr_depth, exprs_depth, init_depth, declarator_depth}
use Rattle.jr_tree.specs.Words.{type_tokens}
use Rattle.jr_tree.specs.Tokens.{exprs_tokens, declarator_tokens, declarators_tokens, cond_tokens}
use Rattle.jr_tree.specs.Mirror.Exprs as x
use Rattle.jr_tree.specs.Mirror.Stmts as s
use Rattle.jr_parse_laws.specs.declared.fault.Fault.{Fault}
use Rattle.jr_parse_laws.specs.declared.fault.Fault.TheVariants.{NoTree, TooDeep}
use Rattle.jr_parse_laws.specs.Parsers.{Parser, and_then, first, begins_with, many, after_comma, optional}
use Rattle.jr_parse_laws.proofs.Outcomes.{bind_ok, ok_err, err_is, Before, After, stops}
use Rattle.jr_parse_laws.proofs.Stops.{Leading, leading_nothing}
use Rattle.jr_parse_starts.specs.Starts.{begins_primary, begins_effect, is_plain_literal, starts_expr, starts_effect, next_is}
use Rattle.jr_parse_expr.specs.Names.{name_of, type_of, dims, type_use, Plain, dotted_from, dotted}
use Rattle.jr_parse_expr.specs.Exprs as exprs
use Rattle.jr_parse_expr.specs.Exprs.{Lead, Nothing, Named, Indexed, This, Super, goes_on, goes_on_name, goes_on_primary, goes_on_super, below, any_commas, expr, list, effect, init}
use Rattle.jr_parse_expr.specs.Writing.{write_all, write_brackets, write_type, write_expr, write_exprs, write_others, write_init, write_lead}
use Rattle.jr_parse_expr.specs.Follow.{IsLed}
use Rattle.jr_parse_expr.specs.Laws.{HasEffectRoom}
use Rattle.jr_parse_expr.proofs.Written.{exprs_written, type_written}
use Rattle.jr_parse_expr.proofs.NameReads.{has_parts, parts_append, all_append, dims_sound, type_sound}
use Rattle.jr_parse_expr.proofs.NameGrowths.{dims_stop, brackets_more, leading_brackets, type_grows}
use Rattle.jr_parse_expr.proofs.Growths.{Growing, leading_tokens, leading_then, leading_one, leading_expr, sample, starter, or_second}
use Rattle.jr_parse_expr.proofs.PartGrowths.{NoLevel, Deep, Refused}
use Rattle.jr_parse_expr.proofs.AllGrowths.{all_grow, no_level_is}
use Rattle.jr_parse_expr.proofs.Stuck.{inits_stuck}
use Rattle.jr_parse_expr.proofs.EffectStuck.{effects_stuck}
use Rattle.jr_parse_expr.proofs.ExprReads.{no_level_err}
use Rattle.jr_parse_defs.specs.Stmts as reader
use Rattle.jr_parse_defs.specs.Writing.{write_if, write_many, write_after, write_cond, write_declarator, write_declarators, write_param}
use Rattle.jr_parse_defs.proofs.Written.{cond_written, declarator_written, declarators_written}
use Rattle.jr_parse_defs.proofs.Lists.{asunder}
use Rattle.jr_parse_defs.proofs.Variables as variables
use Rattle.jr_parse_defs.proofs.Variables.{AreVariables, declarator_after_sound, declarator_sound, declarators_sound, finality_sound}
use Rattle.jr_parse_defs.proofs.Expressions as expressions
use Rattle.jr_parse_defs.proofs.Expressions.{whole_sound, found_effect}
use Rattle.jr_parse_defs.proofs.Grows.{Low, part, gone, deeps, seen, on, last, symbol_on, ident_on, ends_with, choose, at_word, forces, many_grow, one_of, shaped_append, flat, either}

-- ---- leading parts

pub leading_cond : (c : x.Expr) → Leading (write_cond c)
leading_cond c = leading_tokens (write_cond c) (cond_tokens c) (cond_written c)

pub leading_exprs : (all : x.Exprs) → Leading (write_exprs all)
leading_exprs all = leading_tokens (write_exprs all) (exprs_tokens all) (exprs_written all)

pub leading_type : (t : TypeUse) → Leading (write_type t)
leading_type t = leading_tokens (write_type t) (type_tokens t) (type_written t)

leading_declarator : (d : s.Declarator) → Leading (write_declarator d)
leading_declarator d = leading_tokens (write_declarator d) (declarator_tokens d) (declarator_written d)

pub leading_declarators : (ds : List s.Declarator) → Leading (write_declarators ds)
leading_declarators ds = leading_tokens (write_declarators ds) (declarators_tokens ds) (declarators_written ds)

pub leading_if : (b : Bool) (token : Kind) → Leading (write_if b token)
leading_if true token = leading_one token
leading_if false token = leading_nothing

pub leading_after : {A : Type 0} (write : A → List Kind → List Kind) → ((a : A) → Leading (write a)) → (a : A) → Leading (write_after write a)
leading_after write each a = leading_then (leading_one (kind.Sym y.Comma)) (each a)

-- ---- samples

pub sample_whole : IsWholeExpr sample
sample_whole = ((omega arith, refl), tt)

-- an expression that begins with the token
pub record WholeStarter (token : Kind) : Type 0 where
  pub tree : x.Expr
  pub is : IsWholeExpr tree
  pub more : List Kind → List Kind
  pub spelled : (z : List Kind) → write_expr tree z ≡ token ∷ more z

pub whole_starter : (token : Kind) → starts_expr (Some token) ≡ true → WholeStarter token
whole_starter token h = let s = starter token h in record { tree = s.tree; is = ((omega arith, s.is.fits.1), s.is.shaped); more = s.more; spelled = s.spelled }

-- one that stands as a statement
pub record EffectStarter (token : Kind) : Type 0 where
  pub tree : x.Expr
  pub is : IsStatementExpr tree
  pub more : List Kind → List Kind
  pub spelled : (z : List Kind) → write_expr tree z ≡ token ∷ more z

step_of : (token : Kind) → is_plain_literal token ≡ true → EffectStarter token
step_of token h =
    let p = and_parts (is_literal token) (not (is_least_kind token)) h in
    record { tree = x.PostStep (x.Lit token) y.PlusPlus; is = (refl, (refl, (omega arith, p.1), p.0)); more = λ z. kind.Sym y.PlusPlus ∷ z; spelled = λ z. refl }

pub effect_starter : (token : Kind) → begins_effect token ≡ true → EffectStarter token
effect_starter (kind.Ident n) h = record { tree = x.Call x.no_receiver n x.no_exprs; is = (refl, (tt, tt)); more = λ z. kind.Sym y.OpenParen ∷ kind.Sym y.CloseParen ∷ z; spelled = λ z. refl }
effect_starter (kind.Sym y.OpenParen) h = record {
  tree = x.PostStep (x.Paren sample) y.PlusPlus;
  is = (refl, (refl, (omega arith, refl), ((omega arith, refl), tt)));
  more = λ z. kind.Word k.This ∷ kind.Sym y.CloseParen ∷ kind.Sym y.PlusPlus ∷ z;
  spelled = λ z. refl;
}
effect_starter (kind.Sym y.PlusPlus) h = record { tree = x.PreStep y.PlusPlus sample; is = (refl, (refl, (omega arith, refl), tt)); more = λ z. kind.Word k.This ∷ z; spelled = λ z. refl }
effect_starter (kind.Sym y.MinusMinus) h = record { tree = x.PreStep y.MinusMinus sample; is = (refl, (refl, (omega arith, refl), tt)); more = λ z. kind.Word k.This ∷ z; spelled = λ z. refl }
effect_starter (kind.Sym s) h = absurd (cc)
effect_starter (kind.Word k.This) h = record { tree = x.PostStep sample y.PlusPlus; is = (refl, (refl, (omega arith, refl), tt)); more = λ z. kind.Sym y.PlusPlus ∷ z; spelled = λ z. refl }
effect_starter (kind.Word k.Super) h = record {
  tree = x.Call (x.a_receiver x.Super) [] x.no_exprs;
  is = (refl, (tt, tt));
  more = λ z. kind.Sym y.Dot ∷ kind.Ident [] ∷ kind.Sym y.OpenParen ∷ kind.Sym y.CloseParen ∷ z;
  spelled = λ z. refl;
}
effect_starter (kind.Word k.New) h = record { tree = x.New (name_of ([] ∷ [])) x.no_exprs; is = (refl, (refl, tt)); more = λ z. kind.Ident [] ∷ kind.Sym y.OpenParen ∷ kind.Sym y.CloseParen ∷ z; spelled = λ z. refl }
effect_starter (kind.Word w) h = step_of (kind.Word w) (or_second (begins_primary w) (is_plain_literal (kind.Word w)) h refl)
effect_starter token h = step_of token h

-- one that begins with a name, and goes on with the token
pub record NameStarter (before : List Text) (last : Text) (token : Kind) : Type 0 where
  pub tree : x.Expr
  pub is : IsStatementExpr tree
  pub more : List Kind → List Kind
  pub spelled : (z : List Kind) → write_expr tree z ≡ write_all (before ++ last ∷ []) (token ∷ more z)

abbrev named : List Text → Text → x.Expr
named before last = x.NameExpr (name_of (before ++ last ∷ []))

named_step : (before : List Text) (last : Text) (op : Symbol) → is_step op ≡ true → NameStarter before last (kind.Sym op)
named_step before last op h = record { tree = x.PostStep (named before last) op; is = (refl, (h, (omega arith, refl), has_parts before last)); more = λ z. z; spelled = λ z. refl }

named_assigned : (before : List Text) (last : Text) (op : Symbol) → is_assignment op ≡ true → NameStarter before last (kind.Sym op)
named_assigned before last op h = record { tree = x.Assign (named before last) op sample; is = (refl, (h, refl, has_parts before last, (omega arith, refl), tt)); more = λ z. kind.Word k.This ∷ z; spelled = λ z. refl }

-- a call of the last identifier, on what stands before
abbrev pub call_named : List Text → Text → x.Expr
call_named before last = x.Call (exprs.receiver_of before) last x.no_exprs

pub call_is : (before : List Text) (last : Text) → IsStatementExpr (call_named before last)
call_is [] last = (refl, (tt, tt))
call_is (part ∷ before) last = (refl, (refl, tt))

pub call_depth : (before : List Text) (last : Text) → expr_depth (call_named before last) ≤ 1
call_depth [] last = omega arith
call_depth (part ∷ before) last = omega arith

pub call_spelled : (before : List Text) (last : Text) (z : List Kind) → write_expr (call_named before last) z ≡ write_all (before ++ last ∷ []) (kind.Sym y.OpenParen ∷ kind.Sym y.CloseParen ∷ z)
call_spelled [] last z = refl
call_spelled (part ∷ before) last z = ap (λ ts. kind.Ident part ∷ ts) (sym (parts_append before (last ∷ []) (kind.Sym y.OpenParen ∷ kind.Sym y.CloseParen ∷ z)))

pub name_starter : (before : List Text) (last : Text) (token : Kind) → goes_on_name token ≡ true → NameStarter before last token
name_starter before last (kind.Sym y.OpenParen) h = record { tree = call_named before last; is = call_is before last; more = λ z. kind.Sym y.CloseParen ∷ z; spelled = call_spelled before last }
name_starter before last (kind.Sym s) h =
    elim (either (is_step s) (is_assignment s) h) [
      | inl t ↦ named_step before last s t
      | inr t ↦ named_assigned before last s t
    ]
name_starter before last token h = absurd (cc)

-- ---- a name and `this`

-- what is missing behind a dot
pub record DottedFault (b : Bool) (before : List Text) (head : Text) (ts : List Kind) (stop : Fault × List Kind) : Type 0 where
  pub front : List Text
  pub final : Text
  pub rest : List Kind
  pub split : write_all (before ++ head ∷ []) ts ≡ write_all (front ++ final ∷ []) (kind.Sym y.Dot ∷ rest)
  pub why : ((NoTree, rest) ≡ stop) ⊎ ((us : List Kind) × (rest ≡ kind.Word k.This ∷ us) × ((TooDeep, kind.Word k.This ∷ us) ≡ stop))

dotted_from_fault : (b : Bool) (turns : ℕ) (before : List Text) (last : Text) (ts : List Kind) (stop : Fault × List Kind) → dotted_from b turns before last ts ≡ Err stop → DottedFault b before last ts stop
dotted_from_fault b zero before last ts stop h = absurd (ok_err h)
dotted_from_fault b (suc turns) before last [] stop h = absurd (ok_err h)
dotted_from_fault b (suc turns) before last (kind.Sym y.Dot ∷ []) stop h = record { front = before; final = last; rest = []; split = refl; why = inl (err_is h) }
dotted_from_fault b (suc turns) before last (kind.Sym y.Dot ∷ kind.Ident part ∷ ts) stop h =
    let more = dotted_from_fault b turns (before ++ last ∷ []) part ts stop h in
    record { front = more.front; final = more.final; rest = more.rest; split = sym (all_append before last (part ∷ []) ts) ∙ more.split; why = more.why }
dotted_from_fault true (suc turns) before last (kind.Sym y.Dot ∷ kind.Word k.This ∷ ts) stop h = absurd (ok_err h)
dotted_from_fault false (suc turns) before last (kind.Sym y.Dot ∷ kind.Word k.This ∷ ts) stop h =
    record { front = before; final = last; rest = kind.Word k.This ∷ ts; split = refl; why = inr (ts, refl, err_is h) }
dotted_from_fault b (suc turns) before last (kind.Sym y.Dot ∷ token ∷ ts) stop h = record { front = before; final = last; rest = token ∷ ts; split = refl; why = inl (err_is h) }
dotted_from_fault b (suc turns) before last (token ∷ ts) stop h = absurd (ok_err h)

pub dotted_fault : (b : Bool) (head : Text) (ts : List Kind) (stop : Fault × List Kind) → dotted b [] head ts ≡ Err stop → DottedFault b [] head ts stop
unfolding dotted
dotted_fault b head ts stop h = dotted_from_fault b (length ts) [] head ts stop h

-- ---- expressions

pub whole_grow : (room : ℕ) → 1 ≤ room → (ts : List Kind) (stop : Fault × List Kind) → expr room Nothing 0 ts ≡ Err stop → Growing (Low IsWholeExpr expr_depth) write_expr room ts stop
whole_grow room some ts stop h = seen room ts stop (λ r a is. ((is.fits, is.shaped), is.low)) ((all_grow room).exprs.grow some 0 ts stop (omega arith) h)

pub condition_grow : (room : ℕ) → 1 ≤ room → (ts : List Kind) (stop : Fault × List Kind) → reader.condition room ts ≡ Err stop → Growing (Low IsWholeExpr expr_depth) write_cond room ts stop
condition_grow room some ts stop h =
    symbol_on y.OpenParen ts (λ ts. Growing (Low IsWholeExpr expr_depth) write_cond room ts stop) h
    (λ g. gone g leading_nothing sample (λ z. write_cond sample z) (λ z. refl) sample_whole some)
    (λ u us d. on d
    (λ e. part (leading_one (kind.Sym y.OpenParen)) (λ c. c) (λ z. kind.Sym y.CloseParen ∷ z) (λ c z. refl) (λ c is. is) (λ c l. l) (whole_grow room some us stop e))
    (λ c vs e d.
    let found = whole_sound room us (c, vs) e in
    subst (λ us. Growing (Low IsWholeExpr expr_depth) write_cond room (kind.Sym y.OpenParen ∷ us) stop) (sym found.written)
    (gone (ends_with y.CloseParen vs d (λ u us d. ok_err d)) (leading_then (leading_one (kind.Sym y.OpenParen)) (leading_expr c)) c (λ z. kind.Sym y.CloseParen ∷ z) (λ z. refl) found.is found.low)))

-- where an expression may stand and there is no level for one
pub no_whole : (room : ℕ) → room ≤ 0 → (ts : List Kind) (stop : Fault × List Kind) → expr room Nothing 0 ts ≡ Err stop → NoLevel starts_expr ts stop
no_whole room none ts stop h = (all_grow room).exprs.none none 0 ts stop h

-- ---- expressions that stand as statements

pub effect_grow : (room : ℕ) (lead : Lead) → HasEffectRoom lead room → (ts : List Kind) (stop : Fault × List Kind) → IsLed lead (first ts) → effect room lead ts ≡ Err stop
    → Growing (Low IsStatementExpr expr_depth) write_expr room (write_lead lead ts) stop
effect_grow room lead some ts stop led h =
    let stuck = effects_stuck room lead ts stop.0 stop.1 some led h in
    seen room (write_lead lead ts) stop (λ r a is. (is.is, is.low)) (record { viable = stuck.viable; deeper = stuck.deeper })

effect_none : (lead : Lead) (ts : List Kind) (stop : Fault × List Kind) → effect zero lead ts ≡ Err stop → NoLevel (goes_on lead) ts stop
unfolding effect
effect_none lead ts stop h = no_level_is (goes_on lead) ts stop h

-- behind a name, without a level
pub no_named : (room : ℕ) → room ≤ 0 → (before : List Text) (final : Text) (ts : List Kind) (stop : Fault × List Kind) → effect room (Named (Plain before final)) ts ≡ Err stop → NoLevel (next_is goes_on_name) ts stop
no_named zero none before final ts stop h = effect_none (Named (Plain before final)) ts stop h
no_named (suc room) none before final ts stop h = absurd (omega arith)

no_expr : (room : ℕ) (ts : List Kind) (r : x.Expr × List Kind) → room ≡ 0 → expr room Nothing 0 ts ≡ Ok r → ⊥
unfolding expr
no_expr room ts r none h = no_level_err starts_expr ts r (subst (λ room. expr room Nothing 0 ts ≡ Ok r) none h)

bracket_once : (room : ℕ) (n : Name) (ts : List Kind) (stop : Fault × List Kind) → below room ≡ 0 → effect (suc room) (Indexed n) ts ≡ Err stop → NoLevel starts_expr ts stop
unfolding effect exprs.effects exprs.after_bracket
bracket_once room n ts stop none h =
    elim (stops _ (exprs.effect_end room (expr room) (list room)) stop h) [
      | After left us e d ↦
          absurd (let b = bind_ok _ (exprs.effect_suffixes room (expr room) (list room) (expr (below room)) (list (below room))) (left, us) e in let a = bind_ok (expr (below room) Nothing 0 ts) _ b.0 b.1 in no_expr (below room) ts a.0 none a.1)
      | Before e ↦
          (elim (stops _ (exprs.effect_suffixes room (expr room) (list room) (expr (below room)) (list (below room))) stop e) [
            | After left us i d ↦ absurd (let a = bind_ok (expr (below room) Nothing 0 ts) _ (left, us) i in no_expr (below room) ts a.0 none a.1)
            | Before i ↦
                (elim (stops (expr (below room) Nothing 0 ts) _ stop i) [
                  | After v us j d ↦ absurd (no_expr (below room) ts (v, us) none j)
                  | Before j ↦ no_whole (below room) (omega arith) ts stop j
                ])
          ])
    ]

-- behind a name and an open bracket, with fewer than three
pub no_indexed : (room : ℕ) → room ≤ 2 → (n : Name) (ts : List Kind) (stop : Fault × List Kind) → effect room (Indexed n) ts ≡ Err stop → NoLevel starts_expr ts stop
no_indexed zero low n ts stop h = effect_none (Indexed n) ts stop h
no_indexed (suc zero) low n ts stop h = bracket_once 0 n ts stop refl h
no_indexed (suc (suc zero)) low n ts stop h = bracket_once 1 n ts stop refl h
no_indexed (suc (suc (suc room))) low n ts stop h = absurd (omega arith)

this_once : (ts : List Kind) (stop : Fault × List Kind) → effect 1 This ts ≡ Err stop → NoLevel (next_is goes_on_primary) ts stop
unfolding effect exprs.effects exprs.effect_suffixes exprs.effect_end
this_once [] stop h = Refused refl (err_is h)
this_once (kind.Sym y.Dot ∷ ts) stop h = Deep refl (err_is h)
this_once (kind.Sym y.OpenBracket ∷ ts) stop h = Deep refl (err_is h)
this_once (kind.Sym y.PlusPlus ∷ ts) stop h = Deep refl (err_is h)
this_once (kind.Sym y.MinusMinus ∷ ts) stop h = Deep refl (err_is h)
this_once (kind.Sym s ∷ ts) stop h = Refused refl (err_is h)
this_once (token ∷ ts) stop h = Refused refl (err_is h)

-- behind `this`, with fewer than two
pub no_this : (room : ℕ) → room ≤ 1 → (ts : List Kind) (stop : Fault × List Kind) → effect room This ts ≡ Err stop → NoLevel (next_is goes_on_primary) ts stop
no_this zero low ts stop h = effect_none This ts stop h
no_this (suc zero) low ts stop h = this_once ts stop h
no_this (suc (suc room)) low ts stop h = absurd (omega arith)

pub no_super : (room : ℕ) → room ≤ 0 → (ts : List Kind) (stop : Fault × List Kind) → effect room Super ts ≡ Err stop → NoLevel (next_is goes_on_super) ts stop
no_super zero low ts stop h = effect_none Super ts stop h
no_super (suc room) low ts stop h = absurd (omega arith)

-- others behind commas
abbrev write_effects : List x.Expr → List Kind → List Kind
write_effects = write_many (write_after write_expr)

others_many : (all : List x.Expr) (rest : List Kind) → write_effects all rest ≡ write_others (x.exprs all) rest
others_many [] rest = refl
others_many (e ∷ all) rest = ap (λ ts. kind.Sym y.Comma ∷ write_expr e ts) (others_many all rest)

are_effects : (all : List x.Expr) → AllByRecursion IsStatementExpr all → AreStatementExprs (x.exprs all)
are_effects [] h = tt
are_effects (e ∷ all) h = (h.0, are_effects all h.1)

effects_low : (room : ℕ) (all : List x.Expr) → deepest expr_depth all ≤ room → exprs_depth (x.exprs all) ≤ room
effects_low room [] l = omega arith
effects_low room (e ∷ all) l = let m = effects_low room all (omega arith) in omega arith

comma_is : (ts : List Kind) → begins_with y.Comma (first ts) ≡ true → (us : List Kind) × (ts ≡ kind.Sym y.Comma ∷ us)
comma_is [] h = absurd (cc)
comma_is (kind.Sym y.Comma ∷ us) h = (us, refl)
comma_is (token ∷ us) h = absurd (cc)

-- a later item: its comma is there
pub later_item : {A : Type 0} {Shape : A → Type 0} {depth : A → ℕ} {write : A → List Kind → List Kind} (item : Parser A) (room : ℕ) → ((ts : List Kind) (stop : Fault × List Kind) → item ts ≡ Err stop → Growing (Low Shape depth) write room ts stop)
    → (ts : List Kind) (stop : Fault × List Kind) → begins_with y.Comma (first ts) ≡ true → after_comma item ts ≡ Err stop → Growing (Low Shape depth) (write_after write) room ts stop
later_item {Shape = Shape} {depth = depth} {write = write} item room one ts stop starts h =
    let c = comma_is ts starts in
    subst (λ ts. Growing (Low Shape depth) (write_after write) room ts stop) (sym c.1)
    (part (leading_one (kind.Sym y.Comma)) (λ a. a) (λ z. z) (λ a z. refl) (λ a is. is) (λ a l. l) (one c.0 stop (sym (ap (after_comma item) c.1) ∙ h)))

pub others_grow : (room : ℕ) → 1 ≤ room → (ts : List Kind) (stop : Fault × List Kind) → many (begins_with y.Comma) (after_comma (effect room Nothing)) ts ≡ Err stop
    → Growing (Low AreStatementExprs exprs_depth) write_others room ts stop
others_grow room some ts stop h =
    part leading_nothing x.exprs (λ z. z) (λ all z. sym (others_many all z)) (λ all is. are_effects all is) (λ all l. effects_low room all l)
    (many_grow expr_depth (begins_with y.Comma) (after_comma (effect room Nothing)) refl (expressions.Fits room) (write_after write_expr) (expressions.later_sound room) (expressions.later_longer room) room (leading_after write_expr leading_expr)
    (shaped_append (λ e is. is.0)) (λ all are. (asunder IsStatementExpr expr_depth room all are).1) ts stop h
    (λ us starts e. one_of (λ a is. (is, tt)) (later_item (effect room Nothing) room (λ ts stop e. effect_grow room Nothing some ts stop tt e) us stop starts e)))

-- ---- variables

abbrev Variable : ℕ → List Kind → Fault × List Kind → Type 0
Variable room ts stop = Growing (Low IsShapedDeclarator declarator_depth) write_declarator room ts stop

initial_grow : (room : ℕ) → 1 ≤ room → (ts : List Kind) (stop : Fault × List Kind) → init room ts ≡ Err stop → Growing (Low IsShapedInit init_depth) write_init room ts stop
initial_grow room some ts stop h =
    let stuck = inits_stuck room ts stop.0 stop.1 some h in
    seen room ts stop (λ r a is. (is.0, is.1)) (record { viable = stuck.viable; deeper = stuck.deeper })

assigned_grow : (room : ℕ) (v : Text) (n : ℕ) (ts : List Kind) (stop : Fault × List Kind) → reader.initializer room ts ≡ Err stop → Variable room (kind.Ident v ∷ write_brackets n ts) stop
assigned_grow room v n [] stop h = absurd (ok_err h)
assigned_grow room v n (kind.Sym y.Assign ∷ ts) stop h =
    let into = leading_then (leading_one (kind.Ident v)) (leading_brackets n) in
    forces room 1 (kind.Sym y.Assign) ts h
    (λ f e. deeps e into (s.DeclaratorOf v n None) (λ z. z) (λ z. refl) tt (omega arith) (s.DeclaratorOf v n (Some (x.Value sample))) (λ z. kind.Word k.This ∷ z) (λ z. refl) sample_whole)
    (λ some g. part (leading_then into (leading_one (kind.Sym y.Assign))) (λ i. s.DeclaratorOf v n (Some i)) (λ z. z) (λ i z. refl) (λ i is. is) (λ i l. l) (initial_grow room some ts stop (last g (λ i us d. ok_err d))))
assigned_grow room v n (token ∷ ts) stop h = absurd (ok_err h)

declared_grow : (room : ℕ) (v : Text) (ts : List Kind) (stop : Fault × List Kind) → reader.declarator_after room v ts ≡ Err stop → Variable room (kind.Ident v ∷ ts) stop
unfolding reader.declarator_after
declared_grow room v ts stop h =
    on h
    (λ e.
    let d = dims_stop ts stop e in
    subst (λ ts. Variable room (kind.Ident v ∷ ts) stop) (sym d.split)
    (gone d.here (leading_then (leading_one (kind.Ident v)) (leading_then (leading_brackets d.count) (leading_one (kind.Sym y.OpenBracket)))) (s.DeclaratorOf v (suc d.count) None) (λ z. kind.Sym y.CloseBracket ∷ z)
    (λ z. ap (λ ts. kind.Ident v ∷ ts) (brackets_more d.count z)) tt (omega arith)))
    (λ n us e d. subst (λ ts. Variable room (kind.Ident v ∷ ts) stop) (sym (dims_sound ts (n, us) e).0) (assigned_grow room v n us stop (last d (λ i us d. ok_err d))))

declarator_grow : (room : ℕ) (ts : List Kind) (stop : Fault × List Kind) → reader.declarator room ts ≡ Err stop → Variable room ts stop
declarator_grow room ts stop h =
    ident_on ts (λ ts. Variable room ts stop) h (λ g. gone g leading_nothing (s.DeclaratorOf [] 0 None) (λ z. kind.Ident [] ∷ z) (λ z. refl) tt (omega arith)) (λ v us d. declared_grow room v us stop d)

-- variables, of which there is one at least
abbrev pub AreDeclared : List s.Declarator → Type 0
AreDeclared ds = (not (is_empty ds) ≡ true) × AllByRecursion IsShapedDeclarator ds

abbrev pub Variables : ℕ → List Kind → Fault × List Kind → Type 0
Variables room ts stop = Growing (Low AreDeclared (deepest declarator_depth)) write_declarators room ts stop

variables_from : (room : ℕ) (d : s.Declarator) (us : List Kind) (stop : Fault × List Kind) → IsShapedDeclarator d → declarator_depth d ≤ room → many (begins_with y.Comma) (after_comma (reader.declarator room)) us ≡ Err stop
    → Variables room (write_declarator d us) stop
variables_from room d us stop is low h =
    part (leading_declarator d) (λ ds. d ∷ ds) (λ z. z) (λ ds z. refl) (λ ds all. (refl, (is, all))) (λ ds l. omega arith)
    (many_grow declarator_depth (begins_with y.Comma) (after_comma (reader.declarator room)) refl (variables.Fits room) (write_after write_declarator) (variables.later_sound room) (variables.later_longer room) room
    (leading_after write_declarator leading_declarator) (shaped_append (λ d is. is.0)) (λ all are. (asunder IsShapedDeclarator declarator_depth room all are).1) us stop h
    (λ us starts e. one_of (λ a is. (is, tt)) (later_item (reader.declarator room) room (declarator_grow room) us stop starts e)))

declarators_grow : (room : ℕ) (ts : List Kind) (stop : Fault × List Kind) → reader.declarators room ts ≡ Err stop → Variables room ts stop
declarators_grow room ts stop h =
    on h
    (λ e. part leading_nothing (λ d. d ∷ []) (λ z. z) (λ d z. refl) (λ d is. (refl, (is, tt))) (λ d l. omega arith) (declarator_grow room ts stop e))
    (λ d us e g.
    let found = declarator_sound room ts (d, us) e in
    subst (λ ts. Variables room ts stop) (sym found.written) (variables_from room d us stop found.shaped found.low (last g (λ all us d. ok_err d))))

pub declarators_after_grow : (room : ℕ) (v : Text) (ts : List Kind) (stop : Fault × List Kind) → reader.declarators_after room v ts ≡ Err stop → Variables room (kind.Ident v ∷ ts) stop
unfolding reader.declarators_after
declarators_after_grow room v ts stop h =
    on h
    (λ e. part leading_nothing (λ d. d ∷ []) (λ z. z) (λ d z. refl) (λ d is. (refl, (is, tt))) (λ d l. omega arith) (declared_grow room v ts stop e))
    (λ d us e g.
    let found = declarator_after_sound room v ts (d, us) e in
    subst (λ ts. Variables room ts stop) (sym found.written) (variables_from room d us stop found.shaped found.low (last g (λ all us d. ok_err d))))

-- ---- what stands before variables

finality_ok : (ts : List Kind) (stop : Fault × List Kind) → reader.finality ts ≡ Err stop → ⊥
finality_ok ts stop h = at_word k.Final ts (λ ts. ⊥) h (λ us g. ok_err g) (λ f g. ok_err g)

abbrev pub a_type : TypeUse
a_type = type_of (base.Named (name_of ([] ∷ []))) 0

-- a declaration of variables, with its type in front
abbrev pub AreTyped : Bool × TypeUse × List s.Declarator → Type 0
AreTyped v = IsTypeUse v.1 × AreDeclared v.2

abbrev pub typed_depth : Bool × TypeUse × List s.Declarator → ℕ
typed_depth v = deepest declarator_depth v.2

abbrev pub write_typed : Bool × TypeUse × List s.Declarator → List Kind → List Kind
write_typed v rest = write_if v.0 (kind.Word k.Final) (write_type v.1 (write_declarators v.2 rest))

abbrev pub Typed : ℕ → List Kind → Fault × List Kind → Type 0
Typed room ts stop = Growing (Low AreTyped typed_depth) write_typed room ts stop

abbrev pub variable : s.Declarator
variable = s.DeclaratorOf [] 0 None

-- with the type, and with nothing
pub behind_type : (room : ℕ) (b : Bool) (t : TypeUse) → IsTypeUse t → (ts : List Kind) (stop : Fault × List Kind) → reader.declarators room ts ≡ Err stop → Typed room (write_if b (kind.Word k.Final) (write_type t ts)) stop
behind_type room b t is ts stop h =
    part (leading_then (leading_if b (kind.Word k.Final)) (leading_type t)) (λ ds. (b, t, ds)) (λ z. z) (λ ds z. refl) (λ ds all. (is, all)) (λ ds l. l) (declarators_grow room ts stop h)

type_missing : (room : ℕ) (b : Bool) (ts : List Kind) (stop : Fault × List Kind) → type_use ts ≡ Err stop → Typed room (write_if b (kind.Word k.Final) ts) stop
type_missing room b ts stop h =
    part (leading_if b (kind.Word k.Final)) (λ t. (b, t, variable ∷ [])) (λ z. kind.Ident [] ∷ z) (λ t z. refl) (λ t is. (is, (refl, (tt, tt)))) (λ t l. omega arith)
    (seen {Shape = IsTypeUse} {depth = flat} room ts stop (λ r t is. (is, omega arith)) (type_grows room ts stop h))

pub typed_grow : {B : Type 0} (room : ℕ) (f : Bool → TypeUse → List s.Declarator → Parser B) (ts : List Kind) (stop : Fault × List Kind)
    → and_then (reader.finality ts) (λ b ts. and_then (type_use ts) (λ t ts. and_then (reader.declarators room ts) (f b t))) ≡ Err stop
    → ((b : Bool) (t : TypeUse) (ds : List s.Declarator) (us : List Kind) → IsTypeUse t → AreVariables room ds → ts ≡ write_typed (b, t, ds) us → f b t ds us ≡ Err stop → Typed room ts stop) → Typed room ts stop
typed_grow room f ts stop h more =
    on h (λ e. absurd (finality_ok ts stop e))
    (λ b us e d.
    let final = finality_sound ts (b, us) e in
    on d (λ e. subst (λ ts. Typed room ts stop) (sym final) (type_missing room b us stop e))
    (λ t vs e d.
    let found = type_sound us (t, vs) e in
    let front = final ∙ ap (write_if b (kind.Word k.Final)) found.written in
    on d (λ e. subst (λ ts. Typed room ts stop) (sym front) (behind_type room b t found.is vs stop e))
    (λ ds ws e d.
    let all = declarators_sound room vs (ds, ws) e in
    more b t ds ws found.is all.are (front ∙ ap (λ us. write_if b (kind.Word k.Final) (write_type t us)) all.written) d)))

pub leading_typed : (v : Bool × TypeUse × List s.Declarator) → Leading (write_typed v)
leading_typed v = leading_then (leading_if v.0 (kind.Word k.Final)) (leading_then (leading_type v.1) (leading_declarators v.2))

-- ---- a parameter

abbrev Parameter : ℕ → List Kind → Fault × List Kind → Type 0
Parameter room ts stop = Growing (Low IsShapedParam flat) write_param room ts stop

pub param_grow : (room : ℕ) (ts : List Kind) (stop : Fault × List Kind) → reader.param ts ≡ Err stop → Parameter room ts stop
unfolding reader.param
param_grow room ts stop h =
    on h (λ e. absurd (finality_ok ts stop e))
    (λ b us e d.
    let final = finality_sound ts (b, us) e in
    on d
    (λ e. subst (λ ts. Parameter room ts stop) (sym final)
    (part (leading_if b (kind.Word k.Final)) (λ t. reader.param_of b t [] 0) (λ z. kind.Ident [] ∷ z) (λ t z. refl) (λ t is. is) (λ t l. omega arith)
    (seen {Shape = IsTypeUse} {depth = flat} room us stop (λ r t is. (is, omega arith)) (type_grows room us stop e))))
    (λ t vs e d.
    let found = type_sound us (t, vs) e in
    let into = leading_then (leading_if b (kind.Word k.Final)) (leading_type t) in
    subst (λ ts. Parameter room ts stop) (sym (final ∙ ap (write_if b (kind.Word k.Final)) found.written))
    (ident_on vs (λ vs. Parameter room (write_if b (kind.Word k.Final) (write_type t vs)) stop) d
    (λ g. gone g into (reader.param_of b t [] 0) (λ z. kind.Ident [] ∷ z) (λ z. refl) found.is (omega arith))
    (λ n ws d. behind_name b t n found.is ws (last d (λ p us d. ok_err d)))))) where
      behind_name : (b : Bool) (t : TypeUse) (n : Text) → IsTypeUse t → (ws : List Kind) → dims ws ≡ Err stop → Parameter room (write_if b (kind.Word k.Final) (write_type t (kind.Ident n ∷ ws))) stop
      behind_name b t n is ws e =
          let s = dims_stop ws stop e in
          subst (λ ws. Parameter room (write_if b (kind.Word k.Final) (write_type t (kind.Ident n ∷ ws))) stop) (sym s.split)
          (gone s.here (leading_then (leading_if b (kind.Word k.Final)) (leading_then (leading_type t) (leading_then (leading_one (kind.Ident n)) (leading_then (leading_brackets s.count) (leading_one (kind.Sym y.OpenBracket))))))
          (reader.param_of b t n (suc s.count)) (λ z. kind.Sym y.CloseBracket ∷ z) (λ z. ap (λ ts. write_if b (kind.Word k.Final) (write_type t (kind.Ident n ∷ ts))) (brackets_more s.count z)) is (omega arith))

-- ---- an expression that may be absent, and several with commas

pub any_grow : (room : ℕ) → 1 ≤ room → (ts : List Kind) (stop : Fault × List Kind) → optional starts_expr (expr room Nothing 0) ts ≡ Err stop → Growing (Low IsWholeExpr expr_depth) write_expr room ts stop
any_grow room some ts stop h = choose (starts_expr (first ts)) h (λ t g. whole_grow room some ts stop (last g (λ e us d. ok_err d))) (λ f g. absurd (ok_err g))

pub updates_grow : (room : ℕ) → 1 ≤ room → (ts : List Kind) (stop : Fault × List Kind) → any_commas starts_effect (effect room Nothing) ts ≡ Err stop → Growing (Low AreStatementExprs exprs_depth) write_exprs room ts stop
updates_grow room some ts stop h =
    choose (starts_effect (first ts)) h
    (λ t g. on g
    (λ e. part leading_nothing (λ a. x.more_exprs a x.no_exprs) (λ z. z) (λ a z. refl) (λ a is. (is, tt)) (λ a l. omega arith) (effect_grow room Nothing some ts stop tt e))
    (λ a us e d.
    let found = found_effect room Nothing ts (a, us) tt e in
    let low = found.low in
    subst (λ ts. Growing (Low AreStatementExprs exprs_depth) write_exprs room ts stop) (sym found.written)
    (part (leading_expr a) (λ all. x.more_exprs a all) (λ z. z) (λ all z. refl) (λ all is. (found.is, is)) (λ all l. omega arith) (others_grow room some us stop (last d (λ all us d. ok_err d))))))
    (λ f g. absurd (ok_err g))
