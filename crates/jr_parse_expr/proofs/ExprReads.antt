-- Reading an expression is exact in both directions, at each number of levels and whatever of it was read before.
use Rattle.std.proofs.Common.{◌≡◌, ℕ, zero, suc, ◌<◌, ◌≤◌, Bool, true, not, List, [], ◌∷◌, ◌++◌, Option, Ok, Err, refl, sym, ap, ◌∙◌, subst, inl, inr, arith}
use Rattle.jr_base.specs.declared.text.Text.{Text}
use Rattle.jr_base.specs.declared.kind.Kind.{Kind}
use Rattle.jr_base.specs.declared.kind.Kind.TheVariants as kind
use Rattle.jr_base.specs.declared.kind.Symbol.TheVariants as y
use Rattle.jr_base.specs.declared.kind.Keyword.TheVariants as k
use Rattle.jr_tree.specs.declared.tree.Name.{Name}
use Rattle.jr_tree.specs.Shape.{is_empty}
use Rattle.jr_tree.specs.Mirror.Exprs as x
use Rattle.jr_parse_laws.specs.Parsers.{Outcome, Parser, and_then, first}
use Rattle.jr_parse_laws.proofs.Outcomes.{bind_ok, chosen, err_ok}
use Rattle.jr_parse_starts.specs.Starts.{starts_expr, starts_list, no_level}
use Rattle.jr_parse_expr.specs.Names.{name_of, Dotted, Plain, Enclosing, dotted}
use Rattle.jr_parse_expr.specs.Exprs.{Lead, Nothing, Named, Indexed, This, Super, after_dotted, after_bracket, operand, suffixes, climb, operations, expr, list}
use Rattle.jr_parse_expr.specs.Writing.{write_parts, write_all, write_dotted, write_lead, write_expr}
use Rattle.jr_parse_expr.specs.Follow.{Ends, IsExpr, IsLed}
use Rattle.jr_parse_expr.proofs.NameReads.{dotted_end, dotted_method, parts_append}
use Rattle.jr_parse_expr.proofs.NameLaws.{dotted_at_dot}
use Rattle.jr_parse_expr.proofs.Steps.{takes_bracket}
use Rattle.jr_parse_expr.proofs.Asked.{Found, ReadsExprs, ReadsLists, depth_pos, list_depth_pos, found_starts}
use Rattle.jr_parse_expr.proofs.Chains.{suffixes_go}
use Rattle.jr_parse_expr.proofs.Climbs.{level_complete, level_sound}
use Rattle.jr_parse_expr.proofs.Initializers.{braces_read, braces_sound}

pub no_level_err : {A : Type 0} (starts : Option Kind → Bool) (ts : List Kind) (r : A × List Kind) → no_level starts ts ≡ Ok r → ⊥
no_level_err starts ts r h =
    elim (chosen (starts (first ts)) _ _ _ h) [
      | inl t ↦ err_ok t.1
      | inr t ↦ err_ok t.1
    ]

pub chain_of : {A B C D : Type 0} (o : Outcome A) (f : A → Parser B) (g : B → Parser C) (h : C → Parser D) → and_then (and_then (and_then o f) g) h ≡ and_then o (λ a ts. and_then (and_then (f a ts) g) h)
chain_of (Ok p) f g h = refl
chain_of (Err e) f g h = refl

-- ---- from one level to the next

level_named : (room least : ℕ) (head : Text) (ts : List Kind) → expr (suc room) Nothing least (kind.Ident head ∷ ts) ≡ and_then (dotted true [] head ts) (λ d. expr (suc room) (Named d) least)
unfolding expr operations operand
level_named room least head ts = chain_of (dotted true [] head ts) (after_dotted room (expr room) (list room)) (suffixes room (expr room) (list room)) (climb room (expr room) (list room) least)

-- a name and a bracket is the same as a name, and then a bracket behind it, where a level is left
pub level_bracket : (room least : ℕ) (before : List Text) (last : Text) (ts : List Kind) → 1 ≤ room
    → expr (suc room) (Named (Plain before last)) least (kind.Sym y.OpenBracket ∷ ts) ≡ expr (suc room) (Indexed (name_of (before ++ last ∷ []))) least ts
unfolding expr operations operand after_dotted after_bracket
level_bracket room least before last ts some =
    ap (λ o. and_then o (climb room (expr room) (list room) least))
    (suffixes_go room (expr room) (list room) (x.NameExpr (name_of (before ++ last ∷ []))) (kind.Sym y.OpenBracket) ts _
    (takes_bracket room (expr room) (list room) (x.NameExpr (name_of (before ++ last ∷ []))) (omega arith) refl) (omega arith))

named_err : (least : ℕ) (before : List Text) (last : Text) (ts : List Kind) (r : x.Expr × List Kind) → expr 1 (Named (Plain before last)) least (kind.Sym y.OpenBracket ∷ ts) ≡ Ok r → ⊥
unfolding expr operations operand after_dotted suffixes
named_err least before last ts r h = err_ok h

indexed_err : (least : ℕ) (n : Name) (ts : List Kind) (r : x.Expr × List Kind) → expr 1 (Indexed n) least ts ≡ Ok r → ⊥
unfolding expr operations operand after_bracket
indexed_err least n ts r h =
    let c = bind_ok _ (climb zero (expr zero) (list zero) least) r h in
    let b = bind_ok _ (suffixes zero (expr zero) (list zero)) c.0 c.1 in
    let a = bind_ok (expr zero Nothing 0 ts) _ b.0 b.1 in
    no_level_err starts_expr ts a.0 a.1

level_no_index : (room : ℕ) → ReadsExprs room (expr room) → (least : ℕ) (n : Name) (ts : List Kind) (r : x.Expr × List Kind) → expr (suc room) (Indexed n) least (kind.Sym y.CloseBracket ∷ ts) ≡ Ok r → ⊥
unfolding expr operations operand after_bracket
level_no_index room reads least n ts r h =
    let c = bind_ok _ (climb room (expr room) (list room) least) r h in
    let b = bind_ok _ (suffixes room (expr room) (list room)) c.0 c.1 in
    let a = bind_ok (expr room Nothing 0 (kind.Sym y.CloseBracket ∷ ts)) _ b.0 b.1 in
    let starts = found_starts (reads.sound 0 (kind.Sym y.CloseBracket ∷ ts) a.0 (omega arith) a.1) in
    cc

into : (room least : ℕ) (before : List Text) (last : Text) (ts : List Kind) (r : x.Expr × List Kind)
    → expr (suc room) (Named (Plain before last)) least (kind.Sym y.OpenBracket ∷ ts) ≡ Ok r → expr (suc room) (Indexed (name_of (before ++ last ∷ []))) least ts ≡ Ok r
into zero least before last ts r h = absurd (named_err least before last ts r h)
into (suc room) least before last ts r h = sym (level_bracket (suc room) least before last ts (omega arith)) ∙ h

out_of : (room least : ℕ) (before : List Text) (last : Text) (ts : List Kind) (r : x.Expr × List Kind)
    → expr (suc room) (Indexed (name_of (before ++ last ∷ []))) least ts ≡ Ok r → expr (suc room) (Named (Plain before last)) least (kind.Sym y.OpenBracket ∷ ts) ≡ Ok r
out_of zero least before last ts r h = absurd (indexed_err least (name_of (before ++ last ∷ [])) ts r h)
out_of (suc room) least before last ts r h = level_bracket (suc room) least before last ts (omega arith) ∙ h

pub record ReadsAll (room : ℕ) : Type 0 where
  pub exprs : ReadsExprs room (expr room)
  pub lists : ReadsLists room (list room)

pub all_read : (room : ℕ) → ReadsAll room
unfolding expr list
all_read zero = record {
  exprs = record {
    complete = λ least e rest is ended. absurd (let l = is.low in let p = depth_pos e in omega arith);
    sound = λ least ts r some h. absurd (no_level_err starts_expr ts r h);
    named = λ least head ts some. absurd (omega arith);
    into_bracket = λ least before last ts r h. absurd (no_level_err starts_expr (kind.Sym y.OpenBracket ∷ ts) r h);
    out_of_bracket = λ least before last ts r h. absurd (no_level_err starts_expr ts r h);
    no_index = λ least n ts r h. no_level_err starts_expr (kind.Sym y.CloseBracket ∷ ts) r h;
  };
  lists = record {
    complete = λ l rest s low. absurd (let p = list_depth_pos l in omega arith);
    sound = λ ts r h. absurd (no_level_err starts_list ts r h);
  };
}
all_read (suc room) =
    let before = all_read room in
    record {
      exprs = record {
        complete = level_complete room (expr room) (list room) before.exprs before.lists;
        sound = level_sound room (expr room) (list room) before.exprs before.lists;
        named = λ least head ts some. level_named room least head ts;
        into_bracket = into room;
        out_of_bracket = out_of room;
        no_index = level_no_index room before.exprs;
      };
      lists = record {
        complete = braces_read room (expr room) (list room) before.exprs before.lists;
        sound = braces_sound room (expr room) (list room) before.exprs before.lists;
      };
    }

-- ---- what was read before

-- the name is read whole
pub dotted_whole : (d : Dotted) (ts : List Kind) → IsLed (Named d) (first ts) → (head : Text) × (us : List Kind) × (write_dotted d ts ≡ kind.Ident head ∷ us) × (dotted true [] head us ≡ Ok (d, ts))
dotted_whole (Plain [] last) ts led = (last, ts, refl, dotted_end true [] last ts led)
dotted_whole (Plain (head ∷ before) last) ts led = (
  head,
  write_parts before (kind.Sym y.Dot ∷ kind.Ident last ∷ ts),
  ap (λ us. kind.Ident head ∷ us) (parts_append before (last ∷ []) ts),
  dotted_method true [] head before last ts ∙ dotted_end true (head ∷ before) last ts led,
)
dotted_whole (Enclosing [] last) ts led = (last, kind.Sym y.Dot ∷ kind.Word k.This ∷ ts, refl, dotted_at_dot true [] last (kind.Word k.This ∷ ts))
dotted_whole (Enclosing (head ∷ before) last) ts led = (
  head,
  write_parts before (kind.Sym y.Dot ∷ kind.Ident last ∷ kind.Sym y.Dot ∷ kind.Word k.This ∷ ts),
  ap (λ us. kind.Ident head ∷ us) (parts_append before (last ∷ []) (kind.Sym y.Dot ∷ kind.Word k.This ∷ ts)),
  dotted_method true [] head before last (kind.Sym y.Dot ∷ kind.Word k.This ∷ ts) ∙ dotted_at_dot true (head ∷ before) last (kind.Word k.This ∷ ts),
)

pub last_of : (all : List Text) → not (is_empty all) ≡ true → (before : List Text) × (last : Text) × (all ≡ before ++ last ∷ [])
last_of [] some = absurd (cc)
last_of (head ∷ []) some = ([], head, refl)
last_of (head ∷ part ∷ all) some = let more = last_of (part ∷ all) refl in (head ∷ more.0, more.1, ap (λ all. head ∷ all) more.2)

pub named_same : (room least : ℕ) (d : Dotted) (ts : List Kind) → 0 < room → IsLed (Named d) (first ts) → expr room Nothing least (write_dotted d ts) ≡ expr room (Named d) least ts
named_same room least d ts some led =
    let w = dotted_whole d ts led in
    ap (expr room Nothing least) w.2 ∙ (all_read room).exprs.named least w.0 w.1 some ∙ ap (λ o. and_then o (λ d. expr room (Named d) least)) w.3

-- where there is no level, nothing is read
none_read : (lead : Lead) (least : ℕ) (ts : List Kind) (r : x.Expr × List Kind) → expr zero lead least ts ≡ Ok r → ⊥
unfolding expr
none_read lead least ts r h = no_level_err starts_expr ts r h

pub this_same : (room least : ℕ) (ts : List Kind) → expr (suc room) Nothing least (kind.Word k.This ∷ ts) ≡ expr (suc room) This least ts
unfolding expr operations operand
this_same room least ts = refl

pub super_same : (room least : ℕ) (ts : List Kind) → expr (suc room) Nothing least (kind.Word k.Super ∷ ts) ≡ expr (suc room) Super least ts
unfolding expr operations operand
super_same room least ts = refl

pub with_lead : (room least : ℕ) (lead : Lead) (ts : List Kind) (r : x.Expr × List Kind) → IsLed lead (first ts) → expr room Nothing least (write_lead lead ts) ≡ Ok r → expr room lead least ts ≡ Ok r
with_lead zero least lead ts r led h = absurd (none_read Nothing least (write_lead lead ts) r h)
with_lead (suc room) least Nothing ts r led h = h
with_lead (suc room) least (Named d) ts r led h = sym (named_same (suc room) least d ts (omega arith) led) ∙ h
with_lead (suc room) least (Indexed n) ts r led h =
    let l = last_of n.parts led in
    let same : name_of (l.0 ++ l.1 ∷ []) ≡ n = ap name_of (sym l.2) in
    let read = sym (named_same (suc room) least (Plain l.0 l.1) (kind.Sym y.OpenBracket ∷ ts) (omega arith) refl) ∙ ap (λ all. expr (suc room) Nothing least (write_all all (kind.Sym y.OpenBracket ∷ ts))) (sym l.2) ∙ h in
    subst (λ n. expr (suc room) (Indexed n) least ts ≡ Ok r) same (into room least l.0 l.1 ts r read)
with_lead (suc room) least This ts r led h = sym (this_same room least ts) ∙ h
with_lead (suc room) least Super ts r led h = sym (super_same room least ts) ∙ h

pub without_lead : (room least : ℕ) (lead : Lead) (ts : List Kind) (r : x.Expr × List Kind) → IsLed lead (first ts) → expr room lead least ts ≡ Ok r → expr room Nothing least (write_lead lead ts) ≡ Ok r
without_lead zero least lead ts r led h = absurd (none_read lead least ts r h)
without_lead (suc room) least Nothing ts r led h = h
without_lead (suc room) least (Named d) ts r led h = named_same (suc room) least d ts (omega arith) led ∙ h
without_lead (suc room) least (Indexed n) ts r led h =
    let l = last_of n.parts led in
    let same : n ≡ name_of (l.0 ++ l.1 ∷ []) = ap name_of l.2 in
    let read = out_of room least l.0 l.1 ts r (subst (λ n. expr (suc room) (Indexed n) least ts ≡ Ok r) same h) in
    ap (λ all. expr (suc room) Nothing least (write_all all (kind.Sym y.OpenBracket ∷ ts))) l.2 ∙ named_same (suc room) least (Plain l.0 l.1) (kind.Sym y.OpenBracket ∷ ts) (omega arith) refl ∙ read
without_lead (suc room) least This ts r led h = this_same room least ts ∙ h
without_lead (suc room) least Super ts r led h = super_same room least ts ∙ h

-- ---- the laws

pub expr_complete : (room least : ℕ) (lead : Lead) (e : x.Expr) (rest ts : List Kind) → IsExpr room least e → Ends least e (first rest) → IsLed lead (first ts) → write_lead lead ts ≡ write_expr e rest
    → expr room lead least ts ≡ Ok (e, rest)
expr_complete room least lead e rest ts is ended led same =
    with_lead room least lead ts (e, rest) led (ap (expr room Nothing least) same ∙ (all_read room).exprs.complete least e rest is ended)

pub expr_sound : (room least : ℕ) (lead : Lead) (ts : List Kind) (r : x.Expr × List Kind) → least ≤ 12 → IsLed lead (first ts) → expr room lead least ts ≡ Ok r → Found room least (write_lead lead ts) r
expr_sound room least lead ts r some led h = (all_read room).exprs.sound least (write_lead lead ts) r some (without_lead room least lead ts r led h)
