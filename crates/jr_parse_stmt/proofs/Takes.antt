-- Each item of a loop takes a token.
use Rattle.std.proofs.Common.{◌≡◌, ℕ, ◌<◌, ◌≤◌, Bool, true, false, List, [], ◌∷◌, drop, length, Ok, refl, sym, ap, ◌∙◌, arith}
use Rattle.jr_base.specs.declared.kind.Symbol.{Symbol}
use Rattle.jr_base.specs.declared.kind.Symbol.TheVariants as y
use Rattle.jr_base.specs.declared.kind.Kind.{Kind}
use Rattle.jr_base.specs.declared.kind.Kind.TheVariants as kind
use Rattle.jr_base.specs.declared.kind.Keyword.TheVariants as k
use Rattle.jr_tree.specs.Tokens.{declarator_tokens}
use Rattle.jr_tree.specs.Mirror.Stmts as s
use Rattle.jr_parse_laws.specs.Parsers.{Parser, first, is_at, is_at_word, many, identifier, pure}
use Rattle.jr_parse_laws.proofs.Outcomes.{bind_ok, err_ok}
use Rattle.jr_parse_laws.proofs.Lists.{Shortens, many_turn}
use Rattle.jr_parse_laws.proofs.Turns.{Keeps, identifier_keeps}
use Rattle.jr_parse_expr.specs.Exprs.{Nothing, next_token, skipping, expr, effect}
use Rattle.jr_parse_expr.specs.Names.{type_use, dims}
use Rattle.jr_parse_starts.specs.Starts.{next_is}
use Rattle.jr_parse_expr.specs.Writing.{write_expr}
use Rattle.jr_parse_expr.proofs.Keeps.{keeps_bind, keeps_if, keeps_pure, keeps_skipping, keeps_behind, keeps_many, dims_keeps, type_use_keeps}
use Rattle.jr_parse_expr.proofs.Written.{longer}
use Rattle.jr_parse_defs.specs.Begins.{starts_block_stmt, starts_label, is_catch}
use Rattle.jr_parse_defs.specs.Stmts as rule
use Rattle.jr_parse_defs.specs.Writing.{write_declarator}
use Rattle.jr_parse_defs.proofs.Written.{declarator_written, longer_by}
use Rattle.jr_parse_defs.proofs.Tokens.{eats, eats_word}
use Rattle.jr_parse_defs.proofs.Variables.{declarator_sound}
use Rattle.jr_parse_defs.proofs.Expressions.{whole_sound, found_effect}
use Rattle.jr_parse_defs.proofs.Blocks.{stmt_longer}
use Rattle.jr_parse_defs.proofs.Statements.{stmt_reads}
use Rattle.jr_parse_stmt.specs.Nests.{in_room}
use Rattle.jr_parse_stmt.proofs.Viewed.{Takes}

-- ---- behind a symbol

pub behind_shorter : {A : Type 0} (s : Symbol) (p : Parser A) → Keeps p → (ts : List Kind) (a : A) (rest : List Kind) → is_at s ts ≡ true → p (drop 1 ts) ≡ Ok (a, rest) → length rest < length ts
behind_shorter s p keeps [] a rest h e = absurd (cc)
behind_shorter s p keeps (token ∷ ts) a rest h e = let l = keeps ts a rest e in omega arith

pub declarator_keeps : (room : ℕ) → Keeps (rule.declarator room)
declarator_keeps room ts d rest h =
    let found = declarator_sound room ts (d, rest) h in
    let same = ap (λ (ts : List Kind). length ts) found.written in
    let l = longer_by (declarator_tokens d) rest (write_declarator d rest) (declarator_written d rest) in
    omega arith

pub effect_keeps : (room : ℕ) → Keeps (effect room Nothing)
effect_keeps room ts e rest h =
    let found = found_effect room Nothing ts (e, rest) tt h in
    let same = ap (λ (ts : List Kind). length ts) found.written in
    let l = longer e rest in
    omega arith

-- ---- statements

stmt_shortens : (room : ℕ) → Shortens (rule.stmt room true)
stmt_shortens room ts a rest h =
    let found = (stmt_reads room true).sound ts (a, rest) h in
    let same = ap (λ (ts : List Kind). length ts) found.written in
    let l = stmt_longer room a rest found.is in
    omega arith

pub stmt_takes : (room : ℕ) → Takes starts_block_stmt (rule.stmt room true)
stmt_takes room ts a rest starts h = stmt_shortens room ts a rest h

stmt_keeps : (room : ℕ) → Keeps (rule.stmt room true)
stmt_keeps room ts a rest h = let l = stmt_shortens room ts a rest h in omega arith

stmts_keeps : (room : ℕ) → Keeps (in_room rule.stmts room)
unfolding rule.stmts
stmts_keeps room = keeps_many starts_block_stmt (rule.stmt room true) (stmt_keeps room)

block_keeps : (room : ℕ) → Keeps (in_room rule.block room)
unfolding rule.block
block_keeps room = keeps_behind y.OpenBrace _ (keeps_bind (in_room rule.stmts room) _ (stmts_keeps room) (λ all. keeps_behind y.CloseBrace _ (keeps_pure _)))

-- ---- the groups of a switch

abbrev label : ℕ → Parser s.SwitchLabel
label room = next_token (in_room rule.label_by room)

label_shortens : (room : ℕ) → Shortens (label room)
label_shortens room [] l rest h = absurd (err_ok h)
label_shortens room (kind.Word k.Case ∷ ts) l rest h =
    let e = bind_ok (expr room Nothing 0 ts) _ (l, rest) h in
    let found = whole_sound room ts e.0 e.1 in
    let same = ap (λ (ts : List Kind). length ts) found.written in
    let fewer = longer e.0.0 e.0.1 in
    let last = keeps_behind y.Colon (pure (s.Case e.0.0)) (keeps_pure (s.Case e.0.0)) e.0.1 l rest e.2 in
    omega arith
label_shortens room (kind.Word k.Default ∷ ts) l rest h = let last = keeps_behind y.Colon (pure s.Default) (keeps_pure s.Default) ts l rest h in omega arith
label_shortens room (token ∷ ts) l rest h = absurd (err_ok h)

pub label_takes : (room : ℕ) → Takes starts_label (label room)
label_takes room ts l rest starts h = label_shortens room ts l rest h

label_keeps : (room : ℕ) → Keeps (label room)
label_keeps room ts l rest h = let fewer = label_shortens room ts l rest h in omega arith

labels_keeps : (room : ℕ) → Keeps (many starts_label (label room))
labels_keeps room = keeps_many starts_label (label room) (label_keeps room)

-- a group may be empty, but not where a label begins it
pub group_takes : (room : ℕ) → Takes starts_label (in_room rule.group room)
unfolding rule.group
group_takes room ts g rest starts h =
    let ls = bind_ok (many starts_label (label room) ts) _ (g, rest) h in
    let one = bind_ok (label room ts) _ ls.0 (sym (many_turn starts_label (label room) refl (label_shortens room) ts starts) ∙ ls.1) in
    let fewer = label_shortens room ts one.0.0 one.0.1 one.1 in
    let others = keeps_bind (many starts_label (label room)) (λ all. pure (one.0.0 ∷ all)) (labels_keeps room) (λ all. keeps_pure (one.0.0 ∷ all)) one.0.1 ls.0.0 ls.0.1 one.2 in
    let all = keeps_bind (in_room rule.stmts room) (λ all. pure (s.GroupOf ls.0.0 (s.stmts all))) (stmts_keeps room) (λ all. keeps_pure (s.GroupOf ls.0.0 (s.stmts all))) ls.0.1 g rest ls.2 in
    omega arith

-- ---- handlers

finality_keeps : Keeps rule.finality
finality_keeps = keeps_if (is_at_word k.Final) (skipping (pure true)) (pure false) (keeps_skipping (pure true) (keeps_pure true)) (keeps_pure false)

param_keeps : Keeps rule.param
unfolding rule.param
param_keeps =
    keeps_bind rule.finality _ finality_keeps
    (λ is_final. keeps_bind type_use _ type_use_keeps (λ ty. keeps_bind identifier _ identifier_keeps (λ variable. keeps_bind dims _ dims_keeps (λ pairs. keeps_pure _))))

pub catch_takes : (room : ℕ) → Takes (next_is is_catch) (in_room rule.catch_clause room)
unfolding rule.catch_clause
catch_takes room ts c rest starts h =
    let a = eats_word k.Catch ts _ (c, rest) h in
    let same = ap (λ (ts : List Kind). length ts) a.written in
    let more =
    keeps_behind y.OpenParen _
    (keeps_bind rule.param _ param_keeps (λ p. keeps_behind y.CloseParen _ (keeps_bind (in_room rule.block room) _ (block_keeps room) (λ b. keeps_pure (s.CatchOf p b))))) a.rest c rest a.more in
    omega arith
