-- The laws of reading expressions as they are stated.
use Rattle.std.proofs.Common.{◌≡◌, max, List, [], ◌++◌, None, refl, sym, ap, ◌∙◌, arith}
use Rattle.jr_base.specs.declared.kind.Kind.{Kind}
use Rattle.jr_tree.specs.Mirror.Exprs as x
use Rattle.jr_tree.specs.Depth.{expr_depth}
use Rattle.jr_parse_laws.proofs.Outcomes.{ok_is}
use Rattle.jr_parse_expr.specs.Exprs.{Nothing, expr}
use Rattle.jr_parse_expr.specs.Writing.{write_expr}
use Rattle.jr_parse_expr.specs.Laws.{IsExprComplete, IsExprSound, IsInitComplete, IsInitSound, HasOneReading}
use Rattle.jr_parse_expr.proofs.Written.{written}
use Rattle.jr_parse_expr.proofs.Followers.{ends_before}
use Rattle.jr_parse_expr.proofs.Rules.{an_init}
use Rattle.jr_parse_expr.proofs.ExprReads.{expr_complete, expr_sound}

pub exprs_complete : IsExprComplete
exprs_complete = expr_complete

pub exprs_sound : IsExprSound
exprs_sound room least lead ts read some led h =
    let found = expr_sound room least lead ts read some led h in
    record { is = found.is; written = found.written; ended = found.ended }

pub inits_complete : IsInitComplete
inits_complete room i rest s low ended = an_init.exact.complete room i rest (s, low) ended

pub inits_sound : IsInitSound
inits_sound room ts read h =
    let found = an_init.exact.sound room ts read h in
    record { shaped = found.is.0; low = found.is.1; written = found.written; ended = found.ended }

pub one_reading : HasOneReading
one_reading a b sa sb same =
    let room = max (expr_depth a) (expr_depth b) in
    let first_read = expr_complete room 0 Nothing a [] (write_expr a []) (record { shaped = sa.1; fits = sa.0; low = omega arith }) (ends_before 0 a None sa.1 (record { cast = refl; none = refl })) tt refl in
    let other = expr_complete room 0 Nothing b [] (write_expr b []) (record { shaped = sb.1; fits = sb.0; low = omega arith }) (ends_before 0 b None sb.1 (record { cast = refl; none = refl })) tt refl in
    let alike : write_expr a [] ≡ write_expr b [] = written a [] ∙ ap (λ ts. ts ++ []) same ∙ sym (written b []) in
    ap (λ (p : x.Expr × List Kind). p.0) (ok_is (sym first_read ∙ ap (expr room Nothing 0) alike ∙ other))
