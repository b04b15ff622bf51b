use Rattle.std.proofs.Common.{rules, arith, ◌≡◌, ◌∙◌, ◌-◌, sym, ap, subst, Bool, cond}
use Rattle.jr_parse_laws.specs.declared.fault.Fault.TheVariants.{NoTree, TooDeep}
use Rattle.jr_parse_laws.specs.Parsers.{Outcome, Fails, kinds}
use Rattle.jr_parse_laws.proofs.Outcomes.{reads_err}
use Rattle.jr_tree.specs.Mirror.Exprs as x
use Rattle.jr_parse_expr.specs.Exprs.{goes_on}
use Rattle.jr_parse_expr.specs.Views.{plain_lead}
use Rattle.jr_parse_expr.proofs.Rooms.{effect_lowest, effect_below, lowest_fails}
use Rattle.jr_parse_expr.proofs.read.effect.Goals as goal

pub returns-then-room-eq0 : goal.returns-then-room-eq0
returns-then-room-eq0 c =
    subst (λ (o : Outcome x.Expr). Fails o c.lowest.result (kinds c.args.cursor.now)) (sym (effect_lowest c.args.room (plain_lead c.args.lead) (kinds c.args.cursor.now) (omega arith)))
    (lowest_fails x.Expr (goes_on (plain_lead c.args.lead)) (kinds c.args.cursor.now) c.lowest.result (c.lowest.ensures ∙ ap (λ (b : Bool). cond b TooDeep NoTree) c.goes_on.ensures))

pub returns-in_err-effects : goal.returns-in_err-effects
returns-in_err-effects c =
    let low : c.saturating_sub.result ≡ c.args.room - 2 = search rules in
    rw (effect_below c.args.room c.saturating_sub.result (plain_lead c.args.lead) (kinds c.args.cursor.now) (omega arith) low)
    (reads_err _ _ c.from_residual.result c.in_err-effects.field-0.0 (kinds c.effects.new.cursor) (search rules) c.in_err-effects.ensures.reads)

pub returns : goal.returns
returns c = let low : c.saturating_sub.result ≡ c.args.room - 2 = search rules in rw (effect_below c.args.room c.saturating_sub.result (plain_lead c.args.lead) (kinds c.args.cursor.now) (omega arith) low) c.in_ok-effects.ensures.reads
