use Rattle.std.proofs.Common.{rules, ◌≡◌, ◌∙◌, true, false, Ok, [], ◌∷◌, ◌++◌, drop, refl}
use Rattle.jr_base.specs.declared.kind.Symbol.TheVariants as y
use Rattle.jr_tree.specs.Mirror.Exprs.{plain_expr}
use Rattle.jr_parse_laws.specs.Parsers.{kinds, is_at}
use Rattle.jr_parse_laws.proofs.Outcomes.{reads_err}
use Rattle.jr_parse_laws.proofs.Turns.{behind_fails, behind_done}
use Rattle.jr_parse_expr.proofs.Shorter.{fewer_tokens}
use Rattle.jr_parse_expr.specs.Exprs.{Nothing, effect}
use Rattle.jr_parse_stmt.proofs.Viewed.{behind_one}
use Rattle.jr_parse_stmt.proofs.Takes.{behind_shorter, effect_keeps}
use Rattle.jr_parse_stmt.proofs.grammar.Grammar.more_effects.Goals as goal

pub returns-in_err-next : goal.returns-in_err-next
returns-in_err-next g c =
    let begins : is_at y.Comma (kinds c.effects.cursor) ≡ true = cc in
    rw c.effects.invariant
    (reads_err _ _ c.from_residual.result c.in_err-next.field-0.0 (kinds c.effect.new.cursor) (search rules)
    (behind_fails y.Comma (effect c.args.self.now.room Nothing) (effect_keeps c.args.self.now.room) _ (kinds c.effects.cursor) c.in_err-next.field-0.0 (kinds c.effect.new.cursor) begins (search rules)))

pub effects-smaller : goal.effects-smaller
effects-smaller g c =
    let begins : is_at y.Comma (kinds c.effects.cursor) ≡ true = cc in
    let read : effect c.args.self.now.room Nothing (drop 1 (kinds c.effects.cursor)) ≡ Ok (plain_expr c.in_ok-next.next, kinds c.effect.new.cursor) = search rules in
    fewer_tokens c.effects.cursor c.effect.new.cursor
    (behind_shorter y.Comma (effect c.args.self.now.room Nothing) (effect_keeps c.args.self.now.room) (kinds c.effects.cursor) (plain_expr c.in_ok-next.next) (kinds c.effect.new.cursor) begins read)

pub effects-preserved : goal.effects-preserved
effects-preserved g c =
    let begins : is_at y.Comma (kinds c.effects.cursor) ≡ true = cc in
    let read : effect c.args.self.now.room Nothing (drop 1 (kinds c.effects.cursor)) ≡ Ok (plain_expr c.in_ok-next.next, kinds c.effect.new.cursor) = search rules in
    let pushed : c.push.new.self ≡ c.effects.all ++ c.in_ok-next.next ∷ [] = search rules in
    rw (c.effects.invariant, pushed)
    (behind_one plain_expr y.Comma (effect c.args.self.now.room Nothing) (effect_keeps c.args.self.now.room) c.effects.all (kinds c.effects.cursor) c.in_ok-next.next (kinds c.effect.new.cursor) begins read)

pub returns : goal.returns
returns g c =
    let over : is_at y.Comma (kinds c.effects.cursor) ≡ false = cc in
    c.effects.invariant ∙ behind_done y.Comma (effect c.args.self.now.room Nothing) (effect_keeps c.args.self.now.room) _ (kinds c.effects.cursor) over
