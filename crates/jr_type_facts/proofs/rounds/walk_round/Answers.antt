use Rattle.std.proofs.Common.{sym, ◌∙◌, ap}
use Rattle.jr_type_facts.specs.Rounds.{is_way}
use Rattle.jr_type_facts.specs.Tables.{item}
use Rattle.jr_type_facts.proofs.Walking.{round_none, round_more}
use Rattle.jr_type_facts.proofs.rounds.walk_round.Goals as goal

pub returns-then-is_way : goal.returns-then-is_way
returns-then-is_way c = λ h. round_more c.args.called.now h (c.walk-end.ensures h.met_size) (sym (c.is_way.ensures ∙ ap (λ o. is_way o c.args.at) (c.item.ensures ∙ ap (λ l. item l c.walk-end.result) c.deref.ensures.value)) ∙ c.if-is_way.true) (c.walk.ensures h.rounds_size)

pub returns-else-is_way : goal.returns-else-is_way
returns-else-is_way c = λ h. round_none c.args.called.now h (c.walk-end.ensures h.met_size) (sym (c.is_way.ensures ∙ ap (λ o. is_way o c.args.at) (c.item.ensures ∙ ap (λ l. item l c.walk-end.result) c.deref.ensures.value)) ∙ c.if-is_way.false)
