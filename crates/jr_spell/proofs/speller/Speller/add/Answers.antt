use Rattle.std.proofs.lemmas.Result.{on_ok_weaker}
use Rattle.jr_spell.proofs.Spelled.{more_spelled}
use Rattle.jr_spell.proofs.Staying.{keeps_more, given_told, stays_told}
use Rattle.jr_spell.proofs.speller.Speller.add.Goals as goal

pub returns-clause-spelled : goal.returns-clause-spelled
returns-clause-spelled c = λ one all. on_ok_weaker c.push_spelling.result (λ e. more_spelled c.args.self.now c.args.all.now.items c.args.spelling _ all one e) c.push_spelling.ensures.pushed

pub returns-clause-keeps : goal.returns-clause-keeps
returns-clause-keeps c = on_ok_weaker c.push_spelling.result (λ e. keeps_more c.args.all.now.items c.args.spelling _ e) c.push_spelling.ensures.pushed

pub returns-clause-told : goal.returns-clause-told
returns-clause-told c = λ whole sought row one. on_ok_weaker c.push_spelling.result (λ e. given_told c.args.self.now c.args.reference.now.row c.args.spelling c.args.all.now.items _ row e) c.push_spelling.ensures.pushed

pub returns-then-is_plain-clause-keeps : goal.returns-then-is_plain-clause-keeps
returns-then-is_plain-clause-keeps c = λ a h. h

pub returns-then-is_plain-clause-told : goal.returns-then-is_plain-clause-told
returns-then-is_plain-clause-told c = λ whole sought row one. stays_told c.args.self.now c.args.reference.now.row c.args.spelling c.args.all.now.items row one (c.in-Ok.ensures whole sought c.if-is_plain.true)
