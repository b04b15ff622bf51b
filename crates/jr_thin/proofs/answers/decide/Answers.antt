use Rattle.std.proofs.Common.{sym, subst, length, refl}
use Rattle.std.proofs.lemmas.Result.{IfOk-weaker}
use Rattle.jr_base.specs.Respelled.{respelled, moved_tokens}
use Rattle.jr_thin.specs.Renaming.{IsRenaming}
use Rattle.jr_thin.specs.Served.{SpansRise, IsRefusal}
use Rattle.jr_thin.specs.Text.{choices}
use Rattle.jr_thin.proofs.Outcomes.{done, refused}
use Rattle.jr_thin.proofs.Spans.{lex_rise}
use Rattle.jr_thin.proofs.answers.decide.Goals as goal

pub respell-requires-clause-rise : goal.respell-requires-clause-rise
respell-requires-clause-rise c = subst (SpansRise 0 (length c.args.bytes.now)) (sym c.deref-2.ensures.value) (lex_rise c.args.bytes.now c.args.class.now.tokens.items c.requires.read.reads.lex)

pub refusal-requires-clause-rise : goal.refusal-requires-clause-rise
refusal-requires-clause-rise c = (length c.args.bytes.now, lex_rise c.args.bytes.now c.args.class.now.tokens.items c.requires.read.reads.lex)

pub returns-in-Some : goal.returns-in-Some
returns-in-Some c =
    let class = c.args.class.now in
    let anew = choices c.args.declaration c.args.name.now class.tokens.items class.targets.items in
    let clash = rw c.deref.ensures.value at c.in-Some.ensures in
    IfOk-weaker c.refusal.result (IsRefusal class.tokens.items class.sites.items class.targets.items (moved_tokens 0 0 anew) c.ordered-first.result.0 c.ordered-first.result.1) (IsRenaming c.args.bytes.now c.args.at c.args.name.now)
    (refused c.args.bytes.now c.args.at c.args.name.now class.tokens.items class.sites.items class.targets.items c.args.declaration c.requires (respelled c.args.bytes.now 0 anew) refl
    c.in-Some.other c.ordered-first.result.0 c.ordered-first.result.1 clash c.ordered-first.ensures.same c.ordered-first.ensures.order) c.refusal.ensures

pub returns : goal.returns
returns c =
    let class = c.args.class.now in
    let change = rw (c.deref-2.ensures.value, c.deref-3.ensures.value) at c.in_ok-new.ensures in
    let free = rw c.deref.ensures.value at c.in_default.ensures in
    done c.args.bytes.now c.args.at c.args.name.now class.tokens.items class.sites.items class.targets.items c.args.declaration c.requires c.in_ok-new.new.items change free
