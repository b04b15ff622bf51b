use Rattle.std.proofs.Common.{◌≡◌, None, sym, ◌∙◌}
use Rattle.jr_flow.proofs.Woven.{one_put, nothing_put}
use Rattle.jr_flow.proofs.webs.put_at.Goals as goal

pub returns-in_default : goal.returns-in_default
returns-in_default c = λ bound key all linked from to h. let none : c.item.result ≡ None = search in nothing_put bound all c.args.links.now key c.args.nth c.args.set.now linked h (sym c.item.ensures ∙ none)

pub returns : goal.returns
returns c = λ bound key all linked from to h. one_put bound all c.args.links.now key c.args.nth c.args.set.now linked h c.add.new.self c.in-Some.number c.add.result from to (sym c.item.ensures ∙ c.in-Some.is) (c.add.ensures bound h.counted)
