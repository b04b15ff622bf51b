use Rattle.std.proofs.Common.{◌∙◌, ap}
use Rattle.std.proofs.lemmas.Result.{IfOk-weaker}
use Rattle.jr_plain.specs.Search.{has}
use Rattle.jr_members.proofs.Objects.{other_pushed}
use Rattle.jr_members.proofs.members.push_other.Goals as goal

pub returns : goal.returns
returns c = IfOk-weaker c.push_if.result _ _ (λ u is. other_pushed c.args.all.now.items _ c.args.at c.args.is_such c.has-is_there.result c.if-not-is_such.false (c.has-is_there.ensures ∙ ap (λ xs. has xs c.args.at) c.deref.ensures.value) is) c.push_if.ensures
