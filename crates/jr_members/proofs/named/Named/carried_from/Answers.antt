use Rattle.std.proofs.Common.{◌≡◌, sym, ◌∙◌, ap, filter}
use Rattle.std.proofs.lemmas.Result.{IfOk-weaker}
use Rattle.jr_members.specs.Named.{carries}
use Rattle.jr_members.proofs.Gathering.{nearest_listed}
use Rattle.jr_members.proofs.named.Named.carried_from.Goals as goal

pub returns : goal.returns
returns c = λ t kind from placed all near. let p = c.args.under.rows.now in
    IfOk-weaker c.carried.result _ _ (λ found is. nearest_listed p t kind c.args.self.now.lists from c.args.name c.args.way found.items all near
    (is ∙ ap (filter (carries p c.args.way)) (c.deref.ensures.value ∙ c.in_ok-all.ensures))) (c.carried.ensures placed)
