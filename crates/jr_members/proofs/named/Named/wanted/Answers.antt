use Rattle.std.proofs.Common.{◌≡◌, sym, subst}
use Rattle.std.proofs.lemmas.Result.{IfOk-weaker}
use Rattle.jr_plain.specs.Search.{Lists}
use Rattle.jr_members.specs.Sources.{links_of}
use Rattle.jr_members.specs.Gathered.{IsNaming}
use Rattle.jr_members.proofs.Adding.{wanted_listed}
use Rattle.jr_members.proofs.named.Named.wanted.Goals as goal

pub returns : goal.returns
returns c = λ t kind right declared. let p = c.args.sources.under.rows.now in let S = c.args.sources.supers.now in
    IfOk-weaker c.by_types.result _ _ (λ rows is. wanted_listed p t S right.seen.above kind c.args.over c.deref.result.now rows.items
    (subst (λ xs. Lists xs (IsNaming p t (links_of S) c.args.over)) (sym c.deref.ensures.value) (c.in_ok-types.ensures t right.seen.above)) is) (c.by_types.ensures p kind declared)
