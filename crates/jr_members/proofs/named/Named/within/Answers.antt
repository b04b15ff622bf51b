use Rattle.std.proofs.Common.{◌≡◌, sym, subst}
use Rattle.jr_members.specs.Named.{IsNearest}
use Rattle.jr_members.specs.Nearest.{known_in, IsSought, IsLister}
use Rattle.jr_members.proofs.Ways.{none_at}
use Rattle.jr_members.proofs.named.Named.within.Goals as goal

pub returns-in-Some : goal.returns-in-Some
returns-in-Some c = λ t kind placed all near known. let p = c.args.under.rows.now in let self = c.args.self.now in
    let found : IsLister p t kind self.lists (known_in self.nearest) c.args.over c.args.name c.args.outlook.runs c.in-Some.lister =
    subst (λ f. IsSought p t kind self.lists (known_in self.nearest) c.args.over c.args.name c.args.outlook.runs f) (sym c.in-Some.ensures) ((near.each c.args.over c.args.outlook known).finds c.args.name) in
    c.carried_from.ensures t kind c.args.over placed all (subst (λ way. IsNearest p t kind self.lists c.args.over c.args.name way) (sym c.to.ensures) found.near)

pub returns-in-None : goal.returns-in-None
returns-in-None c = λ t kind placed all near known. let p = c.args.under.rows.now in let self = c.args.self.now in
    none_at p t kind c.args.over c.args.name _ c.new.ensures.items
    (subst (λ f. IsSought p t kind self.lists (known_in self.nearest) c.args.over c.args.name c.args.outlook.runs f) (sym c.in-None.ensures) ((near.each c.args.over c.args.outlook known).finds c.args.name))
