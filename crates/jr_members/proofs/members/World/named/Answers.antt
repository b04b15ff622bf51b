use Rattle.std.proofs.Common.{◌≡◌, sym, subst}
use Rattle.jr_members.specs.Sources.{AreNamed}
use Rattle.jr_members.proofs.Objects.{kind_named, named_climb}
use Rattle.jr_members.proofs.members.World.named.Goals as goal

pub returns : goal.returns
returns c = λ t h. let p = c.args.self.under.rows.now in let S = c.args.self.supers.now in
    let named : AreNamed p t S c.args.kind c.kind.result.now = subst (λ m. AreNamed p t S c.args.kind m) (sym c.kind.ensures) (kind_named p t S c.args.self.members.now h.members_are.kinds_are c.args.kind) in
    c.in_ok-push_of_object.ensures t h (c.in_ok-found.ensures t c.args.kind h.seen named.declared_is (named_climb p t S c.args.kind c.kind.result.now c.args.over named) named.near)
