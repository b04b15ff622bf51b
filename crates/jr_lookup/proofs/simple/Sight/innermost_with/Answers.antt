use Rattle.std.proofs.Common.{sym, ◌∙◌, subst, arith}
use Rattle.std.proofs.lemmas.Bool.{false≢true}
use Rattle.jr_members.specs.Sources.{AreNamed}
use Rattle.jr_members.proofs.Objects.{kind_named}
use Rattle.jr_lookup.specs.Levels.{HasMemberAs}
use Rattle.jr_lookup.proofs.Instancing.{around_is}
use Rattle.jr_lookup.proofs.Leveling.{none_named}
use Rattle.jr_lookup.proofs.Outward.{walk_start, walk_next, walk_found, walk_none, walk_short, such_none}
use Rattle.jr_lookup.proofs.simple.Sight.innermost_with.Goals as goal

pub loop-turn-init : goal.loop-turn-init
loop-turn-init c = λ t world. let p = c.args.self.now.world.under.rows.now in walk_start p world.seen.placed.local.tree (HasMemberAs p t c.args.kind c.args.name) c.args.place _
    (c.around-around.ensures ∙ around_is p c.args.self.now.world.under.places.now world.seen.placed c.args.place)

pub loop-turn-preserved : goal.loop-turn-preserved
loop-turn-preserved c = λ t world. let p = c.args.self.now.world.under.rows.now in walk_next p world.seen.placed.local.tree (HasMemberAs p t c.args.kind c.args.name) c.args.place c.loop-turn._turn c.in-Some.over c.loop-turn.around _ (c.loop-turn.invariant t world)
    c.in-Some.is (λ h. false≢true (sym c.if-is_such.false ∙ (c.in_ok-is_such-in-Some.ensures t world).1 h)) (c.around-next.ensures ∙ around_is p c.args.self.now.world.under.places.now world.seen.placed c.in-Some.over)

pub returns-in-None : goal.returns-in-None
returns-in-None c = λ t world. let p = c.args.self.now.world.under.rows.now in walk_none p world.seen.placed.local.tree (HasMemberAs p t c.args.kind c.args.name) c.args.place c.loop-turn._turn c.loop-turn.around (c.loop-turn.invariant t world) c.in-None.is

pub returns-then-is_such : goal.returns-then-is_such
returns-then-is_such c = λ t world. let p = c.args.self.now.world.under.rows.now in walk_found p world.seen.placed.local.tree (HasMemberAs p t c.args.kind c.args.name) c.args.place c.loop-turn._turn c.in-Some.over c.loop-turn.around (c.loop-turn.invariant t world)
    c.in-Some.is ((c.in_ok-is_such-in-Some.ensures t world).0 c.if-is_such.true)

pub returns-then-not-has_name : goal.returns-then-not-has_name
returns-then-not-has_name c = λ t world. let p = c.args.self.now.world.under.rows.now in let S = c.args.self.now.world.supers.now in
    let named : AreNamed p t S c.args.kind c.kind.result.now = subst (λ m. AreNamed p t S c.args.kind m) (sym c.kind.ensures) (kind_named p t S c.args.self.now.world.members.now world.members_are.kinds_are c.args.kind) in
    such_none p (HasMemberAs p t c.args.kind c.args.name) c.args.place (λ e h. none_named p t c.args.kind c.args.name e (sym c.if-not-has_name.true ∙ c.has_name.ensures p c.args.kind named.declared_is) h)

pub returns : goal.returns
returns c = λ t world. let p = c.args.self.now.world.under.rows.now in walk_short p world.seen.placed.local.tree (HasMemberAs p t c.args.kind c.args.name) c.args.place c.loop-turn._turn c.loop-turn.around (c.loop-turn.invariant t world) (omega arith)
