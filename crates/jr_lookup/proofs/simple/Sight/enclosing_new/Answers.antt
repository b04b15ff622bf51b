use Rattle.std.proofs.Common.{sym, ◌∙◌, arith}
use Rattle.std.proofs.lemmas.Bool.{false≢true}
use Rattle.jr_defs.specs.Members.{MemberOf}
use Rattle.jr_lookup.proofs.Instancing.{around_is}
use Rattle.jr_lookup.proofs.Outward.{walk_start, walk_next, walk_found, walk_none, walk_short}
use Rattle.jr_lookup.proofs.simple.Sight.enclosing_new.Goals as goal

pub loop-turn-init : goal.loop-turn-init
loop-turn-init c = λ t world. let p = c.args.self.now.world.under.rows.now in walk_start p world.seen.placed.local.tree (λ e. MemberOf p t e c.args.class) c.args.place _
    (c.around-around.ensures ∙ around_is p c.args.self.now.world.under.places.now world.seen.placed c.args.place)

pub loop-turn-preserved : goal.loop-turn-preserved
loop-turn-preserved c = λ t world. let p = c.args.self.now.world.under.rows.now in walk_next p world.seen.placed.local.tree (λ e. MemberOf p t e c.args.class) c.args.place c.loop-turn._turn c.in-Some.over c.loop-turn.around _ (c.loop-turn.invariant t world)
    c.in-Some.is (λ h. false≢true (sym c.if-is_such.false ∙ (c.in_ok-is_such-in-Some.ensures t world).1 h)) (c.around-next.ensures ∙ around_is p c.args.self.now.world.under.places.now world.seen.placed c.in-Some.over)

pub returns-in-None : goal.returns-in-None
returns-in-None c = λ t world. let p = c.args.self.now.world.under.rows.now in walk_none p world.seen.placed.local.tree (λ e. MemberOf p t e c.args.class) c.args.place c.loop-turn._turn c.loop-turn.around (c.loop-turn.invariant t world) c.in-None.is

pub returns-then-is_such : goal.returns-then-is_such
returns-then-is_such c = λ t world. let p = c.args.self.now.world.under.rows.now in walk_found p world.seen.placed.local.tree (λ e. MemberOf p t e c.args.class) c.args.place c.loop-turn._turn c.in-Some.over c.loop-turn.around (c.loop-turn.invariant t world)
    c.in-Some.is ((c.in_ok-is_such-in-Some.ensures t world).0 c.if-is_such.true)

pub returns : goal.returns
returns c = λ t world. let p = c.args.self.now.world.under.rows.now in walk_short p world.seen.placed.local.tree (λ e. MemberOf p t e c.args.class) c.args.place c.loop-turn._turn c.loop-turn.around (c.loop-turn.invariant t world) (omega arith)
