use Rattle.std.proofs.Common.{sym, ◌∙◌, refl, arith}
use Rattle.jr_lookup.proofs.Instancing.{around_is, never_static, seek_start, seek_next, seek_found, seek_none, seek_short}
use Rattle.jr_lookup.proofs.instances.has_instance.Goals as goal

pub returns-then-is_in_static_context : goal.returns-then-is_in_static_context
returns-then-is_in_static_context c = λ placed. never_static c.args.rows.now c.args.place c.args.class _ (sym c.if-is_in_static_context.true ∙ c.is_in_static_context.ensures placed) refl

pub loop-turn-init : goal.loop-turn-init
loop-turn-init c = λ placed. seek_start c.args.rows.now placed.local.tree c.args.place c.args.class _ (c.around-around.ensures ∙ around_is c.args.rows.now c.args.places.now placed c.args.place)
    (sym c.if-is_in_static_context.false ∙ c.is_in_static_context.ensures placed)

pub loop-turn-preserved : goal.loop-turn-preserved
loop-turn-preserved c = λ placed. seek_next c.args.rows.now placed.local.tree c.args.place c.args.class c.loop-turn._turn _ c.loop-turn.around _ (c.loop-turn.invariant placed) c.in-Some.is c.if-here-class.false c.enclosing_class-around.ensures

pub returns-then-here-class : goal.returns-then-here-class
returns-then-here-class c = λ placed. seek_found c.args.rows.now placed.local.tree c.args.place c.args.class c.loop-turn._turn c.in-Some.here c.loop-turn.around (c.loop-turn.invariant placed) c.in-Some.is c.if-here-class.true

pub returns-in-None : goal.returns-in-None
returns-in-None c = λ placed. seek_none c.args.rows.now placed.local.tree c.args.place c.args.class c.loop-turn._turn c.loop-turn.around (c.loop-turn.invariant placed) c.in-None.is

pub returns : goal.returns
returns c = λ placed. seek_short c.args.rows.now placed.local.tree c.args.place c.args.class c.loop-turn._turn c.loop-turn.around (c.loop-turn.invariant placed) (omega arith)
