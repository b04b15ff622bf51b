use Rattle.std.proofs.Common.{sym, subst}
use Rattle.jr_defs.specs.Supertypes.{Superclass}
use Rattle.jr_supers.specs.Supers.{AreSupersOf}
use Rattle.jr_codes.specs.Reads.{rows_of, table_of, facts}
use Rattle.jr_elab.proofs.Classed.{type_there, type_away}
use Rattle.jr_elab.proofs.classes.superclass.Goals as goal

pub returns-in-Some : goal.returns-in-Some
returns-in-Some c = λ whole. type_there (facts c.args.source.now) (Superclass (rows_of c.args.source.now) (table_of c.args.source.now) c.args.at) c.superclass.result _ _
    (c.superclass.ensures (rows_of c.args.source.now) (table_of c.args.source.now) (subst (λ w. AreSupersOf (rows_of c.args.source.now) (table_of c.args.source.now) w.supers.now) (sym c.world.ensures) whole.world_is.seen.above)) c.in-Some.is c.type_at.ensures

pub returns-in-None : goal.returns-in-None
returns-in-None c = λ whole. type_away (facts c.args.source.now) (Superclass (rows_of c.args.source.now) (table_of c.args.source.now) c.args.at) c.superclass.result
    (c.superclass.ensures (rows_of c.args.source.now) (table_of c.args.source.now) (subst (λ w. AreSupersOf (rows_of c.args.source.now) (table_of c.args.source.now) w.supers.now) (sym c.world.ensures) whole.world_is.seen.above)) c.in-None.is
