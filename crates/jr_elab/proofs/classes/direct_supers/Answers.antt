use Rattle.std.proofs.Common.{sym, ◌∙◌, ap, subst, length}
use Rattle.std.proofs.lemmas.Result.{IfOk-weaker}
use Rattle.jr_places.specs.Chains.{rows_under}
use Rattle.jr_supers.specs.Direct.{FallsFrom}
use Rattle.jr_codes.specs.Reads.{rows_of, table_of}
use Rattle.jr_elab.proofs.classes.direct_supers.Goals as goal

pub returns : goal.returns
returns c = IfOk-weaker c.rows.result _ _
    (λ supers found whole. subst (λ xs. FallsFrom (rows_of c.args.source.now) (table_of c.args.source.now) c.args.at (length (rows_of c.args.source.now)) xs)
    (sym (found ∙ ap (λ d. rows_under d c.args.at 0 (length d)) (c.direct.ensures ∙ ap (λ w. w.supers.now.direct.supers) c.world.ensures)))
    (whole.world_is.seen.above.direct.falls c.args.at)) c.rows.ensures
