use Rattle.std.proofs.Common.{◌∙◌, subst, length}
use Rattle.std.specs.List.{Contains}
use Rattle.jr_flow.proofs.Declaring.{body_below}
use Rattle.jr_kept.proofs.starting.node_of_class.Goals as goal

pub returns-clause-acts : goal.returns-clause-acts
returns-clause-acts c = λ m seen. let rows = c.args.old.now.marks.rows.now in
    c.node_of_bodies.ensures.acts m seen (λ k among. let one = body_below rows (length rows) k (subst (λ xs. Contains xs k) (c.deref.ensures.value ∙ c.in_ok-all.ensures) among) in record { few = one.0; has = one.1 })

pub returns-clause-large : goal.returns-clause-large
returns-clause-large c = λ m seen. let rows = c.args.old.now.marks.rows.now in
    c.node_of_bodies.ensures.large m seen (λ k among. let one = body_below rows (length rows) k (subst (λ xs. Contains xs k) (c.deref.ensures.value ∙ c.in_ok-all.ensures) among) in record { few = one.0; has = one.1 })
