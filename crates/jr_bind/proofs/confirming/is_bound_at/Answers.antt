use Rattle.std.proofs.Common.{sym, ◌∙◌, subst}
use Rattle.jr_tree.specs.Rows.{sought_at}
use Rattle.jr_bind.specs.Confirmed.{rows_of, table_of}
use Rattle.jr_bind.specs.Looked.{IsLookedUp}
use Rattle.jr_bind.proofs.Dotting.{type_needs}
use Rattle.jr_bind.proofs.confirming.is_bound_at.Goals as goal

pub returns : goal.returns
returns c = λ see seeks is. let p = rows_of c.args.sight in let t = table_of c.args.sight in let none = type_needs (sought_at p c.args.at) seeks in
    subst (IsLookedUp p t c.args.at) (sym (c.is_same.ensures.0 is) ∙ c.referent_at.ensures) (c.in_ok-found.ensures t see (λ needs. absurd (none.0 needs)) (λ needs. absurd (none.1 needs)))
