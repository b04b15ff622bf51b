use Rattle.std.proofs.Common.{◌≡◌, ◌∙◌, ap, subst, IfOk}
use Rattle.jr_supers.specs.Above.{Tables, tables, with_new, with_unless}
use Rattle.jr_supers.specs.Direct.{supers_in}
use Rattle.jr_supers.proofs.above.Above.with_type.Goals as goal

pub returns-in-Some : goal.returns-in-Some
returns-in-Some c = ap (with_unless c.args.rows.now (supers_in c.args.direct.now.supers c.args.at) c.args.at (tables c.args.self)) c.in-Some.ensures

pub returns-in_ok-supers-in-None : goal.returns-in_ok-supers-in-None
returns-in_ok-supers-in-None c = subst (λ (q : Tables). IfOk c.with_new.result (λ above. tables above ≡ q))
    (ap (λ xs. with_new c.args.rows.now xs c.args.at (tables c.args.self)) (c.deref.ensures.value ∙ c.in_ok-supers-in-None.ensures)
    ∙ ap (with_unless c.args.rows.now (supers_in c.args.direct.now.supers c.args.at) c.args.at (tables c.args.self)) c.in-None.ensures) c.with_new.ensures
