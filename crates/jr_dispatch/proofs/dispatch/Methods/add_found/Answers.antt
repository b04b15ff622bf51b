use Rattle.jr_dispatch.proofs.dispatch.Methods.add_found.Goals as goal

pub returns : goal.returns
returns c = λ t h. record { found = c.in_ok-found.found; is = c.in_ok-found.ensures t h; new_is = c.in_ok-push_found.ensures }
