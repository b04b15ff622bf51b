use Rattle.jr_dispatch.proofs.Edging.{methods_told}
use Rattle.jr_dispatch.proofs.dispatch.Methods.methods_of.Goals as goal

pub returns : goal.returns
returns c = λ t h. methods_told c.args.self.under.rows.now t c.args.class h.bare _ _ _ _ _ c.deref.ensures.value (c.in_ok-overs.ensures t h.supers) (c.in_ok-all.ensures t h) c.deref_mut.ensures.value c.in_ok-out.ensures
