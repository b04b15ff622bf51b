use Rattle.std.proofs.Common.{sym, ◌∙◌, ap}
use Rattle.jr_supers.specs.Tabled.{is_callable}
use Rattle.jr_dispatch.proofs.Serving.{like_not_public, like_not_above, like_by}
use Rattle.jr_dispatch.proofs.dispatch.Methods.is_like_of_interface.Goals as goal

pub returns-then-not-is_public : goal.returns-then-not-is_public
returns-then-not-is_public c = λ t h f m. like_not_public c.args.self.under.rows.now t h.supers.well.headed c.args.class c.args.other c.args.method (sym c.is_public.ensures ∙ c.if-not-is_public.true)

pub returns-then-not-is_of_interface_above : goal.returns-then-not-is_of_interface_above
returns-then-not-is_of_interface_above c = λ t h f m. like_not_above c.args.self.under.rows.now t h.supers.well.headed c.args.class c.args.other c.args.method (sym (c.is_of_interface_above.ensures t h.supers) ∙ c.if-not-is_of_interface_above.true)

pub returns : goal.returns
returns c = λ t h f m. like_by c.args.self.under.rows.now t h.supers.well.headed c.args.class c.args.other c.args.method _ (sym c.is_public.ensures ∙ c.if-not-is_public.false)
    (sym (c.is_of_interface_above.ensures t h.supers) ∙ c.if-not-is_of_interface_above.false) f m (c.are_same.ensures c.args.self.under.rows.now t h.signatures (ap is_callable f) (ap is_callable m))
