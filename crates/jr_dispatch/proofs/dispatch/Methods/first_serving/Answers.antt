use Rattle.std.proofs.Common.{sym, ◌∙◌, ap, subst, None}
use Rattle.jr_supers.specs.Tabled.{is_callable}
use Rattle.jr_defs.specs.Overriding.{Serves}
use Rattle.jr_dispatch.specs.Dispatching.{IsLastOf, IsFirstServing}
use Rattle.jr_dispatch.proofs.Serving.{like_methods, serving_some, serving_none}
use Rattle.jr_dispatch.proofs.dispatch.Methods.first_serving.Goals as goal

pub returns-in-Some : goal.returns-in-Some
returns-in-Some c = λ t h class m. let p = c.args.self.under.rows.now in
    let is = c.deref.ensures.value ∙ c.in_ok-like.ensures p t h.callables h.signatures (ap is_callable m) in
    serving_some p t h.supers.well.headed c.args.class c.args.called c.args.declaring m _ is _
    (subst (λ o. IsLastOf (Serves p t c.args.class c.args.called) None c.deref.result.now o) c.in-Some.is (c.in_ok-found.ensures t h class m (like_methods p t h.supers.well.headed c.args.class c.args.called c.args.declaring m _ is)))

pub returns : goal.returns
returns c = λ t h class m. let p = c.args.self.under.rows.now in
    let is = c.deref.ensures.value ∙ c.in_ok-like.ensures p t h.callables h.signatures (ap is_callable m) in
    subst (λ o. IsFirstServing p t c.args.class c.args.called c.args.declaring o) (sym c.latest.ensures)
    (serving_none p t h.supers.well.headed c.args.class c.args.called c.args.declaring m _ is _ c.is_declared_in-is_own.ensures
    (subst (λ o. IsLastOf (Serves p t c.args.class c.args.called) None c.deref.result.now o) c.in-None.is (c.in_ok-found.ensures t h class m (like_methods p t h.supers.well.headed c.args.class c.args.called c.args.declaring m _ is))))
