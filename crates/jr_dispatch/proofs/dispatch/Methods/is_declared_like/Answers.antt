use Rattle.std.proofs.Common.{◌≡◌, ◌∙◌, ap, arith, length, nat_eq}
use Rattle.jr_supers.specs.Tabled.{is_callable}
use Rattle.jr_dispatch.proofs.Inheriting.{declares_tells}
use Rattle.jr_dispatch.proofs.dispatch.Methods.is_declared_like.Goals as goal

pub returns : goal.returns
returns c = λ t h m. declares_tells c.args.self.under.rows.now t h.supers.well.headed c.args.at c.args.method c.in_ok-own.own.items c.is_empty.result m (c.in_ok-own.ensures c.args.self.under.rows.now t h.callables h.signatures (ap is_callable m)) (let same : c.in_ok-own.own.len ≡ length c.in_ok-own.own.items = omega (arith, c.in_ok-own.own.ok.0) in c.is_empty.ensures ∙ ap (λ n. nat_eq n 0) same)
