use Rattle.jr_dispatch.proofs.Serving.{implements_not, implements_by}
use Rattle.jr_dispatch.proofs.dispatch.Methods.implements.Goals as goal

pub returns-then-not-is_like_of_interface : goal.returns-then-not-is_like_of_interface
returns-then-not-is_like_of_interface c = λ t h class f m. implements_not c.args.self.under.rows.now t c.args.class c.args.other c.args.method _ c.if-not-is_like_of_interface.true (c.is_like_of_interface.ensures t h f m)

pub returns : goal.returns
returns c = λ t h class f m. implements_by c.args.self.under.rows.now t c.args.class c.args.other c.args.method _ _ c.if-not-is_like_of_interface.false (c.is_like_of_interface.ensures t h f m) (c.in_ok-is.ensures t h class f)
