use Rattle.jr_dispatch.proofs.Serving.{serves_itself, serves_overriding, serves_by}
use Rattle.jr_dispatch.proofs.dispatch.Methods.serves.Goals as goal

pub returns-then-method-called : goal.returns-then-method-called
returns-then-method-called c = λ t h class f m. serves_itself c.args.self.under.rows.now t c.args.class c.args.called c.args.method c.if-method-called.true

pub returns-then-is_overriding : goal.returns-then-is_overriding
returns-then-is_overriding c = λ t h class f m. serves_overriding c.args.self.under.rows.now t c.args.class c.args.called c.args.method _ c.if-is_overriding.true (c.in_ok-is_overriding.ensures t h f m)

pub returns : goal.returns
returns c = λ t h class f m. serves_by c.args.self.under.rows.now t c.args.class c.args.called c.args.method _ _ c.if-method-called.false c.if-is_overriding.false (c.in_ok-is_overriding.ensures t h f m) (c.in_ok-is.ensures t h class f m)
