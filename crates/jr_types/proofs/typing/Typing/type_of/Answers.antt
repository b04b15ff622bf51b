use Rattle.std.proofs.Common.{◌∙◌, sym, ap, subst, ◌<◌, ◌^◌}
use Rattle.std.proofs.lemmas.Bool.{ltb-true, ltb-false}
use Rattle.jr_plain.specs.Typing as plain
use Rattle.jr_supers.specs.Tabled.{dims_made}
use Rattle.jr_types.specs.Typed.{rows_of, table_of, types_of}
use Rattle.jr_types.proofs.Operands.{label_of, untyped_past}
use Rattle.jr_types.proofs.typing.Typing.type_of.Goals as goal

pub returns-in-Some : goal.returns-in-Some
returns-in-Some c = λ constant h.
    let e = label_of (rows_of c.args.self) c.args.at c.in-Some.row.now (ltb-true _ _ (sym c.in-Some.ensures.lookup.0)) c.in-Some.ensures.lookup.1 in
    c.typed_by.ensures constant h (subst (λ l. dims_made l < 2 ^ 64) e (h.sized.counted c.args.at)) ∙ ap (plain.typed_by (rows_of c.args.self) (table_of c.args.self) constant (types_of c.args.self) c.args.at) (sym e)

pub returns-in-None : goal.returns-in-None
returns-in-None c = λ constant h. untyped_past (rows_of c.args.self) (table_of c.args.self) constant (types_of c.args.self) c.args.at (ltb-false _ _ (sym c.in-None.ensures.lookup.0))
