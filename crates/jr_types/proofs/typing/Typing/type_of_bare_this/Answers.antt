use Rattle.std.proofs.Common.{◌∙◌, ap}
use Rattle.std.specs.Prelude.{option_and_then}
use Rattle.jr_lookup.proofs.Instancing.{around_is}
use Rattle.jr_plain.specs.Typing as plain
use Rattle.jr_types.specs.Typed.{rows_of}
use Rattle.jr_types.proofs.typing.Typing.type_of_bare_this.Goals as goal

pub returns : goal.returns
returns c = λ constant h. c.this_type.ensures h.seen.placed
    ∙ ap (option_and_then (plain.this_type (rows_of c.args.self) c.args.at)) (c.around.ensures ∙ around_is (rows_of c.args.self) c.args.self.world.under.places.now h.seen.placed c.args.at)
