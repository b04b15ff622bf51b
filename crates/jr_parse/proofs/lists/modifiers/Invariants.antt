use Rattle.std.proofs.Common.{◌≡◌, length}
use Rattle.jr_parse_laws.specs.Parsers.{kinds, with_front}
use Rattle.jr_parse_defs.specs.Decls as spec
use Rattle.jr_parse.proofs.lists.modifiers.Given as goal

abbrev pub invariant-modifiers : goal.invariant-modifiers
invariant-modifiers l = spec.modifiers (kinds l.initial.cursor) ≡ with_front l.all (spec.modifiers (kinds l.cursor))

abbrev pub decreases-modifiers : goal.decreases-modifiers
decreases-modifiers l = length l.cursor.rest.now
