use Rattle.std.proofs.Common.{◌≡◌, map, Err}
use Rattle.jr_base.specs.declared.token.Token.{Token}
use Rattle.jr_parse_laws.specs.Parsers.{kinds}
use Rattle.jr_parse_laws.specs.declared.fault.Fault.TheVariants.{NoTree, TooDeep}
use Rattle.jr_parse_defs.specs.Decls as spec
use Rattle.jr_parse.proofs.Answering.{reading, no_tree, too_deep}
use Rattle.jr_parse.proofs.parser.parse_within.Goals as goal

pub returns-in-Ok : goal.returns-in-Ok
returns-in-Ok c = reading c.args.levels (map (λ (t : Token). t.kind) c.args.tokens.now) c.in-Ok.unit (kinds c.whole_unit.new.cursor) c.in-Ok.ensures

pub returns-in-Err-NoTree : goal.returns-in-Err-NoTree
returns-in-Err-NoTree c =
    let ks = map (λ (t : Token). t.kind) c.args.tokens.now in
    let read : spec.unit c.args.levels ks ≡ Err (NoTree, kinds c.whole_unit.new.cursor) = rw c.in-Err-NoTree.field-0-is at c.in-Err-NoTree.ensures in
    rw c.token_number.ensures (no_tree c.args.levels ks (kinds c.whole_unit.new.cursor) c.requires.some read)

pub returns-in-Err-TooDeep : goal.returns-in-Err-TooDeep
returns-in-Err-TooDeep c =
    let ks = map (λ (t : Token). t.kind) c.args.tokens.now in
    let read : spec.unit c.args.levels ks ≡ Err (TooDeep, kinds c.whole_unit.new.cursor) = rw c.in-Err-TooDeep.field-0-is at c.in-Err-TooDeep.ensures in
    rw c.token_number-in-Err-TooDeep.ensures (too_deep c.args.levels ks (kinds c.whole_unit.new.cursor) c.requires.some read)
