-- Which token of a row shows a broken rule.
use Rattle.jr_rule.specs.declared.PlaceKind.{PlaceKind}
use Rattle.jr_rule.specs.declared.PlaceKind.TheVariants as kind
use Rattle.jr_rule.specs.declared.Rule.{Rule}
use Rattle.jr_rule.specs.declared.Rule.TheVariants as rule

abbrev pub place_kind : Rule → PlaceKind
place_kind rule.Operands = kind.First
place_kind rule.Cast = kind.First
place_kind rule.Condition = kind.First
place_kind rule.Index = kind.First
place_kind rule.Jump = kind.First
place_kind rule.Branches = kind.First
place_kind rule.Unreachable = kind.First
place_kind _ = kind.Name
