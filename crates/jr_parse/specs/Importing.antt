-- Imports by the identifiers that were read: the same readers, with no count of turns (JLS 7.5).
use Rattle.std.specs.Prelude.{Bool, true, false, if◌then◌else◌, List, [], ◌∷◌, length}
use Rattle.jr_base.specs.declared.text.Text.{Text}
use Rattle.jr_base.specs.declared.kind.Symbol.TheVariants as y
use Rattle.jr_tree.specs.declared.tree.Name.{Name}
use Rattle.jr_tree.specs.declared.tree.Import.{Import}
use Rattle.jr_tree.specs.declared.tree.Import.TheVariants as import
use Rattle.jr_parse_laws.specs.Parsers.{Parser, ◌>>◌, pure, refuse, expect}
use Rattle.jr_parse_expr.specs.Names.{name_of}
use Rattle.jr_parse_defs.specs.Decls.{imported_from, static_from}

abbrev pub single : Name → Parser Import
single n = expect y.Semicolon >> pure (import.Single n)

abbrev pub on_demand : Name → Parser Import
on_demand n = expect y.Semicolon >> pure (import.OnDemand n)

abbrev pub imported : List Text → Text → Parser Import
imported before last ts = imported_from (length ts) before last ts

abbrev pub has_no_parts : List Text → Bool
has_no_parts [] = true
has_no_parts (part ∷ parts) = false

abbrev pub static_end : List Text → Text → Parser Import
static_end parts member ts = if has_no_parts parts then refuse ts else (expect y.Semicolon >> pure (import.StaticSingle (name_of parts) member)) ts

abbrev pub static_imported : List Text → Text → Parser Import
static_imported before last ts = static_from (length ts) before last ts
