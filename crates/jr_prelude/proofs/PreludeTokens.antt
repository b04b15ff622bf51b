-- The texts of the prelude are laid out as the tokens of their trees.
use Rattle.std.proofs.Common.{refl}
use Rattle.jr_tree.specs.Tokens.{unit_tokens}
use Rattle.jr_defs.specs.Prelude.{lang_text, io_text}
use Rattle.jr_prelude.specs.Io.{io_unit}
use Rattle.jr_prelude.specs.Lang.{lang_unit}
use Rattle.jr_prelude.proofs.TextTokens.{HasTokens, has_tokens}

pub lang_has : HasTokens lang_text (unit_tokens lang_unit)
lang_has = has_tokens 4000 lang_text (unit_tokens lang_unit) refl refl

pub io_has : HasTokens io_text (unit_tokens io_unit)
io_has = has_tokens 4000 io_text (unit_tokens io_unit) refl refl
