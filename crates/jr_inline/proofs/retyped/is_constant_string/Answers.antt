use Rattle.std.proofs.Common.{◌∙◌, ap, None, slice_index_or}
use Rattle.jr_inline.specs.Retyping.{is_text_if}
use Rattle.jr_inline.proofs.Comparing.{string_so}
use Rattle.jr_inline.proofs.retyped.is_constant_string.Goals as goal

pub returns : goal.returns
returns c = c.is_text_if.ensures ∙ (ap is_text_if c.value.ensures ∙ string_so c.args.constants.now.texts (slice_index_or c.args.constants.now.values.items c.args.at None))
