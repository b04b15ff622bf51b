-- Variables with values.
use Rattle.std.proofs.Common.{◌≡◌, refl, ap, ◌∙◌, ℕ, List, Option, Some, None, is_some, slice_index_or}
use Rattle.jr_constants.specs.declared.value.Value.{Value}
use Rattle.jr_constants.specs.declared.constants.Constants as code
use Rattle.jr_constants.specs.Values.{value_in_if}
use Rattle.jr_constants.specs.Resting.{variables_of}

some_in : (texts : List (List ℕ)) (o : Option Value) → is_some o ≡ is_some (value_in_if texts o)
some_in texts None = refl
some_in texts (Some value) = refl

pub valued_some : (found : code.Constants) (d : ℕ) (o : Option Value) → o ≡ slice_index_or found.variables.items d None → is_some o ≡ is_some (variables_of found d)
valued_some found d o e = ap is_some e ∙ some_in found.texts (slice_index_or found.variables.items d None)
