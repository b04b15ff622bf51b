-- Parameters with the arguments as their values.
use Rattle.std.proofs.Common.{◌≡◌, refl, List, [], ◌∷◌}
use Rattle.jr_base.specs.declared.ids.DeclId.{DeclId}
use Rattle.jr_machine_defs.specs.Calls.{slots_of}

pub no_slots : (params : List DeclId) → slots_of params [] ≡ []
no_slots [] = refl
no_slots (d ∷ params) = refl
