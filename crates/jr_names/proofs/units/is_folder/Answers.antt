use Rattle.std.proofs.Common.{◌≡◌, sym, ◌∙◌, ap, arith, List, [], ◌∷◌, length, take, ◌-◌, nat_eq}
use Rattle.std.proofs.lemmas.Bool.Decides.{Decides-eqb}
use Rattle.std.proofs.lemmas.Slice.Eq.{ends_is}
use Rattle.jr_names.proofs.Paths.{tells_folder, some_there}
use Rattle.jr_names.proofs.units.is_folder.Goals as goal

pub returns-else-is_empty : goal.returns-else-is_empty
returns-else-is_empty c = let folder = c.args.folder.now in tells_folder folder (take (length folder - 1) folder) c.ends_with.result (ends_is Decides-eqb folder (47 ∷ []) c.ends_with.result c.ends_with.ensures.value)
    (some_there folder c.is_empty.result c.is_empty.ensures c.if-is_empty.false)
