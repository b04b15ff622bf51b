use Rattle.std.proofs.Common.{refl}
use Rattle.jr_store.proofs.folder.FolderStoreStore.write.Goals as goal

pub returns-clause-crash : goal.returns-clause-crash
returns-clause-crash g c = λ image left. (image, tt, λ q other. refl)
