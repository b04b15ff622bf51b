use Rattle.std.proofs.Common.{refl}
use Rattle.jr_store.proofs.blind.BlindStoreStore.remove.Goals as goal

pub returns-then-bytes-gt1024-clause-crash : goal.returns-then-bytes-gt1024-clause-crash
returns-then-bytes-gt1024-clause-crash c = λ image left. (image, tt, λ q other. refl)

pub returns-clause-crash : goal.returns-clause-crash
returns-clause-crash c = λ image left. (image, tt, λ q other. refl)
