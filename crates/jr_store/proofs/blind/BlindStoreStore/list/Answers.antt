use Rattle.std.proofs.Common.{sym, subst, List, ℕ}
use Rattle.std.specs.Prelude.{bytes_eq}
use Rattle.std.specs.List.{IsDistinct}
use Rattle.jr_store.proofs.blind.BlindStoreStore.list.Goals as goal

pub returns-clause-distinct : goal.returns-clause-distinct
unfolding IsDistinct
returns-clause-distinct c = subst (λ (l : List (List ℕ)). IsDistinct bytes_eq l) (sym c.new.ensures.items) tt
