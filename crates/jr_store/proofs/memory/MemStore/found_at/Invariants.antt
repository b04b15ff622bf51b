use Rattle.std.proofs.Common.{◌≡◌, take}
use Rattle.std.specs.Prelude.{option_map}
use Rattle.jr_store.specs.Replay.{state_of}
use Rattle.jr_store.proofs.memory.MemStore.found_at.Given as goal

abbrev pub invariant-loop-index : goal.invariant-loop-index
invariant-loop-index l = option_map (λ b. b.now) l.found ≡ (state_of l.self.files (take l.index l.self.kept)).0 l.path
