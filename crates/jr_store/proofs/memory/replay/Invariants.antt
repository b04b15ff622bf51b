use Rattle.std.proofs.Common.{take}
use Rattle.jr_store.specs.Replay.{Replays, image_of, state_of}
use Rattle.jr_store.proofs.memory.replay.Given as goal

abbrev pub invariant-loop-index : goal.invariant-loop-index
invariant-loop-index l = Replays (state_of l.files (take l.index l.kept)) (image_of l.replayed.now) (image_of l.replayed.left)
