use Rattle.std.specs.Prelude.{option_map}
use Rattle.std.proofs.lemmas.Result.{on_ok_weaker}
use Rattle.jr_store.specs.Replay.{image_of}
use Rattle.jr_store.proofs.Putting.{put_changes}
use Rattle.jr_store.proofs.memory.tear.Goals as goal

pub returns : goal.returns
returns c =
    on_ok_weaker c.set_side.result
    (put_changes c.args.call.path.now (option_map (λ b. b.now) c.match-pick-rem4.side) (image_of c.args.left.now) (image_of c.set_side.new.files))
    c.set_side.ensures
