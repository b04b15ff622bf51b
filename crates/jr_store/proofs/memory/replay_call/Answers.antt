use Rattle.std.proofs.Common.{ap, subst, ◌∙◌}
use Rattle.std.proofs.lemmas.Result.{on_ok_weaker}
use Rattle.jr_store.specs.Image.{ChangesOnly}
use Rattle.jr_store.specs.Replay.{image_of}
use Rattle.jr_store.specs.declared.memory.Replayed.{Replayed}
use Rattle.jr_store.proofs.Replaying.{replay_wrote, replay_removed, replay_unsure}
use Rattle.jr_store.proofs.memory.replay_call.Goals as goal
use Rattle.jr_store.proofs.memory.replay_call.Goals.{in-Wrote+in_ok-set_side-in-Wrote, in-Removed+in_ok-set_side-in-Removed, in-Unsure}

pub returns : goal.returns
returns c =
    let call = c.args.call in
    let held = image_of c.args.replayed.now.now in
    let torn = image_of c.args.replayed.now.left in
    let now = image_of c.match-call.replayed.now in
    let after = image_of c.tear.new.left in
    on_ok_weaker c.tear.result
    (λ tears s replays. elim c.match-call.branch [
      | in-Wrote+in_ok-set_side-in-Wrote w ↦
          replay_wrote call.action call.path.now call.bytes.now s held torn now after replays w.in-Wrote.is
          (ap (λ (r : Replayed). image_of r.now) w.replayed-is ∙ w.in_ok-set_side-in-Wrote.ensures) (subst (λ (r : Replayed). ChangesOnly call.path.now (image_of r.left) after) w.replayed-is tears)
      | in-Removed+in_ok-set_side-in-Removed w ↦
          replay_removed call.action call.path.now call.bytes.now s held torn now after replays w.in-Removed.is
          (ap (λ (r : Replayed). image_of r.now) w.replayed-is ∙ w.in_ok-set_side-in-Removed.ensures) (subst (λ (r : Replayed). ChangesOnly call.path.now (image_of r.left) after) w.replayed-is tears)
      | in-Unsure w ↦
          replay_unsure call.action call.path.now call.bytes.now s held torn now after replays w.in-Unsure.is
          (ap (λ (r : Replayed). image_of r.now) w.replayed-is) (subst (λ (r : Replayed). ChangesOnly call.path.now (image_of r.left) after) w.replayed-is tears)
    ])
    c.tear.ensures
