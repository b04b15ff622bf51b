use Rattle.std.proofs.Common.{◌≡◌, ◌∙◌, sym, ap, rules}
use Rattle.std.specs.Prelude.{Some, option_map}
use Rattle.std.proofs.lemmas.Result.{on_ok_weaker}
use Rattle.jr_store.specs.Replay.{image_of}
use Rattle.jr_store.specs.Sides.{put_side}
use Rattle.jr_store.proofs.Putting.{image-insert, image-remove}
use Rattle.jr_store.proofs.memory.set_side.Goals as goal

pub returns-in-None : goal.returns-in-None
returns-in-None c =
    let files = c.args.files.now in
    ap image_of c.remove.ensures
    ∙ image-remove files c.in_ok-path.path
    ∙ (λ i. put_side (c.in_ok-path.ensures i) (option_map (λ b. b.now) (sym c.in-None.is i)) (image_of files))

pub returns-in_ok-bytes-in-Some : goal.returns-in_ok-bytes-in-Some
returns-in_ok-bytes-in-Some c =
    let files = c.args.files.now in
    let copied : c.in_ok-bytes-in-Some.bytes.items ≡ c.in-Some.bytes.now = search rules in
    on_ok_weaker c.insert.result
    (λ put.
    ap image_of put
    ∙ image-insert files c.in_ok-path.path c.in_ok-bytes-in-Some.bytes.items
    ∙ (λ i. put_side (c.in_ok-path.ensures i) (Some (copied i)) (image_of files))
    ∙ ap (λ o. put_side c.args.path.now o (image_of files)) (ap (option_map (λ b. b.now)) (sym c.in-Some.is)))
    c.insert.ensures.ok
