use Rattle.std.proofs.Common.{◌≡◌, ◌∙◌, Some, arith}
use Rattle.std.specs.Prelude.{bytes_eq}
use Rattle.jr_store.specs.Image.{Reads}
use Rattle.jr_commit.proofs.Undoing.{held_some}
use Rattle.jr_commit.proofs.undo.holds.Goals as goal

pub returns-in-Some-2-clause-held : goal.returns-in-Some-2-clause-held
returns-in-Some-2-clause-held g c f is =
    let bytes = c.in-Holds.bytes.items in
    let found = c.in-Some-2.found.items in
    let says : c.eq.result ≡ bytes_eq found bytes = c.eq.ensures ∙ (λ i. bytes_eq (c.as_slice.ensures.value i) (c.as_slice-in-Some-2.ensures.value i)) in
    let reads = rw c.in-Some-2.is at c.in_ok-found-in-Holds.ensures.bytes in
    rw c.in-Holds.is (held_some (g.S.Store.files c.args.store.now) c.args.path.now f is _ bytes found c.eq.result (omega (arith, c.len-in-Holds.ensures, c.in-Holds.bytes.ok.0)) says reads)
