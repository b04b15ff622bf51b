use Rattle.jr_gather.specs.Piles.{plain_pile}
use Rattle.jr_gather.proofs.Piling.{added, not_added}
use Rattle.jr_gather.proofs.collect.add_file.Goals as goal

pub returns-in_ok-with_file-in-Some-clause-piled : goal.returns-in_ok-with_file-in-Some-clause-piled
returns-in_ok-with_file-in-Some-clause-piled g c f is =
    added f (g.S.Store.files c.args.store.now) (plain_pile c.args.pile) (plain_pile c.in_ok-with_file-in-Some.field-0) c.args.path.now c.in-Some.bytes.items is
    (rw c.in-Some.is at c.in_ok-bytes.ensures.bytes) c.in_ok-with_file-in-Some.ensures

pub returns-in-None-clause-piled : goal.returns-in-None-clause-piled
returns-in-None-clause-piled g c f is =
    not_added f (g.S.Store.files c.args.store.now) (plain_pile c.args.pile) c.args.path.now is (rw c.in-None.is at c.in_ok-bytes.ensures.bytes)
