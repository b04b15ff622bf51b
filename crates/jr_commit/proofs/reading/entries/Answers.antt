use Rattle.std.proofs.Common.{◌≡◌, ◌++◌, ◌∷◌, []}
use Rattle.std.proofs.lemmas.Result.{err_from_is_err_and}
use Rattle.std.proofs.lemmas.List.{map_push}
use Rattle.jr_commit.specs.Entries.{raw, raw_of}
use Rattle.jr_commit.specs.Reading.{entries_at}
use Rattle.jr_commit.proofs.Loop.{goes_on, ends, is_done}
use Rattle.jr_commit.proofs.reading.entries.Goals as goal

pub returns-in_err-entry : goal.returns-in_err-entry
returns-in_err-entry c =
    let p = err_from_is_err_and c.from_residual.result c.from_residual.ensures.1 in
    rw (p.1, p.2) (ends c.args.version c.in_err-entry.field-0.0 (raw c.loop.entries.items) c.args.count c.loop.counter c.loop.rest.now (entries_at c.args.version c.args.count c.args.bytes.now) c.loop-test.true c.in_err-entry.ensures c.loop.invariant)

pub loop-preserved : goal.loop-preserved
loop-preserved c =
    let s = c.in_ok-entry.entry in
    let e : raw c.push.new.self.items ≡ raw c.loop.entries.items ++ raw_of s ∷ [] = rw c.in_ok-push.ensures.items (map_push _ c.loop.entries.items s) in
    rw e (goes_on c.args.version (raw c.loop.entries.items) c.args.count c.loop.counter c.loop.rest.now (raw_of s) c.in_ok-entry.after.now (entries_at c.args.version c.args.count c.args.bytes.now) c.loop-test.true c.in_ok-entry.ensures c.loop.invariant)

pub returns : goal.returns
returns c = is_done c.args.version (raw c.loop.entries.items) c.args.count c.loop.counter c.loop.rest.now (entries_at c.args.version c.args.count c.args.bytes.now) c.loop-test.false c.loop.invariant
