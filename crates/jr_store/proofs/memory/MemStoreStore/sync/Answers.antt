use Rattle.std.proofs.Common.{ap}
use Rattle.std.specs.Prelude.{Some}
use Rattle.jr_store.proofs.Kept.{sync_told, sync_only, sync_crash, sync_time}
use Rattle.jr_store.proofs.memory.MemStoreStore.sync.Goals as goal

pub returns-clause-told : goal.returns-clause-told
returns-clause-told c = ap Some (sync_told c.args.self.now.files c.keep.new.self.files c.keep.ensures.files c.args.self.now.kept c.keep.new.self.kept c.in_ok-number.number c.keep.result c.keep.ensures.ok c.keep.ensures.err)

pub returns-clause-durable : goal.returns-clause-durable
returns-clause-durable c = sync_only c.args.self.now.files c.keep.new.self.files c.keep.ensures.files c.args.self.now.kept c.keep.new.self.kept c.in_ok-number.number c.keep.result c.keep.ensures.ok

pub returns-clause-crash : goal.returns-clause-crash
returns-clause-crash c = sync_crash c.args.self.now.files c.keep.new.self.files c.keep.ensures.files c.args.self.now.kept c.keep.new.self.kept c.in_ok-number.number c.keep.result c.keep.ensures.ok c.keep.ensures.err

pub returns-clause-time : goal.returns-clause-time
returns-clause-time c = sync_time c.args.self.now.files c.keep.new.self.files c.keep.ensures.files c.args.self.now.kept c.keep.new.self.kept c.in_ok-number.number c.keep.result c.keep.ensures.ok c.keep.ensures.err
