use Rattle.std.proofs.Common.{refl}
use Rattle.std.specs.Prelude.{Some}
use Rattle.jr_store.specs.declared.record.Action.TheVariants.{Wrote}
use Rattle.jr_store.proofs.Kept.{change_told, change_crash, change_time, puts, wrote_touches}
use Rattle.jr_store.proofs.memory.MemStoreStore.write.Goals as goal

pub returns-clause-told : goal.returns-clause-told
returns-clause-told c = change_told c.args.self.now.files c.change.new.self.files c.change.ensures.files c.args.self.now.kept c.change.new.self.kept c.args.path.now c.args.bytes.now Wrote c.change.result (wrote_touches c.args.path.now c.args.bytes.now) c.change.ensures.ok c.change.ensures.err

pub returns-clause-written : goal.returns-clause-written
returns-clause-written c = puts c.args.self.now.files c.change.new.self.files c.change.ensures.files c.args.self.now.kept c.change.new.self.kept c.args.path.now c.args.bytes.now Wrote (Some c.args.bytes.now) c.change.result (λ number s. refl) c.change.ensures.ok

pub returns-clause-crash : goal.returns-clause-crash
returns-clause-crash c = change_crash c.args.self.now.files c.change.new.self.files c.change.ensures.files c.args.self.now.kept c.change.new.self.kept c.args.path.now c.args.bytes.now Wrote c.change.result (wrote_touches c.args.path.now c.args.bytes.now) c.change.ensures.ok c.change.ensures.err

pub returns-clause-time : goal.returns-clause-time
returns-clause-time c = change_time c.args.self.now.files c.change.new.self.files c.change.ensures.files c.args.self.now.kept c.change.new.self.kept c.args.path.now c.args.bytes.now Wrote c.change.result (wrote_touches c.args.path.now c.args.bytes.now) c.change.ensures.ok c.change.ensures.err
