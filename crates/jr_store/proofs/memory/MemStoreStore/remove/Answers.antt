use Rattle.std.proofs.Common.{refl, []}
use Rattle.std.specs.Prelude.{None}
use Rattle.jr_store.specs.declared.record.Action.TheVariants.{Removed}
use Rattle.jr_store.proofs.Kept.{change_told, change_crash, change_time, puts, removed_touches}
use Rattle.jr_store.proofs.memory.MemStoreStore.remove.Goals as goal

pub returns-clause-told : goal.returns-clause-told
returns-clause-told c = change_told c.args.self.now.files c.change.new.self.files c.change.ensures.files c.args.self.now.kept c.change.new.self.kept c.args.path.now [] Removed c.change.result (removed_touches c.args.path.now []) c.change.ensures.ok c.change.ensures.err

pub returns-clause-removed : goal.returns-clause-removed
returns-clause-removed c = puts c.args.self.now.files c.change.new.self.files c.change.ensures.files c.args.self.now.kept c.change.new.self.kept c.args.path.now [] Removed None c.change.result (λ number s. refl) c.change.ensures.ok

pub returns-clause-crash : goal.returns-clause-crash
returns-clause-crash c = change_crash c.args.self.now.files c.change.new.self.files c.change.ensures.files c.args.self.now.kept c.change.new.self.kept c.args.path.now [] Removed c.change.result (removed_touches c.args.path.now []) c.change.ensures.ok c.change.ensures.err

pub returns-clause-time : goal.returns-clause-time
returns-clause-time c = change_time c.args.self.now.files c.change.new.self.files c.change.ensures.files c.args.self.now.kept c.change.new.self.kept c.args.path.now [] Removed c.change.result (removed_touches c.args.path.now []) c.change.ensures.ok c.change.ensures.err
