use Rattle.jr_store.proofs.Listing.{list_distinct, list_java, list_listed}
use Rattle.jr_store.specs.Memory.{files_now}
use Rattle.jr_store.proofs.memory.MemStoreStore.list.Goals as goal

pub returns-clause-distinct : goal.returns-clause-distinct
returns-clause-distinct c = list_distinct c.in_ok-files.files (files_now c.args.self.now) c.in_ok-files.ensures _ c.args.most c.in_ok-java_paths.field-0.items c.entries.ensures c.in_ok-java_paths.ensures

pub returns-clause-java : goal.returns-clause-java
returns-clause-java c = list_java c.in_ok-files.files (files_now c.args.self.now) c.in_ok-files.ensures _ c.args.most c.in_ok-java_paths.field-0.items c.entries.ensures c.in_ok-java_paths.ensures

pub returns-clause-listed : goal.returns-clause-listed
returns-clause-listed c = list_listed c.in_ok-files.files (files_now c.args.self.now) c.in_ok-files.ensures _ c.args.most c.in_ok-java_paths.field-0.items c.entries.ensures c.in_ok-java_paths.ensures
