-- What the source and the sink in memory hold.
use Rattle.std.specs.Prelude.{◌≡◌, ℕ, List, [], Option, Some, Vec}
use Rattle.std.specs.Io.Cursor.{cursor_remaining}
use Rattle.std.specs.declared.alloc.Global.{Global}
use Rattle.jr_store.specs.declared.memory_streams.MemSource.{MemSource}
use Rattle.jr_store.specs.declared.memory_streams.MemSink.{MemSink}

-- the bytes that are left
abbrev pub source_left : MemSource → Option (List ℕ)
source_left source = cursor_remaining (λ (v : Vec ℕ Global). Some v.items) source.reader

-- a source before its first call: these bytes are left, and the calls with these numbers are to fail
pub record IsNewSource (source : MemSource) (bytes to_fail : List ℕ) : Type 0 where
  pub left : source_left source ≡ Some bytes
  pub failing : source.calls.failing.items ≡ to_fail
  pub made : source.calls.made ≡ 0
  pub faults : source.calls.faults ≡ 0

abbrev pub sink_bytes : MemSink → List ℕ
sink_bytes sink = sink.bytes.items

-- a sink before its first call: nothing was written, and the calls with these numbers are to fail
pub record IsNewSink (sink : MemSink) (to_fail : List ℕ) : Type 0 where
  pub bytes : sink_bytes sink ≡ []
  pub failing : sink.calls.failing.items ≡ to_fail
  pub made : sink.calls.made ≡ 0
  pub faults : sink.calls.faults ≡ 0
