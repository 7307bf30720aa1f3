-- The source and the sink in memory.
use Rattle.std.specs.Prelude.{ℕ, ◌-◌, ◌==◌, Bool, min, List, length, take, if◌then◌else◌, ◌||◌}
use Rattle.std.specs.List.{list_any}
use Rattle.spec_base.specs.Counters.{risen}
use Rattle.byte_io.specs.declared.memory_source.MemorySource.{MemorySource}
use Rattle.byte_io.specs.declared.memory_sink.MemorySink.{MemorySink}
use Rattle.byte_io.specs.declared.sink.WriteOutcome.{WriteOutcome}
use Rattle.byte_io.specs.declared.sink.WriteOutcome.TheVariants as write
use Rattle.byte_io.specs.declared.source.ReadOutcome.{ReadOutcome}
use Rattle.byte_io.specs.declared.source.ReadOutcome.TheVariants.{Bytes, End, Failed}

-- whether a call is one that is to fail
abbrev pub is_among : ℕ → List ℕ → Bool
is_among call calls = list_any (λ c. c == call) calls

-- what a read of the source gives, where there is so much room
abbrev pub memory_read : MemorySource → ℕ → ReadOutcome
memory_read s room =
    if is_among (risen 1 s.calls) s.fail.items then Failed
    else (if length s.bytes.items - s.at == 0 then End
    else Bytes (min (min s.most room) (length s.bytes.items - s.at)))

-- what a write of so many bytes does to the sink
abbrev pub memory_write : MemorySink → ℕ → WriteOutcome
memory_write s size =
    if is_among (risen 1 s.calls) s.fail.items || (length s.bytes.items - s.len == 0) then write.Failed
    else write.Took (min (min s.most size) (length s.bytes.items - s.len))

-- what was written
abbrev pub written_in : MemorySink → List ℕ
written_in s = take s.len s.bytes.items
