-- What the objects in memory tell: their bytes, their plan of failing calls, and their faults so far.
use Rattle.std.specs.Prelude.{ℕ, ◌+◌, ◌-◌, List, [], ◌∷◌, take, drop, Vec, String}
use Rattle.std.specs.FinMap as map
use Rattle.std.specs.String.{string_bytes}
use Rattle.std.specs.declared.alloc.Global.{Global}
use Rattle.memory_ends.specs.declared.mem_source.MemSource.{MemSource}
use Rattle.memory_ends.specs.declared.mem_sink.MemSink.{MemSink}
use Rattle.memory_ends.specs.declared.mem_store.MemStore.{MemStore}
use Rattle.memory_ends.specs.declared.plan.FaultPlan.{FaultPlan}
use Rattle.sym_io.specs.Files.{Files}
use Rattle.memory_ends.specs.Plan.{failures}

-- the bytes that are left
abbrev pub bytes_left : MemSource → List ℕ
bytes_left source = drop source.position source.bytes.items

-- the bytes that the last read has handed out
abbrev pub last_piece : MemSource → List ℕ
last_piece source = take source.last (drop (source.position - source.last) source.bytes.items)

abbrev pub source_plan : MemSource → FaultPlan
source_plan source = source.plan

abbrev pub source_faults : MemSource → ℕ
source_faults source = failures source.plan

-- the bytes that were written
abbrev pub bytes_written : MemSink → List ℕ
bytes_written sink = sink.bytes.items

abbrev pub sink_plan : MemSink → FaultPlan
sink_plan sink = sink.plan

-- the failing calls so far, and the growths that were refused
abbrev pub sink_faults : MemSink → ℕ
sink_faults sink = failures sink.plan + sink.refused

-- the files in a list of names and bytes
abbrev pub files_of : List (String Global × Vec ℕ Global) → Files
files_of [] = map.empty
files_of (entry ∷ entries) = map.insert (files_of entries) (string_bytes entry.0) entry.1.items

-- the files that are kept
abbrev pub files_kept : MemStore → Files
files_kept store = files_of store.files.entries

abbrev pub store_plan : MemStore → FaultPlan
store_plan store = store.plan

abbrev pub store_faults : MemStore → ℕ
store_faults store = failures store.plan + store.refused
