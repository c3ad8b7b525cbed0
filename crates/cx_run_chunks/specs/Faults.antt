-- What a command's answer says of what it comes to.
use Rattle.std.specs.Prelude.{◌≡◌, ◌≢◌, ◌⊎◌, Option, Some, None, Result, Ok, Err}
use Rattle.cx_disk.specs.declared.disk.DiskFault.{DiskFault}
use Rattle.cx_disk.specs.declared.disk.DiskFault.TheVariants as disk
use Rattle.cx_chunks.specs.declared.fault.ChunkFault.{ChunkFault}
use Rattle.cx_chunks.specs.declared.fault.ChunkFault.TheVariants as chunk
use Rattle.cx_run_chunks.specs.declared.fault.ChunksFault.{ChunksFault}
use Rattle.cx_run_chunks.specs.declared.fault.ChunksFault.TheVariants as chunks

-- a fault of the disk, as one of a command
abbrev pub chunks_fault_of : DiskFault → ChunksFault
chunks_fault_of disk.Failed = chunks.Disk
chunks_fault_of disk.Memory = chunks.Chunks chunk.Memory

-- An answer tells whether the files have this fault: Ok for none, else the fault, a failure of the
-- disk or want of memory.
abbrev pub IsFaultOf : Option ChunkFault → ChunksFault → Type 0
IsFaultOf fault chunks.Disk = Unit {0}
IsFaultOf fault (chunks.Chunks e) = (e ≡ chunk.Memory) ⊎ (fault ≡ Some e)

abbrev pub Finds : {X : Type 0} → Option ChunkFault → Result X ChunksFault → Type 0
Finds fault (Ok x) = fault ≡ None
Finds fault (Err e) = IsFaultOf fault e

-- one of the faults that the files are
abbrev pub IsRefusal : ChunksFault → Type 0
IsRefusal chunks.Disk = ⊥
IsRefusal (chunks.Chunks e) = e ≢ chunk.Memory
