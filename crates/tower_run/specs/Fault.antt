-- The statuses that the program ends with.
use Rattle.std.specs.Prelude.{ℕ, ◌≡◌, ◌≢◌}
use Rattle.std.specs.declared.io.ErrorKind.{ErrorKind}
use Rattle.std.specs.declared.io.ErrorKind.TheVariants.{OutOfMemory}
use Rattle.tower_run.specs.declared.fault.Fault.{Fault}
use Rattle.tower_run.specs.declared.fault.Fault.TheVariants.{BadLine, TooLong, Usage, Memory, CannotRead, CannotWrite, CannotStart}

-- the status of a fault
abbrev pub status_of : Fault → ℕ
status_of (BadLine line) = 2
status_of TooLong = 2
status_of Usage = 2
status_of Memory = 1
status_of CannotRead = 3
status_of CannotWrite = 3
status_of CannotStart = 3

-- Arguments that can't be had: memory was refused, or one of them isn't text, and is thus wrong.
abbrev pub OfWords : ErrorKind → Fault → Type 0
OfWords kind fault = (kind ≡ OutOfMemory → fault ≡ Memory) × (kind ≢ OutOfMemory → fault ≡ Usage)
