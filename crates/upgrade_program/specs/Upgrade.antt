-- What each answer of an upgrade says of what was read and written.
use Rattle.std.specs.Prelude.{◌≡◌, ℕ, ◌≤◌, ⊤, List, [], ◌++◌, length, Option, Some, None, IsSome, Result, Ok, Err, String, string_bytes}
use Rattle.std.specs.declared.alloc.Global.{Global}
use Rattle.byte_io.specs.Reading.{ReadsAll, most_bytes}
use Rattle.byte_io.specs.Writing.{IsCutShort}
use Rattle.byte_io.specs.declared.reading.ReadRefusal.TheVariants as refusal
use Rattle.world_file.specs.WorldFile.{world_of}
use Rattle.world_upgrade.specs.Upgraded.{upgraded}
use Rattle.upgrade_program.specs.declared.upgrade_fault.UpgradeFault.{UpgradeFault}
use Rattle.upgrade_program.specs.declared.upgrade_fault.UpgradeFault.TheVariants.{Memory, ReadFault, TooLong, NotAWorld, WriteFault}

-- a text is the world file in version 2 that some bytes are: it means what they do, and is its own text in version 2
pub record IsUpgradeOf (bytes text : List ℕ) : Type 0 where
  pub is : upgraded bytes ≡ Some text
  pub same_world : world_of text ≡ world_of bytes
  pub settled : upgraded text ≡ Some text

-- a fault that comes before anything is written
abbrev pub IsRead : UpgradeFault → Type 0
IsRead Memory = ⊤
IsRead ReadFault = ⊤
IsRead TooLong = ⊤
IsRead NotAWorld = ⊤
IsRead WriteFault = ⊥

-- all was taken, it is a world file, and it isn't too long
abbrev pub IsWorldRead : List ℕ → Option (List ℕ) → Type 0
IsWorldRead bytes left = (left ≡ Some []) × IsSome (world_of bytes) × (length bytes ≤ most_bytes)

-- what each fault says of the bytes that the source had, and of what it has left
abbrev pub SaysOfFault : List ℕ → Option (List ℕ) → UpgradeFault → Type 0
SaysOfFault bytes left Memory = ReadsAll bytes left (Err refusal.Memory)
SaysOfFault bytes left ReadFault = ReadsAll bytes left (Err refusal.Failed)
SaysOfFault bytes left TooLong = ReadsAll bytes left (Err refusal.TooLong)
SaysOfFault bytes left NotAWorld = (left ≡ Some []) × (world_of bytes ≡ None) × (length bytes ≤ most_bytes)
SaysOfFault bytes left WriteFault = IsWorldRead bytes left

-- and what each answer says
abbrev pub SaysOfSource : List ℕ → Option (List ℕ) → Result Unit UpgradeFault → Type 0
SaysOfSource bytes left (Ok _) = IsWorldRead bytes left
SaysOfSource bytes left (Err fault) = SaysOfFault bytes left fault

-- what each answer says of what is written after what was
abbrev pub SaysOfSink : List ℕ → List ℕ → Option (List ℕ) → Result Unit UpgradeFault → Type 0
SaysOfSink bytes done written (Ok _) = (text : List ℕ) × IsUpgradeOf bytes text × (written ≡ Some (done ++ text))
SaysOfSink bytes done written (Err Memory) = written ≡ Some done
SaysOfSink bytes done written (Err ReadFault) = written ≡ Some done
SaysOfSink bytes done written (Err TooLong) = written ≡ Some done
SaysOfSink bytes done written (Err NotAWorld) = written ≡ Some done
SaysOfSink bytes done written (Err WriteFault) = (text : List ℕ) × IsUpgradeOf bytes text × IsCutShort done written text

-- the upgraded text of what was read whole, or why there is none
abbrev pub IsTextBy : List ℕ → Option (List ℕ) → Result (String Global) UpgradeFault → Type 0
IsTextBy bytes left (Ok s) = IsWorldRead bytes left × IsUpgradeOf bytes (string_bytes s)
IsTextBy bytes left (Err fault) = SaysOfFault bytes left fault
