-- Which files are made, and what they hold.
use Rattle.std.specs.Prelude.{◌≡◌, ◌⊎◌, ℕ, ◌≤◌, List, Result, Ok, Err, codes}
use Rattle.feed_gen.specs.Messages.{message_bytes, message_name}
use Rattle.feed_gen.specs.Tables.{agency_file, calendar_file, queries_file, routes_file, stop_times_file, stops_file, trips_file}
use Rattle.feed_gen.specs.declared.fault.GenFault.{GenFault}
use Rattle.feed_gen.specs.declared.fault.GenFault.TheVariants as faults

-- a message of one of 20 commits and one of ten real-time feeds
pub record IsMessageFile (seed : ℕ) (name bytes : List ℕ) : Type 0 where
  pub commit : ℕ
  pub feed : ℕ
  pub first : (1 ≤ commit) × (1 ≤ feed)
  pub last : (commit ≤ 20) × (feed ≤ 10)
  pub name_is : name ≡ message_name commit feed
  pub bytes_are : bytes ≡ message_bytes seed commit feed

-- the file of a name that is given in the list
abbrev pub IsTable : ℕ → List ℕ → List ℕ → Type 0
IsTable seed name bytes =
    ((name ≡ codes "agency.txt") × (bytes ≡ agency_file))
    ⊎ ((name ≡ codes "stops.txt") × (bytes ≡ stops_file))
    ⊎ ((name ≡ codes "routes.txt") × (bytes ≡ routes_file))
    ⊎ ((name ≡ codes "trips.txt") × (bytes ≡ trips_file))
    ⊎ ((name ≡ codes "stop_times.txt") × (bytes ≡ stop_times_file seed))
    ⊎ ((name ≡ codes "calendar.txt") × (bytes ≡ calendar_file))
    ⊎ ((name ≡ codes "queries.txt") × (bytes ≡ queries_file seed))

-- the file of a name
abbrev pub IsFile : ℕ → List ℕ → List ℕ → Type 0
IsFile seed name bytes = IsTable seed name bytes ⊎ IsMessageFile seed name bytes

-- the bytes of the file; no file has the name exactly where that is the answer, and memory may run out
abbrev pub IsGenerated : ℕ → List ℕ → Result (List ℕ) GenFault → Type 0
IsGenerated seed name (Ok bytes) = IsFile seed name bytes
IsGenerated seed name (Err faults.UnknownName) = (bytes : List ℕ) → IsFile seed name bytes → ⊥
IsGenerated seed name (Err faults.Memory) = Unit {0}
