-- What a worker has done.
use Rattle.std.specs.Prelude.{◌≡◌, ℕ, zero, suc, ◌+◌, ◌<◌, ◌≤◌, Option, Some, None, true, false, List, All, length, slice_index_or}
use Rattle.otp_base.specs.Faults.{Rose}
use Rattle.otp_workers.specs.declared.worker.Worker.{Worker}

-- what so many steps of a relation make of a state
abbrev pub AfterSteps : {X : Type 0} → (X → X → Type 0) → ℕ → X → X → Type 0
AfterSteps step zero before now = now ≡ before
AfterSteps step (suc n) before now = (between : _) × AfterSteps step n before between × step between now

-- a port that may tell how many links it has left has given so many
abbrev pub HasGiven : ℕ → Option ℕ → Option ℕ → Type 0
HasGiven n None None = Unit {0}
HasGiven n None (Some now) = ⊥
HasGiven n (Some before) None = ⊥
HasGiven n (Some before) (Some now) = before ≡ n + now

-- a port has no link left, where it tells
abbrev pub HasNoneLeft : Option ℕ → Type 0
HasNoneLeft None = Unit {0}
HasNoneLeft (Some left) = left ≡ 0

module _ {P S : Type 0} (links : P → Option ℕ) (faults : P → ℕ) (fits_job : S → Type 0) (becomes : S → S → Type 0) where
  -- each link that the worker's port gave was served once, by the worker's seat
  pub record HasServed (before now : Worker P S) : Type 0 where
    pub count : ℕ
    pub given : HasGiven count (links before.port) (links now.port)
    pub seat : AfterSteps becomes count before.seat now.seat
    pub fits : fits_job now.seat
    pub later : faults before.port ≤ faults now.port

  -- the same once the worker has ended: its port failed, or has no more links
  pub record IsServed (before now : Worker P S) : Type 0 where
    pub served : HasServed before now
    pub failed : now.failed ≡ true → Rose (faults before.port) (faults now.port)
    pub closed : now.failed ≡ false → HasNoneLeft (links now.port)

  abbrev pub AllServed : List (Worker P S) → List (Worker P S) → Type 0
  AllServed before now = (i : ℕ) (d : Worker P S) → i < length before → IsServed (slice_index_or before i d) (slice_index_or now i d)

-- each worker's seat fits the job
abbrev pub AllFit : {P S : Type 0} → (S → Type 0) → List (Worker P S) → Type 0
AllFit fits_job workers = All (λ worker. fits_job worker.seat) workers
