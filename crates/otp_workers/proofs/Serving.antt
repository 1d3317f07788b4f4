-- One more link.
use Rattle.std.proofs.Common.{ℕ, suc, ◌≤◌, arith, Option, Some, None}
use Rattle.otp_base.specs.Ports.{Accepts}
use Rattle.otp_base.specs.declared.port.Accepted.TheVariants as accepted
use Rattle.otp_workers.specs.Served.{HasGiven, HasServed}
use Rattle.otp_workers.specs.declared.worker.Worker.{Worker}

gives_one : {I O : Type 0} (n : ℕ) (before between now : Option ℕ) (i : I) (o : O)
    → HasGiven n before between → Accepts between now (accepted.Link i o) → HasGiven (suc n) before now
gives_one n None None None i o given taken = tt
gives_one n None None (Some m) i o given taken = taken
gives_one n None (Some k) now i o given taken = absurd given
gives_one n (Some b) None now i o given taken = absurd given
gives_one n (Some b) (Some k) None i o given taken = taken
gives_one n (Some b) (Some k) (Some m) i o given taken = omega arith

pub serves_one : {P S I O : Type 0} (links : P → Option ℕ) (faults : P → ℕ) (fits_job : S → Type 0) (becomes : S → S → Type 0)
    (before between now : Worker P S) (i : I) (o : O)
    → HasServed links faults fits_job becomes before between
    → Accepts (links between.port) (links now.port) (accepted.Link i o)
    → faults between.port ≤ faults now.port
    → fits_job now.seat
    → becomes between.seat now.seat
    → HasServed links faults fits_job becomes before now
serves_one links faults fits_job becomes before between now i o served taken later fits step = record {
  count = suc served.count;
  given = gives_one served.count (links before.port) (links between.port) (links now.port) i o served.given taken;
  seat = (between.seat, served.seat, step);
  fits = fits;
  later = (let earlier = served.later in omega arith);
}
