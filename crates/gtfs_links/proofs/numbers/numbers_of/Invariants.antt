use Rattle.std.proofs.Common.{◌≡◌, take}
use Rattle.otp_model.specs.Sights.{place_of}
use Rattle.gtfs_links.specs.Keys.{numbers_in}
use Rattle.gtfs_links.proofs.numbers.numbers_of.Given as goal
use denote.Shadow.{shadow}
use denote.Text.{Utf8}

abbrev pub invariant-loop-row : goal.invariant-loop-row
invariant-loop-row g l = record {
  so_far : l.numbers.items ≡ numbers_in l.names g.R.Identified.id_of (take l.row-index l.rows);
  here : l.place ≡ place_of l.names l.last;
  text : shadow (Utf8 l.last);
}
