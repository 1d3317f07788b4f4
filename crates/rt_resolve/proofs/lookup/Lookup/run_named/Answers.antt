use Rattle.std.proofs.Common.{length, List, Option, sym, subst, ap, ◌∙◌}
use Rattle.std.specs.Prelude.{IfSome}
use Rattle.std.specs.List.{find}
use Rattle.std.specs.Option.{option_copied}
use Rattle.otp_model.specs.Resolution.{is_same_name}
use Rattle.otp_model.specs.Sound.{IsSoundRun}
use Rattle.otp_model.specs.declared.timetable.Feed.{Feed}
use Rattle.otp_model.specs.declared.timetable.Run.{Run}
use Rattle.rt_resolve.proofs.RunLemmas.{all_find}
use Rattle.rt_resolve.proofs.lookup.Lookup.run_named.Goals as goal

pub returns-clause-sound : goal.returns-clause-sound
returns-clause-sound c =
    let feed = c.self.inside.feed.now in
    let named = c.run_among.ensures ∙ ap (λ (runs : List Run). find (λ (run : Run). is_same_name run.name c.args.name.now) runs) c.as_slice.ensures in
    subst (λ (own : Feed). IfSome (option_copied c.run_among.result) (IsSoundRun (length own.stops) (length own.trips))) c.self.view_is
    (subst (λ (run : Option Run). IfSome run (IsSoundRun (length feed.stops) (length feed.trips))) (sym named)
    (all_find (λ (run : Run). is_same_name run.name c.args.name.now) (IsSoundRun (length feed.stops) (length feed.trips)) feed.runs c.self.invariant.sound.runs))
