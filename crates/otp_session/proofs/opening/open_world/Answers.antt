use Rattle.std.proofs.Common.{ap, length, map, refl, subst, sym, ◌≡◌, ◌∙◌}
use Rattle.std.specs.Arc.{arc_value}
use Rattle.std.specs.List.{All}
use Rattle.std.proofs.lemmas.List.{length-map, length-replicate}
use Rattle.otp_model.specs.Desk.{DeskState, fresh_desk, fresh_slot}
use Rattle.commit_desk.specs.Desks.{writer_of}
use Rattle.commit_history.specs.Views.{PassView, fresh_pass}
use Rattle.reply_bodies.specs.Plans.{IsSearchable}
use Rattle.otp_session.specs.Sessions.{SessionView, fresh_session}
use Rattle.otp_session.proofs.DeskLemmas.{all_fresh}
use Rattle.otp_session.proofs.opening.open_world.Goals as goal

pub returns : goal.returns
returns g c =
    let feed_is : arc_value c.in_ok-feed.feed ≡ c.args.loaded.feed = c.in_ok-feed.ensures.ok in
    let shared_is : arc_value c.in_ok-shared.shared ≡ arc_value c.in_ok-feed.feed = c.in_ok-shared.ensures in
    let desk = c.in_ok-desk.ensures.desk in
    let passes = c.in_ok-desk.ensures.passes in
    record {
      feed_is = feed_is;
      edges_are = refl;
      base = record {
        ready = subst (λ feed. IsSearchable feed c.args.loaded.edges) (sym feed_is) c.requires.searchable;
        feed = sym (desk.0 ∙ shared_is);
        feeds = sym (ap (λ (state : DeskState). length state.slots) desk.1 ∙ length-replicate c.args.feeds fresh_slot);
      };
      state = desk.1;
      count = ap length c.in-Ok.ensures ∙ length-map c.in_ok-desk.passes.items fresh_session ∙ passes.0;
      sessions = all_fresh (fresh_pass (writer_of c.in_ok-desk.desk)) c.in_ok-desk.passes.items c.in-Ok.sessions.items c.in-Ok.ensures passes.1;
    }
