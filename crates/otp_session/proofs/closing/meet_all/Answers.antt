use Rattle.std.proofs.Common.{◌∙◌, ◌<◌, length, sym, subst, arith, get_or, slice_index_or}
use Rattle.std.proofs.lemmas.List.{get_or_default, length-set}
use Rattle.commit_desk.specs.Desks.{DeskView}
use Rattle.otp_session.specs.Closing.{HasMet}
use Rattle.otp_session.specs.Grounds.{IsAt, place_of}
use Rattle.otp_session.proofs.MeetingFacts.{met_more, rest_stays}
use Rattle.otp_session.proofs.closing.meet_all.Goals as goal

pub meet_one-first-requires : goal.meet_one-first-requires
meet_one-first-requires g c =
    let k = c.loop-i.i in
    let inv = c.loop-i.invariant in
    let test = c.loop-i-test.true in
    let size = inv.size in
    let within : k < length c.loop-i.workers = omega (arith, test, size) in
    let dflt = c.index-workers-i.result in
    subst (λ worker. IsAt (place_of c.loop-i.desk) worker.seat) (sym (inv.rest k dflt (omega arith)))
    (subst (λ (desk : DeskView). IsAt (place_of desk) (get_or c.args.workers.now k dflt).seat) (sym inv.desk) (c.requires k dflt (omega (arith, within, size))))

pub loop-i-preserved : goal.loop-i-preserved
loop-i-preserved g c =
    let k = c.loop-i.i in
    let inv = c.loop-i.invariant in
    let one = c.meet_one-first.ensures in
    let y = c.meet_one-first.new.worker in
    let last = c.meet_one-first.result in
    let history = c.args.desk.now.state.history in
    let dflt = c.index-workers-i.result in
    let test = c.loop-i-test.true in
    let size = inv.size in
    let within : k < length c.loop-i.workers = omega (arith, test, size) in
    record {
      desk = one.desk ∙ inv.desk;
      size = length-set c.loop-i.workers k y ∙ inv.size;
      rest = rest_stays history c.args.workers.now c.loop-i.workers k y within inv.rest;
      met = met_more history c.args.workers.now c.loop-i.workers k y within c.loop-i.first last one.first inv.rest inv.met dflt
          (subst (λ (desk : DeskView). HasMet desk.state.history last (get_or c.loop-i.workers k dflt) y) inv.desk one.met);
    }
