use Rattle.std.proofs.Common.{◌≡◌, ◌≤◌, ◌+ℤ◌, ℕ, pos, map, refl, ap, sym, subst, ◌∙◌, arith}
use Rattle.std.specs.List.{AllPairs, range_with_len}
use Rattle.std.proofs.lemmas.List.Elements.{All-push}
use Rattle.feed_load.specs.Runs.{IsEarlier, IsSoundDay, days_of, service_day}
use Rattle.feed_load.proofs.RunFacts.{day_from, days_step}
use Rattle.feed_load.proofs.SoundFacts.{days_rise}
use Rattle.feed_load.proofs.service_day.days_of.Goals as goal

pub loop-n-preserved : goal.loop-n-preserved
loop-n-preserved c =
    let n = c.loop-n.n in
    let few : n ≤ 31 = omega (arith, c.loop-n-test.true, c.requires.options.days.1) in
    let from = day_from c.args.options.now.first_day n c.requires.options.first_day.0 c.requires.options.first_day.1 few in
    rw c.in_ok-push.ensures.items (record {
      days = days_step c.args.tables.now c.args.options.now.zone c.args.options.now.first_day _ n c.loop-n.days.items _ c.in_ok-day.day
          c.loop-n.invariant.days (rw c.in_ok-services.ensures at c.in_ok-day.ensures.made) from refl;
      sound = All-push IsSoundDay c.loop-n.days.items c.in_ok-day.day c.loop-n.invariant.sound c.in_ok-day.ensures.sound;
    })

pub returns-clause-rise : goal.returns-clause-rise
returns-clause-rise c =
    let tables = c.args.tables.now in
    let options = c.args.options.now in
    let last : c.loop-n.n ≡ options.days = omega (arith, c.loop-n-test.false, c.loop-n.auto.n-end) in
    let all : c.loop-n.days.items ≡ days_of tables options =
    c.loop-n.invariant.days ∙ ap (λ (n : ℕ). map (λ (k : ℕ). service_day tables options.zone (options.first_day +ℤ pos k)) (range_with_len 0 n)) last in
    subst (AllPairs IsEarlier) (sym all) (days_rise tables options)
