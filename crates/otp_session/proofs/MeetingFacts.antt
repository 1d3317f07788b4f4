-- Sessions that meet a desk one after the other.
use borrow.Author.Count.{below_more}
use Rattle.std.proofs.Common.{◌≡◌, ℕ, ◌+◌, ◌<◌, ◌≤◌, List, length, Option, None, get_or, set, sym, subst, ◌∙◌, arith}
use Rattle.std.proofs.lemmas.List.{get_or-set_same, get_or-set_other, get_or_default, length-set}
use Rattle.commit_history.specs.declared.pass.TakeFault.{TakeFault}
use Rattle.otp_model.specs.Core.{History}
use Rattle.otp_workers.specs.declared.worker.Worker.{Worker}
use Rattle.otp_session.specs.Closing.{HasMet}
use Rattle.otp_session.specs.Sessions.{SessionView}

module _ {P : Type 0} (history : History) where
  -- a meeting stays as it was where a later one is refused
  met_later : (first last : Option TakeFault) (old now : Worker P SessionView) → (last ≡ None → first ≡ None) → HasMet history first old now → HasMet history last old now
  met_later first last old now back met = record { port = met.port; failed = met.failed; seen = met.seen; met = λ none. met.met (back none) }

  module _ (before now : List (Worker P SessionView)) (place : ℕ) (own : Worker P SessionView) (within : place < length now) where
    pub rest_stays : ((j : ℕ) (d : Worker P SessionView) → place ≤ j → get_or now j d ≡ get_or before j d)
        → (j : ℕ) (d : Worker P SessionView) → place + 1 ≤ j → get_or (set now place own) j d ≡ get_or before j d
    rest_stays rest j d far = get_or-set_other now place j own d (λ e. omega (arith, far, e)) ∙ rest j d (omega (arith, far))

    pub met_more : (first last : Option TakeFault) → (last ≡ None → first ≡ None) → ((j : ℕ) (d : Worker P SessionView) → place ≤ j → get_or now j d ≡ get_or before j d)
        → ((j : ℕ) (d : Worker P SessionView) → j < place → HasMet history first (get_or before j d) (get_or now j d))
        → (default : Worker P SessionView) → HasMet history last (get_or now place default) own
        → (j : ℕ) (d : Worker P SessionView) → j < place + 1 → HasMet history last (get_or before j d) (get_or (set now place own) j d)
    met_more first last back rest met default one j d less =
        below_more (λ i. HasMet history last (get_or before i d) (get_or (set now place own) i d)) place
        (λ i under. subst (λ z. HasMet history last (get_or before i d) z) (sym (get_or-set_other now place i own d (λ e. omega (arith, under, e))))
        (met_later first last (get_or before i d) (get_or now i d) back (met i d under)))
        (subst (λ z. HasMet history last (get_or before place d) z) (sym (get_or-set_same now place own d within))
        (subst (λ z. HasMet history last z own) (get_or_default now place default d within ∙ rest place d (omega arith)) one))
        j less
