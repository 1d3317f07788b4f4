-- Each step keeps the rule of the cell.
use Rattle.std.proofs.Common.{◌≡◌, ℕ, ◌+◌, ◌≢◌, List, [], ◌∷◌, ◌++◌, set, refl, subst, sym, ◌∙◌, ⊎_elim}
use Rattle.std.specs.Prelude.{Option, Some, None, IfSome}
use Rattle.std.specs.Arc.{arc_value}
use mathlib.Core.Option.{some}
use lib.ListN.{get_elem?}
use Rattle.crossbeam_utils.specs.Register.{Admits, Turns, TurnsAt, Forks, Merges}
use Rattle.atomic_table.proofs.Lists.{at_set, at_snoc}
use Rattle.commit_history.specs.Rules.{Cell, EntersAt, Fits, IsKept, IsLegal, MayFollow, PublishesAt, informed, knowing, name_of, nothing}
use Rattle.commit_history.specs.declared.rule.HistoryName.{HistoryName}
use Rattle.commit_history.specs.declared.rule.Knowledge.{Knowledge}

-- at one seat something is known that fits
keeps_set : (cell : Cell) (seats : List Knowledge) (seat : ℕ) (now : Knowledge) → IsKept cell seats → Fits cell now → IsKept cell (set seats seat now)
keeps_set cell seats seat now h fits = (
  h.0,
  λ other known at.
      ⊎_elim (λ (t : (other ≡ seat) × (now ≡ known)). subst (λ (k : Knowledge). Fits cell k) t.1 fits)
      (λ (t : (other ≢ seat) × (get_elem? seats other ≡ some known)). h.1 other known t.1) (at_set seats seat other now known at),
)

-- one seat more
keeps_more : (cell : Cell) (seats : List Knowledge) (now : Knowledge) → IsKept cell seats → Fits cell now → IsKept cell (seats ++ now ∷ [])
keeps_more cell seats now h fits = (
  h.0,
  λ other known at.
      ⊎_elim (h.1 other known) (λ (e : now ≡ known). subst (λ (k : Knowledge). Fits cell k) e fits) (at_snoc seats now known other at),
)

pub admits : Admits IsKept nothing
admits cell seats h = keeps_more cell seats nothing h tt

pub enters : (seat : ℕ) (before : Knowledge) → Turns IsKept seat before (λ cell. cell) EntersAt
enters seat before cell seats h at =
    let fits : Fits cell before = h.1 seat before at in
    let now = knowing before.name (before.entered + 1) in
    (now, keeps_set cell seats seat now h fits, (h.0, fits, refl))

fits_same : (known : Option HistoryName) (name same : HistoryName) → same ≡ name → IfSome known (λ n. n ≡ name) → IfSome known (λ n. n ≡ same)
fits_same None name same e h = tt
fits_same (Some n) name same e h = h ∙ sym e

publishes : (seat : ℕ) (before : Knowledge) (cell next : Cell) → IsLegal next → name_of next ≡ name_of cell → TurnsAt IsKept seat before cell next PublishesAt
publishes seat before cell next legal same seats h at =
    let on : IsKept next seats = (legal, λ other known at. fits_same known.name (name_of cell) (name_of next) same (h.1 other known at)) in
    let now = knowing (Some (name_of next)) before.entered in
    (now, keeps_set next seats seat now on refl, refl)

-- a cell like one that may follow is legal, and has the same name
pub publishes_like : (seat : ℕ) (before : Knowledge) (cell may next : Cell) → arc_value next.entry ≡ arc_value may.entry → next.seen ≡ may.seen → MayFollow cell may
    → TurnsAt IsKept seat before cell next PublishesAt
publishes_like seat before cell may next e s follows =
    let legal : IsLegal next = rw (e, s) follows.0 in
    let name : name_of next ≡ name_of cell = rw (e, s) follows.1 in
    publishes seat before cell next legal name

pub forks : (seat : ℕ) (before : Knowledge) → Forks IsKept seat before before before
forks seat before cell seats h at =
    let fits : Fits cell before = h.1 seat before at in
    keeps_more cell (set seats seat before) before (keeps_set cell seats seat before h fits) fits

the_other : (seats : List Knowledge) (seat other : ℕ) (now known : Knowledge) → (other ≡ seat → ⊥) → get_elem? (set seats seat now) other ≡ some known
    → get_elem? seats other ≡ some known
the_other seats seat other now known apart there =
    ⊎_elim (λ (t : (other ≡ seat) × (now ≡ known)). absurd (apart t.0)) (λ (t : (other ≢ seat) × (get_elem? seats other ≡ some known)). t.1) (at_set seats seat other now known there)

pub informs : (seat : ℕ) (before : Knowledge) (other : ℕ) (told : Knowledge) → Merges IsKept seat before other told (informed before told) nothing
informs seat before other told cell seats h at apart there =
    let fits : Fits cell told = h.1 other told (the_other seats seat other (informed before told) told apart there) in
    keeps_set cell (set seats seat (informed before told)) other nothing (keeps_set cell seats seat (informed before told) h fits) tt
