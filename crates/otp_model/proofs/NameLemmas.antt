-- The order of names is total, and names that compare alike are one.
use Rattle.std.proofs.Common.{◌≡◌, ℕ, List, [], ◌∷◌, Option, Some, None, refl, ap}
use Rattle.std.specs.Cmp.{IsTotalOrder}
use Rattle.std.specs.Cmp.Lexicographic.{options_total, slice_cmp}
use Rattle.std.specs.Option.{option_cmp}
use Rattle.std.specs.Ordering.{nat_cmp}
use Rattle.std.specs.declared.cmp.Ordering.{Ordering}
use Rattle.std.specs.declared.cmp.Ordering.TheVariants.{Less, Equal, Greater}
use Rattle.std.proofs.lemmas.Cmp.{then_total, on_total, int_cmp_total, nat_cmp_total, nat_list_cmp_total}
use Rattle.otp_model.specs.declared.run_name.RunName.{RunName}
use Rattle.otp_model.specs.declared.run_name.TripName.{TripName}
use Rattle.otp_model.specs.declared.run_name.TripName.TheVariants.{Planned, Added}
use Rattle.otp_model.specs.Names.{kind_of, number_of, run_name_cmp, text_of}
use Rattle.otp_model.proofs.Values.{int_equal, nat_equal, then_equal}

pub run_name_cmp_total : IsTotalOrder run_name_cmp
run_name_cmp_total =
    then_total (on_total (λ (n : RunName). kind_of n.trip) nat_cmp_total)
    (then_total (on_total (λ (n : RunName). n.day) int_cmp_total)
    (then_total (on_total (λ (n : RunName). number_of n.trip) nat_cmp_total)
    (then_total (on_total (λ (n : RunName). n.start) (options_total nat_cmp_total)) (on_total (λ (n : RunName). text_of n.trip) nat_list_cmp_total))))

texts_equal : (a b : List ℕ) → slice_cmp nat_cmp a b ≡ Equal → a ≡ b
texts_equal [] [] h = refl
texts_equal [] (y ∷ ys) h = absurd (let never : ◌≡◌ {A = Ordering} Less Equal = h in cc)
texts_equal (x ∷ xs) [] h = absurd (let never : ◌≡◌ {A = Ordering} Greater Equal = h in cc)
texts_equal (x ∷ xs) (y ∷ ys) h =
    let parts = then_equal (nat_cmp x y) (slice_cmp nat_cmp xs ys) h in
    λ i. nat_equal x y parts.0 i ∷ texts_equal xs ys parts.1 i

starts_equal : (a b : Option ℕ) → option_cmp nat_cmp a b ≡ Equal → a ≡ b
starts_equal None None h = refl
starts_equal None (Some y) h = absurd (let never : ◌≡◌ {A = Ordering} Less Equal = h in cc)
starts_equal (Some x) None h = absurd (let never : ◌≡◌ {A = Ordering} Greater Equal = h in cc)
starts_equal (Some x) (Some y) h = ap (λ (n : ℕ). Some n) (nat_equal x y h)

same_trip : (a b : TripName) → kind_of a ≡ kind_of b → number_of a ≡ number_of b → text_of a ≡ text_of b → a ≡ b
same_trip (Planned m) (Planned n) kind number text = ap Planned number
same_trip (Planned m) (Added s) kind number text = absurd (let never : ◌≡◌ {A = ℕ} 0 1 = kind in cc)
same_trip (Added s) (Planned n) kind number text = absurd (let never : ◌≡◌ {A = ℕ} 1 0 = kind in cc)
same_trip (Added s) (Added t) kind number text = ap Added text

-- names that compare alike are one
pub same_name : (a b : RunName) → run_name_cmp a b ≡ Equal → a ≡ b
same_name a b h =
    let p = then_equal _ _ h in
    let q = then_equal _ _ p.1 in
    let r = then_equal _ _ q.1 in
    let s = then_equal _ _ r.1 in
    let trip = same_trip a.trip b.trip (nat_equal _ _ p.0) (nat_equal _ _ r.0) (texts_equal _ _ s.1) in
    let day = int_equal _ _ q.0 in
    let start = starts_equal _ _ s.0 in
    λ i. record { trip = trip i; day = day i; start = start i }
